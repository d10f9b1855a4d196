-- The theorems on tests as values, from those of the crates below. A premise is that outcomes over caches are those over flat memory; the
-- laws prove it by a call.
use Rattle.lw_bench.proofs.Common.{IsWellScopedProgram, FitsCaches, ◌≤◌, most_threads, TestHead}
use Rattle.lw_bench.proofs.Common.{IsWellScopedSource, IsWellScopedProgram-with_fences}
use Rattle.lw_bench.proofs.Common.{IsWellScoped-well_formed, source_language, x86_language, ◌≡◌, ◌↔◌, ℕ, List}
use Rattle.lw_bench.proofs.Common.{Bool, refl, sym, subst, FinalState, Bytes, SourceOutcome, SourceTest}
use Rattle.lw_bench.proofs.Common.{X86Test, IsWellFormedSource, IsWellFormedProgram, flat_memory, Protocol}
use Rattle.lw_bench.proofs.Common.{IsMachineOutcome, OutcomeOverCaches, IsCompiled, IsCompiledWith}
use Rattle.lw_bench.proofs.Common.{IsWellFormedProgram-compiled, IsCompiled-exists}
use Rattle.lw_bench.proofs.Common.{IsMachineOutcome-compiled_iff, IsMachineOutcome-of_source}
use Rattle.lw_bench.proofs.Common.{machine_outcome-exists, IsReport-unique, frame_well_formed, frame_columns}
use Rattle.lw_bench.proofs.Common.{well_formed_source, well_formed_program, LitmusTest, Of_source, Of_x86}
use Rattle.lw_bench.proofs.Common.{IsWellFormedTest, IsStatesReport, OutcomeOf, IsProgramRunFor, IsProgramOf}
use Rattle.lw_bench.proofs.Common.{IsOutputOf, HasTest, Exact, X86, ap, HasOverCaches, IsCompilation}
use Rattle.lw_bench.proofs.Common.{canonical_text, IsTextOf, IsWellScopedProgram-compiled}

-- Outcomes over caches are those over flat memory.
abbrev pub CachesAreFlat : Type 0
CachesAreFlat =
    (protocol : Protocol) (p : X86Test) (o : FinalState)
    → IsWellScopedProgram p
    → FitsCaches p
    → OutcomeOverCaches protocol p o ↔ IsMachineOutcome flat_memory p p.head.init_words o

-- ---- texts

-- If a text has a test, this test is well-formed.
pub well_formed : (text : Bytes) (test : LitmusTest) → HasTest text test → IsWellFormedTest test
well_formed text (Of_source test) h =
    well_formed_source _ test (frame_well_formed text _ h.has_frame) (frame_columns text _ h.has_frame) h.says
well_formed text (Of_x86 test) h =
    well_formed_program _ _ (frame_well_formed text _ h.has_frame) (frame_columns text _ h.has_frame) h.says

-- A text has at most one report, if it says at most one test.
pub one_report_of : ((text : Bytes) (s t : LitmusTest) → HasTest text s → HasTest text t → s ≡ t)
    → (text a b : Bytes)
    → IsOutputOf IsStatesReport text a
    → IsOutputOf IsStatesReport text b
    → a ≡ b
one_report_of one text a b m n =
    let other =
    subst (λ (test : LitmusTest). IsStatesReport test b) (sym (one text m.test n.test m.has_test n.has_test)) n.is_made in
    IsReport-unique _ (OutcomeOf m.test) (OutcomeOf m.test) (λ o. ((λ h. h), (λ h. h))) Exact a b m.is_made.is_report
    other.is_report

-- ---- compiled programs

-- A compiled program fits the caches if its source has no more threads than they have processors.
FitsCaches-compiled : (s : SourceTest) (p : X86Test) (starts : List (List ℕ))
    → IsCompiled s p starts
    → s.head.threads ≤ most_threads
    → FitsCaches p
FitsCaches-compiled s p starts compiled few = subst (λ (h : TestHead). h.threads ≤ most_threads) (sym compiled.head) few

-- A compiled program's outcomes over caches are those of its source test by interleaving.
pub outcomes_over_caches : CachesAreFlat
    → (s : SourceTest) (p : X86Test) (starts : List (List ℕ))
    → IsWellScopedSource s
    → IsCompiled s p starts
    → FitsCaches p
    → (protocol : Protocol) (o : FinalState)
    → OutcomeOverCaches protocol p o ↔ SourceOutcome s o
outcomes_over_caches caches s p starts ok compiled fits protocol o =
    let over = caches protocol p o (IsWellScopedProgram-compiled s p starts ok compiled) fits in
    let same = IsMachineOutcome-compiled_iff s p starts o ok compiled in
    ((λ outcome. same.0 (over.0 outcome)), (λ outcome. over.1 (same.1 outcome)))

-- A program compiled with any choice of fences has over caches at least its source test's outcomes.
pub OutcomeOverCaches-with_fences : {fences : List (List Bool)} {s : SourceTest} {p : X86Test} {starts : List (List ℕ)}
    → CachesAreFlat
    → IsWellScopedSource s
    → IsCompiledWith fences s p starts
    → FitsCaches p
    → (protocol : Protocol) (o : FinalState)
    → SourceOutcome s o
    → OutcomeOverCaches protocol p o
OutcomeOverCaches-with_fences {s} {p} caches ok compiled fits protocol o outcome =
    (caches protocol p o (IsWellScopedProgram-with_fences _ s p _ ok compiled) fits).1 (IsMachineOutcome-of_source _ s p _ o ok
    compiled outcome)

-- ---- the program that is run for a test

-- The program that is run for a test has exactly the test's outcomes on the machine.
pub IsProgramOf-program_run : (test : LitmusTest) (program : X86Test)
    → IsWellFormedTest test
    → IsProgramRunFor test program
    → IsProgramOf test program
IsProgramOf-program_run (Of_source test) program ok runs =
    let scoped = IsWellScoped-well_formed source_language ok in
    record { runs = runs; outcomes = λ o. IsMachineOutcome-compiled_iff test program runs.0 o scoped runs.1 }
IsProgramOf-program_run (Of_x86 test) program ok runs = record {
  runs = runs;
  outcomes = λ o.
      let same = ap (λ (p : X86Test). IsMachineOutcome flat_memory p p.head.init_words o) runs in
      ((λ outcome. subst (λ X. X) same outcome), (λ outcome. subst (λ X. X) (sym same) outcome));
}

-- For each well-formed test there is a program to run that has its outcomes on the machine.
pub has_program : (test : LitmusTest) → IsWellFormedTest test → (program : X86Test) × IsProgramOf test program
has_program (Of_source test) ok =
    let some = IsCompiled-exists test (IsWellScoped-well_formed source_language ok) in
    (some.0, IsProgramOf-program_run (Of_source test) some.0 ok (some.1, some.2))
has_program (Of_x86 test) ok = (test, IsProgramOf-program_run (Of_x86 test) test ok refl)

-- The program that is run for a test has exactly the test's outcomes over caches.
pub HasOverCaches-program_run : CachesAreFlat
    → (test : LitmusTest) (program : X86Test)
    → IsWellFormedTest test
    → IsProgramRunFor test program
    → HasOverCaches test program
HasOverCaches-program_run caches (Of_source test) program ok runs =
    outcomes_over_caches caches test program runs.0 (IsWellScoped-well_formed source_language ok) runs.1
    (FitsCaches-compiled test program runs.0 runs.1 ok.head.bounded)
HasOverCaches-program_run caches (Of_x86 test) program ok runs =
    subst (HasOverCaches (Of_x86 test)) (sym runs)
    (λ protocol o. caches protocol test o (IsWellScoped-well_formed x86_language ok) ok.head.bounded)

-- ---- outcomes

-- Each source test has an outcome.
pub source_outcome : (s : SourceTest) → IsWellScopedSource s → (o : FinalState) × SourceOutcome s o
source_outcome s ok =
    let some = IsCompiled-exists s ok in
    let o = machine_outcome-exists some.0 (IsWellScopedProgram-compiled s some.0 some.1 ok some.2) in
    (o.0, (IsMachineOutcome-compiled_iff s some.0 some.1 o.0 ok some.2).0 o.1)

-- Each x86 test that fits the caches has an outcome over them.
pub cached_outcome : CachesAreFlat
    → (protocol : Protocol) (p : X86Test)
    → IsWellScopedProgram p
    → FitsCaches p
    → (o : FinalState) × OutcomeOverCaches protocol p o
cached_outcome caches protocol p ok fits = let o = machine_outcome-exists p ok in (o.0, (caches protocol p o.0 ok fits).1 o.1)

-- ---- texts of compiled programs

-- A text says at most one test. It is a premise here; the laws prove it by a call.
abbrev HasOneTest : Type 0
HasOneTest = (text : Bytes) (s t : LitmusTest) → HasTest text s → HasTest text t → s ≡ t

-- The canonical text of a program says that program. It is a premise here too.
abbrev ReadsBack : Type 0
ReadsBack = (p : X86Test) → IsWellFormedProgram p → IsTextOf (canonical_text p) p

-- The compiled text of a source test's text says an x86 test with the same outcomes.
pub HasTest-of_compilation : HasOneTest
    → ReadsBack
    → (text made : Bytes) (source : SourceTest)
    → HasTest text (Of_source source)
    → IsOutputOf IsCompilation text made
    → (program : X86Test)
    × HasTest made (Of_x86 program)
    × (program.head ≡ record source.head { arch = X86 })
    × ((o : FinalState) → OutcomeOf (Of_x86 program) o ↔ OutcomeOf (Of_source source) o)
HasTest-of_compilation one back text made source has makes =
    let is =
    subst (λ (t : LitmusTest). IsCompilation t made) (one text makes.test (Of_source source) makes.has_test has) makes.is_made in
    let formed : IsWellFormedSource source = well_formed text (Of_source source) has in
    let read = back is.program (IsWellFormedProgram-compiled source is.program is.starts formed is.compiled) in (
      is.program,
      subst (λ (t : Bytes). HasTest t (Of_x86 is.program)) (sym is.text_is)
          (record { frame = read.frame; has_frame = read.has_frame; says = read.says }),
      is.compiled.head,
      λ o.
          IsMachineOutcome-compiled_iff source is.program is.starts o (IsWellScoped-well_formed source_language formed)
          is.compiled,
    )
