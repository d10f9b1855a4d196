-- A well-scoped source has a compiled program. The marks, fences, starts and instructions exist as lists, without a run of the compiler's
-- code. With OneProgram a source has exactly one compiled program.
use Rattle.lw_fence.proofs.Common.{IsWellScopedSource, ◌≡◌, ℕ, zero, suc, ◌<◌, ◌≤◌, List, [], ◌∷◌, ◌++◌}
use Rattle.lw_fence.proofs.Common.{length, replicate, Some, Bool, false, ◌&&◌, if◌then◌else◌, refl, subst}
use Rattle.lw_fence.proofs.Common.{arith, slice_get, slice_index_or, ForSome, thread_code, slice_get-in_range}
use Rattle.lw_fence.proofs.Common.{at_index, Instr, Stmt, branch_target, is_load, source_operation}
use Rattle.lw_fence.proofs.Common.{SourceTest, X86Test, lowered_code, starts_from, IsCompiledThread}
use Rattle.lw_fence.proofs.Common.{IsCompiled, may_wait, mark_successors}
use Rattle.lw_fence.proofs.CompiledThreads.{AreCompiled, AreCompiled-none, AreCompiled-push}
use Rattle.lw_fence.proofs.FencesFound.{AreFencesOfFirst, AreFencesOfFirst-none, AreFencesOfFirst-push}
use Rattle.lw_fence.proofs.FencesFound.{NeedsFence-found}
use Rattle.lw_fence.proofs.Marks.{AreMarksAfter, is_marked, AreMarksAfter-next, AreMarksAfter-end}
use Rattle.lw_fence.proofs.Marks.{AreMarksAfter-at_start}
use Rattle.lw_fence.proofs.Programs.{IsCompiled-of_threads}

module _ (code : List Stmt)
    (ok : (j : ℕ) (x : Stmt)
    → slice_get code j ≡ Some x
    → ForSome (branch_target (source_operation x)) (λ to. (j < to) × (to ≤ length code))) where
  -- For each i up to the number of statements there are marks after the first i statements.
  AreMarksAfter-exist : (i : ℕ) → i ≤ length code → (marks : List Bool) × AreMarksAfter code i marks
  AreMarksAfter-exist zero le = (replicate (suc (length code)) false, AreMarksAfter-at_start code ok)
  AreMarksAfter-exist (suc i) le =
      let m = AreMarksAfter-exist i (omega arith) in
      let x = slice_get-in_range code i (omega arith) in
      let b : Bool = may_wait (source_operation x.0) (is_marked m.0 i) in (
        _,
        subst (λ k. AreMarksAfter code k (if b then mark_successors (source_operation x.0) i m.0 else m.0)) (omega arith)
            (AreMarksAfter-next code ok i x.0 m.0 b x.1 refl m.1),
      )

  -- There are marks after all statements.
  marks : (v : List Bool) × AreMarksAfter code (length code) v
  marks = AreMarksAfter-exist (length code) (omega arith)

  -- For each i up to the number of statements there are flags of the first i statements, by these marks.
  AreFencesOfFirst-exist : (i : ℕ) → i ≤ length code → (fences : List Bool) × AreFencesOfFirst code marks.0 i fences
  AreFencesOfFirst-exist zero le = ([], AreFencesOfFirst-none code marks.0 [] refl)
  AreFencesOfFirst-exist (suc i) le =
      let f = AreFencesOfFirst-exist i (omega arith) in
      let x = slice_get-in_range code i (omega arith) in
      let b : Bool = is_load (source_operation x.0) && slice_index_or marks.0 i false in (
        f.0 ++ b ∷ [],
        subst (λ k. AreFencesOfFirst code marks.0 k (f.0 ++ b ∷ [])) (omega arith)
            (AreFencesOfFirst-push code marks.0 i f.0 b f.1 x.1 refl refl),
      )

  -- There are instructions and starts to which the thread is compiled.
  IsCompiledThread-exists : (instrs : List Instr) × (starts : List ℕ) × IsCompiledThread code instrs starts
  IsCompiledThread-exists =
      let f = AreFencesOfFirst-exist (length code) (omega arith) in (
        lowered_code (starts_from 0 f.0 code) f.0 code,
        starts_from 0 f.0 code,
        record {
          fences = f.0;
          as_many = f.1.as_many;
          needed = NeedsFence-found code marks.0 (AreMarksAfter-end code ok marks.0 marks.1) f.0 f.1;
          starts_are = refl;
          instrs_are = refl;
        },
      )

module _ (source : SourceTest) (well_scoped : IsWellScopedSource source) where
  -- For each thread of a well-scoped source there are instructions and starts to which it is compiled.
  IsCompiledThread-exists_at : (t : ℕ)
      → t < length source.threads
      → (instrs : List Instr) × (starts : List ℕ) × IsCompiledThread (thread_code source.threads t) instrs starts
  IsCompiledThread-exists_at t in_range =
      IsCompiledThread-exists (thread_code source.threads t) (well_scoped.code t [] in_range).forward

  -- For each n up to the number of threads there are lists to which the first n threads of a well-scoped source are compiled.
  AreCompiled-exist : (n : ℕ)
      → n ≤ length source.threads
      → (threads : List (List Instr)) × (starts : List (List ℕ)) × AreCompiled source.threads n threads starts
  AreCompiled-exist zero le = ([], [], AreCompiled-none source.threads [] refl refl)
  AreCompiled-exist (suc n) le =
      let before = AreCompiled-exist n (omega arith) in
      let own = IsCompiledThread-exists_at n (omega arith) in
      let threads = before.0 ++ own.0 ∷ [] in
      let starts = before.1 ++ own.1 ∷ [] in
      let all = AreCompiled-push _ before.2 (at_index source.threads n [] (omega arith)) own.2 refl refl in
      (threads, starts, subst (λ k. AreCompiled source.threads k threads starts) (omega arith) all)

  -- There are a program and its starts to which the source is compiled.
  pub IsCompiled-exists : (p : X86Test) × (starts : List (List ℕ)) × IsCompiled source p starts
  IsCompiled-exists =
      let all = AreCompiled-exist (length source.threads) (omega arith) in
      (_, all.1, IsCompiled-of_threads refl all.2.as_many all.2.as_many_starts all.2.each)
