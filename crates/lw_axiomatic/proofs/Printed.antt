-- What `lw states` prints is the report of what the axioms allow. The report is of the test's outcomes, which
-- are the machine's; and sets with the same outcomes have the same report. The law on the printed report
-- cites it.
use Rattle.lw_axiomatic.proofs.Common.{IsWellScopedProgram, IsWellScoped-well_formed, x86_language}
use Rattle.lw_axiomatic.proofs.Common.{IsWellScopedSource, ◌≡◌, ◌↔◌, ℕ, List, subst, TestHead, FinalState}
use Rattle.lw_axiomatic.proofs.Common.{Bytes, LitmusTest, Of_source, Of_x86, head_of_test, IsWithinListLimits}
use Rattle.lw_axiomatic.proofs.Common.{IsStatesReport, OutcomeOf, IsOutputOf, HasTest, IsWellFormedTest}
use Rattle.lw_axiomatic.proofs.Common.{IsCompiled, SourceOutcome, SourceTest, X86Test, flat_memory, IsReport}
use Rattle.lw_axiomatic.proofs.Common.{Exact, IsMachineOutcome, IsAllowed, source_language, IsScOutcome}

-- The report of a set of outcomes is the report of any set with the same outcomes.
IsReport-same_outcomes : (head : TestHead) (Has Other : FinalState → Type 0)
    → ((o : FinalState) → Has o ↔ Other o)
    → (made : Bytes)
    → IsReport head Has Exact made
    → IsReport head Other Exact made
IsReport-same_outcomes head Has Other same made report = record {
  states = report.states;
  states_are = record {
    sorted = report.states_are.sorted;
    exactly = λ s. (
      λ listed. (let h = (report.states_are.exactly s).0 listed in (h.0, (same h.0).0 h.1, h.2)),
      λ h. (report.states_are.exactly s).1 (h.0, (same h.0).1 h.1, h.2),
    );
  };
  text_is = report.text_is;
}

-- If a statement is equivalent to another, the other is equivalent to it.
iff-symmetric : {P Q : Type 0} → P ↔ Q → Q ↔ P
iff-symmetric same = (same.1, same.0)

module _ (one : (text : Bytes) (s t : LitmusTest) → HasTest text s → HasTest text t → s ≡ t)
    (formed : (text : Bytes) (test : LitmusTest) → HasTest text test → IsWellFormedTest test) where
  -- If a text has a test with the outcomes `Other`, a report is printed for the text if and only if the test is within the
  -- limits of lists and the report is that of `Other`.
  IsOutputOf-iff_report : (text made : Bytes) (test : LitmusTest) (Other : FinalState → Type 0)
      → HasTest text test
      → ((o : FinalState) → OutcomeOf test o ↔ Other o)
      → IsOutputOf IsStatesReport text made ↔ (IsWithinListLimits test × IsReport (head_of_test test) Other Exact made)
  IsOutputOf-iff_report text made test Other has same = (
    λ m.
        (let is : IsStatesReport test made =
        subst (λ (t : LitmusTest). IsStatesReport t made) (one text m.test test m.has_test has) m.is_made in
        (is.within, IsReport-same_outcomes (head_of_test test) (OutcomeOf test) Other same made is.is_report)),
    λ h. record {
      test = test;
      has_test = has;
      is_made = record {
        within = h.0;
        is_report = IsReport-same_outcomes (head_of_test test) Other (OutcomeOf test) (λ o. iff-symmetric (same o)) made h.1;
      };
    },
  )

  -- An x86 test of a text is well-scoped.
  IsWellScopedProgram-HasTest : (text : Bytes) (test : X86Test) → HasTest text (Of_x86 test) → IsWellScopedProgram test
  IsWellScopedProgram-HasTest text test has = IsWellScoped-well_formed x86_language (formed text (Of_x86 test) has)

  -- A source test of a text is well-scoped.
  IsWellScopedSource-HasTest : (text : Bytes) (test : SourceTest) → HasTest text (Of_source test) → IsWellScopedSource test
  IsWellScopedSource-HasTest text test has = IsWellScoped-well_formed source_language (formed text (Of_source test) has)

  -- For an x86 test, the report that is printed is that of the outcomes that the axioms allow.
  pub IsOutputOf-iff_x86 : ((test : X86Test) (o : FinalState)
      → IsWellScopedProgram test
      → IsMachineOutcome flat_memory test test.head.init_words o ↔ IsAllowed test o)
      → (text made : Bytes) (test : X86Test)
      → HasTest text (Of_x86 test)
      → IsOutputOf IsStatesReport text made ↔ (IsWithinListLimits (Of_x86 test) × IsReport test.head (IsAllowed test) Exact made)
  IsOutputOf-iff_x86 machine text made test has =
      IsOutputOf-iff_report text made (Of_x86 test) (IsAllowed test) has
      (λ o. machine test o (IsWellScopedProgram-HasTest text test has))

  -- For a source test, the report that is printed is that of what the axioms allow its compiled program.
  pub IsOutputOf-iff_compiled : ((test : SourceTest) (program : X86Test) (starts : List (List ℕ)) (o : FinalState)
      → IsWellScopedSource test
      → IsCompiled test program starts
      → SourceOutcome test o ↔ IsAllowed program o)
      → (text made : Bytes) (test : SourceTest) (program : X86Test) (starts : List (List ℕ))
      → HasTest text (Of_source test)
      → IsCompiled test program starts
      → IsOutputOf IsStatesReport text made
      ↔ (IsWithinListLimits (Of_source test) × IsReport test.head (IsAllowed program) Exact made)
  IsOutputOf-iff_compiled compiled text made test program starts has is =
      IsOutputOf-iff_report text made (Of_source test) (IsAllowed program) has
      (λ o. compiled test program starts o (IsWellScopedSource-HasTest text test has) is)

  -- For a source test, the report that is printed is that of its sequentially consistent outcomes.
  pub prints_sequential :
      ((test : SourceTest) (o : FinalState) → IsWellScopedSource test → SourceOutcome test o ↔ IsScOutcome source_language test o)
      → (text made : Bytes) (test : SourceTest)
      → HasTest text (Of_source test)
      → IsOutputOf IsStatesReport text made
      ↔ (IsWithinListLimits (Of_source test) × IsReport test.head (IsScOutcome source_language test) Exact made)
  prints_sequential same text made test has =
      IsOutputOf-iff_report text made (Of_source test) (IsScOutcome source_language test) has
      (λ o. same test o (IsWellScopedSource-HasTest text test has))
