-- The theorem's two directions, over flat memory. From the axioms to the machine: times (Timing), their order
-- (TimeOrder), and a run along it (ToMachine). Back: a run along an order is a candidate (FromMachine) with
-- times, which satisfies the axioms (Timed).
use Rattle.lw_axiomatic.proofs.Common.{IsWellScopedProgram, ℕ, List, length, sym, subst, FinalState}
use Rattle.lw_axiomatic.proofs.Common.{HasOutcomeShape, x86_language, X86Test, flat_memory, IsPathAssignment}
use Rattle.lw_axiomatic.proofs.Common.{IsX86AssignmentOutcome, Execution, IsCandidate, IsAllowed}
use Rattle.lw_axiomatic.proofs.Common.{HasConsistentTimes, HasTimes}
use Rattle.lw_axiomatic.proofs.Timed.{SatisfiesAxioms-HasConsistentTimes}
use Rattle.lw_axiomatic.proofs.Timing.{HasTimes-SatisfiesAxioms}
use Rattle.lw_axiomatic.proofs.ToMachine.{X86FollowsPathsToEnd-IsCandidate}
use Rattle.lw_axiomatic.proofs.Indices.{KeptOrder, done, reached}
use Rattle.lw_axiomatic.proofs.TimeOrder as by
use Rattle.lw_axiomatic.proofs.FromMachine as from

-- An outcome that the machine reaches along an order of a path assignment's items, as lw_finals defines it.
abbrev pub OfAssignment : X86Test → FinalState → Type 0
OfAssignment test o =
    (paths : List (List ℕ))
    × IsPathAssignment x86_language test.threads paths
    × IsX86AssignmentOutcome flat_memory test test.head.init_words paths o

module _ {test : X86Test} (well_scoped : IsWellScopedProgram test) {o : FinalState} where
  -- The axioms allow an outcome that the machine reaches along an order of a path assignment's items.
  pub IsAllowed-OfAssignment : HasOutcomeShape test.head.threads (length test.head.locs) o
      → OfAssignment test o
      → IsAllowed test o
  IsAllowed-OfAssignment of_test (paths, assignment, c) =
      let given : KeptOrder test paths =
      record { well_scoped = well_scoped; assignment = assignment; order = c.order; keeps = c.keeps } in
      let x : Execution = from.run_execution given c.run.end c.run.ran in
      let timed : HasConsistentTimes test x (done given) (reached given) =
      from.HasConsistentTimes-of_run given c.run.end c.run.ran in
      record {
        execution = x;
        candidate =
            subst (IsCandidate x86_language test x) (sym c.run.outcome_is)
            (from.IsCandidate-of_run given c.run.end c.run.ran c.run.final
            (subst (HasOutcomeShape test.head.threads (length test.head.locs)) c.run.outcome_is of_test));
        axioms = SatisfiesAxioms-HasConsistentTimes timed;
      }

  -- The machine reaches an outcome that the axioms allow along an order of a path assignment's items.
  pub OfAssignment-IsAllowed : IsAllowed test o → OfAssignment test o
  OfAssignment-IsAllowed a =
      let t : HasTimes test a.execution = HasTimes-SatisfiesAxioms a.candidate a.axioms in
      let given : KeptOrder test a.execution.paths = by.kept_order well_scoped a.candidate t.timed in (
        a.execution.paths,
        given.assignment,
        record {
          order = given.order;
          keeps = given.keeps;
          run =
              X86FollowsPathsToEnd-IsCandidate a.candidate given (λ r l reading.
              by.IsNewest-placed well_scoped a.candidate t.timed r l reading (a.execution.rf r) (t.timed.newest r l reading))
              (λ w v co.
              by.reached_lt-of_times well_scoped a.candidate t.timed w v co.first_write.is_event co.second_write.is_event
              (t.timed.co w v co));
        },
      )
