-- The theorem: the machine's outcomes are exactly those that the axioms allow. Both are compared with the
-- outcomes of orders of a path assignment's items, which lw_finals proves equal to the machine's; `IsAllowed-OfAssignment`
-- and `OfAssignment-IsAllowed` are the two directions. Over caches the outcomes are those over flat memory.
use Rattle.lw_axiomatic.proofs.Common.{HasOutcomeShape-flat_outcome}
use Rattle.lw_axiomatic.proofs.Equivalence.{IsAllowed-OfAssignment, OfAssignment-IsAllowed}
use Rattle.lw_axiomatic.proofs.laws.machine_outcomes_are_those_allowed.Goals as goal

-- Both clauses go by the outcomes of path assignments; over caches the outcomes are those over flat memory.
pub returns : goal.returns
returns c = record {
  flat_memory = λ test o well_scoped.
      let assignments = c.x86_outcomes_are_those_of_path_assignments.ensures test o well_scoped in (
        λ run. IsAllowed-OfAssignment well_scoped (HasOutcomeShape-flat_outcome test o well_scoped run) (assignments.0 run),
        λ a. assignments.1 (OfAssignment-IsAllowed well_scoped a),
      );
  caches = λ protocol test o well_scoped fits.
      let flat_too = c.outcomes_over_caches_are_flat.ensures protocol test o well_scoped fits in
      let assignments = c.x86_outcomes_are_those_of_path_assignments.ensures test o well_scoped in (
        λ over.
            IsAllowed-OfAssignment well_scoped (HasOutcomeShape-flat_outcome test o well_scoped (flat_too.0 over))
            (assignments.0 (flat_too.0 over)),
        λ a. flat_too.1 (assignments.1 (OfAssignment-IsAllowed well_scoped a)),
      );
}
