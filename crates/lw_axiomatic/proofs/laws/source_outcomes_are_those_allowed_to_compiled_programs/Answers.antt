-- Law: a source test's outcomes are those that the axioms allow its compiled program. Two equivalences in
-- sequence: the compiler's, between the source and the machine (`IsMachineOutcome-compiled_iff`), and the theorem of this
-- crate, between the machine and the axioms. The second needs a well-scoped program, which a compiled one is.
use Rattle.lw_axiomatic.proofs.Common.{IsMachineOutcome-compiled_iff, IsWellScopedProgram-compiled}
use Rattle.lw_axiomatic.proofs.laws.source_outcomes_are_those_allowed_to_compiled_programs.Goals as goal

pub returns : goal.returns
returns c source program starts o well_scoped compiled =
    let same = IsMachineOutcome-compiled_iff source program starts o well_scoped compiled in
    let axioms =
    c.machine_outcomes_are_those_allowed.ensures.flat_memory program o
    (IsWellScopedProgram-compiled source program starts well_scoped compiled) in
    (λ outcome. axioms.0 (same.1 outcome), λ a. same.0 (axioms.1 a))
