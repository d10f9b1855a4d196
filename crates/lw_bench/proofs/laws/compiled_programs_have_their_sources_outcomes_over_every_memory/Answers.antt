-- Law: a compiled program has its source's outcomes over every lawful memory. The law `outcomes_are_flat`
-- takes outcomes over that memory to flat memory, where `IsMachineOutcome-compiled_iff` holds; both equivalences are
-- composed.
use Rattle.lw_bench.proofs.Common.{IsMachineOutcome-compiled_iff, IsWellScopedProgram-compiled}
use Rattle.lw_bench.proofs.laws.compiled_programs_have_their_sources_outcomes_over_every_memory.Goals as goal

pub returns : goal.returns
returns g c = λ source program starts m o ok compiled start.
    let over = c.outcomes_are_flat.ensures program m o (IsWellScopedProgram-compiled source program starts ok compiled) start in
    let same = IsMachineOutcome-compiled_iff source program starts o ok compiled in
    ((λ outcome. same.0 (over.0 outcome)), (λ outcome. over.1 (same.1 outcome)))
