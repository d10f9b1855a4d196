-- Proves `SourceRun::restart`, which resets the run to its initial state. After the loop all threads are
-- overwritten, since the lists have one length; list equations and arithmetic prove the rest (`grind`).
use Rattle.lw_interleaving.proofs.Common.{arith, common_steps}
use Rattle.lw_interleaving.proofs.run.SourceRun.restart.Goals as goal

pub offset_bounds-regs-items-cpu : goal.offset_bounds-regs-items-cpu
offset_bounds-regs-items-cpu g c = omega (arith, c.loop-cpu-test.true, c.as_slice-regs-items.type_inv.1)

pub invariant_of-self : goal.invariant_of-self
invariant_of-self g c = grind (arith, common_steps)

pub set-requires : goal.set-requires
set-requires g c = grind (arith, common_steps)

pub returns-clause-state : goal.returns-clause-state
returns-clause-state g c = grind (arith, common_steps)
