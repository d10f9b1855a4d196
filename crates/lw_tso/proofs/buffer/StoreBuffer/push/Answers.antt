-- Proves `StoreBuffer::push`, which appends an entry. The premise says that there is room, so the ring
-- overwrites no entry, and there are still not more entries than its capacity.
use Rattle.lw_tso.proofs.Common.{common_steps, arith}
use Rattle.lw_tso.proofs.buffer.StoreBuffer.push.Goals as goal

pub returns-clause-entries : goal.returns-clause-entries
returns-clause-entries g c = grind (arith, common_steps)

pub invariant_of-self : goal.invariant_of-self
invariant_of-self g c = grind (arith, common_steps)
