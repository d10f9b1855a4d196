-- `put` of `ToWrite` promises that a write of one or more bytes accepts at least one. It is immediate: the
-- arm `Ok` has just this as its guard.
use Rattle.lw_bench.proofs.Common.{rules}
use Rattle.lw_bench.proofs.device.ToWriteByteWriter.put.Goals as goal

pub returns-in-Ok-clause-some : goal.returns-in-Ok-clause-some
returns-in-Ok-clause-some g c = search rules
