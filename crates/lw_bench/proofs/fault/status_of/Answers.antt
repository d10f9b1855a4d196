-- `status_of` promises the exit status of a fault. Immediate by cases of the fault; only this arm is asked
-- for by name.
use Rattle.lw_bench.proofs.Common.{rules}
use Rattle.lw_bench.proofs.fault.status_of.Goals as goal

pub returns-in-Memory : goal.returns-in-Memory
returns-in-Memory c = search rules
