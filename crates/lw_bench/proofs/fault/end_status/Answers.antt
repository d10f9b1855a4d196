-- `end_status` promises the status of a replay's end. Immediate by cases of the end; only this arm is asked
-- for by name.
use Rattle.lw_bench.proofs.Common.{rules}
use Rattle.lw_bench.proofs.fault.end_status.Goals as goal

pub returns-in-NotFinal : goal.returns-in-NotFinal
returns-in-NotFinal c = search rules
