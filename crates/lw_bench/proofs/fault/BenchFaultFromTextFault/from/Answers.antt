-- `from` promises the run's fault of a text's fault, which is `Memory` if the cause is memory. Immediate from
-- the test of the cause.
use Rattle.lw_bench.proofs.Common.{rules}
use Rattle.lw_bench.proofs.fault.BenchFaultFromTextFault.from.Goals as goal

pub returns-then-eq : goal.returns-then-eq
returns-then-eq c = search rules
