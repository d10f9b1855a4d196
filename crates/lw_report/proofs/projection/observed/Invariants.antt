-- At each round the names are the observed registers of the first `cpu` threads.
use Rattle.lw_report.proofs.Common.{◌≡◌, filter, head_of, all_registers, is_observed}
use Rattle.lw_report.proofs.projection.observed.Given as goal

abbrev pub invariant-loop-cpu : goal.invariant-loop-cpu
invariant-loop-cpu g l = l.names ≡ filter (is_observed (head_of l.head)) (all_registers l.cpu-index)
