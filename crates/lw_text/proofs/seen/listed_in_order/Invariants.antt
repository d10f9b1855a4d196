-- At each round `seen` has the listed registers of the threads before the index.
use Rattle.lw_text.proofs.Common.{◌≡◌, filter, all_registers, is_listed}
use Rattle.lw_text.proofs.seen.listed_in_order.Given as goal

abbrev pub invariant-loop-cpu : goal.invariant-loop-cpu
invariant-loop-cpu g l = l.seen ≡ filter (is_listed l.sites) (all_registers l.cpu-index)
