-- Proves `wrapping_sum`, the sum modulo 2 to the 32. Immediate: it is the contract of `wrapping_add`.
use Rattle.lw_interleaving.proofs.Common.{rules}
use Rattle.lw_interleaving.proofs.thread.wrapping_sum.Goals as goal

pub returns : goal.returns
returns c = search rules
