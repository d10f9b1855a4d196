-- Proves `is_at_end`, which says whether the thread is past its statements. Immediate: the code's comparison
-- is the definition's.
use Rattle.lw_interleaving.proofs.Common.{rules}
use Rattle.lw_interleaving.proofs.thread.Thread.is_at_end.Goals as goal

pub returns : goal.returns
returns c = search rules
