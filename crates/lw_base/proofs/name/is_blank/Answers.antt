-- Proves `is_blank`. Immediate: the code's four bytes are the definition's.
use Rattle.lw_base.proofs.Common.{rules}
use Rattle.lw_base.proofs.name.is_blank.Goals as goal

pub returns : goal.returns
returns c = search rules
