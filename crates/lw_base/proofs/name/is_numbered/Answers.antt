-- Proves `is_numbered`, which says whether bytes are `r` and digits. Immediate: this is the case of a text
-- that begins with `r`.
use Rattle.lw_base.proofs.Common.{rules}
use Rattle.lw_base.proofs.name.is_numbered.Goals as goal

pub returns-then-first-eq114 : goal.returns-then-first-eq114
returns-then-first-eq114 c = search rules
