-- Proves `is_name_byte`. Immediate: a byte that is no letter and no digit is a name's byte if and only if it
-- is `_`.
use Rattle.lw_base.proofs.Common.{rules}
use Rattle.lw_base.proofs.name.is_name_byte.Goals as goal

pub returns-else-is_ascii_alphanumeric : goal.returns-else-is_ascii_alphanumeric
returns-else-is_ascii_alphanumeric c = search rules
