-- Proves `is_name`, which says whether a text is a name. Immediate: the length is compared, and the shape is
-- the contract of `is_name_shaped`.
use Rattle.lw_base.proofs.Common.{rules}
use Rattle.lw_base.proofs.name.is_name.Goals as goal

pub returns-then-text-le-MAX_NAME_BYTES : goal.returns-then-text-le-MAX_NAME_BYTES
returns-then-text-le-MAX_NAME_BYTES c = search rules
