-- Proves `is_unreserved_name`, which says whether a text can name a location or a label. Immediate from the
-- contracts of `is_name` and `is_reserved`.
use Rattle.lw_base.proofs.Common.{rules}
use Rattle.lw_base.proofs.name.is_unreserved_name.Goals as goal

pub returns-then-is_name : goal.returns-then-is_name
returns-then-is_name c = search rules
