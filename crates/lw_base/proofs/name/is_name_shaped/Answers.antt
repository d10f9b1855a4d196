-- Proves `is_name_shaped`. Immediate: this is the case of a text whose first byte is no digit, so all bytes
-- are tested.
use Rattle.lw_base.proofs.Common.{rules}
use Rattle.lw_base.proofs.name.is_name_shaped.Goals as goal

pub returns-in-Some : goal.returns-in-Some
returns-in-Some c = search rules
