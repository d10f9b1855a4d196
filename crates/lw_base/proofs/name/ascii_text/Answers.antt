-- Proves `ascii_text`, which views bytes below 128 as a text. Such bytes are valid UTF-8
-- (`IsUtf8-from_ascii`), as the unchecked conversion requires.
use Rattle.lw_base.proofs.Common.{IsUtf8-from_ascii}
use Rattle.lw_base.proofs.name.ascii_text.Goals as goal

pub from_utf8_unchecked-requires : goal.from_utf8_unchecked-requires
from_utf8_unchecked-requires c = IsUtf8-from_ascii c.args.bytes.now c.requires
