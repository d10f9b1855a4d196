-- Proves `Text::copy`, which returns an equal text. Immediate from the contract of the string's copy.
use Rattle.lw_base.proofs.text.Text.copy.Goals as goal

pub returns : goal.returns
returns g c = rw (← c.self.view_is, ← c.as_str.ensures.value) c.from_str.ensures
