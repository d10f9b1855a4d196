-- Proves `Sequence::len`. The contract's list is that of the vector inside, whose length is the length of its
-- list.
use Rattle.lw_base.proofs.Common.{◌∙◌}
use Rattle.lw_base.proofs.sequence.Sequence.len.Goals as goal

pub returns : goal.returns
returns g c = rw (← c.self.view_is) (c.len.ensures ∙ c.self.inside.items.ok.0)
