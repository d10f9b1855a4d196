-- Proves `LocNames::len`, which returns the number of names. The contract's table is the list of the names'
-- bytes, and is as long as the list of names.
use Rattle.lw_base.proofs.Common.{◌∙◌, sym, length-map}
use Rattle.lw_base.proofs.location.LocNames.len.Goals as goal

pub returns-clause-len : goal.returns-clause-len
returns-clause-len g c =
    rw (← c.self.view_is) (c.len.ensures ∙ (c.self.inside.names.ok.0 ∙ sym (length-map c.self.inside.names.items _)))
