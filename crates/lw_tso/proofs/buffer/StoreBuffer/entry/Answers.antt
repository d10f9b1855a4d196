-- Proves `StoreBuffer::entry`, which returns the entry at an index. The index is below the number of entries,
-- so the ring has an item there (`IsSome-index_in_range`), and `unwrap` cannot panic.
use Rattle.lw_tso.proofs.Common.{◌<◌, ◌∙◌, ap, length, option_copied, slice_get, subst, sym}
use Rattle.lw_tso.proofs.Newest.{IsSome-index_in_range}
use Rattle.lw_tso.proofs.buffer.StoreBuffer.entry.Goals as goal

pub returns : goal.returns
returns g c =
    ap (λ b. slice_get b.entries c.args.index) (sym c.self.view_is) ∙ sym c.get.ensures ∙ ap option_copied c.unwrap.ensures

pub unwrap-requires : goal.unwrap-requires
unwrap-requires g c =
    IsSome-index_in_range _ _ _ c.get.ensures (subst (λ b. c.args.index < length b.entries) (sym c.self.view_is) c.requires)
