-- Proves `Sequence::get`, which returns the item at an index, or `None`. The standard library promises each
-- case by itself; `option_copied-slice_get` makes one equation of them.
use Rattle.lw_base.proofs.Common.{Bor, HoldsAt, IfSome, option_copied, slice_get, slice_get_past, ◌≡◌, ◌<◌}
use Rattle.lw_base.proofs.Common.{◌≤◌, ◌∙◌, ℕ, List, MatchOption, None, Option, Some, ap, get_or, length}
use Rattle.lw_base.proofs.Common.{refl, sym, slice_get_read}
use Rattle.lw_base.proofs.sequence.Sequence.get.Goals as goal

-- If what was read is the list's item at i, or there is none and i is not in range, then it is, copied, what `slice_get` gives
-- at i.
option_copied-slice_get : {X : Type 0} (read : Option (Bor X)) (xs : List X) (i : ℕ)
    → IfSome read (λ x. x.now ≡ get_or xs i x.now)
    → MatchOption read (length xs ≤ i) (λ x. (i < length xs) × HoldsAt (λ y. x.now ≡ y) xs i)
    → option_copied read ≡ slice_get xs i
option_copied-slice_get (Some x) xs i is there = sym (slice_get_read xs _ i x.now refl there.0 is)
option_copied-slice_get None xs i is past = sym (slice_get_past xs i past)

pub returns : goal.returns
returns g c =
    let found = c.get.ensures.lookup in
    option_copied-slice_get c.get.result c.deref.result.now c.args.index found.1 found.3
    ∙ ap (λ xs. slice_get xs c.args.index) (c.deref.ensures.value ∙ c.self.view_is)
