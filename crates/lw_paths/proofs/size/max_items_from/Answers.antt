-- Proves `max_items_from`, which returns the maximum over a statement's successors, from a table of the
-- maxima at later positions. A statement has one successor or two, and each is an index of the table;
-- `IsMost-two` is the case of two.
use Rattle.lw_paths.proofs.Common.{ℕ, Option, inr, refl, sym, ap, ◌∙◌, ◌∷◌, arith, slice_index}
use Rattle.lw_paths.proofs.Common.{option_to_list}
use Rattle.lw_paths.proofs.Sizes.{IsMost-two, Contains-first_successor, Contains-second_successor}
use Rattle.lw_paths.proofs.size.max_items_from.Goals as goal

pub offset_bounds-most-first : goal.offset_bounds-most-first
offset_bounds-most-first g c =
    let lt = c.requires.within c.successors-first.result.0 (Contains-first_successor _ c.successors-first.ensures) in
    omega (arith, lt)

pub bounds-most-first : goal.bounds-most-first
bounds-most-first g c =
    omega (arith, c.requires.within c.successors-first.result.0 (Contains-first_successor _ c.successors-first.ensures))

pub offset_bounds-most-to : goal.offset_bounds-most-to
offset_bounds-most-to g c =
    let lt = c.requires.within c.in-Some.to (Contains-second_successor c.successors-first.ensures c.in-Some.is) in
    omega (arith, lt)

pub bounds-most-to : goal.bounds-most-to
bounds-most-to g c =
    omega (arith, c.requires.within c.in-Some.to (Contains-second_successor c.successors-first.ensures c.in-Some.is))

pub returns-then-most_first-most_second : goal.returns-then-most_first-most_second
returns-then-most_first-most_second g c =
    IsMost-two (λ k. slice_index c.args.most.now k) _ c.successors-first.result.0 c.in-Some.to _
    (sym c.successors-first.ensures ∙ ap (λ (o : Option ℕ). c.successors-first.result.0 ∷ option_to_list o) c.in-Some.is)
    (omega arith) (omega arith) (inr refl)
