-- Proves `lowest_by_sets`, whose result is the greedy order of any pairs that the tables are of.
-- `TakenSoFar-next` takes the item that `first_free` found; if it found none, no order respects the pairs
-- (`TakenSoFar-none`).
use Rattle.lw_orders.proofs.Common.{◌||◌, ◌&&◌, ◌∙◌, ap, sym, refl, length-set, arith, get_or_read, has}
use Rattle.lw_orders.proofs.LowestBySets.{TakenSoFar-start, TakenSoFar-none, TakenSoFar-next}
use Rattle.lw_orders.proofs.greedy.lowest_by_sets.Goals as goal

pub loop-turn-init : goal.loop-turn-init
loop-turn-init g c = record {
  room = refl;
  fits = c.below-left.ensures.fits;
  taken = λ pairs drawn. TakenSoFar-start pairs _ c.requires.bounded c.below-left.ensures.items;
}

pub returns-in_err-item : goal.returns-in_err-item
returns-in_err-item g c pairs drawn =
    c.from_residual.ensures
    ∙ sym (TakenSoFar-none c.requires.bounded c.loop-turn.invariant.fits c.loop-turn-test.true drawn
    (c.loop-turn.invariant.taken pairs drawn) c.in_err-item.ensures.narrowed c.in_err-item.ensures.found)

-- One more item is taken: the lowest minimal one.
pub loop-turn-preserved : goal.loop-turn-preserved
loop-turn-preserved g c = record {
  room = length-set c.loop-turn.items c.loop-turn.turn c.in_ok-item.item ∙ c.loop-turn.invariant.room;
  fits = c.without-left.ensures.fits;
  taken =
      λ pairs drawn.
      TakenSoFar-next c.requires.bounded c.loop-turn.invariant.fits c.loop-turn-test.true drawn
      (c.loop-turn.invariant.taken pairs drawn) c.in_ok-item.ensures.narrowed c.in_ok-item.item c.in_ok-item.ensures.found
      c.loop-turn.invariant.room _ c.without-left.ensures.items (g.S.ItemBits.number c.with_all_among-candidates.result) (λ k l.
      c.with_all_among-candidates.ensures k l
      ∙ ap (λ set.
      (has (g.S.ItemBits.number c.first_free.new.candidates) k || has set k) && has (g.S.ItemBits.number c.without-left.result) k)
      (get_or_read c.args.neighbours.now _ c.index-neighbours-item.result
      (omega (arith, c.in_ok-item.ensures.found.0, c.requires.room)) c.index-neighbours-item.is 0));
}
