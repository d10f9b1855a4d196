-- Proves `reached_from`, which joins the sets of an item's successors, and the item. `IsReaching-next` joins
-- the set of the next successor; `next_lt_further` says that the following one is higher, so the loop ends.
use Rattle.lw_orders.proofs.Common.{most_items, ℕ, ◌≡◌, ◌<◌, ap, ◌∙◌, ◌||◌, eqb, arith, bit_at-zero, has}
use Rattle.lw_orders.proofs.Common.{reaches_in}
use Rattle.lw_orders.proofs.ReachedFrom.{IsReaching-start, IsReaching-next, IsReachedFrom-end}
use Rattle.lw_orders.proofs.ReachedFrom.{next_lt_further}
use Rattle.lw_orders.proofs.reach.reached_from.Goals.{After-lowest-next-in-loop-next}
use Rattle.lw_orders.proofs.reach.reached_from.Goals as goal

pub loop-next-init : goal.loop-next-init
loop-next-init c =
    IsReaching-start c.args.item c.with-set.result c.empty.result _ (omega (arith, c.requires.below, c.requires.bounded))
    c.with-set.ensures (λ k lk. ap (λ n. has n k) c.empty.ensures ∙ ap (λ n. eqb n 1) (bit_at-zero k)) c.lowest-next.ensures.below
    c.lowest-next.ensures.found

-- The union contains what the set contained, and what the next successor reaches.
has-union : (c : After-lowest-next-in-loop-next) (k : ℕ)
    → k < most_items
    → has c.union-set.result k ≡ (has c.loop-next.set k || reaches_in c.args.sets.now c.loop-next.next k)
has-union c k lk = c.union-set.ensures k lk ∙ ap (λ r. has c.loop-next.set k || has r k) c.set_of.ensures

pub loop-next-preserved : goal.loop-next-preserved
loop-next-preserved c =
    IsReaching-next c.requires.bounded (omega (arith, c.requires.below, c.requires.bounded)) c.loop-next.invariant
    c.union-set.result c.without-left.result c.lowest-next-in-loop-next.result c.loop-next-test.true
    (has-union (goal.at.loop-next-preserved c).After-lowest-next-in-loop-next) c.without-left.ensures.items
    c.lowest-next-in-loop-next.ensures.below c.lowest-next-in-loop-next.ensures.found

pub loop-next-smaller : goal.loop-next-smaller
loop-next-smaller c =
    let further =
    next_lt_further c.requires.bounded (omega (arith, c.requires.below, c.requires.bounded)) c.loop-next.invariant
    c.union-set.result c.without-left.result _ c.loop-next-test.true
    (has-union (goal.at.loop-next-smaller c).After-lowest-next-in-loop-next) c.without-left.ensures.items
    c.lowest-next-in-loop-next.ensures.below c.lowest-next-in-loop-next.ensures.found in
    omega (arith, further, c.loop-next-test.true)

pub returns : goal.returns
returns c =
    IsReachedFrom-end c.requires.bounded (omega (arith, c.requires.below, c.requires.bounded)) c.loop-next.invariant
    c.loop-next-test.false
