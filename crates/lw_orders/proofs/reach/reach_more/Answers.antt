-- Proves `reach_more`, which computes reachability with one more pair: i reaches j if it did, or if i reaches the
-- pair's first item and its second reaches j. A set is joined (`IsGrowing-set_joined`) or unchanged (`IsGrowing-set_unchanged`). If
-- the first item reaches the second already, nothing changes, since reachability is transitive.
use Rattle.lw_orders.proofs.Common.{◌≡◌, ◌^◌, ◌||◌, not, arith, ap, sym, ◌∙◌, has, are_disjoint, reaches_in}
use Rattle.lw_orders.proofs.Common.{common_steps}
use Rattle.lw_orders.proofs.Bits.{has-bit}
use Rattle.lw_orders.proofs.WalkSets.{IsGrowing-set_joined, IsGrowing-set_unchanged}
use Rattle.lw_orders.proofs.reach.reach_more.Given.{Over}
use Rattle.lw_orders.proofs.reach.reach_more.Goals.{After-is_disjoint, then-not-is_disjoint}
use Rattle.lw_orders.proofs.reach.reach_more.Goals.{else-not-is_disjoint}
use Rattle.lw_orders.proofs.reach.reach_more.Goals as goal

-- The item's set is disjoint from the pair's first item if and only if the item does not reach it.
reaches-iff_not_disjoint : (g : Over) (c : After-is_disjoint g)
    → not c.is_disjoint.result ≡ reaches_in c.args.sets.now c.loop-item.item c.args.from
reaches-iff_not_disjoint g c =
    ap not
    (c.is_disjoint.ensures
    ∙ (ap (are_disjoint c.set_of-in-loop-item.result) c.only-first.ensures
    ∙ ap (λ set_of. are_disjoint set_of (2 ^ c.args.from)) c.set_of-in-loop-item.ensures))
    ∙ has-bit _ c.args.from

-- One more item's set is extended: joined with the second item's set if the item reaches the first, unchanged otherwise.
pub loop-item-preserved : goal.loop-item-preserved
loop-item-preserved g c =
    let d = (goal.at.loop-item-preserved g c).After-is_disjoint in
    elim c.if-not-is_disjoint.branch [
      | then-not-is_disjoint w ↦
          rw w.more-is
          (IsGrowing-set_joined c.requires.bounded c.loop-item-test.true c.loop-item.invariant w.union.result (λ j l.
          w.union.ensures j l
          ∙ (ap (λ set_of. has set_of j || has c.set_of-reached_from_to.result j) w.set_of-then-not-is_disjoint.ensures
          ∙ ap (λ set_of. reaches_in c.args.sets.now c.loop-item.item j || has set_of j) c.set_of-reached_from_to.ensures))
          (sym (reaches-iff_not_disjoint g d) ∙ ap not w.if-not-is_disjoint.true))
      | else-not-is_disjoint w ↦
          rw w.more-is
          (IsGrowing-set_unchanged c.requires.bounded c.loop-item-test.true c.loop-item.invariant
          (sym (reaches-iff_not_disjoint g d) ∙ ap not w.if-not-is_disjoint.false))
    ]

pub returns : goal.returns
returns g c i j li lj = c.loop-item.invariant.grown i j (omega (arith, li, c.loop-item-test.false)) lj

pub loop-item-init : goal.loop-item-init
loop-item-init g c = grind (arith, common_steps)

pub returns-then-contains : goal.returns-then-contains
returns-then-contains g c = grind (arith, common_steps)
