-- Proves `collect_orders`, which collects the outcomes of all orders that the iterator still has.
-- `CollectedUpTo-next` moves one order from those that remain to those that are collected. Each order is within
-- the items, since the iterator only returns what it had at first.
use Rattle.lw_finals.proofs.Common.{ℕ, List, length, ◌<◌, refl, sym, ◌∙◌, subst, All, Contains, All-contains}
use Rattle.lw_finals.proofs.Common.{Progress, Contains-head}
use Rattle.lw_finals.proofs.Gathering.{CollectedUpTo-next}
use Rattle.lw_finals.proofs.collect.collect_orders.Goals as goal

-- The next order is one of those that the iterator had at first, so its items are in range.
pub collect_order-requires : goal.collect_order-requires
collect_order-requires g c =
    let IsWithin : List ℕ → Type 0 = λ order. All (λ i. i < length c.args.items.now) order in
    let all = c.into_iter-order-iterator.result.to_come in
    let each : All IsWithin all =
    subst (λ (p : Progress). All IsWithin p.to_come) (sym c.into_iter-order-iterator.ensures.into_iter_gives) c.requires in
    let first =
    subst (λ (xs : List (List ℕ)). Contains xs c.in-Some.order) (sym c.in-Some.ensures.steps.first)
    (Contains-head c.in-Some.order c.in-Some.order _ refl) in
    let is_member : Contains all c.in-Some.order = c.loop-order.invariant.run.among c.in-Some.order first in
    subst IsWithin (sym c.as_slice.ensures) (All-contains IsWithin all _ each is_member)

-- The outcome of one more order is collected.
pub loop-order-preserved : goal.loop-order-preserved
loop-order-preserved g c =
    let ends = g.R.OrderRunner.ends (g.R.OrderRunner.test c.args.runner.now) c.args.items.now in
    let leads = g.R.OrderRunner.leads (g.R.OrderRunner.test c.args.runner.now) in
    let all = c.into_iter-order-iterator.result.to_come in
    let more = rw (c.loop-order.invariant.same, c.as_slice.ensures) at c.in_ok-collect_order.ensures.gathered in
    record {
      same = c.collect_order.ensures.same ∙ c.loop-order.invariant.same;
      run = CollectedUpTo-next ends _ all _ c.in-Some.ensures.steps.first c.loop-order.invariant.run more;
    }
