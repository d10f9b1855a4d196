-- Proves `collect_conflicting`, which collects the outcomes of the enumerated orders of items with conflicts.
-- The orders that remain in the new iterator are all of them, each is of the items' indices, and no iterator
-- means that there are too many: three clauses of `Orders::new`, with the reduced constraints put in place of
-- the argument.
use Rattle.lw_finals.proofs.collect.collect_conflicting.Goals as goal

pub collect_orders-requires : goal.collect_orders-requires
collect_orders-requires g c = rw (c.in-Some.is, c.in_ok-constraints.ensures) at c.in_ok-orders.ensures.within

pub returns-clause-gathered : goal.returns-clause-gathered
returns-clause-gathered g c =
    let all = rw (c.in-Some.is, c.in_ok-constraints.ensures) at c.in_ok-orders.ensures.sequence in
    rw all at c.in_ok-collect_orders.ensures.gathered

pub returns-in_default-clause-err : goal.returns-in_default-clause-err
returns-in_default-clause-err g c = rw (c.in_default.is, c.in_ok-constraints.ensures) at c.in_ok-orders.ensures.limit
