-- Proves `collect_single_order`, which runs the ascending order of items without conflicts. By the law
-- `one_order_without_unordered_conflicts` it is the only order that is enumerated, so its outcome is all that
-- there is (`CollectsOutcomes-only_order`).
use Rattle.lw_finals.proofs.Common.{length, ap, ◌∙◌, filter, not, is_ordered, indices, reduced_constraints_of}
use Rattle.lw_finals.proofs.Common.{IsWellFormed-reduced_pairs}
use Rattle.lw_finals.proofs.Gathering.{CollectsOutcomes-only_order, All-indices_below}
use Rattle.lw_finals.proofs.collect.collect_single_order.Goals as goal

pub collect_order-requires : goal.collect_order-requires
collect_order-requires g c = rw (c.as_slice.ensures ∙ c.ascending-order.ensures) (All-indices_below (length c.args.items.now))

-- The ascending order is the only one that is enumerated, so its outcome is all that there is.
pub returns-clause-gathered : goal.returns-clause-gathered
returns-clause-gathered g c =
    let items = c.args.items.now in
    let one =
    c.one_order_without_unordered_conflicts.ensures (reduced_constraints_of g.S.Statement.language c.args.program.now items)
    (IsWellFormed-reduced_pairs g.S.Statement.language c.args.program.now items c.requires.bounded) in
    let given = rw (c.as_slice.ensures ∙ c.ascending-order.ensures) at c.in_ok-collect_order.ensures.gathered in
    CollectsOutcomes-only_order _ _ _ (indices 0 (length items)) _ _
    (one (ap (filter (λ p. not (is_ordered (reduced_constraints_of g.S.Statement.language c.args.program.now items).preserved p)))
    c.requires.none)) given
