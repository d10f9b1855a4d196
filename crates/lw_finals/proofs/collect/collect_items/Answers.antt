-- Proves `collect_items`, which collects the outcomes of all orders of the items. The only goal that the
-- search leaves is that nothing conflicts if the list of conflicts is empty (`nil-if_length_zero`).
use Rattle.lw_finals.proofs.Common.{◌≡◌, sym, ◌∙◌, constraints_of}
use Rattle.lw_finals.proofs.Gathering.{nil-if_length_zero}
use Rattle.lw_finals.proofs.collect.collect_items.Goals as goal

pub collect_single_order-requires-then-is_empty-clause-none : goal.collect_single_order-requires-then-is_empty-clause-none
collect_single_order-requires-then-is_empty-clause-none g c =
    let conflicts : c.in_ok-conflicts.conflicts.items
    ≡ (constraints_of g.S.Statement.language c.args.program.now c.args.items.now).conflicts = c.in_ok-conflicts.ensures in
    let none = nil-if_length_zero _ _ _ c.is_empty.ensures c.if-is_empty.true c.in_ok-conflicts.conflicts.ok.0 in
    sym conflicts ∙ none
