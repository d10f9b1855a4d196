-- Proves `count_orders`, which returns the number of orders of a path assignment's items, or `None` above the
-- limit. Without conflicts it is one (`orientation_count-no_conflicts`); otherwise the reduced pairs are counted, and leave as
-- many orientations as all preserved pairs (`orientation_count-reduced_items`).
use Rattle.lw_paths.proofs.Common.{◌≡◌, ◌≤◌, ◌<◌, ℕ, ◌∙◌, ap, arith, length, subst, sym, IfOk, MatchOption}
use Rattle.lw_paths.proofs.Common.{eqb-true, most_orders, Constraints, orientation_count, constraints_of}
use Rattle.lw_paths.proofs.Pushed.{orientation_count-no_conflicts}
use Rattle.lw_paths.proofs.api.Reduced.{orientation_count-reduced_items}
use Rattle.lw_paths.proofs.count.count_orders.Goals as goal

pub returns-then-is_empty : goal.returns-then-is_empty
returns-then-is_empty g c =
    let conflicts = c.in_ok-conflicts.conflicts in
    let none = sym conflicts.ok.0 ∙ eqb-true _ 0 (sym c.is_empty.ensures ∙ c.if-is_empty.true) in
    let all = constraints_of g.S.Statement.language c.args.program.now c.args.items.now in
    (orientation_count-no_conflicts all (ap length (sym c.in_ok-conflicts.ensures) ∙ none), omega arith)

-- The orientations are counted with the reduced pairs, and are as many as with all preserved pairs.
pub returns : goal.returns
returns g c =
    let counted =
    subst (λ (t : Constraints).
    IfOk c.count.result
    (λ n. MatchOption n (most_orders < orientation_count t) (λ k. (k ≡ orientation_count t) × (k ≤ most_orders))))
    c.in_ok-constraints.ensures c.count.ensures.number in
    subst (λ (ways : ℕ). IfOk c.count.result (λ n. MatchOption n (most_orders < ways) (λ k. (k ≡ ways) × (k ≤ most_orders))))
    (orientation_count-reduced_items g.S.Statement.language c.args.program.now c.args.items.now c.requires.of_assignment.0
    c.requires.of_assignment.1) counted
