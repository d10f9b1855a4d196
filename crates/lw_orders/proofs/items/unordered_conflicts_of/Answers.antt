-- Proves `unordered_conflicts_of`, which returns the conflicts that the preserved pairs do not order. The loop
-- filters the conflicts by reachability, and `unordered_conflicts-by_sets` says that this leaves the unordered ones. Items are
-- below the limit, as the table's functions require.
use Rattle.lw_orders.proofs.Common.{ℕ, List, not, length, get_or, ap, subst, arith, ◌∙◌, filter, take_all}
use Rattle.lw_orders.proofs.Common.{IsWellFormed, reaches_in, common_steps, IfOk-from_err}
use Rattle.lw_orders.proofs.WalkSets.{unordered_conflicts-by_sets}
use Rattle.lw_orders.proofs.items.unordered_conflicts_of.Goals as goal

pub returns-clause-pairs : goal.returns-clause-pairs
returns-clause-pairs g c =
    c.loop-pair.invariant
    ∙ (ap (filter (λ p. not (reaches_in c.args.reach.now p.0 p.1)))
    (take_all c.loop-pair.pair-index c.deref-pair-items.result.now c.loop-pair-test.false
    ∙ (c.deref-pair-items.ensures.value ∙ ap (λ t. t.conflicts) c.items.view_is))
    ∙ unordered_conflicts-by_sets c.args.items.now (subst IsWellFormed c.items.view_is c.items.invariant) c.args.reach.now
    c.requires)

-- The first item of a conflict is in range, since conflicts are ascending.
pub set_of-requires : goal.set_of-requires
set_of-requires g c =
    let k = c.loop-pair.pair-index in
    let up =
    c.items.invariant.conflicts_up k (0, 0) (omega (arith, c.loop-pair-test.true, ap length c.deref-pair-items.ensures.value)) in
    omega (
      arith,
      up.0,
      up.1,
      c.items.invariant.bounded,
      ap (λ (ps : List (ℕ × ℕ)). (get_or ps k (0, 0)).0) c.deref-pair-items.ensures.value,
    )

-- The second item of a conflict is in range, since conflicts are ascending.
pub contains-requires : goal.contains-requires
contains-requires g c =
    let k = c.loop-pair.pair-index in
    let up =
    c.items.invariant.conflicts_up k (0, 0) (omega (arith, c.loop-pair-test.true, ap length c.deref-pair-items.ensures.value)) in
    omega (
      arith,
      up.1,
      c.items.invariant.bounded,
      ap (λ (ps : List (ℕ × ℕ)). (get_or ps k (0, 0)).1) c.deref-pair-items.ensures.value,
    )

pub offset_bounds-pair-items-pair-index : goal.offset_bounds-pair-items-pair-index
offset_bounds-pair-items-pair-index g c = omega (arith, c.loop-pair-test.true, c.deref-pair-items.type_inv.1)

pub loop-pair-preserved : goal.loop-pair-preserved
loop-pair-preserved g c = grind (arith, common_steps)

pub returns-in_err-push-clause-pairs : goal.returns-in_err-push-clause-pairs
returns-in_err-push-clause-pairs g c = IfOk-from_err _ _ c.from_residual.ensures.0
