-- Proves `max_items_of_thread`, which returns the maximum number of items on a thread's paths. Jumps lead
-- forward, so the table is filled from the end: the maximum at a position is the statement's items and the
-- maximum over its successors, which are known.
use Rattle.lw_paths.proofs.Common.{suc, most_instructions, ◌+◌, ◌-◌, ◌∙◌, ap, sym, subst, refl, Some, length}
use Rattle.lw_paths.proofs.Common.{slice_set, arith, slice_get-get_or, get_or-replicate}
use Rattle.lw_paths.proofs.api.Successors.{successors-in_range}
use Rattle.lw_paths.proofs.Sizes.{AreKnownFrom, AreKnownFrom-end, AreKnownFrom-set, size_sum_small}
use Rattle.lw_paths.proofs.size.max_items_of_thread.Goals as goal

pub loop-done-init : goal.loop-done-init
loop-done-init g c =
    AreKnownFrom-end _ refl (omega arith)
    (get_or-replicate (suc most_instructions) (length c.as_slice-stmts.result.now) 0 0
    (omega (arith, c.requires.short, ap length c.as_slice-stmts.ensures)))

-- The successors of the statement are within the table.
pub max_items_from-requires-clause-within : goal.max_items_from-requires-clause-within
max_items_from-requires-clause-within g c k has =
    let stmts = c.as_slice-stmts.result.now in
    let at = length stmts - 1 - c.loop-done.done in
    let is =
    slice_get-get_or stmts at c.index-stmts-at.result (omega (arith, c.loop-done-test.true))
    ∙ ap Some (sym c.index-stmts-at.is) in
    let beyond =
    successors-in_range g.S.Statement.language stmts at k c.index-stmts-at.result (rw c.as_slice-stmts.ensures c.requires.forward)
    is has in
    omega (arith, beyond.1, c.requires.short, ap length c.as_slice-stmts.ensures)

-- The maximum at the statement is small.
pub overflow_add-most : goal.overflow_add-most
overflow_add-most g c =
    let stmts = c.as_slice-stmts.result.now in
    let is =
    slice_get-get_or stmts (length stmts - 1 - c.loop-done.done) c.index-stmts-at.result (omega (arith, c.loop-done-test.true))
    ∙ ap Some (sym c.index-stmts-at.is) in
    let few =
    size_sum_small c.loop-done.invariant (omega (arith, c.loop-done-test.true)) is
    (rw c.as_slice-stmts.ensures c.requires.forward) (omega (arith, c.requires.short, ap length c.as_slice-stmts.ensures))
    c.max_items_from.ensures in
    omega (arith, few, c.statement_size.ensures)

-- The table is right at one position more.
pub loop-done-preserved : goal.loop-done-preserved
loop-done-preserved g c =
    let stmts = c.as_slice-stmts.result.now in
    let at = length stmts - 1 - c.loop-done.done in
    let is =
    slice_get-get_or stmts at c.index-stmts-at.result (omega (arith, c.loop-done-test.true))
    ∙ ap Some (sym c.index-stmts-at.is) in
    subst (λ k.
    AreKnownFrom g.S.Statement.language stmts k
    (slice_set c.loop-done.most at (c.statement_size.result + c.max_items_from.result))) (omega (arith, c.loop-done-test.true))
    (AreKnownFrom-set c.loop-done.invariant (omega (arith, c.loop-done-test.true)) is
    (rw c.as_slice-stmts.ensures c.requires.forward) (omega (arith, c.requires.short, ap length c.as_slice-stmts.ensures))
    c.max_items_from.ensures _ (ap (λ n. n + c.max_items_from.result) c.statement_size.ensures))

pub returns-clause-most : goal.returns-clause-most
returns-clause-most g c = rw (← c.as_slice-stmts.ensures) (c.loop-done.invariant.each 0 (omega arith) (omega arith)).is_most

pub returns-clause-bounded : goal.returns-clause-bounded
returns-clause-bounded g c = omega (
  arith,
  (c.loop-done.invariant.each 0 (omega arith) (omega arith)).at_most_two_each,
  c.requires.short,
  ap length c.as_slice-stmts.ensures,
)
