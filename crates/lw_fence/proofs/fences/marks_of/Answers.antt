-- Proves `marks_of`, which marks exactly the positions that a flow path reaches from a store that may still
-- be buffered. Jumps lead forward, so one pass is enough: when a statement is passed, its own mark is final
-- (`AreMarksAfter-next`).
use Rattle.lw_fence.proofs.Common.{◌+◌, ℕ, ap, arith, length, refl, sym, ◌∙◌, subst, slice_get_read}
use Rattle.lw_fence.proofs.Common.{branch_target, common_steps}
use Rattle.lw_fence.proofs.Marks.{AreMarksAfter, AreMarksAfter-next, AreMarksAfter-end, take-replaced_front}
use Rattle.lw_fence.proofs.fences.marks_of.Goals as goal

-- The marks after one statement more: its successors are marked, if a store may be buffered after it.
pub loop-index-preserved : goal.loop-index-preserved
loop-index-preserved g c =
    let code = c.args.code.now in
    let marks = c.loop-index.marks.items in
    let stmt = c.index-code-index.result in
    let at = slice_get_read _ _ c.loop-index.index stmt refl c.loop-index-test.true c.index-code-index.is in
    let next = AreMarksAfter-next code c.requires.forward c.loop-index.index stmt _ _ at refl c.loop-index.invariant in
    let new : AreMarksAfter code (c.loop-index.index + 1) c.propagate_marks.new.marks =
    rw (c.propagate_marks.ensures, c.operation.ensures, c.deref_mut.ensures.value) next in
    let back = take-replaced_front marks _ _ _ (omega arith) (new.as_many ∙ sym c.loop-index.invariant.as_many) in
    subst (AreMarksAfter code (c.loop-index.index + 1)) (sym back) new

pub returns-clause-reachable : goal.returns-clause-reachable
returns-clause-reachable g c =
    let code = c.args.code.now in
    let marks = c.loop-index.marks.items in
    AreMarksAfter-end code c.requires.forward marks
    (subst (λ (k : ℕ). AreMarksAfter code k marks) (omega (arith, c.loop-index-test.false, c.loop-index.auto.index-end))
    c.loop-index.invariant)

pub overflow_add-code : goal.overflow_add-code
overflow_add-code g c = omega (arith, c.requires.short)

pub bounds-code-index : goal.bounds-code-index
bounds-code-index g c = c.loop-index-test.true

-- The successors of the statement are within the marks, since jumps lead forward, at most to the end.
pub propagate_marks-requires : goal.propagate_marks-requires
propagate_marks-requires g c =
    let at = slice_get_read c.args.code.now _ _ _ refl c.loop-index-test.true c.index-code-index.is in
    let many = ap length c.deref_mut.ensures.value in
    record {
      next = omega (arith, many, c.loop-index.invariant.as_many, c.loop-index-test.true);
      target = λ x is. omega (
        arith,
        many,
        c.loop-index.invariant.as_many,
        c.requires.forward c.loop-index.index c.index-code-index.result at x (ap branch_target (sym c.operation.ensures) ∙ is),
      );
    }

pub returns-clause-as_many : goal.returns-clause-as_many
returns-clause-as_many g c = omega (arith, c.loop-index.invariant.as_many)

pub loop-index-init : goal.loop-index-init
loop-index-init g c = grind (arith, common_steps)
