-- Proves `fences_of`, which sets a statement's flag if and only if it needs a fence. `AreFencesOfFirst-push` appends the
-- flag of the next statement: set if it is a load at a marked position. By `NeedsFence-found` these flags are the
-- needed fences, since the marks are the positions reachable from stores.
use Rattle.lw_fence.proofs.Common.{◌≡◌, ◌&&◌, ◌∙◌, ℕ, false, ap₂, arith, length, refl, subst, sym}
use Rattle.lw_fence.proofs.Common.{slice_get_read, get_or_from_slice_get, is_load}
use Rattle.lw_fence.proofs.FencesFound.{AreFencesOfFirst, AreFencesOfFirst-none, AreFencesOfFirst-push}
use Rattle.lw_fence.proofs.FencesFound.{NeedsFence-found}
use Rattle.lw_fence.proofs.fences.fences_of.Goals as goal

pub loop-index-init : goal.loop-index-init
loop-index-init g c = AreFencesOfFirst-none c.args.code.now c.in_ok-marks.marks.items _ c.new-fences.ensures.items

-- One more flag says whether its statement is a marked load.
pub loop-index-preserved : goal.loop-index-preserved
loop-index-preserved g c =
    let stmt = c.index-code-index.result in
    let at = slice_get_read c.args.code.now _ _ stmt refl c.loop-index-test.true c.index-code-index.is in
    let marks = c.in_ok-marks.marks.items in
    let there =
    slice_get_read marks _ c.loop-index.index c.index.result.now refl
    (omega (arith, c.in_ok-marks.ensures.as_many, c.loop-index-test.true)) c.index.ensures in
    let mark = sym (get_or_from_slice_get marks c.loop-index.index c.index.result.now false there) in
    AreFencesOfFirst-push c.args.code.now marks _ _ _ c.loop-index.invariant at
    (c.needs_fence.ensures ∙ ap₂ (λ o b. is_load o && b) c.operation-operation.ensures mark) c.in_ok-push.ensures.items

pub returns-clause-needed : goal.returns-clause-needed
returns-clause-needed g c =
    let code = c.args.code.now in
    let passed : c.loop-index.index ≡ length code = omega (arith, c.loop-index-test.false, c.loop-index.auto.index-end) in
    let marks = c.in_ok-marks.marks.items in
    NeedsFence-found code marks c.in_ok-marks.ensures.reachable c.loop-index.fences.items
    (subst (λ (k : ℕ). AreFencesOfFirst code marks k c.loop-index.fences.items) passed c.loop-index.invariant)
