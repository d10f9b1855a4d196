-- Proves `starts_of`, which returns the index of each statement's first instruction, and the number of all.
-- `starts_from-push` appends the next start. A lowering has at most two instructions, so the sum does not overflow.
use Rattle.lw_fence.proofs.Common.{ap, ap₂, arith, length, sym, ◌++◌, ◌∙◌, drop_all, instrs_of, starts_from}
use Rattle.lw_fence.proofs.CodeLayout.{starts_from-push}
use Rattle.lw_fence.proofs.starts.starts_of.Goals as goal

pub loop-index-preserved : goal.loop-index-preserved
loop-index-preserved g c = record {
  so_far =
      starts_from-push _ c.args.code.now _ _ c.loop-index-test.true c.requires.as_many c.index-code-index.is c.len-next.result
      c.loop-index.next _ c.push.new.self c.loop-index.invariant.so_far
      (c.len-next.ensures.result_is ∙ ap (λ r. length (instrs_of r)) c.of.ensures) c.in_ok-push.ensures.ok;
  bounded = omega (arith, c.loop-index.invariant.bounded, c.len-next.ensures.bounded);
}

pub loop-index-init : goal.loop-index-init
loop-index-init g c = record {
  so_far = ap (λ starts. starts ++ starts_from 0 c.args.fences.now c.args.code.now) (sym c.new-starts.ensures);
  bounded = omega arith;
}

pub bounds-code-index : goal.bounds-code-index
bounds-code-index g c = c.loop-index-test.true

pub bounds-fences-index : goal.bounds-fences-index
bounds-fences-index g c = omega (arith, c.loop-index-test.true, c.requires.as_many)

pub overflow_add-next : goal.overflow_add-next
overflow_add-next g c =
    omega (arith, c.loop-index.invariant.bounded, c.len-next.ensures.bounded, c.loop-index-test.true, c.requires.short)

pub returns : goal.returns
returns g c =
    let past = c.loop-index-test.false in
    let fences = drop_all c.loop-index.index c.args.fences.now (omega (arith, past, c.requires.as_many)) in
    c.in_ok-push-2.ensures.ok
    ∙ sym (c.loop-index.invariant.so_far
    ∙ ap₂ (λ fs code. c.loop-index.starts ++ starts_from c.loop-index.next fs code) fences
    (drop_all c.loop-index.index c.args.code.now past))
