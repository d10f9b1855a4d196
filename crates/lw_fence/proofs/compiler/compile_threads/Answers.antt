-- Proves `compile_threads`: each thread of the source is compiled. `AreCompiled-push` appends the next thread,
-- which is well-formed, as `compile_thread` requires (`IsWellFormedThread-of_round`).
use Rattle.lw_fence.proofs.Common.{◌∙◌, ap, arith, get_or, length, refl, subst, sym, slice_get_read}
use Rattle.lw_fence.proofs.Common.{source_language, IsWellFormedThread}
use Rattle.lw_fence.proofs.CompiledThreads.{AreCompiled-none, AreCompiled-push}
use Rattle.lw_fence.proofs.compiler.compile_threads.Given as given
use Rattle.lw_fence.proofs.compiler.compile_threads.Goals as goal

-- The thread of this round is well-formed.
IsWellFormedThread-of_round : (g : given.Over) (c : goal.After-as_slice g)
    → IsWellFormedThread source_language (length c.args.source.now.head.locs) c.as_slice.result.now
IsWellFormedThread-of_round g c =
    let stmts = c.stmts-item.result in
    let k = c.loop-stmts.stmts-index in
    let all = c.as_slice-stmts-items.ensures in
    let is = c.as_slice.ensures ∙ (c.stmts-item.is ∙ ap (λ codes. get_or codes k stmts) all) in
    subst (IsWellFormedThread source_language (length c.args.source.now.head.locs)) (sym is)
    (c.args.source.now.well_formed.code k stmts (omega (arith, c.loop-stmts-test.true, ap length all)))

pub loop-stmts-init : goal.loop-stmts-init
loop-stmts-init g c = AreCompiled-none c.args.source.now.threads _ c.new-instrs.ensures c.new-starts.ensures

pub loop-stmts-preserved : goal.loop-stmts-preserved
loop-stmts-preserved g c =
    let read = slice_get_read _ _ _ c.stmts-item.result refl c.loop-stmts-test.true c.stmts-item.is in
    let at = rw c.as_slice-stmts-items.ensures at read in
    AreCompiled-push _ c.loop-stmts.invariant at (rw c.as_slice.ensures at c.in_ok-code.ensures) c.in_ok-push.ensures.ok
    c.in_ok-push-2.ensures.ok

pub compile_thread-requires-clause-short : goal.compile_thread-requires-clause-short
compile_thread-requires-clause-short g c = (IsWellFormedThread-of_round g c).short

pub compile_thread-requires-clause-forward : goal.compile_thread-requires-clause-forward
compile_thread-requires-clause-forward g c = (IsWellFormedThread-of_round g c).forward

pub bounds-stmts-items-stmts-index : goal.bounds-stmts-items-stmts-index
bounds-stmts-items-stmts-index g c = c.loop-stmts-test.true

pub returns-clause-as_many : goal.returns-clause-as_many
returns-clause-as_many g c = omega (
  arith,
  c.loop-stmts.invariant.as_many,
  c.loop-stmts-test.false,
  c.loop-stmts.auto.stmts-index-end,
  ap length c.as_slice-stmts-items.ensures,
)

pub returns-clause-as_many_starts : goal.returns-clause-as_many_starts
returns-clause-as_many_starts g c = omega (
  arith,
  c.loop-stmts.invariant.as_many_starts,
  c.loop-stmts-test.false,
  c.loop-stmts.auto.stmts-index-end,
  ap length c.as_slice-stmts-items.ensures,
)

pub returns-clause-threads : goal.returns-clause-threads
returns-clause-threads g c = c.loop-stmts.invariant.each
