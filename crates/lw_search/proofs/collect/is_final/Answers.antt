-- Proves `is_final`, whose answer is right, either way, for each machine state that the key represents. A thread
-- that is not done refutes finality (`not-is_final-if_unfinished`, by the index of that thread); the end of the loop implies
-- it (`is_final-if_all_done`).
use Rattle.lw_search.proofs.Common.{◌<◌, arith, ap, length}
use Rattle.lw_search.proofs.Collected.{slice_get-loop_item, AreDone-next, is_final-if_all_done}
use Rattle.lw_search.proofs.Collected.{not-is_final-if_unfinished}
use Rattle.lw_search.proofs.collect.is_final.Goals as goal

pub returns-then-not-is_done-clause-no : goal.returns-then-not-is_done-clause-no
returns-then-not-is_done-clause-no g c =
    let program = c.args.program.now.threads in
    let lt : c.loop-thread.thread < length program =
    omega (arith, c.loop-thread-test.true, ap length c.as_slice-code-items.ensures) in
    let at = slice_get-loop_item program _ c.loop-thread.thread _ c.as_slice-code-items.ensures lt c.code-item.is in
    λ e.
    not-is_final-if_unfinished program c.args.tables.now c.args.key.now c.loop-thread.thread _ c.is_done.result at
    (rw (c.cpu_at.ensures, c.len.ensures) at c.is_done.ensures) c.if-not-is_done.true

pub loop-thread-preserved : goal.loop-thread-preserved
loop-thread-preserved g c =
    let program = c.args.program.now.threads in
    let lt : c.loop-thread.thread < length program =
    omega (arith, c.loop-thread-test.true, ap length c.as_slice-code-items.ensures) in
    let at = slice_get-loop_item program _ c.loop-thread.thread _ c.as_slice-code-items.ensures lt c.code-item.is in
    AreDone-next program c.args.tables.now c.args.key.now c.loop-thread.thread _ c.is_done.result c.loop-thread.invariant at
    (rw (c.cpu_at.ensures, c.len.ensures) at c.is_done.ensures) c.if-not-is_done.false

pub returns-clause-yes : goal.returns-clause-yes
returns-clause-yes g c =
    let program = c.args.program.now.threads in
    λ e.
    is_final-if_all_done program c.args.tables.now c.args.key.now c.loop-thread.thread c.loop-thread.invariant
    (omega (arith, c.loop-thread-test.false, ap length c.as_slice-code-items.ensures))
