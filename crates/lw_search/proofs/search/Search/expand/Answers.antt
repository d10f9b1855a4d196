-- Proves `expand`, which finds all successors of the state at an index, so that one more state counts as visited.
-- Each round covers the events of one more thread. `ExpandsState-both` is the reason that this is enough: states
-- found later keep what was covered before.
use Rattle.lw_search.proofs.Common.{◌+◌, ◌∙◌, arith, ap, length, CoversThread, DescribeState}
use Rattle.lw_search.proofs.Common.{HasConflictsOfOthers, State}
use Rattle.lw_search.proofs.Settling.{DescribeState-same_program, RepresentsThreads-of_state}
use Rattle.lw_search.proofs.Successors.{ExpandsState-both, ExpandsState-if_more_holds, ExpandsState-mono}
use Rattle.lw_search.proofs.Successors.{IsMonotone-CoversThreads, CoversThreads-next, ExpandsUpTo-all_threads}
use Rattle.lw_search.proofs.Successors.{CoversThreads}
use Rattle.lw_search.proofs.search.Search.expand.Goals as goal

-- A round covers the successors by one more thread.
pub loop-thread-preserved : goal.loop-thread-preserved
loop-thread-preserved g c =
    let program = c.args.self.now.program.now.threads in
    let thread = c.loop-thread.thread in
    let key = c.key-key.result in
    let outlooks = c.outlooks-outlooks.result.threads in
    let Described : State → Type 0 = λ s. DescribeState program s outlooks in
    let thread_covered = rw (c.loop-thread.invariant.program_is, c.cpu_at-cpu.ensures) at c.in_ok-expand_thread.ensures.covered in
    let are_conflicts = rw c.cpu_at-cpu.ensures at c.conflicts_with_others-conflicts.ensures in
    record {
      program_is = c.in_ok-expand_thread.ensures.program ∙ c.loop-thread.invariant.program_is;
      expands =
          ExpandsState-mono program c.args.at key Described
          (λ s more. CoversThreads program thread s more × CoversThread program thread s more)
          (CoversThreads program (thread + 1)) (CoversThreads-next program thread)
          (ExpandsState-both program c.args.at key Described (CoversThreads program thread) (CoversThread program thread)
          (IsMonotone-CoversThreads program thread) c.loop-thread.invariant.expands
          (ExpandsState-if_more_holds program c.args.at key
          (λ s. HasConflictsOfOthers program s thread c.conflicts_with_others-conflicts.result) Described
          (CoversThread program thread) (are_conflicts program) thread_covered));
      kept = rw c.loop-thread.invariant.program_is at c.in_ok-expand_thread.ensures.kept;
    }

-- At the loop's end the successors by all threads are covered, so the state is expanded.
pub returns-clause-expanded : goal.returns-clause-expanded
returns-clause-expanded g c =
    let program = c.args.self.now.program.now.threads in
    let tables = c.args.self.now.tables in
    let key = c.key-key.result in
    let outlooks = c.outlooks-outlooks.result.threads in
    ExpandsUpTo-all_threads program c.args.at c.loop-thread.thread key (λ s. DescribeState program s outlooks)
    (omega (arith, c.loop-thread-test.false, ap length c.as_slice-code-items.ensures)) c.key-key.ensures (λ s is_represented.
    DescribeState-same_program program key outlooks s c.requires.kept.of_program (c.outlooks-outlooks.ensures s)
    (RepresentsThreads-of_state program tables key s is_represented)) c.loop-thread.invariant.expands
