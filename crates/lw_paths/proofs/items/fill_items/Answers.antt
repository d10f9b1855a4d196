-- Proves `fill_items`, which fills a list with the items of a path assignment, thread by thread; if memory
-- runs out the list has the first of them. `items_from-push` appends the items of the next thread's path. The
-- thread's index is that of a processor, since there are at most four paths.
use Rattle.lw_paths.proofs.Common.{◌≡◌, ◌≤◌, ◌++◌, sym, ap₂, length, drop, append-nil, arith, ltb-false, ◌+◌}
use Rattle.lw_paths.proofs.Common.{refl, drop_all, map, most_threads, items_from, path_items, path_of}
use Rattle.lw_paths.proofs.Common.{common_steps, IfOk-from_err}
use Rattle.lw_paths.proofs.Pushed.{OnErr-always, append-assoc_all, append-is_take, SomeIff-value}
use Rattle.lw_paths.proofs.Pushed.{SomeIff-is_some, items_from-push, items_from-no_paths}
use Rattle.lw_paths.proofs.items.fill_items.Goals as goal

-- The items of one more thread's path are appended.
pub loop-thread-preserved : goal.loop-thread-preserved
loop-thread-preserved g c =
    let cpu : c.unwrap-cpu.result ≡ c.loop-thread.thread =
    SomeIff-value _ c.new.result c.loop-thread.thread c.unwrap-cpu.result c.new.ensures c.unwrap-cpu.ensures in
    let same : path_items g.S.Statement.language c.unwrap-cpu.result c.in-Some.code.now c.as_slice.result.now
    ≡ path_items g.S.Statement.language c.loop-thread.thread c.in-Some.code.now (path_of c.path-item.result) =
    ap₂ (λ t p. path_items g.S.Statement.language t c.in-Some.code.now p) cpu c.as_slice.ensures in
    let pushed : c.push_path.new.items.items
    ≡ c.loop-thread.items.items
    ++ path_items g.S.Statement.language c.loop-thread.thread c.in-Some.code.now (path_of c.path-item.result) =
    rw (← same) c.in_ok-push_path.ensures.ok in
    record {
      bounded = c.loop-thread.invariant.bounded;
      items =
          items_from-push g.S.Statement.language path_of c.args.program.now c.as_slice-path-items.result.now c.loop-thread.thread
          c.loop-thread.items.items c.in-Some.ensures.lookup.3.0 c.loop-thread-test.true c.in-Some.ensures.lookup.1 c.path-item.is
          pushed c.loop-thread.invariant.items;
    }

pub returns-clause-ok : goal.returns-clause-ok
returns-clause-ok g c =
    rw (
      drop_all c.loop-thread.thread c.as_slice-path-items.result.now c.loop-thread-test.false,
      items_from-no_paths g.S.Statement.language c.loop-thread.thread (drop c.loop-thread.thread c.args.program.now),
      append-nil,
    ) at c.loop-thread.invariant.items

pub overflow_cast-thread : goal.overflow_cast-thread
overflow_cast-thread g c = omega (arith, c.loop-thread-test.true, c.loop-thread.invariant.bounded)

pub unwrap-cpu-requires : goal.unwrap-cpu-requires
unwrap-cpu-requires g c =
    SomeIff-is_some c.new.result c.loop-thread.thread most_threads c.new.ensures
    (omega (arith, c.loop-thread-test.true, c.loop-thread.invariant.bounded))

pub returns-in_default-clause-ok : goal.returns-in_default-clause-ok
returns-in_default-clause-ok g c =
    rw (
      drop_all c.loop-thread.thread c.args.program.now
          (ltb-false c.loop-thread.thread (length c.args.program.now) (sym c.in_default.ensures.lookup.0)),
      append-nil,
    ) at c.loop-thread.invariant.items

pub bounds-path-items-thread : goal.bounds-path-items-thread
bounds-path-items-thread g c = c.loop-thread-test.true

pub offset_bounds-path-items-thread : goal.offset_bounds-path-items-thread
offset_bounds-path-items-thread g c =
    let few : length c.as_slice-path-items.result.now ≤ 4 = c.loop-thread.invariant.bounded in
    omega (arith, few, c.loop-thread-test.true)

-- Memory ran out within a thread's path: the list has some of the first items.
pub returns-in_err-push_path-clause-err : goal.returns-in_err-push_path-clause-err
returns-in_err-push_path-clause-err g c =
    let left = c.in_err-push_path.ensures.err in
    let cpu : c.unwrap-cpu.result ≡ c.loop-thread.thread =
    SomeIff-value _ c.new.result c.loop-thread.thread c.unwrap-cpu.result c.new.ensures c.unwrap-cpu.ensures in
    let same : path_items g.S.Statement.language c.unwrap-cpu.result c.in-Some.code.now c.as_slice.result.now
    ≡ path_items g.S.Statement.language c.loop-thread.thread c.in-Some.code.now (path_of c.path-item.result) =
    ap₂ (λ t p. path_items g.S.Statement.language t c.in-Some.code.now p) cpu c.as_slice.ensures in
    let pushed : c.push_path.new.items.items ++ left.0
    ≡ c.loop-thread.items.items
    ++ path_items g.S.Statement.language c.loop-thread.thread c.in-Some.code.now (path_of c.path-item.result) =
    rw (← same) left.1 in
    let more =
    items_from g.S.Statement.language (c.loop-thread.thread + 1) (drop (c.loop-thread.thread + 1) c.args.program.now)
    (map path_of (drop (c.loop-thread.thread + 1) c.as_slice-path-items.result.now)) in
    let whole =
    items_from-push g.S.Statement.language path_of c.args.program.now c.as_slice-path-items.result.now c.loop-thread.thread
    c.loop-thread.items.items c.in-Some.ensures.lookup.3.0 c.loop-thread-test.true c.in-Some.ensures.lookup.1 c.path-item.is
    pushed c.loop-thread.invariant.items in
    let all = append-assoc_all _ left.0 more whole in
    OnErr-always c.from_residual.result (append-is_take _ (left.0 ++ more) all)

pub returns-in_err-push_path-clause-ok : goal.returns-in_err-push_path-clause-ok
returns-in_err-push_path-clause-ok g c = IfOk-from_err _ _ c.from_residual.ensures.0

pub loop-thread-init : goal.loop-thread-init
loop-thread-init g c =
    record { bounded = grind (arith, common_steps); items = rw (c.clear.ensures.items, c.as_slice-path-items.ensures) refl }
