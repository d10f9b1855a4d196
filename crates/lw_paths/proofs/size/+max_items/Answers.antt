-- Proves `max_items`, which returns the maximum number of items of a program's path assignments. It is the sum of
-- the threads' maxima (`IsMost-more_threads`), since a path assignment chooses each thread's path by itself. The sum
-- is small, so nothing overflows.
use Rattle.lw_paths.proofs.Common.{arith, rules, ap, ◌<◌, length, IsVisitable}
use Rattle.lw_paths.proofs.Sizes.{IsMost-more_threads, IsMost-no_threads, visitable_first, visitable_rest}
use Rattle.lw_paths.proofs.size.+max_items.Goals as goal

pub max_items_of_thread-requires : goal.max_items_of_thread-requires
max_items_of_thread-requires g t c =
    let first = visitable_first _ _ c.in-Some.code.now _ c.in-Some.ensures.cases.0 c.requires in
    record { short = first.0; forward = first.1 }

pub max_items-requires : goal.max_items-requires
max_items-requires g t c κs within =
    let rest = visitable_rest _ _ c.in-Some.code.now _ c.in-Some.ensures.cases.0 c.requires in
    let visitable : IsVisitable g.S.Statement.language c.in-Some.others.now = rest.0 in
    let fewer : length c.in-Some.others.now < length c.args.program.now = rest.1 in
    search rules

pub overflow_add-result : goal.overflow_add-result
overflow_add-result g t c = omega (
  arith,
  ap length c.in-Some.ensures.cases.0,
  c.requires.bounded,
  c.max_items_of_thread.ensures.bounded,
  c.max_items.ensures.bounded,
)

pub returns-in-Some-clause-most : goal.returns-in-Some-clause-most
returns-in-Some-clause-most g t c =
    IsMost-more_threads g.S.Statement.language c.args.program.now c.in-Some.code.now c.in-Some.others.now _ c.max_items.result
    c.in-Some.ensures.cases.0 c.max_items_of_thread.ensures.most c.max_items.ensures.most

pub returns-in-Some-clause-bounded : goal.returns-in-Some-clause-bounded
returns-in-Some-clause-bounded g t c =
    omega (arith, ap length c.in-Some.ensures.cases.0, c.max_items_of_thread.ensures.bounded, c.max_items.ensures.bounded)

pub returns-in-None-clause-most : goal.returns-in-None-clause-most
returns-in-None-clause-most g t c = IsMost-no_threads g.S.Statement.language _ c.in-None.ensures.cases

pub returns-in-None-clause-bounded : goal.returns-in-None-clause-bounded
returns-in-None-clause-bounded g t c = omega arith
