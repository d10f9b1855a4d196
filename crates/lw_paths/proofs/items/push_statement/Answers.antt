-- Proves `push_statement`, which appends a statement's item, and its drain's if it has one; if memory runs
-- out the list has some of them. The cases are the two places where memory may run out, and that of both
-- items.
use Rattle.lw_paths.proofs.Common.{◌++◌, ap, items_at, option_copied, List, Item, common_steps, arith}
use Rattle.lw_paths.proofs.Pushed.{OnErr-always}
use Rattle.lw_paths.proofs.items.push_statement.Goals as goal

pub returns-in_err-push-clause-err : goal.returns-in_err-push-clause-err
returns-in_err-push-clause-err g c =
    let all = items_at g.S.Statement.language c.args.thread c.args.position (option_copied c.args.stmt) in
    OnErr-always c.from_residual.result (all, ap (λ (items : List Item). items ++ all) c.in_err-push.ensures.items)

pub returns-in_err-push-2-clause-err : goal.returns-in_err-push-2-clause-err
returns-in_err-push-2-clause-err g c = grind (arith, common_steps)

pub returns-in_ok-push-2-clause-ok : goal.returns-in_ok-push-2-clause-ok
returns-in_ok-push-2-clause-ok g c = grind (arith, common_steps)
