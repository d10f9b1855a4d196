-- Proves `push_path`, which appends the items along one path; if memory runs out the list has the first of
-- them. `path_items-push` appends those of the next position. After a failure what is missing is the rest of
-- this position and all later ones.
use Rattle.lw_paths.proofs.Common.{◌+◌, ◌++◌, ◌∙◌, ap, drop, slice_get, path_items}
use Rattle.lw_paths.proofs.Pushed.{OnErr-always, append-assoc_all, path_items-push}
use Rattle.lw_paths.proofs.items.push_path.Goals as goal

pub loop-position-preserved : goal.loop-position-preserved
loop-position-preserved g c =
    path_items-push g.S.Statement.language c.args.thread c.args.code.now c.args.path.now c.loop-position.position-index 0
    c.loop-position.items.items c.loop-position-test.true (c.get.ensures ∙ ap (slice_get c.args.code.now) c.from.ensures)
    c.in_ok-push_statement.ensures.ok c.loop-position.invariant

-- Memory ran out within a statement: the list has the old items and some of the path's.
pub returns-in_err-push_statement-clause-err : goal.returns-in_err-push_statement-clause-err
returns-in_err-push_statement-clause-err g c =
    let left = c.in_err-push_statement.ensures.err in
    let more =
    path_items g.S.Statement.language c.args.thread c.args.code.now (drop (c.loop-position.position-index + 1) c.args.path.now) in
    let whole =
    path_items-push g.S.Statement.language c.args.thread c.args.code.now c.args.path.now c.loop-position.position-index 0
    c.loop-position.items.items c.loop-position-test.true (c.get.ensures ∙ ap (slice_get c.args.code.now) c.from.ensures) left.1
    c.loop-position.invariant in
    OnErr-always c.from_residual.result (left.0 ++ more, append-assoc_all _ left.0 more whole)
