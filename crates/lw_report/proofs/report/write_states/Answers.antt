-- Proves `write_states`, which appends the line of each state. `state_line-written` says that the words after
-- their labels are the state's line; `items_written-push` adds it to those before.
use Rattle.lw_report.proofs.Common.{◌∙◌, ap, refl, head_of, items_written-push, items_written-all}
use Rattle.lw_report.proofs.Common.{ListedState}
use Rattle.lw_report.proofs.Lines.{state_line-written}
use Rattle.lw_report.proofs.report.write_states.Goals as goal

pub loop-state-init : goal.loop-state-init
loop-state-init g c = refl

pub loop-state-preserved : goal.loop-state-preserved
loop-state-preserved g c =
    let written =
    state_line-written (head_of c.args.head.now) c.as_slice.result.now _ c.state-item.result.words _ _ c.in_ok-write_state.ensures
    (c.as_slice.ensures ∙ c.in_ok-labels.ensures)
    (c.as_slice-in-loop-state.ensures ∙ ap (λ (s : ListedState). s.words) c.state.view_is) in
    items_written-push _ _ _ _ _ c.loop-state.invariant _ _ c.loop-state-test.true c.state-item.is written

pub returns : goal.returns
returns g c = items_written-all _ c.args.states.now _ _ _ c.loop-state.invariant c.loop-state-test.false
