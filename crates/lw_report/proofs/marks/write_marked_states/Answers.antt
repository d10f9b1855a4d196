-- Proves `write_marked_states`, which appends the line of each state after its mark. `marked_line-written` says
-- that mark and line make the state's text; `items_written-push` adds it to those before.
use Rattle.lw_report.proofs.Common.{mark_text, ◌∙◌, ap, refl, head_of, items_written-push, items_written-all}
use Rattle.lw_report.proofs.Common.{ListedState, projection_of}
use Rattle.lw_report.proofs.Lines.{marked_line-written}
use Rattle.lw_report.proofs.marks.write_marked_states.Goals as goal

pub loop-state-init : goal.loop-state-init
loop-state-init g c = refl

pub loop-state-preserved : goal.loop-state-preserved
loop-state-preserved g c =
    let state = c.state-item.result in
    let written =
    marked_line-written (head_of c.args.head.now) c.as_slice.result.now _ (projection_of state) c.mark.result.now _ _ _
    c.in_ok-push_str.ensures.bytes (c.mark.ensures ∙ ap (λ (s : ListedState). mark_text s.holds) c.state.view_is)
    c.in_ok-write_state.ensures (c.as_slice.ensures ∙ c.in_ok-labels.ensures)
    (c.as_slice-in-loop-state.ensures ∙ ap (λ (s : ListedState). s.words) c.state.view_is) in
    items_written-push _ _ _ _ _ c.loop-state.invariant _ _ c.loop-state-test.true c.state-item.is written

pub returns : goal.returns
returns g c = items_written-all _ c.args.states.now _ _ _ c.loop-state.invariant c.loop-state-test.false
