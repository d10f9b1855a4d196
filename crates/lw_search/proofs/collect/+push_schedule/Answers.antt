-- Proves `push_schedule`, which appends to `events` a schedule from the start to the state at an index, along
-- the chain of parents. Three exits: past the table, and at the start, which is its own parent, nothing is
-- appended, and that is right; otherwise `ReachesIndex-next` puts the schedule of the parent, by the
-- recursive call, before the run of the origin.
use Rattle.lw_search.proofs.Common.{◌++◌, ◌∙◌, [], arith, ap, sym, append-nil, append_assoc, on_ok_weaker}
use Rattle.lw_search.proofs.Common.{events_at}
use Rattle.lw_search.proofs.Collected.{ReachesIndex-start, ReachesIndex-past, ReachesIndex-next}
use Rattle.lw_search.proofs.collect.+push_schedule.Goals as goal

pub returns-in_default : goal.returns-in_default
returns-in_default g t c = (
  [],
  sym (append-nil c.args.events.now.items),
  ReachesIndex-past c.args.states.now c.args.index (sym c.origin.ensures ∙ c.in_default.is),
)

pub returns-then-index-parent : goal.returns-then-index-parent
returns-then-index-parent g t c = (
  [],
  sym (append-nil c.args.events.now.items),
  ReachesIndex-start c.args.states.now c.args.index c.in-Some.origin (sym c.origin.ensures ∙ c.in-Some.is)
      (omega (arith, c.if-index-parent.true)),
)

-- The schedule of the parent, followed by the run of the origin, reaches the state.
pub returns : goal.returns
returns g t c =
    let before = c.in_ok-push_schedule.ensures in
    let origin = c.in-Some.origin in
    on_ok_weaker c.push_run.result (λ items. (
      before.0 ++ events_at c.args.states.now.runs origin.run,
      items
          ∙ ap (λ l. l ++ events_at c.args.states.now.runs origin.run) before.1
          ∙ append_assoc c.args.events.now.items before.0 (events_at c.args.states.now.runs origin.run),
      ReachesIndex-next c.args.states.now c.args.index origin before.0 (λ e. absurd (omega (arith, e, c.if-index-parent.false)))
          (sym c.origin.ensures ∙ c.in-Some.is) before.2,
    )) c.push_run.ensures
