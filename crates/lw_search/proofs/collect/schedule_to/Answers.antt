-- Proves `schedule_to`, which returns a schedule from the start to the state at an index. The list of events
-- is empty before `push_schedule`, so what this call has appended is the whole schedule.
use Rattle.lw_search.proofs.Common.{◌≡◌, ◌++◌, ◌∙◌, ap, sym, subst, ReachesIndex}
use Rattle.lw_search.proofs.collect.schedule_to.Goals as goal

pub returns : goal.returns
returns g c =
    let a = c.in_ok-push_schedule.ensures in
    let is : c.from.result ≡ a.0 = c.from.ensures ∙ a.1 ∙ ap (λ l. l ++ a.0) c.new-events.ensures.items in
    subst (λ events. ReachesIndex c.args.states.now c.args.index events) (sym is) a.2
