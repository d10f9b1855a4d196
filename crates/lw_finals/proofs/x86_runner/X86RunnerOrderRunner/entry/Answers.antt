-- Proves the x86 runner's `entry`, which returns the last outcome with the order's events. By
-- `ReplaysTo-of_order` these events are a schedule that reaches the outcome over flat memory.
use Rattle.lw_finals.proofs.Common.{List, ap, sym, ◌∙◌, subst, FinalState, Event, X86Test, RunnerState}
use Rattle.lw_finals.proofs.Common.{events_of, ReplaysFlatTo}
use Rattle.lw_finals.proofs.X86Outcomes.{ReplaysTo-of_order}
use Rattle.lw_finals.proofs.x86_runner.X86RunnerOrderRunner.entry.Goals as goal

-- The events of the order's items replay over flat memory to the outcome.
pub returns-clause-leads : goal.returns-clause-leads
returns-clause-leads g c =
    let test = c.args.self.now.test in
    let items = c.args.items.now in
    let order = c.args.order.now in
    let end = c.args.self.now.end in
    let led : ReplaysFlatTo test (events_of items order) end = ReplaysTo-of_order test _ order end c.requires.ran in
    let told : ReplaysFlatTo test c.in_ok-events.events end =
    subst (λ (es : List Event). ReplaysFlatTo test es end) (sym c.in_ok-events.ensures) led in
    subst (λ (o : FinalState). ReplaysFlatTo test c.in_ok-events.events o)
    (sym (c.in_ok-outcome.ensures ∙ ap (λ (r : RunnerState X86Test). r.end) c.self.view_is)) told
