-- Proves the source runner's `entry`, which returns the last outcome with a schedule of the compiled program that
-- reaches it. By the law `schedules_replay` the schedule of the order's threads reaches it, and by `ReplaysTo-item_events`
-- that schedule is the events of the order's items.
use Rattle.lw_finals.proofs.Common.{IsWellScoped-well_formed, source_language, ◌≡◌, List, ap, sym, ◌∙◌, subst}
use Rattle.lw_finals.proofs.Common.{FinalState, Event, SourceTest, source_of, program_of, initial_state}
use Rattle.lw_finals.proofs.Common.{SourceFollowsPathsToEnd, ReplaysFlatTo, RunnerState, CompiledSource}
use Rattle.lw_finals.proofs.SourceRunners.{HasStatementAt-all_executed, ReplaysTo-item_events}
use Rattle.lw_finals.proofs.source_runner.SourceRunnerOrderRunner.entry.Goals as goal

pub schedule_of_items-requires-clause-has_statements : goal.schedule_of_items-requires-clause-has_statements
schedule_of_items-requires-clause-has_statements g c =
    let source = c.self.inside.source.now in
    let items = c.args.items.now in
    let order = c.args.order.now in
    let run : SourceFollowsPathsToEnd (source_of source) items order c.args.self.now.end =
    subst (λ (s : SourceTest). SourceFollowsPathsToEnd s items order c.args.self.now.end)
    (sym (ap (λ (r : RunnerState CompiledSource). r.test.source) c.self.view_is)) c.requires.ran in
    HasStatementAt-all_executed (source_of source) items order (initial_state (source_of source)) run.end run.ran

-- The events of the order's items are a schedule of the compiled program that reaches the outcome.
pub returns-clause-leads : goal.returns-clause-leads
returns-clause-leads g c =
    let source = c.self.inside.source.now in
    let compiled = c.self.inside.compiled.now in
    let items = c.args.items.now in
    let order = c.args.order.now in
    let test : CompiledSource =
    record { source = source_of source; program = program_of compiled.program; starts = compiled.starts } in
    let end = c.args.self.now.end in
    let same : test ≡ c.args.self.now.test = ap (λ (r : RunnerState CompiledSource). r.test) c.self.view_is in
    let run : SourceFollowsPathsToEnd (source_of source) items order end =
    subst (λ (s : SourceTest). SourceFollowsPathsToEnd s items order end) (sym (ap (λ (t : CompiledSource). t.source) same))
    c.requires.ran in
    let events = c.in_ok-events.events.items in
    let ok = IsWellScoped-well_formed source_language source.well_formed in
    let led : ReplaysFlatTo test.program events end =
    ReplaysTo-item_events test items order events end run c.in_ok-events.ensures (λ p runs.
    c.schedules_replay.ensures (source_of source) (program_of compiled.program) compiled.starts _ p ok c.self.invariant.0 runs) in
    let told : ReplaysFlatTo test.program c.from.result end =
    subst (λ (es : List Event). ReplaysFlatTo test.program es end) (sym c.from.ensures) led in
    let at : ReplaysFlatTo c.args.self.now.test.program c.from.result end =
    subst (λ (t : CompiledSource). ReplaysFlatTo t.program c.from.result end) same told in
    subst (λ (o : FinalState). ReplaysFlatTo c.args.self.now.test.program c.from.result o)
    (sym (c.in_ok-outcome.ensures ∙ ap (λ (r : RunnerState CompiledSource). r.end) c.self.view_is)) at
