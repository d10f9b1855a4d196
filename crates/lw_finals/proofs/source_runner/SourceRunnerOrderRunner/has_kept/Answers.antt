-- Proves the source runner's `has_kept`: some schedule of the compiled program reaches the outcome of the last
-- run. As for `entry`, but the events are only named and not computed.
use Rattle.lw_finals.proofs.Common.{IsWellScoped-well_formed, source_language, ◌≡◌, List, refl, ap, sym}
use Rattle.lw_finals.proofs.Common.{subst, Event, source_of, program_of, SourceFollowsPathsToEnd}
use Rattle.lw_finals.proofs.Common.{ReplaysFlatTo, RunnerState, CompiledSource, item_events, SourceTest}
use Rattle.lw_finals.proofs.SourceRunners.{ReplaysTo-item_events}
use Rattle.lw_finals.proofs.source_runner.SourceRunnerOrderRunner.has_kept.Goals as goal

-- The events of the order's items, which are not computed, reach the outcome.
pub returns : goal.returns
returns g c =
    let source = c.self.inside.source.now in
    let compiled = c.self.inside.compiled.now in
    let items = c.args._items.now in
    let order = c.args._order.now in
    let test : CompiledSource =
    record { source = source_of source; program = program_of compiled.program; starts = compiled.starts } in
    let end = c.args.self.now.end in
    let same : test ≡ c.args.self.now.test = ap (λ (r : RunnerState CompiledSource). r.test) c.self.view_is in
    let run : SourceFollowsPathsToEnd (source_of source) items order end =
    subst (λ (s : SourceTest). SourceFollowsPathsToEnd s items order end) (sym (ap (λ (t : CompiledSource). t.source) same))
    c.requires.ran in
    let events : List Event = item_events test.source.threads test.starts items order in
    let ok = IsWellScoped-well_formed source_language source.well_formed in
    let led : ReplaysFlatTo test.program events end = ReplaysTo-item_events test items order events end run refl (λ p runs.
    c.schedules_replay.ensures (source_of source) (program_of compiled.program) compiled.starts _ p ok c.self.invariant.0 runs) in
    (events, subst (λ (t : CompiledSource). ReplaysFlatTo t.program events end) same led)
