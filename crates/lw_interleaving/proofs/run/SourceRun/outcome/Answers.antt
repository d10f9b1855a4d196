-- Proves `SourceRun::outcome`, which returns the registers and words of the current state. Each round appends
-- one thread's registers (`take_map-push`); `source_outcome-of_registers` puts both lists together.
use Rattle.lw_interleaving.proofs.Common.{ap, ◌∙◌, SourceRunState}
use Rattle.lw_interleaving.proofs.api.Runs.{take_map-push, take_map-all, source_outcome-of_registers}
use Rattle.lw_interleaving.proofs.run.SourceRun.outcome.Goals as goal

pub loop-thread-init : goal.loop-thread-init
loop-thread-init g c = c.new-regs.ensures

pub loop-thread-preserved : goal.loop-thread-preserved
loop-thread-preserved g c =
    take_map-push _ _ _ (c.as_slice-thread-items.ensures ∙ ap (λ (r : SourceRunState). r.state.threads) c.self.view_is)
    c.loop-thread-test.true c.loop-thread.invariant c.in_ok-push.ensures.ok

pub returns : goal.returns
returns g c =
    let threads = c.as_slice-thread-items.ensures ∙ ap (λ r. r.state.threads) c.self.view_is in
    let listed = take_map-all _ _ threads c.loop-thread-test.false c.loop-thread.invariant in
    source_outcome-of_registers _ _ c.args.self.now.state (c.regs-2.view_is ∙ listed)
    (c.in_ok-from_slice.ensures ∙ c.as_slice.ensures ∙ ap (λ (r : SourceRunState). r.state.words) c.self.view_is)
