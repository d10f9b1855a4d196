-- Proves `SourceRun::carry_out_event`, which returns the result of one event. A step is the contract of
-- `step`. Drains and evictions are always refused, for the cause that the definition says: a source run has
-- no store buffers and no caches.
use Rattle.lw_interleaving.proofs.Common.{ap, refl, length, SourceRunState}
use Rattle.lw_interleaving.proofs.api.Runs.{ReturnsEventResult-drain_refused}
use Rattle.lw_interleaving.proofs.run.SourceRun.carry_out_event.Goals as goal

pub returns-then-index-len-clause-done : goal.returns-then-index-len-clause-done
returns-then-index-len-clause-done g c =
    let within =
    rw (c.index.ensures.value, c.len.ensures, ap (λ (r : SourceRunState). length r.state.threads) c.self.view_is) at
    c.if-index-len.true in
    rw c.in-Drain.is (ReturnsEventResult-drain_refused _ _ c.args.self.now.state c.in-Drain.cpu _ within refl refl)

pub returns-in-Step-clause-program : goal.returns-in-Step-clause-program
returns-in-Step-clause-program g c = c.step.ensures.program

pub returns-in-Step-clause-done : goal.returns-in-Step-clause-done
returns-in-Step-clause-done g c = rw c.in-Step.is c.step.ensures.done

pub returns-then-index-len-clause-program : goal.returns-then-index-len-clause-program
returns-then-index-len-clause-program g c = refl

pub returns-then-index-len-2-clause-program : goal.returns-then-index-len-2-clause-program
returns-then-index-len-2-clause-program g c = refl

pub returns-then-index-len-3-clause-program : goal.returns-then-index-len-3-clause-program
returns-then-index-len-3-clause-program g c = refl

pub returns-else-index-len-clause-program : goal.returns-else-index-len-clause-program
returns-else-index-len-clause-program g c = refl

pub returns-else-index-len-2-clause-program : goal.returns-else-index-len-2-clause-program
returns-else-index-len-2-clause-program g c = refl
