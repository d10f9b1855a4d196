-- Proves `SourceRun::new`, which creates a run in the test's initial state. Each round appends one thread with
-- its registers (`take_map-push`), and the numbers of threads and words are the test's, as the invariant says.
use Rattle.lw_interleaving.proofs.Common.{ap, refl, sym, ◌∙◌, length, length-map, initial_thread}
use Rattle.lw_interleaving.proofs.api.Runs.{State-eq, take_map-push, take_map-all}
use Rattle.lw_interleaving.proofs.run.SourceRun.new.Goals as goal

pub loop-regs-preserved : goal.loop-regs-preserved
loop-regs-preserved g c =
    take_map-push initial_thread c.loop-regs.regs-index _ c.as_slice-regs-items.ensures c.loop-regs-test.true
    c.loop-regs.invariant c.in_ok-push.ensures.ok

pub loop-regs-init : goal.loop-regs-init
loop-regs-init g c = c.new-threads.ensures

pub returns-clause-program : goal.returns-clause-program
returns-clause-program g c = refl

pub returns-clause-start : goal.returns-clause-start
returns-clause-start g c = refl

pub returns-clause-state : goal.returns-clause-state
returns-clause-state g c =
    let threads =
    take_map-all initial_thread c.loop-regs.regs-index c.as_slice-regs-items.ensures c.loop-regs-test.false
    c.loop-regs.invariant in
    State-eq _ _ _ _ threads (c.in_ok-words.ensures ∙ c.as_slice.ensures)

-- The run that is made has a thread for each code, and a word for each location.
pub invariant_of-result : goal.invariant_of-result
invariant_of-result g c =
    let source = c.args.source.now in
    let threads =
    take_map-all initial_thread c.loop-regs.regs-index c.as_slice-regs-items.ensures c.loop-regs-test.false
    c.loop-regs.invariant in (
      ap length threads
          ∙ length-map source.head.init_regs initial_thread
          ∙ source.well_formed.head.regs
          ∙ sym source.well_formed.as_many,
      ap length (c.in_ok-words.ensures ∙ c.as_slice.ensures) ∙ source.well_formed.head.words,
    )
