-- Proves `SourceRunner::new`, which creates a runner of the test. The runner's invariant holds: the run has
-- the source's code and starts in its initial state, and the copied outcome has as many registers and words
-- as the source.
use Rattle.lw_finals.proofs.Common.{arith, ap, ◌∙◌, ◌≡◌, length, length-map, FinalState, common_steps}
use Rattle.lw_finals.proofs.source_runner.SourceRunner.new.Goals as goal

-- The run is of the source's code and starts in its initial state, and the room for an outcome has the source's size.
pub invariant_of-result : goal.invariant_of-result
invariant_of-result g c =
    let run = c.in_ok-run.ensures in
    let state = c.in_ok-run.run'.state in
    let threads : length state.threads ≡ length c.args.source.now.threads = grind (arith, common_steps) in
    let words : length state.words ≡ length c.args.source.now.head.locs = grind (arith, common_steps) in (
      c.requires,
      run.program,
      run.start,
      threads,
      words,
      ap (λ (o : FinalState). length o.regs) c.in_ok-end.ensures ∙ (length-map state.threads _ ∙ threads),
      ap (λ (o : FinalState). length o.words) c.in_ok-end.ensures ∙ words,
    )
