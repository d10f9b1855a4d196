-- Proves `SourceRun::write_outcome`, which writes the current registers and memory into an outcome of the
-- same size. Each round overwrites one row (`map_prefix-set`), which exists, since the sizes are equal.
use Rattle.lw_interleaving.proofs.Common.{ap, arith, length, ◌∙◌, FinalState, common_steps}
use Rattle.lw_interleaving.proofs.api.Runs.{map_prefix-set}
use Rattle.lw_interleaving.proofs.run.SourceRun.write_outcome.Goals as goal

-- One more row has the registers of its thread.
pub loop-cpu-preserved : goal.loop-cpu-preserved
loop-cpu-preserved g c =
    let threads = c.as_slice-thread-items.ensures ∙ ap (λ r. r.state.threads) c.self.view_is in
    let many = ap (λ (o : FinalState). length o.regs) c.outcome.view_is ∙ c.requires.threads in
    record {
      regs =
          c.set.ensures
          ∙ map_prefix-set _ _ c.loop-cpu.cpu _ threads c.loop-cpu.invariant.regs c.loop-cpu-test.true
          (omega (arith, many, c.loop-cpu-test.true, ap length threads));
      words = c.loop-cpu.invariant.words;
    }

pub offset_bounds-thread-items-cpu : goal.offset_bounds-thread-items-cpu
offset_bounds-thread-items-cpu g c = omega (arith, c.loop-cpu-test.true, c.as_slice-thread-items.type_inv.1)

pub set-requires : goal.set-requires
set-requires g c = grind (arith, common_steps)
