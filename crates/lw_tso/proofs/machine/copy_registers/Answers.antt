-- Proves `copy_registers`, which writes the registers of each processor over the rows of a list of the same
-- length. Each round writes one row; after the last the whole list is written (`take_all`).
use Rattle.lw_tso.proofs.Common.{◌+◌, ◌++◌, ◌∷◌, [], ap, ap₂, arith, length, length-set, map, sym, take, ◌∙◌}
use Rattle.lw_tso.proofs.Common.{take_all, map_more, take_more_set}
use Rattle.lw_tso.specs.declared.processor.Processor.{Processor as ProcessorInMemory}
use Rattle.lw_tso.proofs.machine.copy_registers.Goals as goal

-- One more row has the registers of its processor.
pub loop-thread-preserved : goal.loop-thread-preserved
loop-thread-preserved g c =
    let regs_in = λ (p : ProcessorInMemory g.row.A.Denot). p.regs in
    let all = c.args.processors.now in
    let rows = c.loop-thread.regs in
    let k = c.loop-thread.thread in
    let p = c.index-processors-thread.result in
    record {
      many = ap length c.set.ensures ∙ (length-set rows k p.regs ∙ c.loop-thread.invariant.many);
      regs =
          ap (take (k + 1)) c.set.ensures
          ∙ (take_more_set rows k p.regs (omega (arith, c.loop-thread-test.true, c.loop-thread.invariant.many, c.requires))
          ∙ (ap₂ (λ front row. front ++ row ∷ []) c.loop-thread.invariant.regs (ap regs_in c.index-processors-thread.is)
          ∙ sym (map_more _ all k p c.loop-thread-test.true)));
    }

pub returns : goal.returns
returns g c =
    let k = c.loop-thread.thread in
    sym (take_all k c.loop-thread.regs (omega (arith, c.loop-thread-test.false, c.loop-thread.invariant.many, c.requires)))
    ∙ (c.loop-thread.invariant.regs
    ∙ ap (map (λ (p : ProcessorInMemory g.row.A.Denot). p.regs)) (take_all k c.args.processors.now c.loop-thread-test.false))
