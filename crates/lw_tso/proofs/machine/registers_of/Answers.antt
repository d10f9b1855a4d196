-- Proves `registers_of`, which returns the registers of each processor. Each round appends those of the next one.
use Rattle.lw_tso.proofs.Common.{◌++◌, ◌∷◌, [], ap, ap₂, map, sym, ◌∙◌, take_all, map_more}
use Rattle.lw_tso.specs.declared.processor.Processor.{Processor as ProcessorInMemory}
use Rattle.lw_tso.proofs.machine.registers_of.Goals as goal

pub loop-processor-preserved : goal.loop-processor-preserved
loop-processor-preserved g c =
    let regs_in = λ (p : ProcessorInMemory g.row.B.Denot). p.regs in
    let all = c.args.processors.now in
    c.in_ok-push.ensures.ok
    ∙ ap₂ (λ front row. front ++ row ∷ []) c.loop-processor.invariant (ap regs_in c.processor-item.is)
    ∙ sym (map_more regs_in all _ _ c.loop-processor-test.true)

pub returns : goal.returns
returns g c =
    c.loop-processor.invariant
    ∙ ap (map (λ (p : ProcessorInMemory g.row.B.Denot). p.regs))
    (take_all c.loop-processor.processor-index c.args.processors.now c.loop-processor-test.false)
