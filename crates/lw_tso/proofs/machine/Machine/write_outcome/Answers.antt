-- Proves `Machine::write_outcome`, which writes the current registers and content into an outcome of the same
-- size. The sizes fit, as both copies require, and `machine_outcome-of_registers` puts the two lists together.
use Rattle.lw_tso.proofs.Common.{ap, arith, length, map, sym, ◌∙◌, length-map, FinalState, memory_of}
use Rattle.lw_tso.proofs.Common.{MachineRun, processor_of}
use Rattle.lw_tso.proofs.Events.{machine_outcome-of_registers}
use Rattle.lw_tso.proofs.machine.Machine.write_outcome.Goals as goal

pub copy_registers-requires : goal.copy_registers-requires
copy_registers-requires g c = omega (
  arith,
  c.requires.threads,
  ap (λ (o : FinalState). length o.regs) c.outcome.view_is,
  ap (λ (r : MachineRun g.row.M.Denot). length r.state.processors) c.self.view_is,
  length-map c.self.inside.processors.items processor_of,
  ap length c.as_slice.ensures.value,
)

pub copy_content-requires : goal.copy_content-requires
copy_content-requires g c =
    ap (λ (o : FinalState). length o.words) c.outcome.view_is
    ∙ (c.requires.words ∙ sym (ap (λ r. length (g.M.MemorySystem.content r.state.memory)) c.self.view_is))

pub returns : goal.returns
returns g c =
    let mem = memory_of g.M.MemorySystem.content g.M.MemorySystem.state g.M.MemorySystem.serves in
    let listed = c.copy_registers.ensures ∙ ap (map (λ p. p.regs)) c.as_slice.ensures.value in
    machine_outcome-of_registers mem _ _ _ c.self.view_is listed c.copy_content.ensures
