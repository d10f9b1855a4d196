-- Proves `Machine::outcome`, which returns the registers and the content of the current state. `machine_outcome-of_registers`
-- puts the two copied lists together.
use Rattle.lw_tso.proofs.Common.{ap, ◌∙◌, map, memory_of}
use Rattle.lw_tso.proofs.Events.{machine_outcome-of_registers}
use Rattle.lw_tso.proofs.machine.Machine.outcome.Goals as goal

pub returns : goal.returns
returns g c =
    let mem = memory_of g.M.MemorySystem.content g.M.MemorySystem.state g.M.MemorySystem.serves in
    let listed = c.in_ok-regs.ensures ∙ ap (map (λ p. p.regs)) c.as_slice.ensures.value in
    machine_outcome-of_registers mem _ _ _ c.self.view_is listed c.in_ok-words.ensures
