-- Proves `Machine::new`, which creates a machine in the initial state. Its invariant holds: initial
-- processors are reachable, and each buffer has room for all stores of its thread
-- (`IsReachableMachine-start`).
use Rattle.lw_tso.proofs.Common.{ap, sym, length, ◌∙◌, invariant_of, memory_of}
use Rattle.lw_tso.proofs.Starts.{IsReachableMachine-start}
use Rattle.lw_tso.proofs.machine.Machine.new.Goals as goal

pub invariant_of-result : goal.invariant_of-result
invariant_of-result g c =
    let mem = memory_of g.M.MemorySystem.content g.M.MemorySystem.state g.M.MemorySystem.serves in
    let inv = invariant_of g.M.MemorySystem.cpus g.M.MemorySystem.sound in
    let known = c.args.program.now.well_formed in
    let locations = ap length c.requires.words ∙ known.head.words in
    IsReachableMachine-start _ _ mem inv _ c.args.memory _ c.cpu_count-cpus.ensures.sound locations c.requires.threads
    (known.head.regs ∙ sym known.as_many) c.in-Ok.ensures.start c.in-Ok.ensures.rooms
