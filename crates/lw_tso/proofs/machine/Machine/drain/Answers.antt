-- Proves `Machine::drain`, which makes the machine's transition for a drain. `MachineTransition-by_effect` turns what the processor
-- did into a transition of the machine, `IsReachableMachine-event` preserves the machine's invariant, and `MachineTransition-no_cpu` is
-- for a processor that does not exist. The invariant bounds the locations of entries, as the processor's
-- `drain` requires.
use Rattle.lw_tso.proofs.Common.{◌<◌, arith, refl, length, memory_of}
use Rattle.lw_tso.proofs.Events.{slice_get-of_read, entries_in_range, MachineTransition-by_effect}
use Rattle.lw_tso.proofs.Events.{MachineTransition-no_cpu, IsReachableMachine-event}
use Rattle.lw_base.specs.declared.event.Event.TheVariants as of
use Rattle.lw_tso.proofs.machine.Machine.drain.Goals as goal

pub returns-then-len-index-clause-done : goal.returns-then-len-index-clause-done
returns-then-len-index-clause-done g c =
    let mem = memory_of g.M.MemorySystem.content g.M.MemorySystem.state g.M.MemorySystem.serves in
    MachineTransition-no_cpu mem _ (of.Drain c.args.cpu) _ c.self.inside.processors _ _ c.self.view_is c.len.ensures
    c.index.ensures.value c.if-len-index.true

pub drain-requires-clause-locs : goal.drain-requires-clause-locs
drain-requires-clause-locs g c =
    let mem = memory_of g.M.MemorySystem.content g.M.MemorySystem.state g.M.MemorySystem.serves in
    let within : c.args.cpu < length c.self.inside.processors.items = omega (arith, c.len.ensures, c.index.ensures.value) in
    let at = slice_get-of_read refl c.index-2.ensures.value within c.index_mut-processor.ensures.value in
    entries_in_range mem _ _ _ c.self.inside.program.now.well_formed.code c.args.cpu _ c.self.invariant at

-- The drain makes an event of the processor, so the machine is still a reachable one.
pub invariant_of-self : goal.invariant_of-self
invariant_of-self g c =
    let mem = memory_of g.M.MemorySystem.content g.M.MemorySystem.state g.M.MemorySystem.serves in
    let within : c.args.cpu < length c.self.inside.processors.items = omega (arith, c.len.ensures, c.index.ensures.value) in
    let at =
    slice_get-of_read {xs = c.self.inside.processors.items} {t = c.args.cpu} refl c.index-2.ensures.value within
    c.index_mut-processor.ensures.value in
    rw c.index-2.ensures.value
    (IsReachableMachine-event mem _ c.self.inside.program.now.threads _ c.self.inside.program.now.well_formed.code
    g.met.M.MemorySystem.lawful (of.Drain c.args.cpu) c.index_mut-processor.result.now c.drain.new.self
    c.self.inside.processors.items c.self.inside.memory c.drain.new.memory c.drain.result c.self.invariant at c.drain.ensures.done
    c.drain.ensures.room)

pub returns-clause-done : goal.returns-clause-done
returns-clause-done g c =
    let mem = memory_of g.M.MemorySystem.content g.M.MemorySystem.state g.M.MemorySystem.serves in
    let within : c.args.cpu < length c.self.inside.processors.items = omega (arith, c.len.ensures, c.index.ensures.value) in
    let at = slice_get-of_read refl c.index-2.ensures.value within c.index_mut-processor.ensures.value in
    rw c.index-2.ensures.value
    (MachineTransition-by_effect mem _ (of.Drain c.args.cpu) c.args.self.now _ _ c.drain.new.self _ c.self.inside.memory
    c.drain.new.memory c.drain.result c.self.view_is at c.drain.ensures.done)
