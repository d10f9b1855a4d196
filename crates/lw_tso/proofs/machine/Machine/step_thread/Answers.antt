-- Proves `Machine::step_thread`, which makes the machine's transition for a step. `MachineTransition-no_cpu` and `step-refused_at_end` are
-- the refusals; otherwise `MachineTransition-by_effect` turns what the processor did into a transition of the machine.
-- `CanCarryOut-reachable` gives what the processor's `carry_out` requires, from the invariant: the location exists, and the buffer has
-- room for a store.
use Rattle.lw_tso.proofs.Common.{◌<◌, ◌∙◌, arith, refl, sym, length, memory_of, processor_of, common_steps}
use Rattle.lw_tso.proofs.Events.{slice_get-of_read, CanCarryOut-reachable, EffectTransition-step}
use Rattle.lw_tso.proofs.Events.{step-refused_at_end, MachineTransition-by_effect, MachineTransition-no_cpu}
use Rattle.lw_tso.proofs.Events.{IsReachableMachine-event}
use Rattle.lw_base.specs.declared.event.Event.TheVariants as of
use Rattle.lw_tso.proofs.machine.Machine.step_thread.Goals as goal

pub returns-then-len-index-clause-done : goal.returns-then-len-index-clause-done
returns-then-len-index-clause-done g c =
    let mem = memory_of g.M.MemorySystem.content g.M.MemorySystem.state g.M.MemorySystem.serves in
    MachineTransition-no_cpu mem _ (of.Step c.args.cpu) _ c.self.inside.processors _ _ c.self.view_is c.len.ensures
    c.index.ensures.value c.if-len-index.true

-- In a reachable machine the operation of the next instruction can be carried out.
pub carry_out-requires : goal.carry_out-requires
carry_out-requires g c =
    let mem = memory_of g.M.MemorySystem.content g.M.MemorySystem.state g.M.MemorySystem.serves in
    let program = c.self.inside.program.now in
    let items = c.self.inside.processors.items in
    let p = c.index_mut-processor.result.now in
    let within : c.args.cpu < length items = omega (arith, c.len.ensures, c.index.ensures.value) in
    let at = slice_get-of_read {xs = items} {x = p} refl c.index-2.ensures.value within c.index_mut-processor.ensures.value in
    let can =
    CanCarryOut-reachable mem _ program.threads _ program.well_formed.code items c.args.cpu p c.in-Some.instr c.self.invariant at
    (sym c.instr_at.ensures ∙ c.in-Some.is) c.operation.ensures in
    record { cpu = can.cpu; loc = can.loc; position = can.position; room = can.room }

-- The processor has no next instruction, so the step is refused.
pub returns-in_default-clause-done : goal.returns-in_default-clause-done
returns-in_default-clause-done g c =
    let mem = memory_of g.M.MemorySystem.content g.M.MemorySystem.state g.M.MemorySystem.serves in
    let program = c.self.inside.program.now.threads in
    let items = c.self.inside.processors.items in
    let p = c.index_mut-processor.result.now in
    let m = c.self.inside.memory in
    let at =
    slice_get-of_read {xs = items} {t = c.args.cpu} {x = p} refl c.index-2.ensures.value
    (omega (arith, c.len.ensures, c.index.ensures.value)) c.index_mut-processor.ensures.value in
    let done = step-refused_at_end mem program c.args.cpu (processor_of p) m (sym c.instr_at.ensures ∙ c.in_default.is) in
    rw c.index-2.ensures.value
    (MachineTransition-by_effect mem program (of.Step c.args.cpu) c.args.self.now _ p p items m m _ c.self.view_is at done)

-- The instruction makes an event of the processor, so the machine is still a reachable one.
pub invariant_of-self-2 : goal.invariant_of-self-2
invariant_of-self-2 g c =
    let mem = memory_of g.M.MemorySystem.content g.M.MemorySystem.state g.M.MemorySystem.serves in
    let program = c.self.inside.program.now in
    let items = c.self.inside.processors.items in
    let p = c.index_mut-processor.result.now in
    let m = c.self.inside.memory in
    let q = c.carry_out.new.self in
    let n = c.carry_out.new.memory in
    let at =
    slice_get-of_read {xs = items} {t = c.args.cpu} {x = p} refl c.index-2.ensures.value
    (omega (arith, c.len.ensures, c.index.ensures.value)) c.index_mut-processor.ensures.value in
    let next = sym c.instr_at.ensures ∙ c.in-Some.is in
    let done =
    EffectTransition-step mem program.threads c.args.cpu (processor_of p) (processor_of q) m n c.carry_out.result next
    c.operation.ensures c.carry_out.ensures.done in
    rw c.index-2.ensures.value
    (IsReachableMachine-event mem _ program.threads _ program.well_formed.code g.met.M.MemorySystem.lawful (of.Step c.args.cpu) p
    q items m n c.carry_out.result c.self.invariant at done c.carry_out.ensures.room)

-- What the instruction did to its processor and to the memory is a step of the machine.
pub returns-clause-done : goal.returns-clause-done
returns-clause-done g c =
    let mem = memory_of g.M.MemorySystem.content g.M.MemorySystem.state g.M.MemorySystem.serves in
    let program = c.self.inside.program.now.threads in
    let items = c.self.inside.processors.items in
    let p = c.index_mut-processor.result.now in
    let m = c.self.inside.memory in
    let q = c.carry_out.new.self in
    let n = c.carry_out.new.memory in
    let within : c.args.cpu < length items = omega (arith, c.len.ensures, c.index.ensures.value) in
    let at = slice_get-of_read {xs = items} {x = p} refl c.index-2.ensures.value within c.index_mut-processor.ensures.value in
    let next = sym c.instr_at.ensures ∙ c.in-Some.is in
    let done =
    EffectTransition-step mem program c.args.cpu (processor_of p) (processor_of q) m n c.carry_out.result next c.operation.ensures
    c.carry_out.ensures.done in
    rw c.index-2.ensures.value
    (MachineTransition-by_effect mem program (of.Step c.args.cpu) c.args.self.now _ p q items m n c.carry_out.result
    c.self.view_is at done)

pub invariant_of-self : goal.invariant_of-self
invariant_of-self g c = grind (arith, common_steps)
