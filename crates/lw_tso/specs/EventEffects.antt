-- The table of the x86-TSO machine: the effect of each event on its processor. An effect does not depend on the memory: it says how the
-- memory is accessed, if at all, and what the processor is then. The source is as in Processors; XCHG and LOCK XADD with memory are one
-- step each, which needs an empty buffer.
use Rattle.std.specs.Prelude.{ℕ, ◌==◌, nat_lt, if◌then◌else◌, Option, Some, None, List, [], ◌∷◌, slice_get, slice_index}
use Rattle.lw_base.specs.Changes.{wrapping_sum}
use Rattle.lw_base.specs.declared.change.Change.TheVariants.{Put, Add}
use Rattle.lw_base.specs.declared.event.Event.{Event}
use Rattle.lw_base.specs.declared.event.Event.TheVariants.{Step, Drain, Evict}
use Rattle.lw_base.specs.declared.stop.Stop.{Stop}
use Rattle.lw_base.specs.declared.stop.Stop.TheVariants.{NoLocation, Ended, FenceWaits, SwapWaits, BufferEmpty}
use Rattle.lw_memory.specs.declared.request.Access.{Access}
use Rattle.lw_memory.specs.declared.request.Access.TheVariants as to
use Rattle.lw_litmus.specs.declared.instr.Instr.{Instr}
use Rattle.lw_litmus.specs.declared.operation.Operation.{Operation}
use Rattle.lw_litmus.specs.declared.operation.Operation.TheVariants.{Set, Sum, Compare, Store, Load, Swap, FetchAdd, Fence, Branch}
use Rattle.lw_litmus.specs.Operations.{guard_holds}
use Rattle.lw_litmus.specs.Programs.{x86_operation}
use Rattle.lw_base.specs.Threads.{operand_value, thread_code}
use Rattle.lw_tso.specs.Processors.{Processor, newest_buffered, advance_processor, set_register, set_register_if_some, set_zero_flag, enqueue_store, jump_or_advance_processor}

-- The effect of an event on its processor.
pub data EventEffect : Type 0 where
  Refused : Stop → EventEffect  -- It is rejected.
  LocalStep : Processor → EventEffect  -- Only the processor changes.
  -- The location is accessed; the processor after it depends on the word that is returned, if there is one.
  MemoryAccess : ℕ → Access → (ℕ → Processor) → EventEffect
  Eviction : ℕ → EventEffect  -- The processor's line of a location is evicted.

-- The effect of a load of location x: `next` of the processor's newest buffered word for x (store forwarding), or of memory's
-- word if there is none (`None`).
abbrev pub load_effect : Option ℕ → ℕ → (ℕ → Processor) → EventEffect
load_effect (Some w) x next = LocalStep (next w)
load_effect None x next = MemoryAccess x to.Load next

-- The effect `act`, if the buffer is empty; otherwise a refusal with this cause.
abbrev pub if_buffer_empty : List (ℕ × ℕ) → Stop → EventEffect → EventEffect
if_buffer_empty [] stop act = act
if_buffer_empty (entry ∷ newer) stop act = Refused stop

-- The effect of each operation on its processor.
abbrev pub operation_effect : Operation → Processor → EventEffect
operation_effect (Set d v) p = LocalStep (advance_processor (set_register p d (operand_value v p.regs)))  -- `MOV d,v`
-- `ADD d,v`: the flag is set if the sum is 0
operation_effect (Sum d a v) p =
    let sum = wrapping_sum (slice_index p.regs a) (operand_value v p.regs) in
    LocalStep (advance_processor (set_zero_flag (set_register p d sum) (sum == 0)))
-- `CMP a,v`: the flag is set if they are equal
operation_effect (Compare a v) p =
    LocalStep (advance_processor (set_zero_flag p (slice_index p.regs a == operand_value v p.regs)))
-- `MOV [x],v`: enqueued in the buffer
operation_effect (Store x v) p = LocalStep (advance_processor (enqueue_store p x (operand_value v p.regs)))
operation_effect (Load d x) p = load_effect (newest_buffered p.buffer x) x (λ w. advance_processor (set_register p d w))  -- `MOV d,[x]`
operation_effect (Swap d x a) p =  -- `XCHG [x],a`
    if_buffer_empty p.buffer SwapWaits (MemoryAccess x (to.Update (Put (slice_index p.regs a))) (λ w. advance_processor (set_register p d w)))
-- `LOCK XADD [x],a`: the flag is set if the sum is 0
operation_effect (FetchAdd d x v) p =
    let word = operand_value v p.regs in
    if_buffer_empty p.buffer SwapWaits (MemoryAccess x (to.Update (Add word)) (λ w. advance_processor (set_zero_flag (set_register_if_some p d w) (wrapping_sum w word == 0))))
operation_effect Fence p = if_buffer_empty p.buffer FenceWaits (LocalStep (advance_processor p))  -- `MFENCE`
operation_effect (Branch c to) p = LocalStep (jump_or_advance_processor p (guard_holds c p.regs p.zero_flag) to)  -- `JE L`, `JNE L`, `JMP L`

-- The effect of the processor's next instruction, if there is one.
abbrev pub step_effect : Option Instr → Processor → EventEffect
step_effect None p = Refused Ended
step_effect (Some i) p = operation_effect (x86_operation i) p

-- The effect of a drain: the oldest entry of the buffer goes to memory.
abbrev pub drain_effect : List (ℕ × ℕ) → Processor → EventEffect
drain_effect [] p = Refused BufferEmpty
drain_effect (entry ∷ newer) p = MemoryAccess entry.0 (to.Store entry.1) (λ none. record p { buffer = newer })

-- The processor of an event.
abbrev pub cpu_of : Event → ℕ
cpu_of (Step t) = t
cpu_of (Drain t) = t
cpu_of (Evict t x) = t

-- The effect of an event on its processor, for this number of locations.
abbrev pub event_effect : List (List Instr) → ℕ → Event → Processor → EventEffect
event_effect program locs (Step t) p = step_effect (slice_get (thread_code program t) p.position) p
event_effect program locs (Drain t) p = drain_effect p.buffer p
event_effect program locs (Evict t x) p = if nat_lt x locs then Eviction x else Refused NoLocation
