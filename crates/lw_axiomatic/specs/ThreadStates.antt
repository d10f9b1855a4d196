-- A thread by itself, in either language: its state after an operation, from the word that it reads, and the word that it writes. Where a
-- word comes from is not said here. docs/FORMAT.md defines the instructions, which follow Intel's manual (Intel 64 and IA-32 Architectures
-- Software Developer's Manual, volume 2: MOV, ADD, CMP, XCHG, XADD, JE, JNE, JMP).
use Rattle.std.specs.Prelude.{ℕ, ◌+◌, ◌==◌, Bool, false, if◌then◌else◌, List, slice_index, slice_set}
use Rattle.std.specs.Option.{option_map_or}
use Rattle.lw_base.specs.Changes.{changed_word}
use Rattle.lw_base.specs.Changes.{wrapping_sum}
use Rattle.lw_base.specs.Threads.{operand_value, set_word_if_some}
use Rattle.lw_litmus.specs.declared.operation.Operation.{Operation}
use Rattle.lw_litmus.specs.declared.operation.Operation.TheVariants.{Set, Sum, Compare, Store, Load, Swap, FetchAdd, Fence, Branch}
use Rattle.lw_litmus.specs.Operations.{written_change, guard_holds}

-- A thread's state: its position in its code, its registers and its zero flag.
pub record ThreadState : Type 0 where
  pub position : ℕ  -- The index of its next instruction.
  pub regs : List ℕ
  pub zero_flag : Bool

-- The state at the first instruction, with these registers.
abbrev pub first_state : List ℕ → ThreadState
first_state regs = record { position = 0; regs = regs; zero_flag = false }

-- The state at the next instruction, with these registers and this flag.
abbrev pub at_next : ThreadState → List ℕ → Bool → ThreadState
at_next s regs flag = record { position = s.position + 1; regs = regs; zero_flag = flag }

-- The state after an operation that reads the word w, if it reads one.
abbrev pub state_after : Operation → ThreadState → ℕ → ThreadState
state_after (Set d v) s w = at_next s (slice_set s.regs d (operand_value v s.regs)) s.zero_flag
state_after (Sum d a v) s w =
    let sum = wrapping_sum (slice_index s.regs a) (operand_value v s.regs) in at_next s (slice_set s.regs d sum) (sum == 0)
state_after (Compare a v) s w = at_next s s.regs (slice_index s.regs a == operand_value v s.regs)
state_after (Store x v) s w = at_next s s.regs s.zero_flag
state_after (Load d x) s w = at_next s (slice_set s.regs d w) s.zero_flag
state_after (Swap d x a) s w = at_next s (slice_set s.regs d w) s.zero_flag
state_after (FetchAdd d x v) s w = at_next s (set_word_if_some s.regs d w) (wrapping_sum w (operand_value v s.regs) == 0)
state_after Fence s w = at_next s s.regs s.zero_flag
state_after (Branch c to) s w = record s { position = if guard_holds c s.regs s.zero_flag then to else s.position + 1 }

-- The word that an operation leaves at its location, from the word w before.
abbrev pub word_written : Operation → List ℕ → ℕ → ℕ
word_written o regs w = option_map_or (λ change. changed_word change w) (written_change o regs) w
