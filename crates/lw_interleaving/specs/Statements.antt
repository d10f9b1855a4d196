-- The effect of each operation on a thread of a source test and on memory. Threads interleave on one memory (Lamport's sequential
-- consistency), and each statement is atomic.
use Rattle.std.specs.Prelude.{ℕ, ◌+◌, Bool, false, if◌then◌else◌, Option, List, slice_index, slice_set}
use Rattle.lw_base.specs.Changes.{word_or_zero, apply_change_if_some}
use Rattle.lw_base.specs.Changes.{wrapping_sum}
use Rattle.lw_base.specs.Threads.{operand_value, set_word_if_some}
use Rattle.lw_litmus.specs.declared.operation.Operation.{Operation}
use Rattle.lw_litmus.specs.declared.operation.Operation.TheVariants.{Set, Sum, Compare, Store, Load, Swap, FetchAdd, Fence, Branch}
use Rattle.lw_litmus.specs.Operations.{location_of, written_change, guard_holds}
use Rattle.lw_interleaving.specs.declared.thread.Thread.{Thread}

-- The thread at the next statement.
abbrev pub advance : Thread → Thread
advance t = record { position = t.position + 1; regs = t.regs }

-- The thread at the next statement, after writing a word to a register.
abbrev pub advance_with_register : Thread → ℕ → ℕ → Thread
advance_with_register t d w = record { position = t.position + 1; regs = slice_set t.regs d w }

-- The thread at the next statement, after writing a word to a register if one is named.
abbrev pub advance_with_register_if_some : Thread → Option ℕ → ℕ → Thread
advance_with_register_if_some t d w = record { position = t.position + 1; regs = set_word_if_some t.regs d w }

-- The thread at the target, if the branch jumps, and at the next statement otherwise.
abbrev pub jump_or_advance : Thread → Bool → ℕ → Thread
jump_or_advance t holds to = record { position = if holds then to else t.position + 1; regs = t.regs }

-- The thread after an operation that finds this word at its location. (A store changes no register. No source statement is a comparison, a
-- fence or a branch on the zero flag.)
abbrev pub thread_with : Operation → Thread → ℕ → Thread
thread_with (Set d v) t w = advance_with_register t d (operand_value v t.regs)
thread_with (Sum d a v) t w = advance_with_register t d (wrapping_sum (slice_index t.regs a) (operand_value v t.regs))
thread_with (Compare a v) t w = advance t
thread_with (Store x v) t w = advance t
thread_with (Load d x) t w = advance_with_register t d w
thread_with (Swap d x a) t w = advance_with_register t d w
thread_with (FetchAdd d x v) t w = advance_with_register_if_some t d w
thread_with Fence t w = advance t
thread_with (Branch c to) t w = jump_or_advance t (guard_holds c t.regs false) to

-- The thread after an operation on a memory with these words.
abbrev pub thread_after : Operation → Thread → List ℕ → Thread
thread_after o t words = thread_with o t (word_or_zero (location_of o) words)

-- The memory after an operation: its location's word is changed if it writes one.
abbrev pub words_after : Operation → Thread → List ℕ → List ℕ
words_after o t words = apply_change_if_some (location_of o) (written_change o t.regs) words
