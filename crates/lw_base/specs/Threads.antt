-- What the threads of both languages share: operands, registers, and the codes of a program, one for each thread.
use Rattle.std.specs.Prelude.{ℕ, Option, Some, None, List, [], slice_index, slice_index_or, slice_set}
use Rattle.lw_base.specs.declared.operand.Operand.{Operand}
use Rattle.lw_base.specs.declared.operand.Operand.TheVariants.{Register, Number}

-- The word of an operand, for these registers.
abbrev pub operand_value : Operand → List ℕ → ℕ
operand_value (Register r) regs = slice_index regs r
operand_value (Number n) regs = n

-- The registers after writing this word to one of them, if one is named.
abbrev pub set_word_if_some : List ℕ → Option ℕ → ℕ → List ℕ
set_word_if_some regs None w = regs
set_word_if_some regs (Some d) w = slice_set regs d w

-- The code of the thread at an index; empty past the end.
abbrev pub thread_code : {S : Type 0} → List (List S) → ℕ → List S
thread_code program t = slice_index_or program t []
