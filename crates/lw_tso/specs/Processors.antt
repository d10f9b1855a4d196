-- A processor of the x86-TSO machine, and the effect of an instruction on it. The source is the abstract machine of 'x86-TSO: a rigorous
-- and usable programmer's model for x86 multiprocessors' by Sewell, Sarkar, Owens, Zappa Nardelli and Myreen (CACM 2010), and for words and
-- flags Intel's manual of the instruction set.
use Rattle.std.specs.Prelude.{ℕ, ◌+◌, ◌==◌, Bool, false, if◌then◌else◌, Option, Some, None, List, [], ◌∷◌, ◌++◌, slice_set}
use Rattle.std.specs.Option.{option_or}
use Rattle.lw_base.specs.Threads.{set_word_if_some}

-- A processor: its position in its code, its registers and zero flag, and its store buffer.
pub record Processor : Type 0 where
  pub position : ℕ  -- The index of its next instruction.
  pub regs : List ℕ
  pub zero_flag : Bool
  pub buffer : List (ℕ × ℕ)  -- Its store buffer: locations with words, the oldest entry first.

-- A processor at its first instruction.
abbrev pub initial_processor : List ℕ → Processor
initial_processor regs = record { position = 0; regs = regs; zero_flag = false; buffer = [] }

-- The newest word that a buffer has for a location, if it has one.
abbrev pub newest_buffered : List (ℕ × ℕ) → ℕ → Option ℕ
newest_buffered [] x = None
newest_buffered (entry ∷ newer) x = option_or (newest_buffered newer x) (if entry.0 == x then Some entry.1 else None)

-- The processor at the next instruction.
abbrev pub advance_processor : Processor → Processor
advance_processor p = record p { position = p.position + 1 }

-- The processor at the target, if the branch jumps, and at the next instruction otherwise.
abbrev pub jump_or_advance_processor : Processor → Bool → ℕ → Processor
jump_or_advance_processor p holds to = record p { position = if holds then to else p.position + 1 }

-- The processor with a word in a register.
abbrev pub set_register : Processor → ℕ → ℕ → Processor
set_register p d w = record p { regs = slice_set p.regs d w }

-- The processor with a word in a register, if one is named.
abbrev pub set_register_if_some : Processor → Option ℕ → ℕ → Processor
set_register_if_some p d w = record p { regs = set_word_if_some p.regs d w }

-- The processor with this zero flag.
abbrev pub set_zero_flag : Processor → Bool → Processor
set_zero_flag p holds = record p { zero_flag = holds }

-- The processor with one more entry in its buffer, the newest.
abbrev pub enqueue_store : Processor → ℕ → ℕ → Processor
enqueue_store p x w = record p { buffer = p.buffer ++ (x, w) ∷ [] }
