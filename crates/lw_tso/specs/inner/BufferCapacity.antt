-- The capacity that a store buffer needs: a place for each entry, and for each store that remains. Jumps lead forward, so no flow path has
-- more stores ahead than the code has at or after the position. (This is among the definitions because a model cites it.)
use Rattle.std.specs.Prelude.{◌≡◌, ℕ, ◌+◌, ◌<◌, ◌≤◌, Bool, Some, List, length, drop, slice_get, All}
use Rattle.std.specs.List.{count_by}
use Rattle.lw_memory.specs.SystemLaws.{Invariant}
use Rattle.lw_memory.specs.Memory.{Memory}
use Rattle.lw_litmus.specs.declared.instr.Instr.{Instr}
use Rattle.lw_litmus.specs.Operations.{is_store}
use Rattle.lw_litmus.specs.Programs.{x86_operation}
use Rattle.lw_tso.specs.declared.processor.Processor.{Processor as ProcessorInMemory}
use Rattle.lw_tso.specs.Processors.{Processor}
use Rattle.lw_base.specs.Threads.{thread_code}
use Rattle.lw_tso.specs.inner.Views.{processor_of}

-- Tests whether an instruction is a store, which enqueues an entry.
abbrev pub makes_entry : Instr → Bool
makes_entry i = is_store (x86_operation i)

-- The number of stores of a code from a position on.
abbrev pub stores_from : ℕ → List Instr → ℕ
stores_from k code = count_by makes_entry (drop k code)

-- The buffer has room for the stores that remain, and its entries are for locations of the test.
pub record HasRoom (locs : ℕ) (code : List Instr) (p : Processor) (room : ℕ) : Type 0 where
  pub fits : length p.buffer + stores_from p.position code ≤ room
  pub entries_in_range : All (λ entry. entry.0 < locs) p.buffer

module _ {M A : Type 0} (mem : Memory M) (inv : Invariant M) where
  -- The invariant of the parts of a machine in memory: there is a processor for each thread, which the memory system has too, the memory
  -- has the test's locations, and each store buffer has room, even for all stores of its code.
  pub record IsReachableMachine (program : List (List Instr)) (locs : ℕ) (m : M) (processors : List (ProcessorInMemory A)) : Type 0 where
    pub sound : inv.sound m
    pub locations : length (mem.content m) ≡ locs
    pub cpus : length processors ≤ inv.cpus m
    pub as_many : length processors ≡ length program
    pub rooms : (t : ℕ) (p : ProcessorInMemory A) → slice_get processors t ≡ Some p
        → HasRoom locs (thread_code program t) (processor_of p) p.buffer.room
    pub whole : (t : ℕ) (p : ProcessorInMemory A) → slice_get processors t ≡ Some p
        → stores_from 0 (thread_code program t) ≤ p.buffer.room
