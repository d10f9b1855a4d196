-- Initial memories of a test.
use Rattle.std.specs.Prelude.{◌≡◌, ◌≤◌, length}
use Rattle.lw_memory.specs.SystemLaws.{Invariant}
use Rattle.lw_memory.specs.Memory.{Memory}
use Rattle.lw_litmus.specs.Tests.{X86Test}

-- The memory m is an initial memory of the test: a state that satisfies the memory system's invariant, with a processor for each thread,
-- and with the test's initial words as content.
pub record IsInitialMemory {M : Type 0} (mem : Memory M) (inv : Invariant M) (test : X86Test) (m : M) : Type 0 where
  pub sound : inv.sound m
  pub cpus : length test.threads ≤ inv.cpus m
  pub words : mem.content m ≡ test.head.init_words
