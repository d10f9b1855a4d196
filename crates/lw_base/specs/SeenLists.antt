-- The registers and locations of a test, in their order.
use Rattle.std.specs.Prelude.{ℕ, ◌==◌, ◌&&◌, Bool, false, List, map}
use Rattle.std.specs.List.{flat_map, range_with_len}
use Rattle.lw_base.specs.Limits.{registers}
use Rattle.lw_base.specs.declared.head.Seen.{Seen}
use Rattle.lw_base.specs.declared.head.Seen.TheVariants.{Register, Location}

-- Tests whether two registers or locations are equal.
abbrev pub seen_eq : Seen → Seen → Bool
seen_eq (Register t r) (Register u s) = (t == u) && (r == s)
seen_eq (Location x) (Location y) = x == y
seen_eq s other = false

-- The registers of a thread, by index.
abbrev pub thread_registers : ℕ → List Seen
thread_registers t = map (λ r. Register t r) (range_with_len 0 registers)

-- The registers of this number of threads, by thread.
abbrev pub all_registers : ℕ → List Seen
all_registers threads = flat_map thread_registers (range_with_len 0 threads)

-- The locations of a table of this length.
abbrev pub locations : ℕ → List Seen
locations len = map (λ x. Location x) (range_with_len 0 len)
