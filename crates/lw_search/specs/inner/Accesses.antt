-- Sets of accesses, each of a location, which it reads or writes: those that conflict with what threads still do. Used only within the
-- crate.
use Rattle.std.specs.Prelude.{◌≡◌, ◌≢◌, ℕ, ◌+◌, ◌<◌, ◌≤◌, ◌||◌, Bool, true, false, Option, Some, List, length, slice_get}
use Rattle.std.specs.Int.{bit_at}
use Rattle.lw_base.specs.Limits.{most_locations, most_threads}
use Rattle.lw_base.specs.Threads.{thread_code}
use Rattle.lw_litmus.specs.declared.instr.Instr.{Instr}
use Rattle.lw_litmus.specs.Operations.{location_of, writes}
use Rattle.lw_litmus.specs.Programs.{x86_operation}
use Rattle.lw_tso.specs.Processors.{Processor}
use Rattle.lw_search.specs.declared.accesses.Outlook.{Outlook}
use Rattle.lw_search.specs.declared.accesses.Outlooks.{Outlooks}
use Rattle.lw_search.specs.inner.InvisibleEvents.{NeverConflicts}
use Rattle.lw_search.specs.inner.StateKeys.{State}

-- The bit of the access of location x that writes it (true) or reads it (false).
abbrev pub access_bit : ℕ → Bool → ℕ
access_bit x true = x + most_locations
access_bit x false = x

-- A set, as the bits of a number, lacks the access of location x that writes it or reads it.
abbrev pub Lacks : ℕ → ℕ → Bool → Type 0
Lacks set x written = bit_at set (access_bit x written) ≡ 0

-- A set has each access that conflicts with an instruction of a code from one position to before another.
abbrev pub HasConflictsBetween : List Instr → ℕ → ℕ → ℕ → Type 0
HasConflictsBetween code from to set =
    (x : ℕ) (written : Bool) → x < most_locations → Lacks set x written → (j : ℕ) (i : Instr) → from ≤ j → j < to → slice_get code j ≡ Some i
    → location_of (x86_operation i) ≡ Some x → (written || writes (x86_operation i)) ≡ true → ⊥

-- A set has each access that conflicts with an event of a thread in state p, now or later.
abbrev pub HasConflictsOf : List Instr → Processor → ℕ → Type 0
HasConflictsOf code p set = (x : ℕ) (written : Bool) → x < most_locations → Lacks set x written → NeverConflicts code p x written

-- A set has each access that conflicts with an event of another thread than t in state s, now or later.
abbrev pub HasConflictsOfOthers : List (List Instr) → State → ℕ → ℕ → Type 0
HasConflictsOfOthers program s t set =
    (u : ℕ) (p : Processor) → u ≢ t → slice_get s.processors u ≡ Some p → HasConflictsOf (thread_code program u) p set

-- An access, if there is one, is of a location of memory m, and a set of conflicts lacks it.
abbrev pub AvoidsConflicts : ℕ → List ℕ → Option (ℕ × Bool) → Type 0
AvoidsConflicts set m access =
    (a : ℕ × Bool) → access ≡ Some a → (a.0 < length m) × (a.0 < most_locations) × Lacks set a.0 a.1

-- Outlooks describe a thread in state p, whichever thread of the program it is: the one at index u has the conflicts of thread u.
abbrev pub DescribeThread : List (List Instr) → Processor → List Outlook → Type 0
DescribeThread program p outlooks =
    (u : ℕ) → u < length program
    → (o : Outlook) × (slice_get outlooks u ≡ Some o) × HasConflictsOf (thread_code program u) p o.conflicts

-- Outlooks describe the threads of state s, at most four: the one at index u has the conflicts of thread u.
abbrev pub DescribeState : List (List Instr) → State → List Outlook → Type 0
DescribeState program s outlooks =
    (u : ℕ) (p : Processor) → slice_get s.processors u ≡ Some p
    → (u < most_threads)
    × (o : Outlook) × (slice_get outlooks u ≡ Some o) × HasConflictsOf (thread_code program u) p o.conflicts

-- The outlooks in a table describe the threads' states with the same numbers.
pub record DescribeRows (program : List (List Instr)) (threads : List Processor) (rows : List Outlooks) : Type 0 where
  pub enough : length threads ≤ length rows
  pub describe : (n : ℕ) (p : Processor) (row : Outlooks) → slice_get threads n ≡ Some p → slice_get rows n ≡ Some row
      → DescribeThread program p row.threads
