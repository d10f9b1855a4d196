-- The reachable states of the machine over flat memory, and how many of them a search visits.
use Rattle.std.specs.Prelude.{◌≡◌, ℕ, ◌<◌, List, length, IsTrue, All, Contains}
use Rattle.lw_base.specs.Lists.{IsDuplicateFree}
use Rattle.lw_base.specs.declared.event.Event.{Event}
use Rattle.lw_fence.specs.Compiling.{IsCompiled}
use Rattle.lw_litmus.specs.Tests.{SourceTest, X86Test}
use Rattle.lw_memory.specs.Flat.{flat_memory}
use Rattle.lw_tso.specs.Machines.{MachineState}
use Rattle.lw_tso.specs.Runs.{MachineRunsTo, initial_machine_state, is_final}

-- The state is reachable: some list of events leads to it from the initial state of the test.
abbrev pub IsReachable : X86Test → MachineState (List ℕ) → Type 0
IsReachable test s = (events : List Event) × MachineRunsTo flat_memory test.threads events (initial_machine_state test test.head.init_words) s

-- The states of a list are pairwise different, and each is reachable.
pub record AreReachable (test : X86Test) (states : List (MachineState (List ℕ))) : Type 0 where
  pub distinct : IsDuplicateFree states
  pub reachable : All (IsReachable test) states

-- A search visits `count` different reachable states, and all final states that are reachable are among them.
pub record Visits (test : X86Test) (count : ℕ) : Type 0 where
  pub states : List (MachineState (List ℕ))
  pub size : length states ≡ count
  pub reachable : AreReachable test states
  pub final : (s : MachineState (List ℕ)) → IsReachable test s → IsTrue (is_final test.threads s) → Contains states s

-- More than `budget` different states are reachable.
pub record ExceedsBudget (test : X86Test) (budget : ℕ) : Type 0 where
  pub states : List (MachineState (List ℕ))
  pub more : budget < length states
  pub reachable : AreReachable test states

-- The property P holds of the compiled program of a source test.
pub record HoldsOfCompiled (test : SourceTest) (P : X86Test → Type 0) : Type 0 where
  pub program : X86Test
  pub starts : List (List ℕ)
  pub compiled : IsCompiled test program starts
  pub holds : P program
