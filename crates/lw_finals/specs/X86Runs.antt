-- Runs of the orders of an x86 test's items on the machine, over any memory.
use Rattle.std.specs.Prelude.{ℕ, Bool, true, false, List, map}
use Rattle.lw_base.specs.Outcomes.{FinalState}
use Rattle.lw_base.specs.declared.event.Event.{Event}
use Rattle.lw_base.specs.declared.event.Event.TheVariants.{Step, Drain}
use Rattle.lw_memory.specs.Flat.{flat_memory}
use Rattle.lw_memory.specs.Memory.{Memory}
use Rattle.lw_tso.specs.Independence.{TransitionAt}
use Rattle.lw_tso.specs.Machines.{MachineState}
use Rattle.lw_tso.specs.Runs.{ReplaysTo, initial_machine_state, machine_outcome, is_final}
use Rattle.lw_litmus.specs.declared.instr.Instr.{Instr}
use Rattle.lw_litmus.specs.Tests.{X86Test}
use Rattle.lw_paths.specs.declared.item.Item.{Item}
use Rattle.lw_paths.specs.Items.{item_at}
use Rattle.lw_litmus.specs.Programs.{x86_language}
use Rattle.lw_finals.specs.OrderRuns as runs

-- A thread's drain (true), or its step (false).
abbrev pub event_by : Bool → ℕ → Event
event_by true t = Drain t
event_by false t = Step t

-- The event that an item represents: a step of its thread, or a drain.
abbrev pub event_of : Item → Event
event_of a = event_by a.is_drain a.thread

-- The events of an order's items.
abbrev pub events_of : List Item → List ℕ → List Event
events_of items order = map (λ i. event_of (item_at items i)) order

module _ {M : Type 0} (mem : Memory M) where
  -- The item's event is carried out; a step only if its thread is at the item's instruction.
  abbrev pub X86ItemTransition : List (List Instr) → Item → MachineState M → MachineState M → Type 0
  X86ItemTransition program item = TransitionAt mem program (event_of item) item.position

  -- The transition system of an x86 test's items.
  abbrev pub x86_item_system : X86Test → M → runs.ItemTransitionSystem (MachineState M)
  x86_item_system test m = record {
    start = initial_machine_state test m;
    Carried = X86ItemTransition test.threads;
    is_final = is_final test.threads;
    outcome_of = machine_outcome mem;
  }

  -- An order of items of an x86 test follows the paths to a final state with this outcome.
  abbrev pub X86FollowsPathsToEnd : X86Test → M → List Item → List ℕ → FinalState → Type 0
  X86FollowsPathsToEnd test m = runs.FollowsPathsToEnd (x86_item_system test m)

  -- The outcome is one of a path assignment of an x86 test.
  abbrev pub IsX86AssignmentOutcome : X86Test → M → List (List ℕ) → FinalState → Type 0
  IsX86AssignmentOutcome test m = runs.IsAssignmentOutcome (x86_item_system test m) x86_language test.threads

-- The schedule replays over flat memory to the outcome.
abbrev pub ReplaysFlatTo : X86Test → List Event → FinalState → Type 0
ReplaysFlatTo test = ReplaysTo flat_memory test test.head.init_words
