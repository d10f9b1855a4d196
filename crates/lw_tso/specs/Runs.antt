-- Runs of an x86 program on the machine, over any memory, and their outcomes.
use Rattle.std.specs.Prelude.{◌≡◌, ℕ, ◌==◌, Bool, nat_le, ◌&&◌, List, length, map, IsTrue}
use Rattle.std.specs.List.{list_all, zip}
use Rattle.lw_base.specs.Outcomes.{FinalState}
use Rattle.lw_base.specs.declared.event.Event.{Event}
use Rattle.lw_base.specs.declared.stop.Replay.{Replay}
use Rattle.lw_memory.specs.Memory.{Memory}
use Rattle.lw_litmus.specs.declared.instr.Instr.{Instr}
use Rattle.lw_litmus.specs.Tests.{X86Test}
use Rattle.lw_tso.specs.Processors.{Processor, initial_processor}
use Rattle.lw_tso.specs.Machines.{MachineState, MachineTransition}
use Rattle.lw_base.specs.Replays as replays

-- Tests whether a processor is past its last instruction, with an empty buffer.
abbrev pub has_terminated : List Instr → Processor → Bool
has_terminated code p = nat_le (length code) p.position && (length p.buffer == 0)

module _ {M : Type 0} where
  -- The initial state of a test over a memory: all processors at their first instructions with the initial registers.
  abbrev pub initial_machine_state : X86Test → M → MachineState M
  initial_machine_state test m = record { processors = map initial_processor test.head.init_regs; memory = m }

  -- Tests whether all threads have terminated and all buffers are empty.
  abbrev pub is_final : List (List Instr) → MachineState M → Bool
  is_final program s = list_all (λ p. has_terminated p.0 p.1) (zip program s.processors)

module _ {M : Type 0} (mem : Memory M) where
  -- The registers of a state, and the memory's content.
  abbrev pub machine_outcome : MachineState M → FinalState
  machine_outcome s = record { regs = map (λ p. p.regs) s.processors; words = mem.content s.memory }

  -- The events lead from one state to another, each being enabled in its turn.
  abbrev pub MachineRunsTo : List (List Instr) → List Event → MachineState M → MachineState M → Type 0
  MachineRunsTo program = replays.RunsTo (MachineTransition mem program)

  -- A replay carries out the events before the first that is rejected, or all.
  abbrev pub IsMachineReplay : List (List Instr) → List Event → MachineState M → Replay → MachineState M → Type 0
  IsMachineReplay program = replays.IsReplayOf (MachineTransition mem program) (is_final program)

  -- These events lead from the initial state over the memory m to a final state with this outcome, each being enabled in its turn.
  pub record ReplaysTo (test : X86Test) (m : M) (events : List Event) (o : FinalState) : Type 0 where
    pub end : MachineState M
    pub ran : MachineRunsTo test.threads events (initial_machine_state test m) end
    pub final : IsTrue (is_final test.threads end)
    pub outcome_is : o ≡ machine_outcome end

  -- Some list of events leads from the initial state to the outcome.
  abbrev pub IsMachineOutcome : X86Test → M → FinalState → Type 0
  IsMachineOutcome test m o = (events : List Event) × ReplaysTo test m events o

-- The initial registers of each thread and the initial words of the locations.
pub record InitialWords : Type 0 where
  pub regs : List (List ℕ)
  pub words : List ℕ

-- What a contract sees of a `Machine`: the program, its initial words, and the current state.
pub record MachineRun (M : Type 0) : Type 0 where
  pub program : List (List Instr)
  pub initial : InitialWords
  pub state : MachineState M
