-- Runs that can be extended to an end.
use Rattle.std.specs.Prelude.{◌≡◌, ℕ, ◌*◌, ◌≤◌, ◌==◌, List, length, IsTrue}
use Rattle.std.specs.List.{count_by}
use Rattle.lw_base.specs.Threads.{thread_code}
use Rattle.lw_base.specs.declared.event.Event.{Event}
use Rattle.lw_memory.specs.Memory.{Memory}
use Rattle.lw_litmus.specs.declared.instr.Instr.{Instr}
use Rattle.lw_tso.specs.EventEffects.{cpu_of}
use Rattle.lw_tso.specs.Machines.{MachineState}
use Rattle.lw_tso.specs.Runs.{MachineRunsTo, is_final}
use Rattle.lw_tso.specs.Evictions.{without_evictions}

-- The number of events of the processor.
abbrev pub event_count : ℕ → List Event → ℕ
event_count t events = count_by (λ e. cpu_of e == t) events

-- Further events lead from this state to a final one, each being enabled in its turn: for each thread at most a step and a drain for each
-- of its instructions, and no eviction.
pub record CanTerminate {M : Type 0} (mem : Memory M) (program : List (List Instr)) (s : MachineState M) : Type 0 where
  pub more : List Event
  pub end : MachineState M
  pub ran : MachineRunsTo mem program more s end
  pub final : IsTrue (is_final program end)
  pub bounded : (t : ℕ) → event_count t more ≤ 2 * length (thread_code program t)
  pub no_evictions : without_evictions more ≡ more
