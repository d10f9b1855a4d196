-- The result of a call on a text, and how it is stored in the caller's buffer.
use Rattle.std.specs.Prelude.{◌≡◌, ◌⊎◌, ◌≤◌, ◌<◌, ℕ, ◌==◌, if◌then◌else◌, ◌++◌, length, drop}
use Rattle.lw_base.specs.Types.{Bytes}
use Rattle.lw_base.specs.declared.stop.End.{End}
use Rattle.lw_mesi.specs.declared.protocol.Protocol.{Protocol}
use Rattle.lw_mesi.specs.declared.protocol.Protocol.TheVariants.{Mesi, Moesi}
use Rattle.lw_bench.specs.declared.fault.BenchFault.{BenchFault}
use Rattle.lw_bench.specs.Faults.{end_status, fault_text, status}
use Rattle.lw_bench.specs.LitmusTests.{LitmusTest}
use Rattle.lw_bench.specs.Outputs.{IsOutputOf}
use Rattle.lw_bench.specs.Replays.{IsReplayPage}
use Rattle.lw_bench.specs.Films.{IsFilm}
use Rattle.lw_bench.specs.FaultTruth.{RunFaultIsTrue, IsNotDeviceFault}
use Rattle.lw_library.specs.declared.call_result.CallResult.{CallResult}

-- The bytes are at the start of the caller's buffer, and the rest of the buffer is unchanged.
pub record IsWritten (bytes : Bytes) (call_result : CallResult) (before after : Bytes) : Type 0 where
  pub counted : call_result.length ≡ length bytes
  pub fits : call_result.length ≤ length before
  pub after_is : after ≡ bytes ++ drop call_result.length before

-- The buffer is too small for the bytes: their number is returned, and the buffer is unchanged.
pub record IsTooSmall (bytes : Bytes) (call_result : CallResult) (before after : Bytes) : Type 0 where
  pub counted : call_result.length ≡ length bytes
  pub too_small : length before < call_result.length
  pub unchanged : after ≡ before

-- These bytes are returned with this kind, or kind 2 is returned, since they do not fit.
abbrev pub ReturnsBytes : ℕ → Bytes → CallResult → Bytes → Bytes → Type 0
ReturnsBytes kind bytes call_result before after =
    ((call_result.kind ≡ kind) × IsWritten bytes call_result before after) ⊎ ((call_result.kind ≡ 2) × IsTooSmall bytes call_result before after)

-- The line of this fault is returned, with kind 1 and the fault's exit status.
abbrev pub ReturnsFaultLine : BenchFault → CallResult → Bytes → Bytes → Type 0
ReturnsFaultLine fault call_result before after = (call_result.status ≡ status fault) × ReturnsBytes 1 (fault_text fault) call_result before after

-- The protocol of a caller's number: MESI for 0, and MOESI for any other number.
abbrev pub replay_protocol : ℕ → Protocol
replay_protocol number = if number == 0 then Mesi else Moesi

-- The bytes are the page of the replay of the test by this schedule, over caches of this protocol, with this exit status.
abbrev pub IsReplayed : Bytes → Protocol → LitmusTest → Bytes → ℕ → Type 0
IsReplayed schedule protocol test made exit_status =
    (end : End) × IsReplayPage protocol test schedule made end × (exit_status ≡ end_status end)

-- The bytes are the film of the replay of the test by this schedule, over caches of this protocol, with the exit status 0.
abbrev pub IsFilmed : Bytes → Protocol → LitmusTest → Bytes → ℕ → Type 0
IsFilmed schedule protocol test made exit_status = IsFilm protocol test schedule made × (exit_status ≡ 0)

-- The result of a call: kind 0 with an answer, kind 1 with a fault's line, or kind 2 if the one or the other does not fit.
pub record ReturnsAnswerOrFault (IsAnswer IsFault : ℕ → Bytes → Type 0) (call_result : CallResult) (before after : Bytes) : Type 0 where
  pub kinds : call_result.kind ≤ 2
  pub answer : call_result.kind ≡ 0 → (made : Bytes) × IsAnswer call_result.status made × IsWritten made call_result before after
  pub fault : call_result.kind ≡ 1 → (line : Bytes) × IsFault call_result.status line × IsWritten line call_result before after
  pub small :
      call_result.kind ≡ 2
      → (bytes : Bytes) × (IsAnswer call_result.status bytes ⊎ IsFault call_result.status bytes) × IsTooSmall bytes call_result before after

module _ (IsMade : LitmusTest → Bytes → ℕ → Type 0) (FaultIsTrue : LitmusTest → BenchFault → Type 0) (text : Bytes) where
  -- The bytes are the output of the task on the test of the text, with this exit status.
  abbrev pub IsAnswer : ℕ → Bytes → Type 0
  IsAnswer exit_status made = IsOutputOf (λ test m. IsMade test m exit_status) text made

  -- The bytes are the line of a fault, which is true of the text and not the failure of a device, with its exit status.
  pub record IsFault (exit_status : ℕ) (line : Bytes) : Type 0 where
    pub fault : BenchFault
    pub is_true : RunFaultIsTrue FaultIsTrue text fault
    pub no_device : IsNotDeviceFault fault
    pub line_is : line ≡ fault_text fault
    pub status_is : exit_status ≡ status fault

  -- The result of a call: the output of the task, or a fault.
  abbrev pub IsCallResult : CallResult → Bytes → Bytes → Type 0
  IsCallResult = ReturnsAnswerOrFault IsAnswer IsFault
