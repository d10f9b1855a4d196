-- How a run of the program ends: what it writes to both streams, and its exit status.
use Rattle.std.specs.Prelude.{◌≡◌, ◌⊎◌, ℕ, Option, Some, None, []}
use Rattle.lw_base.specs.Types.{Bytes}
use Rattle.lw_bench.specs.Faults.{fault_text, status}
use Rattle.lw_bench.specs.Outputs.{IsOutputOf}
use Rattle.lw_bench.specs.Tasks.{IsTaskOutput, TaskFaultIsTrue}
use Rattle.lw_bench.specs.FaultTruth.{RunFaultIsTrue, IsNotDeviceFault}
use Rattle.lw_bench.specs.declared.command.Task.{Task}
use Rattle.lw_bench.specs.declared.ending.Ending.{Ending}
use Rattle.lw_bench.specs.declared.ending.Ending.TheVariants.{Answer, Refusal}
use Rattle.lw_bench.specs.declared.ending.Line.{Line}
use Rattle.lw_bench.specs.declared.ending.Line.TheVariants.{Made, Fixed}
use Rattle.lw_bench.specs.declared.fault.BenchFault.{BenchFault}
use Rattle.lw_bench.specs.declared.fault.BenchFault.TheVariants.{Memory}

-- The bytes of a line.
abbrev pub line_bytes : {A : Type 0} → Line A → Bytes
line_bytes (Made text) = text
line_bytes (Fixed text) = text.now

-- What an ending writes to standard output.
abbrev pub output_of : {A : Type 0} → Ending A → Bytes
output_of (Answer output status) = output
output_of (Refusal line status) = []

-- The line that an ending writes to standard error, without its line end, or `None` if it writes nothing there.
abbrev pub line_of : {A : Type 0} → Ending A → Option Bytes
line_of (Answer output status) = None
line_of (Refusal line status) = Some (line_bytes line)

-- The exit status of an ending.
abbrev pub status_of : {A : Type 0} → Ending A → ℕ
status_of (Answer output status) = status
status_of (Refusal line status) = status

-- The ending writes nothing but this line, to standard error, and has this exit status.
pub record WritesLine {A : Type 0} (line : Bytes) (s : ℕ) (e : Ending A) : Type 0 where
  pub output : output_of e ≡ []
  pub line_is : line_of e ≡ Some line
  pub status_is : status_of e ≡ s

-- The ending writes the line of a fault, and has the fault's exit status; or, if memory ran out for this line, it does both for `Memory`.
abbrev pub Reports : {A : Type 0} → BenchFault → Ending A → Type 0
Reports f e = WritesLine (fault_text f) (status f) e ⊎ WritesLine (fault_text Memory) (status Memory) e

-- The ending of a task on a text: the output of the task on the test of the text, with its exit status; or a fault that is true of the
-- text.
abbrev pub EndsTask : {A : Type 0} → Task → Bytes → Ending A → Type 0
EndsTask task text (Answer output s) = IsOutputOf (λ test made. IsTaskOutput task test made s) text output
EndsTask task text (Refusal line s) =
    (f : BenchFault) × RunFaultIsTrue (TaskFaultIsTrue task) text f × IsNotDeviceFault f × WritesLine (fault_text f) (status f) (Refusal line s)
