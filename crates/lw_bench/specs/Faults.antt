-- The printed line and the exit status of a fault, and of a run without a fault.
use Rattle.std.specs.Prelude.{ℕ, ◌++◌, codes}
use Rattle.std.specs.Fmt.{decimal}
use Rattle.lw_base.specs.Types.{Bytes}
use Rattle.lw_base.specs.Faults.{cell_cause_code, cell_cause_name, schedule_cause_code, schedule_cause_name}
use Rattle.lw_base.specs.declared.fault.CellCause.{CellCause}
use Rattle.lw_base.specs.declared.fault.CellCause.TheVariants as cell
use Rattle.lw_base.specs.declared.fault.CellFault.{CellFault}
use Rattle.lw_base.specs.declared.fault.ScheduleCause.{ScheduleCause}
use Rattle.lw_base.specs.declared.fault.ScheduleCause.TheVariants as schedule
use Rattle.lw_base.specs.declared.fault.ScheduleFault.{ScheduleFault}
use Rattle.lw_base.specs.declared.stop.End.{End}
use Rattle.lw_base.specs.declared.stop.End.TheVariants as at
use Rattle.lw_text.specs.Causes.{text_cause_code, text_cause_name}
use Rattle.lw_text.specs.declared.fault.TextCause.{TextCause}
use Rattle.lw_text.specs.declared.fault.TextCause.TheVariants as text
use Rattle.lw_text.specs.declared.fault.TextFault.{TextFault}
use Rattle.lw_paths.specs.Faults.{list_fault_code, list_fault_name}
use Rattle.lw_paths.specs.declared.fault.ListFault.{ListFault}
use Rattle.lw_paths.specs.declared.fault.ListFault.TheVariants as list
use Rattle.lw_bench.specs.declared.fault.BenchFault.{BenchFault}
use Rattle.lw_bench.specs.declared.fault.BenchFault.TheVariants.{Text, Cell, Schedule, Limit, Memory, Read, Write}

-- The reported fault for a text's fault with this cause: `Memory` if memory ran out, and the fault itself otherwise.
abbrev pub text_fault : TextFault → TextCause → BenchFault
text_fault f text.Memory = Memory
text_fault f _ = Text f

-- The reported fault for a text's fault.
abbrev pub text_run_fault : TextFault → BenchFault
text_run_fault f = text_fault f f.cause

-- The reported fault for a cell's fault with this cause: `Memory` if memory ran out, and the fault itself otherwise.
abbrev pub cell_fault : CellFault → CellCause → BenchFault
cell_fault f cell.Memory = Memory
cell_fault f _ = Cell f

-- The reported fault for a cell's fault.
abbrev pub cell_run_fault : CellFault → BenchFault
cell_run_fault f = cell_fault f f.cause

-- The reported fault for a schedule's fault with this cause: `Memory` if memory ran out, and the fault itself otherwise.
abbrev pub schedule_fault : ScheduleFault → ScheduleCause → BenchFault
schedule_fault f schedule.Memory = Memory
schedule_fault f _ = Schedule f

-- The reported fault for a schedule's fault.
abbrev pub schedule_run_fault : ScheduleFault → BenchFault
schedule_run_fault f = schedule_fault f f.cause

-- The reported fault if there is no list: memory, or the limit that the test exceeds.
abbrev pub limit_run_fault : ListFault → BenchFault
limit_run_fault list.Memory = Memory
limit_run_fault list.TooManyItems = Limit list.TooManyItems
limit_run_fault list.TooManyOrders = Limit list.TooManyOrders

-- The line of a fault with a place: its kind (text, cell, schedule), its cause's code and name, and the offset.
abbrev pub placed_text : Bytes → ℕ → Bytes → ℕ → Bytes
placed_text kind code name place =
    codes "lw: " ++ (kind ++ (codes " " ++ (decimal code ++ (codes " " ++ (name ++ (codes " at " ++ decimal place))))))

-- The line of a fault, without its end.
abbrev pub fault_text : BenchFault → Bytes
fault_text (Text f) = placed_text (codes "text") (text_cause_code f.cause) (text_cause_name f.cause) f.at
fault_text (Cell f) = placed_text (codes "cell") (cell_cause_code f.cause) (cell_cause_name f.cause) f.at
fault_text (Schedule f) = placed_text (codes "schedule") (schedule_cause_code f.cause) (schedule_cause_name f.cause) f.at
fault_text (Limit f) = codes "lw: limit " ++ (decimal (list_fault_code f) ++ (codes " " ++ list_fault_name f))
fault_text Memory = codes "lw: memory"
fault_text Read = codes "lw: read failed"
fault_text Write = codes "lw: write failed"

-- The exit status of a fault: 1 for the input, 3 for a limit, 4 for memory or a device.
abbrev pub status : BenchFault → ℕ
status (Text f) = 1
status (Cell f) = 1
status (Schedule f) = 1
status (Limit f) = 3
status Memory = 4
status Read = 4
status Write = 4

-- The exit status of a replay: 0 if it ended in a final state.
abbrev pub end_status : End → ℕ
end_status at.Final = 0
end_status at.NotFinal = 1
end_status (at.Stopped stop) = 1

-- The exit status of a run that wrote its output.
abbrev pub success_status : ℕ
success_status = 0

-- The line for arguments that name no task.
abbrev pub usage_text : Bytes
usage_text = codes "usage: lw states | lw compile | lw schedules | lw replay SCHEDULE"

-- The exit status for arguments that name no task.
abbrev pub usage_status : ℕ
usage_status = 2
