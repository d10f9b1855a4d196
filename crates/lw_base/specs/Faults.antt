-- The printed codes and names of the causes for which a cell or a schedule is rejected.
use Rattle.std.specs.Prelude.{ℕ, codes}
use Rattle.lw_base.specs.Types.{Bytes}
use Rattle.lw_base.specs.declared.fault.CellCause.{CellCause}
use Rattle.lw_base.specs.declared.fault.CellCause.TheVariants as cell
use Rattle.lw_base.specs.declared.fault.ScheduleCause.{ScheduleCause}
use Rattle.lw_base.specs.declared.fault.ScheduleCause.TheVariants as schedule

-- The printed code of a cell's cause.
abbrev pub cell_cause_code : CellCause → ℕ
cell_cause_code cell.Form = 1
cell_cause_code cell.Register = 2
cell_cause_code cell.LabelMissing = 3
cell_cause_code cell.LabelTwice = 4
cell_cause_code cell.Backward = 5
cell_cause_code cell.TooMany = 6
cell_cause_code cell.Memory = 7

-- The printed name of a cell's cause.
abbrev pub cell_cause_name : CellCause → Bytes
cell_cause_name cell.Form = codes "Form"
cell_cause_name cell.Register = codes "Register"
cell_cause_name cell.LabelMissing = codes "LabelMissing"
cell_cause_name cell.LabelTwice = codes "LabelTwice"
cell_cause_name cell.Backward = codes "Backward"
cell_cause_name cell.TooMany = codes "TooMany"
cell_cause_name cell.Memory = codes "Memory"

-- The printed code of a schedule's cause.
abbrev pub schedule_cause_code : ScheduleCause → ℕ
schedule_cause_code schedule.Word = 1
schedule_cause_code schedule.Cpu = 2
schedule_cause_code schedule.Location = 3
schedule_cause_code schedule.Memory = 4

-- The printed name of a schedule's cause.
abbrev pub schedule_cause_name : ScheduleCause → Bytes
schedule_cause_name schedule.Word = codes "Word"
schedule_cause_name schedule.Cpu = codes "Cpu"
schedule_cause_name schedule.Location = codes "Location"
schedule_cause_name schedule.Memory = codes "Memory"
