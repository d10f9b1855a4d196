-- The line and the exit status of a rejected request.
use Rattle.std.specs.Prelude.{ℕ, ◌++◌, codes}
use Rattle.std.specs.Fmt.{decimal}
use Rattle.lw_base.specs.Types.{Bytes}
use Rattle.lw_bench.specs.Faults as lw
use Rattle.lw_beyond.specs.declared.fault.BeyondFault.{BeyondFault}
use Rattle.lw_beyond.specs.declared.fault.BeyondFault.TheVariants.{Bench, Budget}

-- The line of a fault: that of `lw`, or the budget.
abbrev pub fault_text : BeyondFault → Bytes
fault_text (Bench f) = lw.fault_text f
fault_text (Budget n) = codes "beyond: budget " ++ decimal n

-- The exit status of a fault: that of `lw`, or that of a limit.
abbrev pub fault_status : BeyondFault → ℕ
fault_status (Bench f) = lw.status f
fault_status (Budget n) = 3
