-- The printed codes and names of the causes for which a test has no list.
use Rattle.std.specs.Prelude.{ℕ, codes}
use Rattle.lw_base.specs.Types.{Bytes}
use Rattle.lw_paths.specs.declared.fault.ListFault.{ListFault}
use Rattle.lw_paths.specs.declared.fault.ListFault.TheVariants.{TooManyItems, TooManyOrders, Memory}

-- The printed code of the cause.
abbrev pub list_fault_code : ListFault → ℕ
list_fault_code TooManyItems = 1
list_fault_code TooManyOrders = 2
list_fault_code Memory = 3

-- The printed name of the cause.
abbrev pub list_fault_name : ListFault → Bytes
list_fault_name TooManyItems = codes "TooManyItems"
list_fault_name TooManyOrders = codes "TooManyOrders"
list_fault_name Memory = codes "Memory"
