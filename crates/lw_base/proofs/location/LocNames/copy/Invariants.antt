-- At each round the names copied so far are the first of the table.
use Rattle.lw_base.proofs.Common.{◌≡◌, map, take, string_bytes}
use Rattle.lw_base.proofs.location.LocNames.copy.Given as goal

abbrev pub invariant-loop-name : goal.invariant-loop-name
invariant-loop-name g l = map string_bytes l.names.items ≡ map string_bytes (take l.name-index l.name-items)
