-- At each round the name is none of the first `index` names.
use Rattle.lw_base.proofs.Common.{◌≡◌, ℕ, ◌<◌, [], map, get_or, string_bytes}
use Rattle.lw_base.proofs.location.LocNames.find.Given as goal

abbrev pub invariant-loop-index : goal.invariant-loop-index
invariant-loop-index g l = (k : ℕ) → k < l.index → get_or (map string_bytes l.known-items) k [] ≡ l.name → ⊥
