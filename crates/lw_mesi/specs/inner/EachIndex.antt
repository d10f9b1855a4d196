-- Lists by processor, and sets of processors.
use Rattle.std.specs.Prelude.{ℕ, List, map, Option, Some, None, Bool, false, ◌==◌}
use Rattle.std.specs.List.{range_with_len}
use Rattle.std.specs.Int.{bit_at}
use Rattle.lw_base.specs.Limits.{most_threads}

-- The list of a function's values at each processor's index.
abbrev pub at_each : {A : Type 0} → (ℕ → A) → List A
at_each f = map f (range_with_len 0 most_threads)

-- The set of processors whose bits are 1 in a number, as a list of truth values by processor.
abbrev pub cpu_set_of_bits : ℕ → List Bool
cpu_set_of_bits bits = at_each (λ t. bit_at bits t == 1)

-- The empty set of processors.
abbrev pub empty_cpu_set : List Bool
empty_cpu_set = at_each (λ t. false)

-- Tests whether the owner, if there is one, is this processor.
abbrev pub is_owner : Option ℕ → ℕ → Bool
is_owner None t = false
is_owner (Some o) t = o == t
