-- The results and effects of a thread's events. Used only within the crate.
use Rattle.std.specs.Prelude.{◌≡◌, ℕ, ◌+◌, Bool, true, false, Ok, Some, List, slice_get, slice_index}
use Rattle.lw_base.specs.declared.stop.Stop.{Stop}
use Rattle.lw_memory.specs.Flat.{flat_memory}
use Rattle.lw_litmus.specs.declared.instr.Instr.{Instr}
use Rattle.lw_tso.specs.EventEffects.{EventEffect, Refused, step_effect}
use Rattle.lw_tso.specs.Machines.{EffectTransition}
use Rattle.lw_tso.specs.Processors.{Processor}

-- The result and the effect of an event of a thread over flat memory: true if it was carried out, and false if it is rejected and nothing
-- changes.
abbrev pub ActResult : EventEffect → Processor → List ℕ → Bool → Processor → List ℕ → Type 0
ActResult act p m true q n = (t : ℕ) → EffectTransition flat_memory t act p m (Ok tt) q n
ActResult act p m false q n = ((stop : Stop) × (act ≡ Refused stop)) × (q ≡ p) × (n ≡ m)

-- The next step of a thread is rejected.
abbrev pub RefusesStep : List Instr → Processor → Type 0
RefusesStep code p = (stop : Stop) × (step_effect (slice_get code p.position) p ≡ Refused stop)

-- The number that a key has for thread t is that of a row of which P holds.
abbrev pub HasRow : List Processor → List ℕ → ℕ → (Processor → Type 0) → Type 0
HasRow rows key t P = (p : Processor) × (slice_get rows (slice_index key (t + 1)) ≡ Some p) × P p
