-- Removing evictions from a list of events.
use Rattle.std.specs.Prelude.{List, [], ◌∷◌}
use Rattle.lw_base.specs.declared.event.Event.{Event}
use Rattle.lw_base.specs.declared.event.Event.TheVariants.{Step, Drain, Evict}

-- The steps and the drains of a list of events.
abbrev pub without_evictions : List Event → List Event
without_evictions [] = []
without_evictions (Step t ∷ es) = Step t ∷ without_evictions es
without_evictions (Drain t ∷ es) = Drain t ∷ without_evictions es
without_evictions (Evict t x ∷ es) = without_evictions es
