-- Events whose processor and location exist.
use Rattle.std.specs.Prelude.{ℕ, ◌<◌}
use Rattle.lw_base.specs.declared.event.Event.{Event}
use Rattle.lw_base.specs.declared.event.Event.TheVariants.{Step, Drain, Evict}

-- The event's processor is below `threads`, and if the event is an eviction, its location is below `locs`.
abbrev pub IsEventInRange : ℕ → ℕ → Event → Type 0
IsEventInRange threads locs (Step t) = t < threads
IsEventInRange threads locs (Drain t) = t < threads
IsEventInRange threads locs (Evict t x) = (t < threads) × (x < locs)
