-- Memory systems.
use Rattle.std.specs.Prelude.{◌≡◌, ℕ, ◌<◌, List, Option, Bool, true, false}
use Rattle.lw_memory.specs.declared.system.LineState.{LineState}
use Rattle.lw_memory.specs.declared.system.LineState.TheVariants.{I}
use Rattle.lw_memory.specs.declared.request.Request.{Request}
use Rattle.lw_memory.specs.declared.request.Request.TheVariants.{Ask, Evict}

-- A memory system over a type of states: the word of each location, the state of each processor's copy, and the relation between a state, a
-- request, its result and the next state.
pub record Memory (State : Type 0) : Type 1 where
  pub content : State → List ℕ
  pub state : State → ℕ → ℕ → LineState
  pub serves : State → Request → Option ℕ → State → Type 0

-- The memory system with these members.
abbrev pub memory_of : {State : Type 0}
    → (State → List ℕ) → (State → ℕ → ℕ → LineState) → (State → Request → Option ℕ → State → Type 0) → Memory State
memory_of content state serves = record { content = content; state = state; serves = serves }

-- Tests whether a copy is present: in every state except I.
abbrev pub is_held : LineState → Bool
is_held I = false
is_held held = true

-- The location of a request.
abbrev pub request_location : Request → ℕ
request_location (Ask t x access) = x
request_location (Evict t x) = x

-- The request's processor and location exist.
abbrev pub IsInRange : ℕ → ℕ → Request → Type 0
IsInRange cpus locs (Ask t x access) = (t < cpus) × (x < locs)
IsInRange cpus locs (Evict t x) = (t < cpus) × (x < locs)

-- The request is enabled: an eviction if the processor holds the location, any other request always.
abbrev pub IsEnabled : (ℕ → ℕ → LineState) → Request → Type 0
IsEnabled state (Ask t x access) = Unit {0}
IsEnabled state (Evict t x) = is_held (state t x) ≡ true
