-- The laws of memory systems. The definitions of machines do not depend on them.
use Rattle.std.specs.Prelude.{◌≡◌, ℕ, length, Option}
use Rattle.lw_memory.specs.declared.request.Request.{Request}
use Rattle.lw_memory.specs.Content.{request_result, content_after_request}
use Rattle.lw_memory.specs.Memory.{Memory, IsInRange, IsEnabled}

-- What every request preserves: the number of processors, and an invariant of the states.
pub record Invariant (State : Type 0) : Type 1 where
  pub cpus : State → ℕ
  pub sound : State → Type 0

-- The invariant with these members.
abbrev pub invariant_of : {State : Type 0} → (State → ℕ) → (State → Type 0) → Invariant State
invariant_of cpus sound = record { cpus = cpus; sound = sound }

module _ {State : Type 0} (mem : Memory State) (inv : Invariant State) where
  -- What the laws state of a transition: the request was enabled, its result and the content after it are those of a memory of one word for
  -- each location, and the next state satisfies the invariant with the same number of processors.
  pub record RequestEffect (m : State) (r : Request) (a : Option ℕ) (n : State) : Type 0 where
    pub possible : IsEnabled (mem.state m) r
    pub answer : a ≡ request_result (mem.content m) r
    pub content : mem.content n ≡ content_after_request (mem.content m) r
    pub cpus : inv.cpus n ≡ inv.cpus m
    pub sound : inv.sound n

  -- The laws: every transition has these properties, and every enabled request on existing processors and locations has a transition.
  pub record IsLawful : Type 0 where
    pub served : (m : State) (r : Request) (a : Option ℕ) (n : State)
        → inv.sound m → mem.serves m r a n → RequestEffect m r a n
    pub serves : (m : State) (r : Request)
        → inv.sound m → IsInRange (inv.cpus m) (length (mem.content m)) r → IsEnabled (mem.state m) r
        → (n : State) × mem.serves m r (request_result (mem.content m) r) n
