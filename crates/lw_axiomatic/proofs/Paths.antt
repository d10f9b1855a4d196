-- The run of a thread on the words that it reads: where it leads, and what it does not depend on. In either
-- language. Both models use it: a thread's path does not depend on the memory that answers its reads.
use Rattle.lw_axiomatic.proofs.Common.{◌≡◌, ℕ, inl, inr, true, false, Some, Option, refl, sym, ap, ◌∙◌, subst}
use Rattle.lw_axiomatic.proofs.Common.{true≢false, List, [], ◌∷◌, slice_get, Operation, Set, Sum, Compare}
use Rattle.lw_axiomatic.proofs.Common.{Fence, Branch, Store, or_cases, or_right, is_load, is_store, writes}
use Rattle.lw_axiomatic.proofs.Common.{IsSuccessor, IsFlowSuccessor, IsFlowPathFrom, ThreadState, state_after}
use Rattle.lw_axiomatic.proofs.Common.{MemoryEvent, Execution, reads, ThreadExecutes, Language}
use Rattle.lw_axiomatic.proofs.Common.{IsSuccessor-branch}

-- An operation leads its thread to a successor.
pub IsSuccessor-state_after : (o : Operation) (s : ThreadState) (w : ℕ) → IsSuccessor o s.position (state_after o s w).position
IsSuccessor-state_after (Branch c to) s w = IsSuccessor-branch c to s.position s.regs s.zero_flag
IsSuccessor-state_after o s w = inl (refl, refl)

-- The positions of a thread's run are a whole flow path of its code.
pub IsFlowPathFrom-ThreadExecutes : {S : Type 0} (language : Language S) (x : Execution) (t : ℕ) (code : List S) (path : List ℕ)
    (s end : ThreadState)
    → ThreadExecutes language x t code path s end
    → IsFlowPathFrom language code s.position path
IsFlowPathFrom-ThreadExecutes language x t code [] s end executes = executes.0
IsFlowPathFrom-ThreadExecutes {S} language x t code (j ∷ path) s end executes =
    let e : MemoryEvent = record { thread = t; position = j } in
    let next : ThreadState = state_after (language.operation_of executes.statement) s (x.read e) in
    let found_at : slice_get code s.position ≡ Some executes.statement =
    ap (slice_get code) executes.position_is ∙ executes.statement_at in (
      sym executes.position_is,
      next.position,
      subst (λ (o : Option S). IsFlowSuccessor language o s.position next.position) (sym found_at)
          (IsSuccessor-state_after (language.operation_of executes.statement) s (x.read e)),
      IsFlowPathFrom-ThreadExecutes language x t code path next end executes.rest,
    )

-- The state after an operation that does not read does not depend on the word.
pub state_after-unread : (o : Operation) (s : ThreadState) (v w : ℕ) → reads o ≡ false → state_after o s v ≡ state_after o s w
state_after-unread (Set d u) s v w e = refl
state_after-unread (Sum d a u) s v w e = refl
state_after-unread (Compare a u) s v w e = refl
state_after-unread (Store x u) s v w e = refl
state_after-unread Fence s v w e = refl
state_after-unread (Branch c to) s v w e = refl
state_after-unread _ s v w e = absurd (true≢false e)

-- An operation that writes and does not read is a store.
pub writes_unread : (o : Operation) → reads o ≡ false → writes o ≡ true → is_store o ≡ true
writes_unread o r w = elim (or_cases (is_store o) _ w) [
  | inl store ↦ store
  | inr locked ↦ absurd (true≢false (sym (or_right (is_load o) _ locked) ∙ r))
]
