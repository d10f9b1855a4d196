-- The effect of an operation: when it is refused, which access it makes, and the processor after it. A record
-- of claims (`EffectSatisfies`) that each operation satisfies, so that other proofs need no case for each
-- operation.
use Rattle.lw_tso.proofs.Common.{◌≡◌, ◌≢◌, ℕ, ◌+◌, Bool, true, false, true≢false, if◌then◌else◌, List, []}
use Rattle.lw_tso.proofs.Common.{◌∷◌, ◌++◌, length, length-set, Ok, Err, Option, Some, None, refl, sym, subst}
use Rattle.lw_tso.proofs.Common.{inl, inr, ◌⊎◌, ⊎_elim, operand_value, Stop, SwapWaits, flat_memory, Memory}
use Rattle.lw_tso.proofs.Common.{Guard, Always, Equal, NotEqual, Zero, NotZero, Operation, Set, Sum, Compare}
use Rattle.lw_tso.proofs.Common.{Store, Load, FetchAdd, Fence, Branch, location_of, is_store, is_locked}
use Rattle.lw_tso.proofs.Common.{needs_empty_buffer, falls_through, IsSuccessor, guard_holds, Processor}
use Rattle.lw_tso.proofs.Common.{newest_buffered, EventEffect, Refused, LocalStep, MemoryAccess, Eviction}
use Rattle.lw_tso.proofs.Common.{operation_effect, load_effect, if_buffer_empty, accessed_location, is_write}
use Rattle.lw_tso.proofs.Common.{event_writes, EventResult, EffectTransition, Change, length-set_word_if_some}
use Rattle.lw_tso.proofs.api.Effects.{EffectLeadsTo, EffectTransition-if_enabled}
use Rattle.lw_memory.specs.declared.request.Access.TheVariants as to

-- The buffer q results from p by the operation o: o is no store, and the buffers are equal; or o is a store, and q is p with an
-- entry for its location appended.
abbrev pub Buffers : Operation → List (ℕ × ℕ) → List (ℕ × ℕ) → Type 0
Buffers o p q =
    ((is_store o ≡ false) × (q ≡ p))
    ⊎ ((entry : ℕ × ℕ) × (is_store o ≡ true) × (location_of o ≡ Some entry.0) × (q ≡ p ++ entry ∷ []))

-- The operation leads from the processor p to q: position, buffer and registers, and the empty buffer that it waited for.
pub record OperationTransition (o : Operation) (p q : Processor) : Type 0 where
  pub leads : IsSuccessor o p.position q.position
  pub buffers : Buffers o p.buffer q.buffer
  pub regs : length q.regs ≡ length p.regs
  pub waited : needs_empty_buffer o ≡ true → p.buffer ≡ []

-- False is not true: so anything follows.
false-ne_true : {X : Type 0} → false ≡ true → X
false-ne_true e = absurd (true≢false (sym e))

-- If an operation falls through, is no store, and has an empty buffer if it waits, it leads from p to each q at the next
-- position with the same buffer and number of registers.
OperationTransition-no_store : (o : Operation) (p q : Processor)
    → falls_through o ≡ true
    → is_store o ≡ false
    → (needs_empty_buffer o ≡ true → p.buffer ≡ [])
    → q.position ≡ p.position + 1
    → q.buffer ≡ p.buffer
    → length q.regs ≡ length p.regs
    → OperationTransition o p q
OperationTransition-no_store o p q on none waited position buffer regs =
    record { leads = inl (on, position); buffers = inl (none, buffer); regs = regs; waited = waited }

-- The target of a branch is a successor of it if its guard holds, and the next position otherwise.
pub IsSuccessor-branch : (c : Guard) (to k : ℕ) (regs : List ℕ) (flag : Bool)
    → IsSuccessor (Branch c to) k (if guard_holds c regs flag then to else (k + 1))
IsSuccessor-branch c to k regs flag = go c
  where
    -- By whether the branch jumps, for a guard that may fall through.
    IsSuccessor-either_branch : (c : Guard) (jumps : Bool)
        → falls_through (Branch c to) ≡ true
        → IsSuccessor (Branch c to) k (if jumps then to else (k + 1))
    IsSuccessor-either_branch c true on = inr refl
    IsSuccessor-either_branch c false on = inl (on, refl)

    -- By the guard: one that always holds does not fall through.
    go : (c : Guard) → IsSuccessor (Branch c to) k (if guard_holds c regs flag then to else (k + 1))
    go Always = inr refl
    go (Equal a n) = IsSuccessor-either_branch (Equal a n) _ refl
    go (NotEqual a n) = IsSuccessor-either_branch (NotEqual a n) _ refl
    go Zero = IsSuccessor-either_branch Zero _ refl
    go NotZero = IsSuccessor-either_branch NotZero _ refl

-- The effect is no eviction, is refused only for this reason, accesses only such locations, which it writes or not, and leads only to such
-- processors.
module _ (Reason : Type 0) (MayAsk : ℕ → Bool → Type 0) (Makes : Processor → Type 0) where
  -- A claim about an effect: refused, it has a `Reason`; its access satisfies `MayAsk`; the processor after it satisfies `Makes`.
  abbrev pub EffectSatisfies : EventEffect → Type 0
  EffectSatisfies (Refused stop) = Reason
  EffectSatisfies (LocalStep next) = Makes next
  EffectSatisfies (MemoryAccess x access next) = MayAsk x (is_write access) × ((w : ℕ) → Makes (next w))
  EffectSatisfies (Eviction x) = ⊥

  -- If the claim holds of an effect that accesses x, then `MayAsk` holds of x, with whether the effect writes it.
  pub EffectSatisfies-accessed : (act : EventEffect) (x : ℕ)
      → EffectSatisfies act
      → accessed_location act ≡ Some x
      → MayAsk x (event_writes act)
  EffectSatisfies-accessed (MemoryAccess y access next) x comes at =
      let e : y ≡ x = cc in subst (λ z. MayAsk z (is_write access)) e comes.0
  EffectSatisfies-accessed (Eviction y) x comes at = absurd comes
  EffectSatisfies-accessed _ x comes at = absurd cc

  -- If the claim holds of an effect, its transition is a refusal that leaves the processor unchanged, or leads to a processor
  -- that satisfies `Makes`.
  pub EffectSatisfies-result : {M : Type 0} (mem : Memory M) (t : ℕ) (act : EventEffect) (p q : Processor) (m n : M)
      (answer : EventResult)
      → EffectSatisfies act
      → EffectTransition mem t act p m answer q n
      → ((stop : Stop) × (answer ≡ Err stop) × (q ≡ p)) ⊎ Makes q
  EffectSatisfies-result mem t (Refused stop) p q m n answer comes done = inl (stop, done.0, done.1)
  EffectSatisfies-result mem t (LocalStep next) p q m n answer comes done = inr (subst Makes (sym done.1) comes)
  EffectSatisfies-result mem t (Eviction x) p q m n answer comes done = absurd comes
  EffectSatisfies-result mem t _ p q m n answer comes done = inr (subst Makes (sym done.2) (comes.1 _))

  -- The claim holds of a load, if the location may be read, and the processor after it satisfies `Makes` for each word.
  EffectSatisfies-load : (found : Option ℕ) (x : ℕ) (next : ℕ → Processor)
      → MayAsk x false
      → ((w : ℕ) → Makes (next w))
      → EffectSatisfies (load_effect found x next)
  EffectSatisfies-load (Some w) x next asks makes = makes w
  EffectSatisfies-load None x next asks makes = (asks, makes)

  -- If the claim holds of an effect when the buffer is empty, and a nonempty buffer is a `Reason`, then it holds of the effect
  -- that waits for an empty buffer.
  EffectSatisfies-if_buffer_empty : (buffer : List (ℕ × ℕ)) (stop : Stop) (act : EventEffect)
      → (buffer ≢ [] → Reason)
      → (buffer ≡ [] → EffectSatisfies act)
      → EffectSatisfies (if_buffer_empty buffer stop act)
  EffectSatisfies-if_buffer_empty [] stop act reason comes = comes refl
  EffectSatisfies-if_buffer_empty (entry ∷ newer) stop act reason comes = reason (λ e. absurd cc)

  -- An operation is refused only if it waits and the buffer has an entry, accesses only its location, and writes that at once only if it is
  -- locked.
  pub EffectSatisfies-operation : (o : Operation) (p : Processor)
      → (needs_empty_buffer o ≡ true → p.buffer ≢ [] → Reason)
      → ((x : ℕ) → location_of o ≡ Some x → MayAsk x (is_locked o))
      → ((q : Processor) → OperationTransition o p q → Makes q)
      → EffectSatisfies (operation_effect o p)
  EffectSatisfies-operation (Set d v) p reason asks makes =
      makes _ (OperationTransition-no_store (Set d v) p _ refl refl false-ne_true refl refl (length-set p.regs d _))
  EffectSatisfies-operation (Sum d a v) p reason asks makes =
      makes _ (OperationTransition-no_store (Sum d a v) p _ refl refl false-ne_true refl refl (length-set p.regs d _))
  EffectSatisfies-operation (Compare a v) p reason asks makes =
      makes _ (OperationTransition-no_store _ p _ refl refl false-ne_true refl refl refl)
  EffectSatisfies-operation (Store x v) p reason asks makes = makes _ (record {
    leads = inl (refl, refl);
    buffers = inr ((x, operand_value v p.regs), refl, refl, refl);
    regs = refl;
    waited = false-ne_true;
  })
  EffectSatisfies-operation (Load d x) p reason asks makes =
      EffectSatisfies-load (newest_buffered p.buffer x) x _ (asks x refl)
      (λ w. makes _ (OperationTransition-no_store (Load d x) p _ refl refl false-ne_true refl refl (length-set p.regs d w)))
  EffectSatisfies-operation (FetchAdd d x v) p reason asks makes =
      EffectSatisfies-if_buffer_empty p.buffer SwapWaits _ (reason refl) (λ empty. (
        asks x refl,
        λ w.
            makes _
            (OperationTransition-no_store (FetchAdd d x v) p _ refl refl (λ e. empty) refl refl
            (length-set_word_if_some p.regs d w)),
      ))
  EffectSatisfies-operation Fence p reason asks makes =
      EffectSatisfies-if_buffer_empty _ _ _ (reason refl)
      (λ empty. makes _ (OperationTransition-no_store Fence p _ refl refl (λ e. empty) refl refl refl))
  EffectSatisfies-operation (Branch c to) p reason asks makes = makes _ (record {
    leads = IsSuccessor-branch c to p.position p.regs p.zero_flag;
    buffers = inl (refl, refl);
    regs = refl;
    waited = false-ne_true;
  })
  EffectSatisfies-operation o p reason asks makes = EffectSatisfies-if_buffer_empty p.buffer SwapWaits _ (reason refl) (λ empty.
      (asks _ refl, λ w. makes _ (OperationTransition-no_store o p _ refl refl (λ e. empty) refl refl (length-set p.regs _ w))))

-- The effect of a locked operation on p: an update of its location, if the buffer is empty.
pub record LockedUpdate (o : Operation) (p : Processor) : Type 0 where
  pub location : ℕ
  pub change : Change
  pub next : ℕ → Processor
  pub act : operation_effect o p ≡ if_buffer_empty p.buffer SwapWaits (MemoryAccess location (to.Update change) next)

-- The effect of a locked operation is an update of its location.
pub LockedUpdate-of_operation : (o : Operation) (p : Processor) → is_locked o ≡ true → LockedUpdate o p
LockedUpdate-of_operation (Set d v) p e = false-ne_true e
LockedUpdate-of_operation (Sum d a v) p e = false-ne_true e
LockedUpdate-of_operation (Compare a v) p e = false-ne_true e
LockedUpdate-of_operation (Store x v) p e = false-ne_true e
LockedUpdate-of_operation (Load d x) p e = false-ne_true e
LockedUpdate-of_operation Fence p e = false-ne_true e
LockedUpdate-of_operation (Branch c to) p e = false-ne_true e
LockedUpdate-of_operation _ p e = record { location = _; change = _; next = _; act = refl }

-- If the effect of an operation accesses x, then x is its location, and it writes x at once if and only if it is locked.
pub accessed_location-of_operation : (o : Operation) (p : Processor) (x : ℕ)
    → accessed_location (operation_effect o p) ≡ Some x
    → (location_of o ≡ Some x) × (is_locked o ≡ event_writes (operation_effect o p))
accessed_location-of_operation o p x =
    let asks = λ (y : ℕ) (w : Bool). (location_of o ≡ Some y) × (is_locked o ≡ w) in
    EffectSatisfies-accessed (Unit {0}) asks (λ q. Unit {0}) (operation_effect o p) x
    (EffectSatisfies-operation (Unit {0}) asks (λ q. Unit {0}) o p (λ waits full. tt) (λ y e. (e, refl)) (λ q went. tt))

-- If the effect of an operation leads from p to q, then q satisfies `OperationTransition`.
pub OperationTransition-of_effect : (o : Operation) (p q : Processor) (m n : List ℕ)
    → EffectLeadsTo m (operation_effect o p) q n
    → OperationTransition o p q
OperationTransition-of_effect o p q m n d =
    let comes =
    EffectSatisfies-operation (Unit {0}) (λ x w. Unit {0}) (OperationTransition o p) o p (λ waits full. tt) (λ x e. tt)
    (λ q went. went) in
    let done = EffectTransition-if_enabled 0 (operation_effect o p) p q m n d in
    ⊎_elim (λ refused. absurd (let e = refused.1 in cc)) (λ went. went)
    (EffectSatisfies-result (Unit {0}) (λ x w. Unit {0}) (OperationTransition o p) flat_memory 0 (operation_effect o p) p q m n
    (Ok tt) comes done)

-- If an effect that waits for an empty buffer leads to a state, the buffer is empty, and the effect leads to that state.
pub EffectLeadsTo-if_buffer_empty : (buffer : List (ℕ × ℕ)) (stop : Stop) (act : EventEffect) (m n : List ℕ) (q : Processor)
    → EffectLeadsTo m (if_buffer_empty buffer stop act) q n
    → (buffer ≡ []) × EffectLeadsTo m act q n
EffectLeadsTo-if_buffer_empty [] stop act m n q d = (refl, d)
EffectLeadsTo-if_buffer_empty (entry ∷ newer) stop act m n q d = absurd d

-- The effect over these words is enabled: it leads to some processor and some words.
abbrev pub IsEnabledEffect : List ℕ → EventEffect → Type 0
IsEnabledEffect m act = (q : Processor) × (n : List ℕ) × EffectLeadsTo m act q n

-- If an operation does not wait, or the buffer is empty, its effect is enabled.
pub IsEnabledEffect-operation : (o : Operation) (p : Processor) (m : List ℕ)
    → (needs_empty_buffer o ≡ true → p.buffer ≡ [])
    → IsEnabledEffect m (operation_effect o p)
IsEnabledEffect-operation o p m waited =
    go (operation_effect o p)
    (EffectSatisfies-operation ⊥ (λ x w. Unit {0}) (λ q. Unit {0}) o p (λ w full. full (waited w)) (λ x e. tt) (λ q went. tt))
  where
    -- By the effect, which cannot be refused.
    go : (act : EventEffect) → EffectSatisfies ⊥ (λ x w. Unit {0}) (λ q. Unit {0}) act → IsEnabledEffect m act
    go (LocalStep next) comes = (next, m, (refl, refl))
    go (MemoryAccess x access next) comes = (_, _, (refl, refl))
    go _ comes = absurd comes
