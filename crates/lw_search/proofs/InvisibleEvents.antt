-- Partial-order reduction: an invisible event can be moved to the front of any run to a final state, and the
-- run becomes no longer. So the state after the event covers the state before it (`Covers-invisible_event`),
-- the main lemma of this crate.
use Rattle.lw_search.proofs.Common.{◌≡◌, ◌≢◌, ℕ, suc, ◌<◌, ◌≤◌, inl, inr, ⊎_elim, Bool, true, false}
use Rattle.lw_search.proofs.Common.{true≢false, Option, Some, None, Ok, List, [], ◌∷◌, length, refl, sym, ap}
use Rattle.lw_search.proofs.Common.{ap₂, if◌then◌else◌, ◌∙◌, subst, arith, slice_get, slice_set, slice_index}
use Rattle.lw_search.proofs.Common.{IsTrue, and_parts, leb-true, nat_le, nat_lt, ◌==◌, set-set}
use Rattle.lw_search.proofs.Common.{slice_get-slice_set_same, slice_get-slice_set_other, cases_eq, same_Some}
use Rattle.lw_search.proofs.Common.{slice_get_within, length-set, slice_get-in_range, get_or_from_slice_get}
use Rattle.lw_search.proofs.Common.{list_all_zip-at_index, get_or-set_same, get_or-set_other, option_or}
use Rattle.lw_search.proofs.Common.{Event, Step, Drain, Evict, thread_code, flat_memory, Instr, x86_operation}
use Rattle.lw_search.proofs.Common.{Operation, NoLocation, Set, Sum, Compare, Store, Load, FetchAdd, Branch}
use Rattle.lw_search.proofs.Common.{location_of, is_store, is_locked, Processor, EventEffect, LocalStep}
use Rattle.lw_search.proofs.Common.{MemoryAccess, Refused, Eviction, cpu_of, event_effect, step_effect}
use Rattle.lw_search.proofs.Common.{drain_effect, operation_effect, load_effect, newest_buffered}
use Rattle.lw_search.proofs.Common.{MachineTransition, MachineRunsTo, has_terminated, is_final}
use Rattle.lw_search.proofs.Common.{accessed_location, event_writes, DoNotConflict, AreIndependent}
use Rattle.lw_search.proofs.Common.{TransitionAt, IsAtPosition, eq-eqb, state, EffectLeadsTo, EventOccurrence}
use Rattle.lw_search.proofs.Common.{MachineTransition-of_effect, EventOccurrence-of_event}
use Rattle.lw_search.proofs.Common.{MachineTransition-deterministic, not-EffectLeadsTo-evict_event}
use Rattle.lw_search.proofs.Common.{EventsCommute-independent, position_of-in_range, OperationTransition}
use Rattle.lw_search.proofs.Common.{Buffers, accessed_location-of_operation, OperationTransition-of_effect}
use Rattle.lw_search.proofs.Common.{Swap, writes, slice_get-append_cases, ◌||◌, eqb-true, operation_access}
use Rattle.lw_search.proofs.Common.{step_access, drain_access, event_access, NeverConflicts, IsUncontended}
use Rattle.lw_search.proofs.Common.{IsInvisible, IsForward, State, Covers}
use Rattle.lw_memory.specs.declared.request.Access.TheVariants as to

-- ---- effects on memory

-- No effect changes the number of locations.
length_words-effect : (act : EventEffect) (m n : List ℕ) (q : Processor) → EffectLeadsTo m act q n → length n ≡ length m
length_words-effect (LocalStep next) m n q d = ap length d.1
length_words-effect (MemoryAccess x to.Load next) m n q d = ap length d.1
length_words-effect (MemoryAccess x (to.Store w) next) m n q d = ap length d.1 ∙ length-set m x w
length_words-effect (MemoryAccess x (to.Update change) next) m n q d = ap length d.1 ∙ length-set m x _
length_words-effect _ m n q d = absurd d

-- An effect that is enabled over some memory is enabled over each.
EffectLeadsTo-other_memory : (act : EventEffect) (m n k : List ℕ) (q : Processor)
    → EffectLeadsTo m act q n
    → (r : Processor) × (l : List ℕ) × EffectLeadsTo k act r l
EffectLeadsTo-other_memory (LocalStep next) m n k q d = (next, k, (refl, refl))
EffectLeadsTo-other_memory (MemoryAccess x access next) m n k q d = (_, _, (refl, refl))
EffectLeadsTo-other_memory _ m n k q d = absurd d

-- The optional instruction is present, and its operation leads from the processor p and the words m to q and n.
record HasInstr (o : Option Instr) (p q : Processor) (m n : List ℕ) : Type 0 where
  instr : Instr
  instr_is : o ≡ Some instr
  does : EffectLeadsTo m (operation_effect (x86_operation instr) p) q n

-- If the effect of a step leads from p and m to q and n, there is an instruction whose operation does so.
HasInstr-of_step : (o : Option Instr) (p q : Processor) (m n : List ℕ)
    → EffectLeadsTo m (step_effect o p) q n
    → HasInstr o p q m n
HasInstr-of_step None p q m n d = absurd d
HasInstr-of_step (Some i) p q m n d = record { instr = i; instr_is = refl; does = d }

-- ---- a step and a drain of the same thread

-- A processor with one entry more in its store buffer, the oldest.
abbrev with_oldest : ℕ × ℕ → Processor → Processor
with_oldest entry p = record p { buffer = entry ∷ p.buffer }

-- The effect of a drain that leads from p and m to q and n: p is the processor `rest` with the entry as its oldest, q is `rest`, and n is m
-- with the entry's word written.
record DrainEffect (p q : Processor) (m n : List ℕ) : Type 0 where
  entry : ℕ × ℕ
  rest : Processor
  processor_is : p ≡ with_oldest entry rest
  end_processor_is : q ≡ rest
  words : n ≡ slice_set m entry.0 entry.1

-- A drain that is enabled has an oldest entry, and writes it to memory.
DrainEffect-of_drain : (p q : Processor) (m n : List ℕ) → EffectLeadsTo m (drain_effect p.buffer p) q n → DrainEffect p q m n
DrainEffect-of_drain p q m n does = go p.buffer refl does
  where
    -- By whether the store buffer has an entry.
    go : (b : List (ℕ × ℕ)) → p.buffer ≡ b → EffectLeadsTo m (drain_effect b p) q n → DrainEffect p q m n
    go [] e d = absurd d
    go (entry ∷ newer) e d = record {
      entry = entry;
      rest = record p { buffer = newer };
      processor_is = ap (λ b. record p { buffer = b }) e;
      end_processor_is = d.0;
      words = d.1;
    }

-- What holds if an operation can be executed after the drain of the entry. Suppose that it leads from the processor `rest` with the entry as
-- its oldest, over m, to q and n. Then q is `new` with the entry as its oldest, n is m, and over memory after the drain the operation leads from
-- `rest` to `new`.
record PassesDrain (entry : ℕ × ℕ) (o : Operation) (rest q : Processor) (m n : List ℕ) : Type 0 where
  new : Processor
  processor_is : q ≡ with_oldest entry new
  memory_unchanged : n ≡ m
  does : EffectLeadsTo (slice_set m entry.0 entry.1) (operation_effect o rest) new (slice_set m entry.0 entry.1)

-- If a load leads from the processor with the entry as its oldest to q, then q has this entry as its oldest too, memory is
-- unchanged, and over memory after the drain the load leads from the processor without the entry to q without it. `found` is
-- the newest word of the other entries, and `same` says whether the entry is for the location.
load_effect-after_drain : (entry : ℕ × ℕ) (x : ℕ) (next : ℕ → Processor) (q : Processor) (m n : List ℕ) (found : Option ℕ)
    (same : Bool)
    → (entry.0 == x) ≡ same
    → (entry.0 ≡ x → x < length m)
    → EffectLeadsTo m (load_effect (option_or found (if same then Some entry.1 else None)) x (λ w. with_oldest entry (next w))) q
    n
    → (new : Processor)
    × (q ≡ with_oldest entry new)
    × (n ≡ m)
    × EffectLeadsTo (slice_set m entry.0 entry.1) (load_effect found x next) new (slice_set m entry.0 entry.1)
load_effect-after_drain entry x next q m n (Some w) same is range d = (next w, d.0, d.1, (refl, refl))
load_effect-after_drain entry x next q m n None true is range d =
    let at : entry.0 ≡ x = eqb-true entry.0 x is in
    let read : slice_index (slice_set m entry.0 entry.1) x ≡ entry.1 =
    ap (λ y. slice_index (slice_set m y entry.1) x) at ∙ get_or-set_same m x entry.1 0 (range at) in
    (next entry.1, d.0, d.1, (ap next (sym read), refl))
load_effect-after_drain entry x next q m n None false is range d =
    let apart : x ≢ entry.0 = λ e. true≢false (sym (eq-eqb entry.0 x (sym e)) ∙ is) in
    let read : slice_index (slice_set m entry.0 entry.1) x ≡ slice_index m x = get_or-set_other m entry.0 x entry.1 0 apart in
    (next (slice_index m x), d.0, d.1, (ap next (sym read), refl))

-- An operation that does not access memory commutes with the drain of the oldest entry.
PassesDrain-local : (entry : ℕ × ℕ) (o : Operation) (rest next q : Processor) (m n : List ℕ)
    → operation_effect o rest ≡ LocalStep next
    → q ≡ with_oldest entry next
    → n ≡ m
    → PassesDrain entry o rest q m n
PassesDrain-local entry o rest next q m n act is memory_unchanged = record {
  new = next;
  processor_is = is;
  memory_unchanged = memory_unchanged;
  does = subst (λ a. EffectLeadsTo (slice_set m entry.0 entry.1) a next (slice_set m entry.0 entry.1)) (sym act) (refl, refl);
}

-- An operation that can be executed while the entry is in the buffer commutes with the drain of the oldest entry, if the entry's
-- location exists when the operation loads it: the load is forwarded the word before the drain, and reads it from memory after it.
PassesDrain-operation : (entry : ℕ × ℕ) (o : Operation) (rest q : Processor) (m n : List ℕ)
    → ((x : ℕ) → operation_access o ≡ Some (x, false) → entry.0 ≡ x → x < length m)
    → EffectLeadsTo m (operation_effect o (with_oldest entry rest)) q n
    → PassesDrain entry o rest q m n
PassesDrain-operation entry (Set d v) rest q m n range does = PassesDrain-local entry (Set d v) rest _ q m n refl does.0 does.1
PassesDrain-operation entry (Sum d a v) rest q m n range does =
    PassesDrain-local entry (Sum d a v) rest _ q m n refl does.0 does.1
PassesDrain-operation entry (Compare a v) rest q m n range does =
    PassesDrain-local entry (Compare a v) rest _ q m n refl does.0 does.1
PassesDrain-operation entry (Store x v) rest q m n range does =
    PassesDrain-local entry (Store x v) rest _ q m n refl does.0 does.1
PassesDrain-operation entry (Branch c to) rest q m n range does =
    PassesDrain-local entry (Branch c to) rest _ q m n refl does.0 does.1
PassesDrain-operation entry (Load d x) rest q m n range does =
    let r = load_effect-after_drain entry x _ q m n (newest_buffered rest.buffer x) (entry.0 == x) refl (range x refl) does in
    record { new = r.0; processor_is = r.1; memory_unchanged = r.2; does = r.3 }
PassesDrain-operation entry _ rest q m n range does = absurd does

-- ---- accesses

-- The location that an effect accesses is that of its operation's access, and the effect writes it if and only if the access does.
operation_access-of_effect : (o : Operation) (p : Processor) (x : ℕ)
    → accessed_location (operation_effect o p) ≡ Some x
    → operation_access o ≡ Some (x, event_writes (operation_effect o p))
operation_access-of_effect (Load d y) p x at =
    let h = accessed_location-of_operation (Load d y) p x at in ap₂ (λ z w. Some (z, w)) (same_Some y x h.0) h.1
operation_access-of_effect (Swap d y a) p x at =
    let h = accessed_location-of_operation (Swap d y a) p x at in ap₂ (λ z w. Some (z, w)) (same_Some y x h.0) h.1
operation_access-of_effect (FetchAdd d y v) p x at =
    let h = accessed_location-of_operation (FetchAdd d y v) p x at in ap₂ (λ z w. Some (z, w)) (same_Some y x h.0) h.1
operation_access-of_effect (Store y v) p x at = absurd cc
operation_access-of_effect o p x at = absurd (let e = (accessed_location-of_operation o p x at).0 in cc)

-- The location that a step accesses is that of its operation's access, and the effect writes it if and only if the access does.
step_access-of_effect : (o : Option Instr) (p : Processor) (x : ℕ)
    → accessed_location (step_effect o p) ≡ Some x
    → step_access o ≡ Some (x, event_writes (step_effect o p))
step_access-of_effect None p x at = absurd cc
step_access-of_effect (Some i) p x at = operation_access-of_effect (x86_operation i) p x at

-- If a drain's effect accesses a location, so does the access of the oldest entry, and it writes if and only if the effect does.
drain_access-of_effect : (b : List (ℕ × ℕ)) (p : Processor) (x : ℕ)
    → accessed_location (drain_effect b p) ≡ Some x
    → drain_access b ≡ Some (x, event_writes (drain_effect b p))
drain_access-of_effect [] p x at = absurd cc
drain_access-of_effect (entry ∷ newer) p x at = ap (λ z. Some (z, true)) (same_Some entry.0 x at)

-- The effect of an eviction event, whether the location exists (b) or not, accesses no location.
no_access-of_eviction : (b : Bool) (x y : ℕ) → accessed_location (if b then Eviction x else Refused NoLocation) ≡ Some y → ⊥
no_access-of_eviction true x y at = cc
no_access-of_eviction false x y at = cc

-- If an operation on a location does not conflict with an access of it that writes (`written`) or reads, the access reads, and the operation is
-- not locked.
is_locked-false_if_no_conflict : (written : Bool) (o : Operation)
    → ((written || writes o) ≡ true → ⊥)
    → (written ≡ false) × (is_locked o ≡ false)
is_locked-false_if_no_conflict true o never = absurd (never refl)
is_locked-false_if_no_conflict false o never = (refl, go (is_store o) (is_locked o) never)
  where
    -- If a disjunction is not true, its second part is false.
    go : (a b : Bool) → ((a || b) ≡ true → ⊥) → b ≡ false
    go true b n = absurd (n refl)
    go false true n = absurd (n refl)
    go false false n = refl

-- A store conflicts with every access of its location.
conflicts-if_store : (written : Bool) (o : Operation) → is_store o ≡ true → (written || writes o) ≡ true
conflicts-if_store true o store = refl
conflicts-if_store false o store = ap (λ b. b || is_locked o) store

module _ (program : List (List Instr)) (forward : IsForward program) where
  -- The location that an event accesses is that of its access, and the effect writes it if and only if the access does.
  event_access-of_effect : (locs : ℕ) (e : Event) (p : Processor) (x : ℕ)
      → accessed_location (event_effect program locs e p) ≡ Some x
      → event_access (thread_code program (cpu_of e)) e p ≡ Some (x, event_writes (event_effect program locs e p))
  event_access-of_effect locs (Step t) p x at = step_access-of_effect (slice_get (thread_code program t) p.position) p x at
  event_access-of_effect locs (Drain t) p x at = drain_access-of_effect p.buffer p x at
  event_access-of_effect locs (Evict t y) p x at = absurd (no_access-of_eviction (nat_lt y locs) y x at)

  -- ---- operations that never conflict

  -- A thread that never conflicts with an access does not conflict with it by its next event.
  not_written-if_never_conflicts : (locs : ℕ) (f : Event) (p : Processor) (x : ℕ) (written : Bool)
      → NeverConflicts (thread_code program (cpu_of f)) p x written
      → accessed_location (event_effect program locs f p) ≡ Some x
      → (written ≡ false) × (event_writes (event_effect program locs f p) ≡ false)
  not_written-if_never_conflicts locs (Step t) p x written never at = go (slice_get (thread_code program t) p.position) refl at
    where
      -- By whether the thread has an instruction at its position.
      go : (o : Option Instr)
          → slice_get (thread_code program t) p.position ≡ o
          → accessed_location (step_effect o p) ≡ Some x
          → (written ≡ false) × (event_writes (step_effect o p) ≡ false)
      go None is a = absurd cc
      go (Some i) is a =
          let h = accessed_location-of_operation (x86_operation i) p x a in
          let n =
          is_locked-false_if_no_conflict written (x86_operation i) (never.instructions p.position i (omega arith) is h.0) in
          (n.0, sym h.1 ∙ n.1)
  not_written-if_never_conflicts locs (Drain t) p x written never at = go p.buffer refl at
    where
      -- By whether the store buffer has an entry.
      go : (b : List (ℕ × ℕ))
          → p.buffer ≡ b
          → accessed_location (drain_effect b p) ≡ Some x
          → (written ≡ false) × (event_writes (drain_effect b p) ≡ false)
      go [] is a = absurd cc
      go (entry ∷ newer) is a = absurd (never.entries 0 entry (ap (λ b. slice_get b 0) is) (same_Some entry.0 x a))
  not_written-if_never_conflicts locs (Evict t y) p x written never at = absurd (no_access-of_eviction (nat_lt y locs) y x at)

  -- A thread that never conflicts with an access still does not after a step.
  NeverConflicts-step : (t : ℕ) (p q : Processor) (i : Instr) (x : ℕ) (written : Bool)
      → slice_get (thread_code program t) p.position ≡ Some i
      → OperationTransition (x86_operation i) p q
      → NeverConflicts (thread_code program t) p x written
      → NeverConflicts (thread_code program t) q x written
  NeverConflicts-step t p q i x written at went never =
      record { entries = λ k entry is. entries went.buffers k entry is; instructions = instructions }
    where
      -- The step advances the position.
      position_lt : p.position < q.position
      position_lt = forward t p.position q.position i at went.leads

      -- No entry of the store buffer after the step is for x: each is an entry from before, or that of the instruction.
      entries : Buffers (x86_operation i) p.buffer q.buffer
          → (k : ℕ) (entry : ℕ × ℕ)
          → slice_get q.buffer k ≡ Some entry
          → entry.0 ≢ x
      entries (inl same) k entry is = never.entries k entry (ap (λ b. slice_get b k) (sym same.1) ∙ is)
      entries (inr added) k entry is = λ e.
          ⊎_elim (λ old. never.entries k entry old e) (λ new.
          never.instructions p.position i (omega arith) at (added.2 ∙ ap (λ (z : ℕ × ℕ). Some z.0) new.1 ∙ ap Some e)
          (conflicts-if_store written (x86_operation i) added.1))
          (slice_get-append_cases p.buffer added.0 entry k (ap (λ b. slice_get b k) (sym added.3) ∙ is))

      -- No instruction from the new position on conflicts with the access, since it is one from the old position on.
      instructions : (j : ℕ) (k : Instr)
          → q.position ≤ j
          → slice_get (thread_code program t) j ≡ Some k
          → location_of (x86_operation k) ≡ Some x
          → (written || writes (x86_operation k)) ≡ true
          → ⊥
      instructions j k le is = never.instructions j k (omega (arith, le, position_lt)) is

  -- A thread that never conflicts with an access still does not after its events.
  NeverConflicts-after : (locs : ℕ) (f : Event) (p q : Processor) (m n : List ℕ) (x : ℕ) (written : Bool)
      → EffectLeadsTo m (event_effect program locs f p) q n
      → NeverConflicts (thread_code program (cpu_of f)) p x written
      → NeverConflicts (thread_code program (cpu_of f)) q x written
  NeverConflicts-after locs (Step t) p q m n x written does never =
      let i = HasInstr-of_step (slice_get (thread_code program t) p.position) p q m n does in
      NeverConflicts-step t p q i.instr x written i.instr_is
      (OperationTransition-of_effect (x86_operation i.instr) p q m n i.does) never
  NeverConflicts-after locs (Drain t) p q m n x written does never =
      let d = DrainEffect-of_drain p q m n does in
      record {
        entries = λ k entry is.
            never.entries (suc k) entry
            (ap (λ (r : Processor). slice_get r.buffer (suc k)) d.processor_is
            ∙ ap (λ (r : Processor). slice_get r.buffer k) (sym d.end_processor_is)
            ∙ is);
        instructions = λ j i le.
            never.instructions j i
            (subst (λ n. n ≤ j)
            (ap (λ (r : Processor). r.position) d.end_processor_is ∙ ap (λ (r : Processor). r.position) (sym d.processor_is)) le);
      }
  NeverConflicts-after locs (Evict t y) p q m n x written does never =
      absurd (not-EffectLeadsTo-evict_event program locs t y p q m n does)

  -- An access that is uncontended still is after any event.
  IsUncontended-after : (f : Event) (s mid : State) (t : ℕ) (access : ℕ × Bool)
      → EventOccurrence program f s mid
      → IsUncontended program s t access
      → IsUncontended program mid t access
  IsUncontended-after f s mid t access d free = record {
    in_range =
        let size : length mid.memory ≡ length s.memory =
        ap (λ (z : State). length z.memory) d.state_is
        ∙ length_words-effect (event_effect program (length s.memory) f d.from) s.memory d.words d.to d.does in
        subst (λ n. access.0 < n) (sym size) free.in_range;
    others = others;
  }
    where
      -- No other thread in `mid` conflicts with the access, now or later.
      others : (u : ℕ) (p : Processor)
          → u ≢ t
          → slice_get mid.processors u ≡ Some p
          → NeverConflicts (thread_code program u) p access.0 access.1
      others u p ne at = elim (cases_eq u (cpu_of f)) [
        | inl same ↦
            let is : d.to ≡ p =
            same_Some d.to p
            (sym (slice_get-slice_set_same s.processors (cpu_of f) d.to d.from d.was)
            ∙ ap (λ v. slice_get (slice_set s.processors (cpu_of f) d.to) v) (sym same)
            ∙ ap (λ (z : State). slice_get z.processors u) (sym d.state_is)
            ∙ at) in
            let before : NeverConflicts (thread_code program (cpu_of f)) d.from access.0 access.1 =
            free.others (cpu_of f) d.from (λ e. ne (same ∙ e)) d.was in
            let after : NeverConflicts (thread_code program (cpu_of f)) d.to access.0 access.1 =
            NeverConflicts-after (length s.memory) f d.from d.to s.memory d.words access.0 access.1 d.does before in
            subst (λ v. NeverConflicts (thread_code program v) p access.0 access.1) (sym same)
            (subst (λ r. NeverConflicts (thread_code program (cpu_of f)) r access.0 access.1) is after)
        | inr apart ↦
            free.others u p ne
            (sym (slice_get-slice_set_other s.processors (cpu_of f) u d.to (λ e. apart (sym e)))
            ∙ ap (λ (z : State). slice_get z.processors u) (sym d.state_is)
            ∙ at)
      ]

  -- ---- an invisible event, and another event before it

  -- Events e and f are enabled in the same state, and lead to `first` and `mid`: e is enabled in `mid`, f in `first`, both lead to `end`,
  -- and e is still invisible in `mid`.
  record AreExchangedInvisibly (e f : Event) (first mid : State) : Type 0 where
    end : State
    e_enabled : MachineTransition flat_memory program e mid (Ok tt) end
    f_enabled : MachineTransition flat_memory program f first (Ok tt) end
    invisible_in_mid : IsInvisible program e mid

  -- If a state has the thread of an event, the event is at some position in this state.
  IsAtPosition-exists : (e : Event) (s : State) (p : Processor)
      → slice_get s.processors (cpu_of e) ≡ Some p
      → (j : ℕ) × IsAtPosition e j s
  IsAtPosition-exists (Step t) s p at = (p.position, position_of-in_range s t at)
  IsAtPosition-exists (Drain t) s p at = (0, tt)
  IsAtPosition-exists (Evict t x) s p at = (0, tt)

  -- An event is enabled in each state with the same state of its thread.
  MachineTransition-same_thread : (e : Event) (s first mid : State) (p : Processor)
      → MachineTransition flat_memory program e s (Ok tt) first
      → slice_get s.processors (cpu_of e) ≡ Some p
      → slice_get mid.processors (cpu_of e) ≡ Some p
      → (end : State) × MachineTransition flat_memory program e mid (Ok tt) end
  MachineTransition-same_thread (Step t) s first mid p done at and =
      let d = EventOccurrence-of_event program (Step t) s first done in
      let same : d.from ≡ p = same_Some d.from p (sym d.was ∙ at) in
      let r =
      EffectLeadsTo-other_memory (step_effect (slice_get (thread_code program t) p.position) p) s.memory d.words mid.memory d.to
      (subst
      (λ (r : Processor). EffectLeadsTo s.memory (step_effect (slice_get (thread_code program t) r.position) r) d.to d.words) same
      d.does) in (
        state (slice_set mid.processors t r.0) r.1,
        MachineTransition-of_effect program (Step t) mid.processors p r.0 mid.memory r.1 and r.2,
      )
  MachineTransition-same_thread (Drain t) s first mid p done at and =
      let d = EventOccurrence-of_event program (Drain t) s first done in
      let same : d.from ≡ p = same_Some d.from p (sym d.was ∙ at) in
      let r =
      EffectLeadsTo-other_memory (drain_effect p.buffer p) s.memory d.words mid.memory d.to
      (subst (λ (r : Processor). EffectLeadsTo s.memory (drain_effect r.buffer r) d.to d.words) same d.does) in (
        state (slice_set mid.processors t r.0) r.1,
        MachineTransition-of_effect program (Drain t) mid.processors p r.0 mid.memory r.1 and r.2,
      )
  MachineTransition-same_thread (Evict t x) s first mid p done at and =
      let d = EventOccurrence-of_event program (Evict t x) s first done in
      absurd (not-EffectLeadsTo-evict_event program (length s.memory) t x d.from d.to s.memory d.words d.does)

  module _ (e f : Event) (s first mid : State) (enabled : MachineTransition flat_memory program e s (Ok tt) first)
      (invisible : IsInvisible program e s) (done : MachineTransition flat_memory program f s (Ok tt) mid) where
    -- The occurrence of e in the state s.
    e_occurs : EventOccurrence program e s first
    e_occurs = EventOccurrence-of_event program e s first enabled

    -- The occurrence of f in the state s.
    f_occurs : EventOccurrence program f s mid
    f_occurs = EventOccurrence-of_event program f s mid done

    -- The effects of an invisible event and of another thread's event do not conflict.
    do_not_conflict : cpu_of f ≢ cpu_of e
        → (r p : Processor)
        → slice_get s.processors (cpu_of f) ≡ Some r
        → slice_get s.processors (cpu_of e) ≡ Some p
        → DoNotConflict (event_effect program (length s.memory) f r) (event_effect program (length s.memory) e p)
    do_not_conflict ne r p at and x a b =
        let access = event_access-of_effect (length s.memory) e p x b in
        let free = invisible p (x, event_writes (event_effect program (length s.memory) e p)) and access in
        let n =
        not_written-if_never_conflicts (length s.memory) f r x (event_writes (event_effect program (length s.memory) e p))
        (free.others (cpu_of f) r ne at) a in
        (n.1, n.0)

    -- An invisible event can be exchanged with an event of another thread, and is invisible after it.
    AreExchangedInvisibly-other_thread : cpu_of f ≢ cpu_of e → AreExchangedInvisibly e f first mid
    AreExchangedInvisibly-other_thread ne = record {
      end = e_in_mid.0;
      e_enabled = e_in_mid.1;
      f_enabled = subst (λ o. MachineTransition flat_memory program f o (Ok tt) e_in_mid.0) other_is_first other_order.2.done;
      invisible_in_mid =
          λ p access at is. IsUncontended-after f s mid (cpu_of e) access f_occurs (invisible p access (thread_in_s p at) is);
    }
      where
        -- The thread of e has in s the state that it has in `mid`, after an event of another thread.
        thread_in_s : (p : Processor) → slice_get mid.processors (cpu_of e) ≡ Some p → slice_get s.processors (cpu_of e) ≡ Some p
        thread_in_s p at =
            sym (slice_get-slice_set_other s.processors (cpu_of f) (cpu_of e) f_occurs.to ne)
            ∙ ap (λ (y : State). slice_get y.processors (cpu_of e)) (sym f_occurs.state_is)
            ∙ at

        -- The thread of e has in `mid` the state that it has in s.
        thread_in_mid : slice_get mid.processors (cpu_of e) ≡ Some e_occurs.from
        thread_in_mid =
            ap (λ (y : State). slice_get y.processors (cpu_of e)) f_occurs.state_is
            ∙ slice_get-slice_set_other s.processors (cpu_of f) (cpu_of e) f_occurs.to ne
            ∙ e_occurs.was

        -- The event e is enabled in `mid`.
        e_in_mid : (end : State) × MachineTransition flat_memory program e mid (Ok tt) end
        e_in_mid = MachineTransition-same_thread e s first mid e_occurs.from enabled e_occurs.was thread_in_mid

        -- The events f and e are independent in s.
        independent : AreIndependent program f e s
        independent = record { of_two = λ n r p at and. do_not_conflict ne r p at and; of_one = λ same. absurd (ne same) }

        -- The event f is at some position in s.
        f_position : (j : ℕ) × IsAtPosition f j s
        f_position = IsAtPosition-exists f s f_occurs.from f_occurs.was

        -- The event e is at some position in `mid`.
        e_position : (k : ℕ) × IsAtPosition e k mid
        e_position = IsAtPosition-exists e mid e_occurs.from thread_in_mid

        -- The same two events in the other order, from s through `other`.
        other_order : (other : State)
            × TransitionAt flat_memory program e e_position.0 s other
            × TransitionAt flat_memory program f f_position.0 other e_in_mid.0
        other_order =
            EventsCommute-independent program f e s independent f_position.0 e_position.0 mid e_in_mid.0
            (record { is_at_position = f_position.1; done = done }) (record { is_at_position = e_position.1; done = e_in_mid.1 })

        -- The state `other` is that after e, since an event has one result.
        other_is_first : other_order.0 ≡ first
        other_is_first =
            (MachineTransition-deterministic program e s other_order.0 first (Ok tt) (Ok tt) other_order.1.done enabled).1

  -- ---- the step and the drain of one thread

  -- The step and the drain of a thread, both enabled in s, lead to the same state in either order. The thread's processor in s is `rest`
  -- with the entry as its oldest; after the step it is `new` with that entry, and after the drain it is `rest`.
  record StepDrainDiamond (t : ℕ) (s stepped drained : State) : Type 0 where
    entry : ℕ × ℕ
    rest : Processor
    new : Processor
    was : slice_get s.processors t ≡ Some (with_oldest entry rest)
    stepped_at : slice_get stepped.processors t ≡ Some (with_oldest entry new)
    drained_at : slice_get drained.processors t ≡ Some rest
    end : State
    drains : MachineTransition flat_memory program (Drain t) stepped (Ok tt) end
    steps : MachineTransition flat_memory program (Step t) drained (Ok tt) end

  -- The step and the drain of a thread commute, if a location that the step loads and the drain writes is in range.
  StepDrainDiamond-of_thread : (t : ℕ) (s stepped drained : State)
      → ((p : Processor) (x : ℕ)
      → slice_get s.processors t ≡ Some p
      → step_access (slice_get (thread_code program t) p.position) ≡ Some (x, false)
      → drain_access p.buffer ≡ Some (x, true)
      → x < length s.memory)
      → MachineTransition flat_memory program (Step t) s (Ok tt) stepped
      → MachineTransition flat_memory program (Drain t) s (Ok tt) drained
      → StepDrainDiamond t s stepped drained
  StepDrainDiamond-of_thread t s stepped drained range step drain = record {
    entry = drained_entry.entry;
    rest = drained_entry.rest;
    new = after_drain.new;
    was = was;
    stepped_at =
        ap (λ (z : State). slice_get z.processors t) stepped_is
        ∙ slice_get-slice_set_same s.processors t stepped_processor (with_oldest drained_entry.entry drained_entry.rest) was;
    drained_at =
        ap (λ (z : State). slice_get z.processors t) drained_is
        ∙ slice_get-slice_set_same s.processors t drained_entry.rest (with_oldest drained_entry.entry drained_entry.rest) was;
    end = state (slice_set s.processors t after_drain.new) drained_words;
    drains =
        subst (λ z.
        MachineTransition flat_memory program (Drain t) z (Ok tt)
        (state (slice_set s.processors t after_drain.new) drained_words)) (sym stepped_is)
        (subst (λ ps.
        MachineTransition flat_memory program (Drain t) (state (slice_set s.processors t stepped_processor) s.memory) (Ok tt)
        (state ps drained_words)) (set-set s.processors t stepped_processor after_drain.new)
        (MachineTransition-of_effect program (Drain t) (slice_set s.processors t stepped_processor) stepped_processor
        after_drain.new s.memory drained_words
        (slice_get-slice_set_same s.processors t stepped_processor (with_oldest drained_entry.entry drained_entry.rest) was)
        (refl, refl)));
    steps =
        subst (λ z.
        MachineTransition flat_memory program (Step t) z (Ok tt) (state (slice_set s.processors t after_drain.new) drained_words))
        (sym drained_is)
        (subst (λ ps.
        MachineTransition flat_memory program (Step t) (state (slice_set s.processors t drained_entry.rest) drained_words) (Ok tt)
        (state ps drained_words)) (set-set s.processors t drained_entry.rest after_drain.new)
        (MachineTransition-of_effect program (Step t) (slice_set s.processors t drained_entry.rest) drained_entry.rest
        after_drain.new drained_words drained_words
        (slice_get-slice_set_same s.processors t drained_entry.rest (with_oldest drained_entry.entry drained_entry.rest) was)
        (subst (λ o. EffectLeadsTo drained_words (step_effect o drained_entry.rest) after_drain.new drained_words)
        (sym instr.instr_is) after_drain.does)));
  }
    where
      -- The occurrence of the step in s.
      step_occurs : EventOccurrence program (Step t) s stepped
      step_occurs = EventOccurrence-of_event program (Step t) s stepped step

      -- The occurrence of the drain in s.
      drain_occurs : EventOccurrence program (Drain t) s drained
      drain_occurs = EventOccurrence-of_event program (Drain t) s drained drain

      -- Both begin with the same state of the thread.
      same_start : drain_occurs.from ≡ step_occurs.from
      same_start = same_Some drain_occurs.from step_occurs.from (sym drain_occurs.was ∙ step_occurs.was)

      -- The drain takes the oldest entry of the thread's store buffer.
      drained_entry : DrainEffect step_occurs.from drain_occurs.to s.memory drain_occurs.words
      drained_entry =
          DrainEffect-of_drain step_occurs.from drain_occurs.to s.memory drain_occurs.words
          (subst (λ (r : Processor). EffectLeadsTo s.memory (drain_effect r.buffer r) drain_occurs.to drain_occurs.words)
          same_start drain_occurs.does)

      -- In s the thread has the processor `rest` with the entry as its oldest.
      was : slice_get s.processors t ≡ Some (with_oldest drained_entry.entry drained_entry.rest)
      was = step_occurs.was ∙ ap Some drained_entry.processor_is

      -- The step executes an instruction.
      instr : HasInstr (slice_get (thread_code program t) drained_entry.rest.position)
          (with_oldest drained_entry.entry drained_entry.rest) step_occurs.to s.memory step_occurs.words
      instr =
          HasInstr-of_step (slice_get (thread_code program t) drained_entry.rest.position)
          (with_oldest drained_entry.entry drained_entry.rest) step_occurs.to s.memory step_occurs.words
          (subst (λ (r : Processor).
          EffectLeadsTo s.memory (step_effect (slice_get (thread_code program t) r.position) r) step_occurs.to step_occurs.words)
          drained_entry.processor_is step_occurs.does)

      -- The instruction can be executed after the drain.
      after_drain :
          PassesDrain drained_entry.entry (x86_operation instr.instr) drained_entry.rest step_occurs.to s.memory step_occurs.words
      after_drain =
          PassesDrain-operation drained_entry.entry (x86_operation instr.instr) drained_entry.rest step_occurs.to s.memory
          step_occurs.words (λ l access e.
          range (with_oldest drained_entry.entry drained_entry.rest) l was (ap step_access instr.instr_is ∙ access)
          (ap (λ z. Some (z, true)) e)) instr.does

      -- The processor after the step, which still has the entry.
      stepped_processor : Processor
      stepped_processor = with_oldest drained_entry.entry after_drain.new

      -- Memory after the drain.
      drained_words : List ℕ
      drained_words = slice_set s.memory drained_entry.entry.0 drained_entry.entry.1

      -- The step leads to the state with that processor and the words of s.
      stepped_is : stepped ≡ state (slice_set s.processors t stepped_processor) s.memory
      stepped_is =
          step_occurs.state_is
          ∙ ap₂ (λ q m. state (slice_set s.processors t q) m) after_drain.processor_is after_drain.memory_unchanged

      -- The drain leads to the state with the processor `rest` and memory after the drain.
      drained_is : drained ≡ state (slice_set s.processors t drained_entry.rest) drained_words
      drained_is =
          drain_occurs.state_is
          ∙ ap₂ (λ q m. state (slice_set s.processors t q) m) drained_entry.end_processor_is drained_entry.words

  -- An invisible step of a thread can be exchanged with a drain of the same thread, and is invisible after it.
  AreExchangedInvisibly-own_drain : (t : ℕ) (s first mid : State)
      → MachineTransition flat_memory program (Step t) s (Ok tt) first
      → IsInvisible program (Step t) s
      → MachineTransition flat_memory program (Drain t) s (Ok tt) mid
      → AreExchangedInvisibly (Step t) (Drain t) first mid
  AreExchangedInvisibly-own_drain t s first mid enabled invisible done =
      let d =
      StepDrainDiamond-of_thread t s first mid (λ p x at access entry. (invisible p (x, false) at access).in_range) enabled
      done in
      record {
        end = d.end;
        e_enabled = d.steps;
        f_enabled = d.drains;
        invisible_in_mid = λ p access at is.
            let same : d.rest ≡ p = same_Some d.rest p (sym d.drained_at ∙ at) in
            IsUncontended-after (Drain t) s mid t access (EventOccurrence-of_event program (Drain t) s mid done)
            (invisible (with_oldest d.entry d.rest) access d.was
            (ap (λ (r : Processor). step_access (slice_get (thread_code program t) r.position)) same ∙ is));
      }

  -- An invisible drain of a thread can be exchanged with a step of the same thread, and is invisible after it.
  AreExchangedInvisibly-own_step : (t : ℕ) (s first mid : State)
      → MachineTransition flat_memory program (Drain t) s (Ok tt) first
      → IsInvisible program (Drain t) s
      → MachineTransition flat_memory program (Step t) s (Ok tt) mid
      → AreExchangedInvisibly (Drain t) (Step t) first mid
  AreExchangedInvisibly-own_step t s first mid enabled invisible done =
      let d =
      StepDrainDiamond-of_thread t s mid first (λ p x at access entry. (invisible p (x, true) at entry).in_range) done enabled in
      record {
        end = d.end;
        e_enabled = d.drains;
        f_enabled = d.steps;
        invisible_in_mid = λ p access at is.
            let same : with_oldest d.entry d.new ≡ p = same_Some (with_oldest d.entry d.new) p (sym d.stepped_at ∙ at) in
            IsUncontended-after (Step t) s mid t access (EventOccurrence-of_event program (Step t) s mid done)
            (invisible (with_oldest d.entry d.rest) access d.was (ap (λ (r : Processor). drain_access r.buffer) same ∙ is));
      }

  -- ---- runs

  -- Some run leads from the state `from` to `end`, and has at most as many events as these.
  record ShorterRun (events : List Event) (from end : State) : Type 0 where
    more : List Event
    no_longer : length more ≤ length events
    ran : MachineRunsTo flat_memory program more from end

  module _ (es : List Event) (s first mid end : State) (ran : MachineRunsTo flat_memory program es mid end) where
    -- If the run's first event is the invisible one, the rest of the run starts after it, and is no longer.
    ShorterRun-same_event : (e : Event)
        → MachineTransition flat_memory program e s (Ok tt) first
        → MachineTransition flat_memory program e s (Ok tt) mid
        → ShorterRun (e ∷ es) first end
    ShorterRun-same_event e enabled done = record {
      more = es;
      no_longer = omega arith;
      ran =
          subst (λ z. MachineRunsTo flat_memory program es z end)
          (MachineTransition-deterministic program e s mid first (Ok tt) (Ok tt) done enabled).1 ran;
    }

    -- If the run's first event f can be exchanged with the invisible event e, and for the rest of the run there is a run that
    -- is no longer from the state after e, so there is for the whole run.
    ShorterRun-exchanged : (e f : Event)
        → ((next : State)
        → MachineTransition flat_memory program e mid (Ok tt) next
        → IsInvisible program e mid
        → ShorterRun es next end)
        → AreExchangedInvisibly e f first mid
        → ShorterRun (f ∷ es) first end
    ShorterRun-exchanged e f rest both =
        let r = rest both.end both.e_enabled both.invisible_in_mid in
        record { more = f ∷ r.more; no_longer = omega (arith, r.no_longer); ran = (both.end, both.f_enabled, r.ran) }

    -- If e is invisible, and for the rest of the run there is a run that is no longer from the state after e, so there is for
    -- the run that begins with f.
    ShorterRun-of_event : (e f : Event)
        → MachineTransition flat_memory program e s (Ok tt) first
        → IsInvisible program e s
        → MachineTransition flat_memory program f s (Ok tt) mid
        → ((next : State)
        → MachineTransition flat_memory program e mid (Ok tt) next
        → IsInvisible program e mid
        → ShorterRun es next end)
        → ShorterRun (f ∷ es) first end
    ShorterRun-of_event e f enabled invisible done rest = elim (cases_eq (cpu_of f) (cpu_of e)) [
      | inr ne ↦ ShorterRun-exchanged e f rest (AreExchangedInvisibly-other_thread e f s first mid enabled invisible done ne)
      | inl same ↦ ShorterRun-own_thread e f same enabled invisible done rest
    ]
      where
        -- If the rest of a run has, after e, a run that is no longer, so has the rest with an event f of e's thread before it.
        ShorterRun-own_thread : (e f : Event)
            → cpu_of f ≡ cpu_of e
            → MachineTransition flat_memory program e s (Ok tt) first
            → IsInvisible program e s
            → MachineTransition flat_memory program f s (Ok tt) mid
            → ((next : State)
            → MachineTransition flat_memory program e mid (Ok tt) next
            → IsInvisible program e mid
            → ShorterRun es next end)
            → ShorterRun (f ∷ es) first end
        ShorterRun-own_thread (Step t) (Step u) is a i b r =
            ShorterRun-same_event (Step u)
            (subst (λ v. MachineTransition flat_memory program (Step v) s (Ok tt) first) (sym is) a) b
        ShorterRun-own_thread (Drain t) (Drain u) is a i b r =
            ShorterRun-same_event (Drain u)
            (subst (λ v. MachineTransition flat_memory program (Drain v) s (Ok tt) first) (sym is) a) b
        ShorterRun-own_thread (Step t) (Drain u) is a i b r =
            ShorterRun-exchanged (Step t) (Drain u) r
            (subst (λ v.
            MachineTransition flat_memory program (Drain v) s (Ok tt) mid → AreExchangedInvisibly (Step t) (Drain v) first mid)
            (sym is) (AreExchangedInvisibly-own_drain t s first mid a i) b)
        ShorterRun-own_thread (Drain t) (Step u) is a i b r =
            ShorterRun-exchanged (Drain t) (Step u) r
            (subst (λ v.
            MachineTransition flat_memory program (Step v) s (Ok tt) mid → AreExchangedInvisibly (Drain t) (Step v) first mid)
            (sym is) (AreExchangedInvisibly-own_step t s first mid a i) b)
        ShorterRun-own_thread (Evict t x) g is a i b r =
            let h = EventOccurrence-of_event program (Evict t x) s first a in
            absurd (not-EffectLeadsTo-evict_event program (length s.memory) t x h.from h.to s.memory h.words h.does)
        ShorterRun-own_thread g (Evict u x) is a i b r =
            let h = EventOccurrence-of_event program (Evict u x) s mid b in
            absurd (not-EffectLeadsTo-evict_event program (length s.memory) u x h.from h.to s.memory h.words h.does)

  -- No state in which an event of a thread is enabled is final.
  not-is_final-if_enabled : (e : Event) (s first : State)
      → MachineTransition flat_memory program e s (Ok tt) first
      → cpu_of e < length program
      → IsTrue (is_final program s)
      → ⊥
  not-is_final-if_enabled e s first enabled lt final =
      let d = EventOccurrence-of_event program e s first enabled in
      let code = slice_get-in_range program (cpu_of e) lt in
      let is : thread_code program (cpu_of e) ≡ code.0 = get_or_from_slice_get program (cpu_of e) code.0 [] code.1 in
      let done : has_terminated code.0 d.from ≡ true =
      list_all_zip-at_index (λ (x : List Instr × Processor). has_terminated x.0 x.1) program s.processors (cpu_of e) code.0 d.from
      final code.1 d.was in
      let parts = and_parts (nat_le (length code.0) d.from.position) (length d.from.buffer == 0) done in
      go e d (subst (λ c. length c ≤ d.from.position) (sym is) (leb-true (length code.0) d.from.position parts.0)) parts.1
    where
      -- By the kind of the event: a step has an instruction, and a drain an entry, which a terminated thread lacks.
      go : (e : Event) (a : EventOccurrence program e s first)
          → length (thread_code program (cpu_of e)) ≤ a.from.position
          → (length a.from.buffer == 0) ≡ true
          → ⊥
      go (Step t) a past empty =
          let i = HasInstr-of_step (slice_get (thread_code program t) a.from.position) a.from a.to s.memory a.words a.does in
          let within = slice_get_within (thread_code program t) a.from.position i.instr i.instr_is in
          absurd (omega (arith, past, within))
      go (Drain t) a past empty =
          let b = DrainEffect-of_drain a.from a.to s.memory a.words a.does in
          let size : length a.from.buffer ≡ length (b.entry ∷ b.rest.buffer) =
          ap (λ (r : Processor). length r.buffer) b.processor_is in
          let none : length a.from.buffer ≡ 0 = eqb-true (length a.from.buffer) 0 empty in
          absurd (omega (arith, size, none))
      go (Evict t x) a past empty =
          not-EffectLeadsTo-evict_event program (length s.memory) t x a.from a.to s.memory a.words a.does

  -- An invisible event can be moved to the front of a run to a final state: from the state after it, a run that is no longer has the same
  -- end.
  ShorterRun-of_invisible_event : (e : Event) (events : List Event) (s first end : State)
      → MachineTransition flat_memory program e s (Ok tt) first
      → IsInvisible program e s
      → cpu_of e < length program
      → MachineRunsTo flat_memory program events s end
      → IsTrue (is_final program end)
      → ShorterRun events first end
  ShorterRun-of_invisible_event e [] s first end enabled invisible lt ran final =
      absurd (not-is_final-if_enabled e s first enabled lt (subst (λ z. IsTrue (is_final program z)) ran final))
  ShorterRun-of_invisible_event e (f ∷ es) s first end enabled invisible lt (mid, done, ran) final =
      ShorterRun-of_event es s first mid end ran e f enabled invisible done
      (λ next again still. ShorterRun-of_invisible_event e es mid next end again still lt ran final)

  -- The state after an invisible event covers the state before it.
  pub Covers-invisible_event : (e : Event) (s next : State)
      → MachineTransition flat_memory program e s (Ok tt) next
      → IsInvisible program e s
      → cpu_of e < length program
      → Covers program next s
  Covers-invisible_event e s next enabled invisible lt events end ran final =
      let rest = ShorterRun-of_invisible_event e events s next end enabled invisible lt ran final in
      (rest.more, rest.no_longer, rest.ran)
