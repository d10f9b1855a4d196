-- The state of the machine after the first items of an order: the buffers have the words of the stores that
-- wait, and each location the word of the last write that has reached memory. This is the invariant along the
-- order, by which ToMachine and FromMachine go item by item.
use Rattle.lw_axiomatic.proofs.Common.{AtEach, ◌≡◌, ◌≢◌, ℕ, suc, ◌<◌, ◌≤◌, ◌⊎◌, inl, inr, Bool, true, false}
use Rattle.lw_axiomatic.proofs.Common.{Option, Some, None, refl, sym, ap, ◌∙◌, subst, arith, if◌then◌else◌}
use Rattle.lw_axiomatic.proofs.Common.{List, [], ◌∷◌, ◌++◌, length, map, slice_get, slice_set, true≢false}
use Rattle.lw_axiomatic.proofs.Common.{◌||◌, get_or_past, get_or-set_same, get_or-set_other, length-set}
use Rattle.lw_axiomatic.proofs.Common.{option_map, option_and_then, slice_index, cases_Bool, cases_lt}
use Rattle.lw_axiomatic.proofs.Common.{cases_eq, cond-true, cond-false, or_left, or_right, All-get_or}
use Rattle.lw_axiomatic.proofs.Common.{none-some, same_Some, slice_get_within, get_or_from_slice_get}
use Rattle.lw_axiomatic.proofs.Common.{slice_get-map, thread_code, slice_get-slice_set_same}
use Rattle.lw_axiomatic.proofs.Common.{slice_get-slice_set_other, Instr, Operation, Store, is_store}
use Rattle.lw_axiomatic.proofs.Common.{is_locked, or_cases, location_of-if_locked, is_store-false_if_locked}
use Rattle.lw_axiomatic.proofs.Common.{writes, location_of, x86_language, x86_operation, X86Test}
use Rattle.lw_axiomatic.proofs.Common.{IsWellScopedThread, IsWellFormedStatement, flat_memory, index_in, Item}
use Rattle.lw_axiomatic.proofs.Common.{statement_of, item, IsItemOnPath, IsItemOnPath-of_member, MachineState}
use Rattle.lw_axiomatic.proofs.Common.{Processor, step_effect, drain_effect, EffectLeadsTo, X86ItemTransition}
use Rattle.lw_axiomatic.proofs.Common.{entry_location, own_waits, waits_after, waits_after-same_thread}
use Rattle.lw_axiomatic.proofs.Common.{waits_after-other_thread, ItemStep, ItemStep-of_transition}
use Rattle.lw_axiomatic.proofs.Common.{AllBuffersHoldStores-after_item, AllBuffersHoldStores, BufferHolds}
use Rattle.lw_axiomatic.proofs.Common.{HoldsStores, AreWaitingStores, DrainsOldest-at_turn}
use Rattle.lw_axiomatic.proofs.Common.{AreWaitingStores-next, word_written, MemoryEvent, Execution}
use Rattle.lw_axiomatic.proofs.Common.{operation_is, location, IsEvent, Writes}
use Rattle.lw_axiomatic.proofs.EventLists.{event}
use Rattle.lw_axiomatic.proofs.EventKinds.{writes-if_locked}
use Rattle.lw_axiomatic.proofs.StepCases.{StepCase, StepCase-EffectLeadsTo, word_for, buffer_after}
use Rattle.lw_axiomatic.proofs.StepCases.{memory_after, word_put}
use Rattle.lw_axiomatic.proofs.Indices.{KeptOrder, items, item_numbered, turn, point_of, event_of_item}
use Rattle.lw_axiomatic.proofs.Indices.{reached, forward, turn-of_number, Placed, operation_is-of_instruction}
use Rattle.lw_axiomatic.proofs.Indices.{Placed-point, turn-injective, reached-injective, Contains-IsMember}
pub use Rattle.lw_axiomatic.proofs.Indices.{in_list}

-- ---- what an item did

-- If an item of a run was a step, it had the effect that `StepCase` states for its instruction's operation.
pub step_case : {program : List (List Instr)} {t j : ℕ} {i : Instr} {s mid : MachineState (List ℕ)} (b : Bool)
    → b ≡ false
    → (c : ItemStep program t j b s mid)
    → slice_get (thread_code program t) j ≡ Some i
    → StepCase (x86_operation i) c.old c.new s.memory c.words
step_case true f c found_at = absurd (true≢false f)
step_case {program} {t} {j} {i} {s} {mid} false f c found_at =
    let here : slice_get (thread_code program t) c.old.position ≡ Some i =
    ap (λ k. slice_get (thread_code program t) k) (c.position_is refl) ∙ found_at in
    StepCase-EffectLeadsTo (x86_operation i) c.old c.new s.memory c.words
    (subst (λ o. EffectLeadsTo s.memory (step_effect o c.old) c.new c.words) here c.does)

-- What a drain does: the oldest entry goes from the store buffer to memory.
pub record Drained (old new : Processor) (m n : List ℕ) : Type 0 where
  pub location : ℕ
  pub word : ℕ
  pub newer : List (ℕ × ℕ)
  pub buffer_is : old.buffer ≡ (location, word) ∷ newer
  pub processor_is : new ≡ record old { buffer = newer }
  pub memory : n ≡ slice_set m location word

-- If the act of a drain of the buffer b was done, the oldest entry went to memory.
Drained-of_step : (p q : Processor) (m n : List ℕ) (b : List (ℕ × ℕ))
    → p.buffer ≡ b
    → EffectLeadsTo m (drain_effect b p) q n
    → Drained p q m n
Drained-of_step p q m n [] e d = absurd d
Drained-of_step p q m n (f ∷ b) e d =
    record { location = f.0; word = f.1; newer = b; buffer_is = e; processor_is = d.0; memory = d.1 }

-- If an item of a run was a drain, the oldest entry of its processor's store buffer went to memory.
pub Drained-ItemStep : {program : List (List Instr)} {t j : ℕ} {s mid : MachineState (List ℕ)} (b : Bool)
    → b ≡ true
    → (c : ItemStep program t j b s mid)
    → Drained c.old c.new s.memory c.words
Drained-ItemStep {program} {t} {j} {s} {mid} true f c = Drained-of_step c.old c.new s.memory c.words c.old.buffer refl c.does
Drained-ItemStep false f c = absurd (true≢false (sym f))

-- The position of a processor is in the list of positions.
pub position_got : (ps : List Processor) (t : ℕ) (p : Processor)
    → slice_get ps t ≡ Some p
    → slice_get (map (λ (q : Processor). q.position) ps) t ≡ Some p.position
position_got ps t p found_at = slice_get-map _ ps t ∙ ap (option_map (λ (q : Processor). q.position)) found_at

-- The registers of a processor are in the list of registers.
pub regs_got : (ps : List Processor) (t : ℕ) (p : Processor)
    → slice_get ps t ≡ Some p
    → slice_get (map (λ (q : Processor). q.regs) ps) t ≡ Some p.regs
regs_got ps t p found_at = slice_get-map _ ps t ∙ ap (option_map (λ (q : Processor). q.regs)) found_at

-- What holds of a processor that is set, and of all others before, holds of all processors after.
pub AtEach-after_set : (P : ℕ → Processor → Type 0) (ps : List Processor) (t : ℕ) (old new : Processor)
    → slice_get ps t ≡ Some old
    → AtEach (λ u q. t ≢ u → P u q) ps
    → P t new
    → AtEach P (slice_set ps t new)
AtEach-after_set P ps t old new was others own u q at = elim (cases_eq t u) [
  | inl same_thread ↦
      (let got : new ≡ q =
      same_Some new q
      (sym (slice_get-slice_set_same ps t new old was)
      ∙ subst (λ k. slice_get (slice_set ps t new) k ≡ Some q) (sym same_thread) at) in
      subst (λ k. P k q) same_thread (subst (P t) got own))
  | inr threads_differ ↦ others u q (sym (slice_get-slice_set_other ps t u new threads_differ) ∙ at) threads_differ
]

-- A locked operation has a location, and changes only the word there; any other leaves memory unchanged.
pub memory_cases : (o : Operation) (regs m : List ℕ) (w : ℕ)
    → ((is_locked o ≡ true)
    × (l : ℕ)
    × (location_of o ≡ Some l)
    × (memory_after o regs m w ≡ slice_set m l (word_written o regs w)))
    ⊎ ((is_locked o ≡ false) × (memory_after o regs m w ≡ m))
memory_cases o regs m w = elim (cases_Bool (is_locked o)) [
  | inl locked ↦
      (let l = location_of-if_locked o locked in
      inl (locked, l.0, l.1, cond-true (is_locked o) _ m locked ∙ ap (λ q. word_put q (word_written o regs w) m) l.1))
  | inr plain ↦ inr (plain, cond-false (is_locked o) _ m plain)
]

-- A store has a location, and appends one entry for it to the store buffer; any other operation leaves the buffer unchanged.
buffer_cases : (o : Operation) (p : Processor)
    → ((is_store o ≡ true)
    × (l : ℕ)
    × (location_of o ≡ Some l)
    × (buffer_after o p ≡ p.buffer ++ (l, word_written o p.regs 0) ∷ []))
    ⊎ ((is_store o ≡ false) × (buffer_after o p ≡ p.buffer))
buffer_cases (Store x v) p = inl (refl, x, refl, refl)
buffer_cases o p = inr (refl, refl)

-- A store writes, and its word does not depend on what it finds.
pub store_writes : (o : Operation)
    → is_store o ≡ true
    → (writes o ≡ true) × ((regs : List ℕ) (v w : ℕ) → word_written o regs v ≡ word_written o regs w)
store_writes (Store x v) e = (refl, λ regs v w. refl)
store_writes _ e = absurd (true≢false (sym e))

-- An instruction that is a store writes.
pub store_writes_too : (i : Instr) → is_store (x86_operation i) ≡ true → writes (x86_operation i) ≡ true
store_writes_too i e = (store_writes (x86_operation i) e).0

-- The disjunction of three tests is true if the second is.
pub or_true-middle : (a b c : Bool) → b ≡ true → (a || (b || c)) ≡ true
or_true-middle a b c e = or_right a _ (or_left b c e)

-- What writes and is not locked is a store.
writes_unlocked : (o : Operation) → writes o ≡ true → is_locked o ≡ false → is_store o ≡ true
writes_unlocked o w f = elim (or_cases (is_store o) _ w) [ inl store ↦ store | inr locked ↦ absurd (true≢false (sym locked ∙ f)) ]

-- What adds an entry for a location is a store to it.
stored_cases : (o : Operation) (l : ℕ)
    → (if is_store o then location_of o else None) ≡ Some l
    → (is_store o ≡ true) × (location_of o ≡ Some l)
stored_cases o l e = elim (cases_Bool (is_store o)) [
  | inl store ↦ (store, sym (cond-true (is_store o) _ None store) ∙ e)
  | inr not ↦ absurd (none-some l (sym (cond-false (is_store o) (location_of o) None not) ∙ e))
]

-- What adds an entry is a store to its location.
pub store-entry_location : (o : Option Instr) (l : ℕ)
    → entry_location x86_language o ≡ Some l
    → (i : Instr) × (o ≡ Some i) × (is_store (x86_operation i) ≡ true) × (location_of (x86_operation i) ≡ Some l)
store-entry_location None l e = absurd (none-some l e)
store-entry_location (Some i) l e = let c = stored_cases (x86_operation i) l e in (i, refl, c.0, c.1)

module _ {test : X86Test} (x : Execution) (given : KeptOrder test x.paths) where
  -- The items of the execution's paths.
  abbrev pub all_items : List Item
  all_items = items given

  -- The item of the execution's paths with this number.
  abbrev pub nth_item : ℕ → Item
  nth_item i = item_numbered given i

  -- When an event reaches memory, in the order.
  abbrev pub reached_at : MemoryEvent → ℕ
  reached_at e = reached given e

  -- The entries of thread t's buffer have, in order, the words of its stores at these positions.
  abbrev pub Written : ℕ → List ℕ → List (ℕ × ℕ) → Type 0
  Written t [] [] = Unit {0}
  Written t (w ∷ ws) (e ∷ b) = (x.written (event t w) ≡ e.1) × Written t ws b
  Written t _ _ = ⊥

  -- Of the first k items, the last that wrote the location wrote this word; or none did, and it is the initial word.
  abbrev pub LastBefore : ℕ → ℕ → ℕ → Type 0
  LastBefore k l w =
      (((e : MemoryEvent) → Writes x86_language test x e l → reached_at e < k → ⊥) × (w ≡ slice_index test.head.init_words l))
      ⊎ ((e : MemoryEvent)
      × Writes x86_language test x e l
      × (reached_at e < k)
      × ((f : MemoryEvent) → Writes x86_language test x f l → reached_at f < k → reached_at f ≤ reached_at e)
      × (w ≡ x.written e))

  -- After the first k items: which stores wait, that the buffers hold their words, and memory the last words written.
  pub record PrefixInvariant (k : ℕ) (pending : ℕ → List ℕ) (s : MachineState (List ℕ)) : Type 0 where
    pub waiting : AreWaitingStores test.threads (forward given) x.paths given.assignment given.order k pending
    pub hold : AllBuffersHoldStores test.threads pending s
    pub words : (t : ℕ) (p : Processor) → slice_get s.processors t ≡ Some p → Written t (pending t) p.buffer
    pub memory : (l : ℕ) → LastBefore k l (slice_index s.memory l)
    pub size : length s.memory ≡ length test.head.locs

  -- ---- the memory, one item further

  -- If no write to a location has its turn at k, the last word written before k is the last before k + 1.
  LastBefore-no_write : (k l w : ℕ)
      → ((f : MemoryEvent) → Writes x86_language test x f l → reached_at f ≡ k → ⊥)
      → LastBefore k l w
      → LastBefore (suc k) l w
  LastBefore-no_write k l w none (inl (never, is)) = inl (
    (λ e writing lt.
        elim (cases_lt (reached_at e) k) [ inl less ↦ never e writing less | inr ge ↦ none e writing (omega (arith, lt, ge)) ]),
    is,
  )
  LastBefore-no_write k l w none (inr (e, writing, lt, last, is)) = inr (
    e,
    writing,
    omega (arith, lt),
    (λ f wf lf.
        elim (cases_lt (reached_at f) k) [ inl less ↦ last f wf less | inr ge ↦ absurd (none f wf (omega (arith, lf, ge))) ]),
    is,
  )

  -- If a write to l has its turn at k, and its word is put there, memory has the last words written before k + 1.
  LastBefore-write : (k l w : ℕ) (e : MemoryEvent) (m : List ℕ)
      → Writes x86_language test x e l
      → reached_at e ≡ k
      → l < length m
      → w ≡ x.written e
      → ((y : ℕ) → LastBefore k y (slice_index m y))
      → (y : ℕ)
      → LastBefore (suc k) y (slice_index (slice_set m l w) y)
  LastBefore-write k l w e m writing now in_range is before y = elim (cases_eq y l) [
    | inl same ↦ inr (
      e,
      subst (Writes x86_language test x e) (sym same) writing,
      omega (arith, now),
      (λ f wf lf. omega (arith, lf, now)),
      ap (λ z. slice_index (slice_set m l w) z) same ∙ get_or-set_same m l w 0 in_range ∙ is,
    )
    | inr ne ↦
        subst (LastBefore (suc k) y) (sym (get_or-set_other m l y w 0 ne))
        (LastBefore-no_write k y (slice_index m y) (λ f wf at_k.
        (let same : f ≡ e = reached-injective given x refl f e wf.is_event writing.is_event (at_k ∙ sym now) in
        ne (same_Some y l (sym wf.location_is ∙ ap (location x86_language test) same ∙ writing.location_is)))) (before y))
  ]

  -- ---- the buffers, one item further

  -- If the entries of a buffer have the words of their stores, so do these and one more entry that has the word of its store.
  Written-pushed : (t j l w : ℕ) (ws : List ℕ) (b : List (ℕ × ℕ))
      → Written t ws b
      → x.written (event t j) ≡ w
      → Written t (ws ++ j ∷ []) (b ++ (l, w) ∷ [])
  Written-pushed t j l w [] [] h e = (e, tt)
  Written-pushed t j l w (u ∷ ws) (f ∷ b) h e = (h.0, Written-pushed t j l w ws b h.1 e)
  Written-pushed t j l w _ _ h e = absurd h

  -- If the entries of a buffer have the words of their stores, so do those that remain after the first is drained.
  Written-dropped : (t j : ℕ) (o : Option ℕ) (ws : List ℕ) (e : ℕ × ℕ) (b : List (ℕ × ℕ))
      → Written t ws (e ∷ b)
      → Written t (own_waits true o j ws) b
  Written-dropped t j o [] e b h = absurd h
  Written-dropped t j o (w ∷ ws) e b h = h.1

  -- The location of an instruction is one of the test.
  location_in_range : (t j : ℕ) (i : Instr) (l : ℕ)
      → slice_get (thread_code test.threads t) j ≡ Some i
      → location_of (x86_operation i) ≡ Some l
      → l < length test.head.locs
  location_in_range t j i l found_at loc = elim (cases_lt t (length test.threads)) [
    | inl h ↦
        (let thread : IsWellScopedThread x86_language (length test.head.locs) (thread_code test.threads t) =
        All-get_or (IsWellScopedThread x86_language (length test.head.locs)) test.threads t [] h given.well_scoped.code in
        let statement : IsWellFormedStatement x86_language (length test.head.locs) i =
        subst (IsWellFormedStatement x86_language (length test.head.locs))
        (get_or_from_slice_get (thread_code test.threads t) j i i found_at)
        (thread.statements_formed j i (slice_get_within (thread_code test.threads t) j i found_at)) in
        statement.0 l loc)
    | inr h ↦
        absurd (none-some i (subst (λ (code : List Instr). slice_get code j ≡ Some i) (get_or_past test.threads t [] h) found_at))
  ]

  -- The item that has its turn at an index.
  pub record Turn (k : ℕ) : Type 0 where
    pub index : ℕ
    pub below : index < length all_items
    pub index_is : index_in given.order index ≡ k

  -- The words that a step writes are those of the execution.
  abbrev pub Agrees : ℕ → Instr → Processor → List ℕ → Type 0
  Agrees i h p m =
      (nth_item i).is_drain ≡ false
      → writes (x86_operation h) ≡ true
      → x.written (event_of_item given (nth_item i))
      ≡ word_written (x86_operation h) p.regs (word_for (x86_operation h) p.buffer m)

  -- One item more.
  module _ {k : ℕ} {pending : ℕ → List ℕ} {s mid : MachineState (List ℕ)} (inv : PrefixInvariant k pending s) (now_at : Turn k)
      (out : X86ItemTransition flat_memory test.threads (nth_item now_at.index) s mid) where
    -- The thread of the item whose turn it is.
    abbrev item_thread : ℕ
    item_thread = (nth_item now_at.index).thread

    -- The item's position.
    abbrev item_position : ℕ
    item_position = (nth_item now_at.index).position

    -- The event of the item whose turn it is.
    abbrev item_event : MemoryEvent
    item_event = event item_thread item_position

    -- The item is on its thread's path.
    abbrev pub item_on_path : IsItemOnPath x86_language test.threads x.paths (nth_item now_at.index)
    item_on_path = IsItemOnPath-of_member x86_language test.threads x.paths now_at.index now_at.below

    -- What the machine does at this turn.
    abbrev pub item_step : ItemStep test.threads item_thread item_position (nth_item now_at.index).is_drain s mid
    item_step = ItemStep-of_transition test.threads item_thread item_position (nth_item now_at.index).is_drain s mid out

    -- Before the item its thread's buffer holds the stores that wait.
    HoldsStores-old : HoldsStores (thread_code test.threads item_thread) (pending item_thread) item_step.old
    HoldsStores-old = inv.hold item_thread item_step.old item_step.was

    -- If the item is a drain, its store is the one that has waited longest.
    pub waiting_head : (nth_item now_at.index).is_drain ≡ true → (rest : List ℕ) × (pending item_thread ≡ item_position ∷ rest)
    waiting_head =
        DrainsOldest-at_turn test.threads (forward given) x.paths given.assignment given.order given.keeps k
        item_step.old.position now_at.index pending inv.waiting HoldsStores-old.climbs now_at.below now_at.index_is

    -- The stores of each thread that wait after the item.
    abbrev pub waiting_after : ℕ → List ℕ
    waiting_after = waits_after x86_language test.threads (nth_item now_at.index) pending

    -- After the item the waiting stores of its own thread are those before, without a drained store or with a new
    -- one.
    waiting_after-own : waiting_after item_thread
        ≡ own_waits (nth_item now_at.index).is_drain
        (entry_location x86_language (statement_of x86_language test.threads (nth_item now_at.index))) item_position
        (pending item_thread)
    waiting_after-own = waits_after-same_thread x86_language test.threads (nth_item now_at.index) pending item_thread refl

    -- The item's event is one of the execution.
    on_path : IsEvent x item_event
    on_path = Contains-IsMember (thread_code x.paths item_thread) item_position item_on_path.on_path

    -- The item has its turn at k.
    item_turn : turn given (nth_item now_at.index) ≡ k
    item_turn = turn-of_number given now_at.index now_at.below ∙ now_at.index_is

    -- The kind of the item's event is that of its instruction.
    event_kind : (q : Operation → Bool) → operation_is x86_language test q item_event ≡ q (x86_operation item_on_path.statement)
    event_kind q = operation_is-of_instruction given q item_event item_on_path.statement item_on_path.at

    -- If the item is a drain exactly if its event is a store, the event reaches memory at k.
    reached_now : operation_is x86_language test is_store item_event ≡ (nth_item now_at.index).is_drain
        → reached_at item_event ≡ k
    reached_now same = ap (λ b. turn given (item item_thread item_position b)) same ∙ item_turn

    -- A write that reaches memory at k is the item's event, and it is a store exactly if the item is a drain.
    reached_now-unique : (f : MemoryEvent) (y : ℕ)
        → Writes x86_language test x f y
        → reached_at f ≡ k
        → (f ≡ item_event) × (operation_is x86_language test is_store f ≡ (nth_item now_at.index).is_drain)
    reached_now-unique f y wf at_k =
        let index_in : Placed given (nth_item now_at.index) = record {
          index = now_at.index;
          below = now_at.below;
          item_is = refl;
          index_is = turn-of_number given now_at.index now_at.below;
        } in
        let same : point_of given f ≡ nth_item now_at.index =
        turn-injective given (point_of given f) (nth_item now_at.index) (Placed-point given f wf.is_event) index_in
        (at_k ∙ sym item_turn) in
        (ap (event_of_item given) same, ap (λ (a : Item). a.is_drain) same)

    -- Memory after the item is what the item's step leaves.
    memory_after_item : mid.memory ≡ item_step.words
    memory_after_item = ap (λ (z : MachineState (List ℕ)). z.memory) item_step.state_is

    -- The buffers of the other threads have their words still.
    Written-others : AtEach (λ u q. item_thread ≢ u → Written u (waiting_after u) q.buffer) s.processors
    Written-others u q got ne =
        subst (λ ws. Written u ws q.buffer)
        (sym (waits_after-other_thread x86_language test.threads (nth_item now_at.index) pending u ne)) (inv.words u q got)

    -- All buffers have the words of their stores, if the own thread's buffer has them.
    Written-of_all : Written item_thread (waiting_after item_thread) item_step.new.buffer
        → AtEach (λ u q. Written u (waiting_after u) q.buffer) mid.processors
    Written-of_all own u q got =
        AtEach-after_set (λ u q. Written u (waiting_after u) q.buffer) s.processors item_thread item_step.old item_step.new
        item_step.was Written-others own u q
        (subst (λ (z : MachineState (List ℕ)). slice_get z.processors u ≡ Some q) item_step.state_is got)

    -- If the buffer of the item's thread has the words of the stores that wait after a drain, or after a step, it has those of
    -- the stores that wait after this item; b says which it is.
    Written-own : (b : Bool)
        → (nth_item now_at.index).is_drain ≡ b
        → Written item_thread
        (own_waits b (entry_location x86_language (statement_of x86_language test.threads (nth_item now_at.index))) item_position
        (pending item_thread)) item_step.new.buffer
        → Written item_thread (waiting_after item_thread) item_step.new.buffer
    Written-own b f own =
        subst (λ ws. Written item_thread ws item_step.new.buffer)
        (sym (waiting_after-own
        ∙ ap (λ d.
        own_waits d (entry_location x86_language (statement_of x86_language test.threads (nth_item now_at.index))) item_position
        (pending item_thread)) f)) own

    -- A drain.
    module _ (kind_is : (nth_item now_at.index).is_drain ≡ true) where
      -- If the item is a drain, the oldest entry of its processor goes to memory.
      drained : Drained item_step.old item_step.new s.memory item_step.words
      drained = Drained-ItemStep (nth_item now_at.index).is_drain kind_is item_step

      -- After a drain the buffer of the item's thread has the words of its stores.
      Written-after_drain : Written item_thread (waiting_after item_thread) item_step.new.buffer
      Written-after_drain =
          Written-own true kind_is
          (subst (λ (q : Processor).
          Written item_thread
          (own_waits true (entry_location x86_language (statement_of x86_language test.threads (nth_item now_at.index)))
          item_position (pending item_thread)) q.buffer) (sym drained.processor_is)
          (Written-dropped item_thread item_position
          (entry_location x86_language (statement_of x86_language test.threads (nth_item now_at.index))) (pending item_thread)
          (drained.location, drained.word) drained.newer
          (subst (Written item_thread (pending item_thread)) drained.buffer_is
          (inv.words item_thread item_step.old item_step.was))))

      -- The first entry of the buffer is for the location, and has the word, of the item's store, which has waited longest.
      entry_of_head : (ws : List ℕ) (b : List (ℕ × ℕ))
          → pending item_thread ≡ ws
          → item_step.old.buffer ≡ b
          → BufferHolds (thread_code test.threads item_thread) ws b
          → Written item_thread ws b
          → (entry_location x86_language (slice_get (thread_code test.threads item_thread) item_position) ≡ Some drained.location)
          × (x.written item_event ≡ drained.word)
      entry_of_head [] b ew eb holds written =
          absurd (let oldest = waiting_head kind_is in
          let bad : [] ≡ item_position ∷ oldest.0 = sym ew ∙ oldest.1 in
          cc)
      entry_of_head (w ∷ ws) [] ew eb holds written = absurd holds
      entry_of_head (w ∷ ws) (g ∷ b) ew eb holds written =
          let oldest = waiting_head kind_is in
          let first : w ≡ item_position = (let same : w ∷ ws ≡ item_position ∷ oldest.0 = sym ew ∙ oldest.1 in cc) in
          let entry : g ≡ (drained.location, drained.word) =
          (let same : g ∷ b ≡ (drained.location, drained.word) ∷ drained.newer = sym eb ∙ drained.buffer_is in cc) in (
            ap (λ k. entry_location x86_language (slice_get (thread_code test.threads item_thread) k)) (sym first)
                ∙ (holds.0 ∙ ap (λ (z : ℕ × ℕ). Some z.0) entry),
            ap (λ k. x.written (event item_thread k)) (sym first) ∙ (written.0 ∙ ap (λ (z : ℕ × ℕ). z.1) entry),
          )

      -- The drained entry is that of the store at the item's position.
      entry_of_item :
          (entry_location x86_language (slice_get (thread_code test.threads item_thread) item_position) ≡ Some drained.location)
          × (x.written item_event ≡ drained.word)
      entry_of_item =
          entry_of_head (pending item_thread) item_step.old.buffer refl refl HoldsStores-old.waits
          (inv.words item_thread item_step.old item_step.was)

      -- The item's instruction is a store to the drained entry's location.
      drained_item_is_store : (is_store (x86_operation item_on_path.statement) ≡ true)
          × (location_of (x86_operation item_on_path.statement) ≡ Some drained.location)
      drained_item_is_store =
          let g =
          store-entry_location (slice_get (thread_code test.threads item_thread) item_position) drained.location
          entry_of_item.0 in
          let same : g.0 ≡ item_on_path.statement = same_Some g.0 item_on_path.statement (sym g.1 ∙ item_on_path.at) in
          (ap (λ h. is_store (x86_operation h)) (sym same) ∙ g.2, ap (λ h. location_of (x86_operation h)) (sym same) ∙ g.3)

      -- The drained store's event writes the entry's location.
      Writes-of_drain : Writes x86_language test x item_event drained.location
      Writes-of_drain = record {
        is_event = on_path;
        location_is =
            ap (λ o. option_and_then location_of (option_map x86_operation o)) item_on_path.at ∙ drained_item_is_store.1;
        is_write = event_kind writes ∙ (store_writes (x86_operation item_on_path.statement) drained_item_is_store.0).0;
      }

      -- After a drain each location has the last word written before k + 1.
      LastBefore-after_drain : (y : ℕ) → LastBefore (suc k) y (slice_index mid.memory y)
      LastBefore-after_drain y =
          let in_range : drained.location < length s.memory = omega (
            arith,
            inv.size,
            location_in_range item_thread item_position item_on_path.statement drained.location item_on_path.at
                drained_item_is_store.1,
          ) in
          subst (λ (m : List ℕ). LastBefore (suc k) y (slice_index m y)) (sym (memory_after_item ∙ drained.memory))
          (LastBefore-write k drained.location drained.word item_event s.memory Writes-of_drain
          (reached_now (event_kind is_store ∙ (drained_item_is_store.0 ∙ sym kind_is))) in_range (sym entry_of_item.1) inv.memory
          y)

      -- A drain preserves the number of words.
      drain_size : length mid.memory ≡ length test.head.locs
      drain_size = ap length (memory_after_item ∙ drained.memory) ∙ (length-set s.memory drained.location drained.word ∙ inv.size)

    -- A step.
    module _ (kind_is : (nth_item now_at.index).is_drain ≡ false)
        (agrees : Agrees now_at.index item_on_path.statement item_step.old s.memory) where
      -- What a step does.
      pub StepCase-at_items_turn :
          StepCase (x86_operation item_on_path.statement) item_step.old item_step.new s.memory item_step.words
      StepCase-at_items_turn = step_case (nth_item now_at.index).is_drain kind_is item_step item_on_path.at

      -- The item's instruction adds an entry for its location if it is a store, and none otherwise.
      entry_location_of_item : entry_location x86_language (statement_of x86_language test.threads (nth_item now_at.index))
          ≡ (if is_store (x86_operation item_on_path.statement) then location_of (x86_operation item_on_path.statement) else None)
      entry_location_of_item = ap (entry_location x86_language) item_on_path.at

      -- After a step the buffer of the item's thread has the words of its stores.
      Written-after_step : Written item_thread (waiting_after item_thread) item_step.new.buffer
      Written-after_step = Written-own false kind_is (elim (buffer_cases (x86_operation item_on_path.statement) item_step.old) [
        | inl (store, y, loc, is) ↦
            (let entry : entry_location x86_language (statement_of x86_language test.threads (nth_item now_at.index)) ≡ Some y =
            entry_location_of_item ∙ (cond-true (is_store (x86_operation item_on_path.statement)) _ None store ∙ loc) in
            let sw = store_writes (x86_operation item_on_path.statement) store in
            subst (λ o. Written item_thread (own_waits false o item_position (pending item_thread)) item_step.new.buffer)
            (sym entry)
            (subst (Written item_thread (pending item_thread ++ item_position ∷ [])) (sym (StepCase-at_items_turn.buffer ∙ is))
            (Written-pushed item_thread item_position y (word_written (x86_operation item_on_path.statement) item_step.old.regs 0)
            (pending item_thread) item_step.old.buffer (inv.words item_thread item_step.old item_step.was)
            (agrees kind_is sw.0
            ∙ sw.1 item_step.old.regs (word_for (x86_operation item_on_path.statement) item_step.old.buffer s.memory) 0))))
        | inr (none, is) ↦
            (let entry : entry_location x86_language (statement_of x86_language test.threads (nth_item now_at.index)) ≡ None =
            entry_location_of_item ∙ cond-false (is_store (x86_operation item_on_path.statement)) _ None none in
            subst (λ o. Written item_thread (own_waits false o item_position (pending item_thread)) item_step.new.buffer)
            (sym entry)
            (subst (Written item_thread (pending item_thread)) (sym (StepCase-at_items_turn.buffer ∙ is))
            (inv.words item_thread item_step.old item_step.was)))
      ])

      -- After a step each location has the last word written before `k + 1`, and there are as many words as before.
      step_memory : ((y : ℕ) → LastBefore (suc k) y (slice_index mid.memory y)) × (length mid.memory ≡ length test.head.locs)
      step_memory =
          elim (memory_cases (x86_operation item_on_path.statement) item_step.old.regs s.memory
          (word_for (x86_operation item_on_path.statement) item_step.old.buffer s.memory)) [
            | inl (locked, y, loc, is) ↦
                (let m : mid.memory
                ≡ slice_set s.memory y
                (word_written (x86_operation item_on_path.statement) item_step.old.regs
                (word_for (x86_operation item_on_path.statement) item_step.old.buffer s.memory)) =
                memory_after_item ∙ (StepCase-at_items_turn.memory ∙ is) in
                let in_range : y < length s.memory =
                omega (
                  arith,
                  inv.size,
                  location_in_range item_thread item_position item_on_path.statement y item_on_path.at loc,
                ) in
                let writing : Writes x86_language test x item_event y = record {
                  is_event = on_path;
                  location_is = ap (λ o. option_and_then location_of (option_map x86_operation o)) item_on_path.at ∙ loc;
                  is_write = event_kind writes ∙ writes-if_locked (x86_operation item_on_path.statement) locked;
                } in (
                  (λ z.
                      subst (λ (n : List ℕ). LastBefore (suc k) z (slice_index n z)) (sym m)
                      (LastBefore-write k y _ item_event s.memory writing
                      (reached_now (event_kind is_store
                      ∙ (is_store-false_if_locked (x86_operation item_on_path.statement) locked ∙ sym kind_is))) in_range
                      (sym (agrees kind_is (writes-if_locked (x86_operation item_on_path.statement) locked))) inv.memory z)),
                  ap length m ∙ (length-set s.memory y _ ∙ inv.size),
                ))
            | inr (free, is) ↦
                (let m : mid.memory ≡ s.memory = memory_after_item ∙ (StepCase-at_items_turn.memory ∙ is) in (
                  (λ z.
                      subst (λ (n : List ℕ). LastBefore (suc k) z (slice_index n z)) (sym m)
                      (LastBefore-no_write k z (slice_index s.memory z) (λ g wg at_k.
                      (let o = reached_now-unique g z wg at_k in
                      let writing : writes (x86_operation item_on_path.statement) ≡ true =
                      sym (event_kind writes) ∙ (ap (operation_is x86_language test writes) (sym o.0) ∙ wg.is_write) in
                      let store : is_store (x86_operation item_on_path.statement) ≡ true =
                      writes_unlocked (x86_operation item_on_path.statement) writing free in
                      true≢false (sym store
                      ∙ (sym (event_kind is_store)
                      ∙ (ap (operation_is x86_language test is_store) (sym o.0) ∙ (o.1 ∙ kind_is)))))) (inv.memory z))),
                  ap length m ∙ inv.size,
                ))
          ]

    -- The invariant holds at k + 1, if the step writes the words of the execution.
    pub PrefixInvariant-next : Agrees now_at.index item_on_path.statement item_step.old s.memory
        → PrefixInvariant (suc k) waiting_after mid
    PrefixInvariant-next agrees = elim (cases_Bool (nth_item now_at.index).is_drain) [
      | inl f ↦ record {
        waiting =
            AreWaitingStores-next test.threads (forward given) x.paths given.assignment given.order given.keeps k
            item_step.old.position now_at.index pending inv.waiting HoldsStores-old.climbs now_at.below now_at.index_is;
        hold =
            AllBuffersHoldStores-after_item test.threads (forward given) (nth_item now_at.index) item_on_path.statement pending s
            mid item_step item_on_path.at inv.hold;
        words = Written-of_all (Written-after_drain f);
        memory = LastBefore-after_drain f;
        size = drain_size f;
      }
      | inr f ↦ record {
        waiting =
            AreWaitingStores-next test.threads (forward given) x.paths given.assignment given.order given.keeps k
            item_step.old.position now_at.index pending inv.waiting HoldsStores-old.climbs now_at.below now_at.index_is;
        hold =
            AllBuffersHoldStores-after_item test.threads (forward given) (nth_item now_at.index) item_on_path.statement pending s
            mid item_step item_on_path.at inv.hold;
        words = Written-of_all (Written-after_step f agrees);
        memory = (step_memory f agrees).0;
        size = (step_memory f agrees).1;
      }
    ]
