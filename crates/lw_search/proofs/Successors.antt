-- The invariant of a search after a state is expanded: all states found remain found, and the successors are
-- covered. Lemmas for `add_successor` and `expand`: a new or a known key, a refused event, and one thread
-- after the other.
use Rattle.lw_search.proofs.Common.{◌≡◌, ℕ, zero, suc, ◌+◌, ◌<◌, ◌≤◌, ◌⊎◌, inl, inr, Some, None, Ok, List, []}
use Rattle.lw_search.proofs.Common.{◌∷◌, ◌++◌, length, refl, sym, ap, ap₂, ◌∙◌, subst, arith, slice_get}
use Rattle.lw_search.proofs.Common.{slice_index, length-append, length-set, slice_get-slice_set_same}
use Rattle.lw_search.proofs.Common.{cases_lt, slice_get_past, same_Some, slice_get_within, slice_get-in_range}
use Rattle.lw_search.proofs.Common.{get_or_from_slice_get, Event, Step, Drain, Evict, flat_memory, Instr}
use Rattle.lw_search.proofs.Common.{Processor, cpu_of, MachineTransition, MachineRunsTo, Bool, true, false}
use Rattle.lw_search.proofs.Common.{Operation, operation_effect, x86_operation, Ended, Refused, event_effect}
use Rattle.lw_search.proofs.Common.{step_effect, Stop, EffectLeadsTo, EventOccurrence}
use Rattle.lw_search.proofs.Common.{EventOccurrence-of_event, MachineTransition-deterministic}
use Rattle.lw_search.proofs.Common.{not-EffectLeadsTo-evict_event, slice_get-append_cases}
use Rattle.lw_search.proofs.Common.{slice_get-append_middle, Origin, State, Components, FoundStates, Extends}
use Rattle.lw_search.proofs.Common.{Represents, IsPrefix, HasUniqueIndices, InsertsKey, AppendsOrigin}
use Rattle.lw_search.proofs.Common.{event_of, events_of, set_thread, Covers, IsCovered, HasPredecessor}
use Rattle.lw_search.proofs.Common.{SearchInvariant, Expansion, HasConflictsOfOthers, ExpandsState}
use Rattle.lw_search.proofs.Common.{ExpandsUpTo, CoversThread, Settled, SettlesFrom, IsLoaded}
use Rattle.lw_search.proofs.Settling.{HasConflictsOfOthers-set_thread, RepresentsOthers-set_thread}
use Rattle.lw_search.proofs.Settling.{Represents-of_working}
use Rattle.lw_search.proofs.Rows.{slice_get-append_left, HasUniqueIndices-append, Extends-trans}

-- ---- keys

-- Lists of the same length with equal items are equal.
list-ext : {X : Type 0} (xs ys : List X)
    → ((t : ℕ) (x y : X) → slice_get xs t ≡ Some x → slice_get ys t ≡ Some y → x ≡ y)
    → length xs ≡ length ys
    → xs ≡ ys
list-ext [] [] same size = refl
list-ext (x ∷ xs) (y ∷ ys) same size =
    ap₂ (λ z zs. z ∷ zs) (same 0 x y refl refl) (list-ext xs ys (λ t a b at and. same (suc t) a b at and) (omega arith))
list-ext _ _ same size = absurd (omega arith)

-- A number in range is the one at its index.
slice_index-get : (xs : List ℕ) (i x : ℕ) → slice_get xs i ≡ Some x → slice_index xs i ≡ x
slice_index-get [] i x at = absurd cc
slice_index-get (y ∷ xs) zero x at = same_Some y x at
slice_index-get (y ∷ xs) (suc i) x at = slice_index-get xs i x at

-- A key represents at most one state with a number of threads.
Represents-unique : (tables : Components) (key : List ℕ) (s r : State)
    → Represents tables key s
    → Represents tables key r
    → length s.processors ≡ length r.processors
    → s ≡ r
Represents-unique tables key s r a b size =
    let memory : s.memory ≡ r.memory = same_Some s.memory r.memory (sym a.memory ∙ b.memory) in
    let processors : s.processors ≡ r.processors =
    list-ext s.processors r.processors (λ t p q at and. same_Some p q (sym (a.threads t p at) ∙ b.threads t q and)) size in
    λ i. record { processors = processors i; memory = memory i }

-- A state has at most one key, since each value has one number.
key-unique : (tables : Components) (key other : List ℕ) (s : State)
    → HasUniqueIndices tables.threads
    → HasUniqueIndices tables.memories
    → Represents tables key s
    → Represents tables other s
    → key ≡ other
key-unique tables key other s distinct_threads distinct_memories a b =
    list-ext key other (λ i x y at and. sym (slice_index-get key i x at) ∙ same i ∙ slice_index-get other i y and)
    (a.size ∙ sym b.size)
  where
    -- The keys have the same number for each thread.
    at_thread : (t : ℕ) → slice_index key (suc t) ≡ slice_index other (suc t)
    at_thread t =
        subst (λ n. slice_index key n ≡ slice_index other n) (let e : t + 1 ≡ suc t = omega arith in e)
        (elim (cases_lt t (length s.processors)) [
          | inl lt ↦
              (let p = slice_get-in_range s.processors t lt in
              distinct_threads (slice_index key (t + 1)) (slice_index other (t + 1)) p.0 (a.threads t p.0 p.1)
              (b.threads t p.0 p.1))
          | inr ge ↦ a.unused t ge ∙ sym (b.unused t ge)
        ])

    -- The keys have the same number at each index.
    same : (i : ℕ) → slice_index key i ≡ slice_index other i
    same zero = distinct_memories (slice_index key 0) (slice_index other 0) s.memory a.memory b.memory
    same (suc t) = at_thread t

-- A key represents a state by larger tables too.
Represents-extended : {old new : Components} (key : List ℕ) (s : State)
    → Extends old new
    → Represents old key s
    → Represents new key s
Represents-extended key s extended is_represented = record {
  size = is_represented.size;
  memory = extended.memories _ _ is_represented.memory;
  threads = λ t p at. extended.threads _ p (is_represented.threads t p at);
  unused = is_represented.unused;
}

-- Inserting a key preserves the keys at their indices, whether the key is new or known.
IsPrefix-inserted : (old new : FoundStates) (key : List ℕ) (parent : ℕ) (run : List (ℕ × Bool))
    → InsertsKey old key parent run new
    → IsPrefix old.keys new.keys
IsPrefix-inserted old new key parent run (inl a) i x at =
    ap (λ l. slice_get l i) a.1 ∙ slice_get-append_left old.keys (key ∷ []) i x at
IsPrefix-inserted old new key parent run (inr a) i x at = ap (λ (v : FoundStates). slice_get v.keys i) a.2 ∙ at

-- The thread of the event of a row of a run.
pub cpu_of-event : (r : ℕ × Bool) → cpu_of (event_of r) ≡ r.0
cpu_of-event r = go r.0 r.1
  where
    -- By the row's thread and by whether it is a drain.
    go : (t : ℕ) (b : Bool) → cpu_of (event_of (t, b)) ≡ t
    go t true = refl
    go t false = refl

module _ (program : List (List Instr)) where
  -- A covered successor remains covered when more states are found.
  IsCovered-prefix : (found more : List State) (s : State) (e : Event)
      → IsPrefix found more
      → IsCovered program found s e
      → IsCovered program more s e
  IsCovered-prefix found more s e longer is_covered next done =
      let r = is_covered next done in (r.0, r.1, longer r.1 r.0 r.2, r.3)

  -- A state's predecessor remains one when more states and more runs are found.
  pub HasPredecessor-prefix : {runs longer_runs : List (List (ℕ × Bool))} {found more : List State} {at : ℕ} {origin : Origin}
      {s : State}
      → IsPrefix runs longer_runs
      → IsPrefix found more
      → HasPredecessor program runs found at origin s
      → HasPredecessor program longer_runs more at origin s
  HasPredecessor-prefix longer_runs longer came = record {
    before = came.before;
    from = came.from;
    found_at = longer _ came.from came.found_at;
    run = came.run;
    run_row = longer_runs _ came.run came.run_row;
    ran = came.ran;
  }

  -- The invariant holds with larger tables, of the same states.
  pub SearchInvariant-extended : {old new : Components} {visited : FoundStates} {start : State} {found : List State} {closed : ℕ}
      → Extends old new
      → SearchInvariant program start old visited found closed
      → SearchInvariant program start new visited found closed
  SearchInvariant-extended extended invariant = record {
    key_count = invariant.key_count;
    origin_count = invariant.origin_count;
    within = invariant.within;
    represents = λ i key s at and. Represents-extended key s extended (invariant.represents i key s at and);
    thread_count = invariant.thread_count;
    distinct = invariant.distinct;
    distinct_threads = extended.distinct_threads invariant.distinct_threads;
    distinct_memories = extended.distinct_memories invariant.distinct_memories;
    first = invariant.first;
    predecessor = invariant.predecessor;
    covered = invariant.covered;
  }

  -- The states found, with one appended.
  abbrev append_state : List State → State → List State
  append_state found end = found ++ end ∷ []

  -- The states found were continued by `more`, of which the invariant holds with the new tables; `end` is one of them.
  record Inserted (start : State) (new : Components) (now : FoundStates) (found : List State) (closed : ℕ)
      (end : State) : Type 0 where
    more : List State
    longer : IsPrefix found more
    invariant : SearchInvariant program start new now more closed
    index : ℕ
    found_at_index : slice_get more index ≡ Some end

  module _ (old new : Components) (visited now : FoundStates) (start : State) (found : List State) (closed : ℕ) (at : ℕ)
      (s end : State) (next : List ℕ) (parent : ℕ) (run : List (ℕ × Bool)) (extended : Extends old new)
      (invariant : SearchInvariant program start old visited found closed) (found_at : slice_get found at ≡ Some s)
      (is_represented : Represents new next end) (size : length end.processors ≡ length program) (parent_is : parent ≡ at)
      (ran : MachineRunsTo flat_memory program (events_of run) s end) where
    -- If the key is known, nothing changes, and its state is the one that the run reaches.
    Inserted-known_key : (i : ℕ) → slice_get visited.keys i ≡ Some next → now ≡ visited → Inserted start new now found closed end
    Inserted-known_key i key unchanged =
        let lt : i < length found = subst (λ n. i < n) invariant.key_count (slice_get_within visited.keys i next key) in
        let r = slice_get-in_range found i lt in
        let same : r.0 ≡ end =
        Represents-unique new next r.0 end (Represents-extended next r.0 extended (invariant.represents i next r.0 key r.1))
        is_represented (invariant.thread_count i r.0 r.1 ∙ sym size) in
        record {
          more = found;
          longer = λ j x is. is;
          invariant =
              subst (λ v. SearchInvariant program start new v found closed) (sym unchanged)
              (SearchInvariant-extended extended invariant);
          index = i;
          found_at_index = r.1 ∙ ap Some same;
        }

    -- Appending a state preserves the states found at their indices.
    IsPrefix-append_state : IsPrefix found (append_state found end)
    IsPrefix-append_state i x is = slice_get-append_left found (end ∷ []) i x is

    -- If the key is new, the state that the run reaches is appended to those found.
    Inserted-new_key : ((i : ℕ) → slice_get visited.keys i ≡ Some next → ⊥)
        → now.keys ≡ visited.keys ++ next ∷ []
        → AppendsOrigin visited parent run now
        → Inserted start new now found closed end
    Inserted-new_key absent keys appended = record {
      more = append_state found end;
      longer = IsPrefix-append_state;
      invariant = record {
        key_count =
            ap length keys
            ∙ length-append visited.keys (next ∷ [])
            ∙ ap (λ n. n + 1) invariant.key_count
            ∙ sym (length-append found (end ∷ []));
        origin_count =
            ap length appended.origins
            ∙ length-append visited.origins (appended.origin ∷ [])
            ∙ ap (λ n. n + 1) invariant.origin_count
            ∙ sym (length-append found (end ∷ []));
        within = let e = length-append found (end ∷ []) in omega (arith, invariant.within, e);
        represents = represents_each;
        thread_count = threads;
        distinct = HasUniqueIndices-append found end found_state_new invariant.distinct;
        distinct_threads = extended.distinct_threads invariant.distinct_threads;
        distinct_memories = extended.distinct_memories invariant.distinct_memories;
        first = IsPrefix-append_state 0 start invariant.first;
        predecessor = predecessor_each;
        covered = covered_each;
      };
      index = length found;
      found_at_index = slice_get-append_middle found end [] (length found) refl;
    }
      where
        -- The state is new, since its key is.
        found_state_new : (i : ℕ) → slice_get found i ≡ Some end → ⊥
        found_state_new i at =
            let key =
            slice_get-in_range visited.keys i (subst (λ n. i < n) (sym invariant.key_count) (slice_get_within found i end at)) in
            let same : key.0 ≡ next =
            key-unique new key.0 next end (extended.distinct_threads invariant.distinct_threads)
            (extended.distinct_memories invariant.distinct_memories)
            (Represents-extended key.0 end extended (invariant.represents i key.0 end key.1 at)) is_represented in
            absent i (key.1 ∙ ap Some same)

        -- Each key represents the state with its index.
        represents_each : (i : ℕ) (key : List ℕ) (z : State)
            → slice_get now.keys i ≡ Some key
            → slice_get (append_state found end) i ≡ Some z
            → Represents new key z
        represents_each i key z is and =
            go (slice_get-append_cases visited.keys next key i (ap (λ l. slice_get l i) (sym keys) ∙ is))
            (slice_get-append_cases found end z i and)
          where
            -- By whether key and state are ones from before or the new ones.
            go : (slice_get visited.keys i ≡ Some key) ⊎ ((i ≡ length visited.keys) × (next ≡ key))
                → (slice_get found i ≡ Some z) ⊎ ((i ≡ length found) × (end ≡ z))
                → Represents new key z
            go (inl a) (inl b) = Represents-extended key z extended (invariant.represents i key z a b)
            go (inr a) (inr b) = subst (λ k. Represents new k z) a.1 (subst (λ y. Represents new next y) b.1 is_represented)
            go (inl a) (inr b) =
                absurd (let lt = slice_get_within visited.keys i key a in omega (arith, lt, b.0, invariant.key_count))
            go (inr a) (inl b) = absurd (let lt = slice_get_within found i z b in omega (arith, lt, a.0, invariant.key_count))

        -- Each state has as many threads as the program.
        threads : (i : ℕ) (z : State) → slice_get (append_state found end) i ≡ Some z → length z.processors ≡ length program
        threads i z is = go (slice_get-append_cases found end z i is)
          where
            -- By whether the state is one from before or the new one.
            go : (slice_get found i ≡ Some z) ⊎ ((i ≡ length found) × (end ≡ z)) → length z.processors ≡ length program
            go (inl a) = invariant.thread_count i z a
            go (inr a) = ap (λ (y : State). length y.processors) (sym a.1) ∙ size

        -- Each state but the first has a predecessor.
        predecessor_each : (i : ℕ) (o : Origin) (z : State)
            → slice_get now.origins (suc i) ≡ Some o
            → slice_get (append_state found end) (suc i) ≡ Some z
            → HasPredecessor program now.runs (append_state found end) (suc i) o z
        predecessor_each i o z is and =
            go
            (slice_get-append_cases visited.origins appended.origin o (suc i)
            (ap (λ l. slice_get l (suc i)) (sym appended.origins) ∙ is)) (slice_get-append_cases found end z (suc i) and)
          where
            -- By whether origin and state are ones from before or the new ones.
            go : (slice_get visited.origins (suc i) ≡ Some o) ⊎ ((suc i ≡ length visited.origins) × (appended.origin ≡ o))
                → (slice_get found (suc i) ≡ Some z) ⊎ ((suc i ≡ length found) × (end ≡ z))
                → HasPredecessor program now.runs (append_state found end) (suc i) o z
            go (inl a) (inl b) = HasPredecessor-prefix appended.runs IsPrefix-append_state (invariant.predecessor i o z a b)
            go (inr a) (inr b) =
                let lt = slice_get_within found at s found_at in
                let parent_at : appended.origin.parent ≡ at = appended.parent_is ∙ parent_is in
                subst (λ p. HasPredecessor program now.runs (append_state found end) (suc i) p z) a.1
                (subst (λ y. HasPredecessor program now.runs (append_state found end) (suc i) appended.origin y) b.1 (record {
                  before = omega (arith, parent_at, lt, b.0);
                  from = s;
                  found_at = ap (slice_get (append_state found end)) parent_at ∙ IsPrefix-append_state at s found_at;
                  run = run;
                  run_row = appended.run_row;
                  ran = ran;
                }))
            go (inl a) (inr b) =
                absurd (let lt = slice_get_within visited.origins (suc i) o a in omega (arith, lt, b.0, invariant.origin_count))
            go (inr a) (inl b) =
                absurd (let lt = slice_get_within found (suc i) z b in omega (arith, lt, a.0, invariant.origin_count))

        -- The successors of the first `closed` states are covered.
        covered_each : (i : ℕ) (z : State)
            → i < closed
            → slice_get (append_state found end) i ≡ Some z
            → (e : Event)
            → IsCovered program (append_state found end) z e
        covered_each i z lt is e = go (slice_get-append_cases found end z i is)
          where
            -- By whether the state is one from before or the new one.
            go : (slice_get found i ≡ Some z) ⊎ ((i ≡ length found) × (end ≡ z)) → IsCovered program (append_state found end) z e
            go (inl a) = IsCovered-prefix found (append_state found end) z e IsPrefix-append_state (invariant.covered i z lt a e)
            go (inr a) = absurd (omega (arith, lt, a.0, invariant.within))

    -- Whether the key is new or known, the invariant holds and the state that the run reaches is found.
    Inserted-either_case : InsertsKey visited next parent run now → Inserted start new now found closed end
    Inserted-either_case (inl new_key) = Inserted-new_key new_key.0 new_key.1 new_key.2
    Inserted-either_case (inr old_key) = Inserted-known_key old_key.0 old_key.1 old_key.2

  -- The state that an event, followed by invisible events, reaches is found.
  pub IsCovered-after_event : {old settled_tables new : Components} {visited now : FoundStates} (at set t : ℕ) (e : ℕ × Bool)
      (key all next : List ℕ) (p : Processor) (m n : List ℕ) (parent : ℕ) (run : List (ℕ × Bool))
      → e.0 ≡ t
      → SettlesFrom program (IsLoaded program old key set t p m) old settled_tables all n (e ∷ []) run
      → Extends settled_tables new
      → length next ≡ length all
      → slice_get new.memories (slice_index next 0) ≡ Some n
      → ((u : ℕ) → slice_index next (u + 1) ≡ slice_index all (u + 1))
      → parent ≡ at
      → InsertsKey visited next parent run now
      → ExpandsState program old visited new now at key (λ s.
      MachineTransition flat_memory program (event_of e) s (Ok tt) (set_thread s t p m) × HasConflictsOfOthers program s t set)
      (λ s more. IsCovered program more s (event_of e))
  IsCovered-after_event {old} {settled_tables} {new} {visited} {now} at set t e key all next p m n parent run cpu settles extended size memory threads parent_is adds start found closed s invariant found_at key_at is =
      record {
        more = inserted.more;
        longer = inserted.longer;
        keys = IsPrefix-inserted visited now next parent run adds;
        invariant = inserted.invariant;
        holds = covered_each;
      }
    where
      -- The event leads from s to the state with p and m.
      done : MachineTransition flat_memory program (event_of e) s (Ok tt) (set_thread s t p m)
      done = is.0

      -- The occurrence of the event in s.
      occurs : EventOccurrence program (event_of e) s (set_thread s t p m)
      occurs = EventOccurrence-of_event program (event_of e) s (set_thread s t p m) done

      -- In s the thread has the state from which the event leads.
      was : slice_get s.processors t ≡ Some occurs.from
      was = ap (slice_get s.processors) (sym (cpu_of-event e ∙ cpu)) ∙ occurs.was

      -- The state after the event.
      mid : State
      mid = set_thread s t p m

      -- From it the invisible events lead to a state that covers it.
      taken : Settled program settled_tables all n (events_of settles.more) mid
      taken = settles.settled mid (record {
        represented = RepresentsOthers-set_thread program old key t s p m (invariant.represents at key s key_at found_at);
        conflicts = HasConflictsOfOthers-set_thread program set t s p m is.1;
        thread_count = length-set s.processors t p ∙ invariant.thread_count at s found_at;
        thread = slice_get-slice_set_same s.processors t p occurs.from was;
        words = refl;
      })

      -- The whole run leads from s to that state.
      ran : MachineRunsTo flat_memory program (events_of run) s taken.end
      ran = subst (λ r. MachineRunsTo flat_memory program (events_of r) s taken.end) (sym settles.appended) (mid, done, taken.ran)

      -- The key `next` represents that state.
      is_represented : Represents new next taken.end
      is_represented = Represents-of_working program all next n taken.end taken.working extended size memory threads

      -- That state is among those found now.
      inserted : Inserted start new now found closed taken.end
      inserted =
          Inserted-either_case old new visited now start found closed at s taken.end next parent run
          (Extends-trans settles.extended extended) invariant found_at is_represented taken.working.thread_count parent_is ran
          adds

      -- The successor by the event is covered.
      covered_each : IsCovered program inserted.more s (event_of e)
      covered_each after f =
          let once = MachineTransition-deterministic program (event_of e) s mid after (Ok tt) (Ok tt) done f in
          (taken.end, inserted.index, inserted.found_at_index, subst (λ z. Covers program taken.end z) once.1 taken.covers)

  -- ---- events that are not enabled

  -- If an event is not enabled, nothing more has to be found.
  pub ExpandsState-impossible : {tables : Components} {visited : FoundStates} (at : ℕ) (key : List ℕ) (e : Event)
      (Is : State → Type 0)
      → ((s next : State)
      → (found : List State)
      → Represents tables key s
      → length s.processors ≡ length program
      → MachineTransition flat_memory program e s (Ok tt) next
      → ⊥)
      → ExpandsState program tables visited tables visited at key Is (λ s more. IsCovered program more s e)
  ExpandsState-impossible at key e Is never start found closed s invariant found_at key_at so = record {
    more = found;
    longer = λ i x is. is;
    keys = λ i x is. is;
    invariant = invariant;
    holds = λ next done.
        absurd (never s next found (invariant.represents at key s key_at found_at) (invariant.thread_count at s found_at) done);
  }

  -- No event of a thread out of range is enabled.
  pub not-MachineTransition-without_thread : (e : Event) (s next : State)
      → length s.processors ≡ length program
      → slice_get program (cpu_of e) ≡ None
      → MachineTransition flat_memory program e s (Ok tt) next
      → ⊥
  not-MachineTransition-without_thread e s next as_many none done =
      let d : EventOccurrence program e s next = EventOccurrence-of_event program e s next done in
      let lt : cpu_of e < length program =
      subst (λ n. cpu_of e < n) as_many (slice_get_within s.processors (cpu_of e) d.from d.was) in
      let there = slice_get-in_range program (cpu_of e) lt in
      absurd (let both = sym none ∙ there.1 in cc)

  -- No event whose effect is refused is enabled.
  pub not-MachineTransition-if_refused : (e : Event) (s next : State) (p : Processor) (stop : Stop)
      → slice_get s.processors (cpu_of e) ≡ Some p
      → event_effect program (length s.memory) e p ≡ Refused stop
      → MachineTransition flat_memory program e s (Ok tt) next
      → ⊥
  not-MachineTransition-if_refused e s next p stop at act done =
      let d : EventOccurrence program e s next = EventOccurrence-of_event program e s next done in
      let same : d.from ≡ p = same_Some d.from p (sym d.was ∙ at) in
      subst (λ a. EffectLeadsTo s.memory a d.to d.words) act
      (subst (λ (r : Processor). EffectLeadsTo s.memory (event_effect program (length s.memory) e r) d.to d.words) same d.does)

  -- The loaded thread state is the thread's.
  pub slice_get-loaded_thread : {tables : Components} (key : List ℕ) (s : State) (t : ℕ) (code : List Instr) (p : Processor)
      → Represents tables key s
      → length s.processors ≡ length program
      → slice_get program t ≡ Some code
      → ((r : Processor) → slice_get tables.threads (slice_index key (t + 1)) ≡ Some r → p ≡ r)
      → slice_get s.processors t ≡ Some p
  slice_get-loaded_thread {tables} key s t code p is_represented as_many coded loaded =
      let lt : t < length s.processors = subst (λ n. t < n) (sym as_many) (slice_get_within program t code coded) in
      let r = slice_get-in_range s.processors t lt in
      r.1 ∙ ap Some (sym (loaded r.0 (is_represented.threads t r.0 r.1)))

  -- An event that is refused in the loaded thread state is refused in each state with the key.
  pub ExpandsState-refused : {tables : Components} {visited : FoundStates} (at t : ℕ) (e : Event) (key : List ℕ)
      (code : List Instr) (p : Processor) (stop : Stop)
      → cpu_of e ≡ t
      → slice_get program t ≡ Some code
      → ((r : Processor) → slice_get tables.threads (slice_index key (t + 1)) ≡ Some r → p ≡ r)
      → ((locs : ℕ) → event_effect program locs e p ≡ Refused stop)
      → (Is : State → Type 0)
      → ExpandsState program tables visited tables visited at key Is (λ s more. IsCovered program more s e)
  ExpandsState-refused at t e key code p stop cpu coded thread is Is =
      ExpandsState-impossible at key e Is (λ s next found is_represented as_many done.
      not-MachineTransition-if_refused e s next p stop
      (ap (slice_get s.processors) cpu ∙ slice_get-loaded_thread key s t code p is_represented as_many coded thread)
      (is (length s.memory)) done)

  -- ---- events in sequence

  -- What holds of the states found holds when more are found.
  abbrev pub IsMonotone : (State → List State → Type 0) → Type 0
  IsMonotone A = (s : State) (found more : List State) → IsPrefix found more → A s found → A s more

  -- If two parts of an expansion give A and B, in sequence they give both, since A holds still when more states are found.
  pub ExpandsState-both : {t0 t1 t2 : Components} {m0 m1 m2 : FoundStates} (at : ℕ) (key : List ℕ) (Is : State → Type 0)
      (A B : State → List State → Type 0)
      → IsMonotone A
      → ExpandsState program t0 m0 t1 m1 at key Is A
      → ExpandsState program t1 m1 t2 m2 at key Is B
      → ExpandsState program t0 m0 t2 m2 at key Is (λ s more. A s more × B s more)
  ExpandsState-both at key Is A B monotone first second start found closed s invariant found_at key_at u =
      let a = first start found closed s invariant found_at key_at u in
      let b = second start a.more closed s a.invariant (a.longer at s found_at) (a.keys at key key_at) u in
      record {
        more = b.more;
        longer = λ i x is. b.longer i x (a.longer i x is);
        keys = λ i x is. b.keys i x (a.keys i x is);
        invariant = b.invariant;
        holds = (monotone s a.more b.more b.longer a.holds, b.holds);
      }

  -- An expansion that gives A gives what follows from A.
  pub ExpandsState-mono : {t0 t1 : Components} {m0 m1 : FoundStates} (at : ℕ) (key : List ℕ) (Is : State → Type 0)
      (A B : State → List State → Type 0)
      → ((s : State) (more : List State) → A s more → B s more)
      → ExpandsState program t0 m0 t1 m1 at key Is A
      → ExpandsState program t0 m0 t1 m1 at key Is B
  ExpandsState-mono at key Is A B weaker first start found closed s invariant found_at key_at u =
      let a = first start found closed s invariant found_at key_at u in
      record { more = a.more; longer = a.longer; keys = a.keys; invariant = a.invariant; holds = weaker s a.more a.holds }

  -- If `Other` implies `Is`, an expansion of the states with `Is` is one of the states with `Other`.
  pub ExpandsState-if_more_holds : {t0 t1 : Components} {m0 m1 : FoundStates} (at : ℕ) (key : List ℕ) (Is Other : State → Type 0)
      (A : State → List State → Type 0)
      → ((s : State) → Other s → Is s)
      → ExpandsState program t0 m0 t1 m1 at key Is A
      → ExpandsState program t0 m0 t1 m1 at key Other A
  ExpandsState-if_more_holds at key Is Other A weaker goes start found closed s invariant found_at key_at other =
      goes start found closed s invariant found_at key_at (weaker s other)

  -- A covered successor remains covered when more states are found.
  pub IsMonotone-IsCovered : (e : Event) → IsMonotone (λ s more. IsCovered program more s e)
  IsMonotone-IsCovered e s found more longer is_covered = IsCovered-prefix found more s e longer is_covered

  -- The successors by the first n threads are covered.
  abbrev pub CoversThreads : ℕ → State → List State → Type 0
  CoversThreads n s more = (t : ℕ) → t < n → CoversThread program t s more

  -- Covered successors by the first n threads remain covered when more states are found.
  pub IsMonotone-CoversThreads : (n : ℕ) → IsMonotone (CoversThreads n)
  IsMonotone-CoversThreads n s found more longer is_covered t lt =
      let a = is_covered t lt in
      (IsCovered-prefix found more s (Step t) longer a.0, IsCovered-prefix found more s (Drain t) longer a.1)

  -- If the successors by the first n threads and by thread n are covered, so are those by the first n + 1.
  pub CoversThreads-next : (n : ℕ) (s : State) (more : List State)
      → CoversThreads n s more × CoversThread program n s more
      → CoversThreads (n + 1) s more
  CoversThreads-next n s more both t lt = elim (cases_lt t n) [
    | inl less ↦ both.0 t less
    | inr not ↦ let same : n ≡ t = omega arith in subst (λ u. CoversThread program u s more) same both.1
  ]

  -- If there are at most n threads, all events are covered.
  IsCovered-of_threads : (n : ℕ) (s : State) (more : List State)
      → length program ≤ n
      → length s.processors ≡ length program
      → CoversThreads n s more
      → (e : Event)
      → IsCovered program more s e
  IsCovered-of_threads n s more few as_many of (Step t) = elim (cases_lt t n) [
    | inl lt ↦ (of t lt).0
    | inr ge ↦ λ next done.
        absurd (not-MachineTransition-without_thread (Step t) s next as_many (slice_get_past program t (omega (arith, few, ge)))
        done)
  ]
  IsCovered-of_threads n s more few as_many of (Drain t) = elim (cases_lt t n) [
    | inl lt ↦ (of t lt).1
    | inr ge ↦ λ next done.
        absurd (not-MachineTransition-without_thread (Drain t) s next as_many (slice_get_past program t (omega (arith, few, ge)))
        done)
  ]
  IsCovered-of_threads n s more few as_many of (Evict t x) = λ next done.
      let d : EventOccurrence program (Evict t x) s next = EventOccurrence-of_event program (Evict t x) s next done in
      absurd (not-EffectLeadsTo-evict_event program (length s.memory) t x d.from d.to s.memory d.words d.does)

  -- If the successors of the state at an index by the first n threads are covered, and there are at most n, one more state is
  -- expanded.
  pub ExpandsUpTo-all_threads : {t0 t1 : Components} {m0 m1 : FoundStates} (at n : ℕ) (key : List ℕ) (Is : State → Type 0)
      → length program ≤ n
      → slice_get m0.keys at ≡ Some key
      → ((s : State) → Represents t0 key s → length s.processors ≡ length program → Is s)
      → ExpandsState program t0 m0 t1 m1 at key Is (CoversThreads n)
      → ExpandsUpTo program t0 m0 at t1 m1 (at + 1)
  ExpandsUpTo-all_threads {t0} {t1} {m0} {m1} at n key Is few key_at is goes start found invariant = (a.more, now)
    where
      -- The index has a state of those found.
      there : (s : State) × (slice_get found at ≡ Some s)
      there = slice_get-in_range found at (subst (λ k. at < k) invariant.key_count (slice_get_within m0.keys at key key_at))

      -- The states found from it satisfy the invariant, and its successors are covered.
      a : Expansion program start t1 m0 m1 found at (CoversThreads n there.0)
      a =
          goes start found at there.0 invariant there.1 key_at
          (is there.0 (invariant.represents at key there.0 key_at there.1) (invariant.thread_count at there.0 there.1))

      -- The invariant holds with one more state expanded.
      now : SearchInvariant program start t1 m1 a.more (at + 1)
      now = record {
        key_count = a.invariant.key_count;
        origin_count = a.invariant.origin_count;
        within = let lt = slice_get_within a.more at there.0 (a.longer at there.0 there.1) in omega (arith, lt);
        represents = a.invariant.represents;
        thread_count = a.invariant.thread_count;
        distinct = a.invariant.distinct;
        distinct_threads = a.invariant.distinct_threads;
        distinct_memories = a.invariant.distinct_memories;
        first = a.invariant.first;
        predecessor = a.invariant.predecessor;
        covered = λ i s lt is e. go i s lt is e (cases_lt i at);
      }
        where
          -- By whether the state is before the index or at it.
          go : (i : ℕ) (s : State)
              → i < at + 1
              → slice_get a.more i ≡ Some s
              → (e : Event)
              → (i < at) ⊎ (at ≤ i)
              → IsCovered program a.more s e
          go i s lt is e (inl less) = a.invariant.covered i s less is e
          go i s lt is e (inr not) =
              let same : at ≡ i = omega arith in
              let one : there.0 ≡ s = same_Some there.0 s (sym (a.longer at there.0 there.1) ∙ ap (slice_get a.more) same ∙ is) in
              subst (λ z. IsCovered program a.more z e) one
              (IsCovered-of_threads n there.0 a.more few (invariant.thread_count at there.0 there.1) a.holds e)

-- The effect of a thread's step is that of the instruction at the thread's position in its code.
pub event_effect-of_code : (program : List (List Instr)) (t : ℕ) (code : List Instr) (p : Processor)
    → slice_get program t ≡ Some code
    → (locs : ℕ)
    → event_effect program locs (Step t) p ≡ step_effect (slice_get code p.position) p
event_effect-of_code program t code p coded locs =
    ap (λ c. step_effect (slice_get c p.position) p) (get_or_from_slice_get program t code [] coded)

-- If that position has an instruction, the effect of the step is that of the instruction's operation.
pub event_effect-of_instruction : (program : List (List Instr)) (t : ℕ) (code : List Instr) (p : Processor) (i : Instr)
    (o : Operation)
    → slice_get program t ≡ Some code
    → slice_get code p.position ≡ Some i
    → o ≡ x86_operation i
    → (locs : ℕ)
    → event_effect program locs (Step t) p ≡ operation_effect o p
event_effect-of_instruction program t code p i o coded next is locs =
    event_effect-of_code program t code p coded locs ∙ ap (λ x. step_effect x p) next ∙ ap (λ x. operation_effect x p) (sym is)

-- At the end of a thread's code its step is refused.
pub event_effect-at_end : (program : List (List Instr)) (t : ℕ) (code : List Instr) (p : Processor)
    → slice_get program t ≡ Some code
    → slice_get code p.position ≡ None
    → (locs : ℕ)
    → event_effect program locs (Step t) p ≡ Refused Ended
event_effect-at_end program t code p coded end locs =
    event_effect-of_code program t code p coded locs ∙ ap (λ x. step_effect x p) end
