-- Transitions of threads that were computed once: what they are, that larger tables keep them, and that the state to which one leads is
-- found. Lemmas for `transitions.rt` and for the functions of `search.rt` that take events.
use Rattle.lw_search.proofs.Common.{◌≡◌, ◌≢◌, ℕ, suc, ◌+◌, ◌<◌, inl, inr, Bool, true, false, Option, Some}
use Rattle.lw_search.proofs.Common.{None, Ok, List, [], ◌∷◌, length, refl, sym, ap, ◌∙◌, subst, slice_get}
use Rattle.lw_search.proofs.Common.{slice_set, slice_index, same_Some, slice_get_within, slice_get-in_range}
use Rattle.lw_search.proofs.Common.{Instr, Processor, flat_memory, MachineTransition, cpu_of, event_effect}
use Rattle.lw_search.proofs.Common.{EffectLeadsTo, EffectLeadsTo-if_done, MachineTransition-of_effect, state}
use Rattle.lw_search.proofs.Common.{ActResult, State, Components, FoundStates, Extends, Represents, IsPrefix}
use Rattle.lw_search.proofs.Common.{InsertsKey, event_of, events_of, set_thread, IsCovered, SearchInvariant}
use Rattle.lw_search.proofs.Common.{ExpandsState, Settles, SettlesFrom, IsLoaded, IsWorking, Successor}
use Rattle.lw_search.proofs.Common.{Transition, CopiesRow, AppendsRows, IsTransition, AreTransitions}
use Rattle.lw_search.proofs.Common.{IsNeverEnabled, HasConflictsOfOthers}
use Rattle.lw_search.proofs.Settling.{SettlesFrom-loaded, SettlesFrom-trans}
use Rattle.lw_search.proofs.Successors.{IsCovered-after_event, cpu_of-event, SearchInvariant-extended}
use Rattle.lw_search.proofs.Successors.{not-MachineTransition-if_refused, HasPredecessor-prefix}
use Rattle.lw_search.proofs.Successors.{slice_get-loaded_thread}
use Rattle.lw_search.proofs.Rows.{Extends-refl, IsPrefix-refl}

-- ---- rows and slots

-- Tables and found states to which nothing was appended satisfy `AppendsRows`.
pub AppendsRows-refl : (tables : Components) (visited : FoundStates) → AppendsRows tables visited tables visited
AppendsRows-refl tables visited =
    record { extended = Extends-refl tables; keys = refl; origins = refl; runs = IsPrefix-refl visited.runs }

-- A copy is of the row, if there is one.
pub copied-row : {X : Type 0} (row : Option X) (x : X) (found : Bool) → CopiesRow row x found → (y : X) → row ≡ Some y → x ≡ y
copied-row row x true is y at = same_Some x y (sym is ∙ at)
copied-row row x false is y at = absurd (let none = sym is ∙ at in cc)

-- A copy that was made is of a row.
pub copied-found : {X : Type 0} (row : Option X) (x : X) (found : Bool) → CopiesRow row x found → found ≡ true → row ≡ Some x
copied-found row x true is e = is
copied-found row x false is e = absurd cc

-- A copy that was not made had no row.
pub copied-missing : {X : Type 0} (row : Option X) (x : X) (found : Bool) → CopiesRow row x found → found ≡ false → row ≡ None
copied-missing row x true is e = absurd cc
copied-missing row x false is e = is

-- An insertion of a key preserves the numbers of runs.
pub IsPrefix-inserted_runs : (old new : FoundStates) (key : List ℕ) (parent : ℕ) (run : List (ℕ × Bool))
    → InsertsKey old key parent run new
    → IsPrefix old.runs new.runs
IsPrefix-inserted_runs old new key parent run (inl a) i x at = a.2.runs i x at
IsPrefix-inserted_runs old new key parent run (inr a) i x at = ap (λ (v : FoundStates). slice_get v.runs i) a.2 ∙ at

module _ (program : List (List Instr)) where
  -- ---- larger tables

  -- Appended rows preserve a transition.
  pub IsTransition-extended : {old new : Components} {runs longer : List (List (ℕ × Bool))} (t : Transition)
      → Extends old new
      → IsPrefix runs longer
      → IsTransition program old runs t
      → IsTransition program new longer t
  IsTransition-extended t extended prefix is = record {
    from = is.from;
    words = is.words;
    acted = is.acted;
    written = is.written;
    end = is.end;
    end_words = is.end_words;
    more = is.more;
    thread_row = extended.threads _ _ is.thread_row;
    memory_row = extended.memories _ _ is.memory_row;
    next_thread_row = extended.threads _ _ is.next_thread_row;
    next_memory_row = extended.memories _ _ is.next_memory_row;
    next_run_row = prefix _ _ is.next_run_row;
    acts = is.acts;
    settles = is.settles;
  }

  -- Appended rows preserve the transitions of a cache.
  pub AreTransitions-extended : {old new : Components} {runs longer : List (List (ℕ × Bool))} (cache : List (Option Transition))
      → Extends old new
      → IsPrefix runs longer
      → AreTransitions program old runs cache
      → AreTransitions program new longer cache
  AreTransitions-extended cache extended prefix kept = record {
    of_program = extended.program ∙ kept.of_program;
    each = λ t held. IsTransition-extended t extended prefix (kept.each t held);
  }

  -- The invariant holds with larger tables and with more runs, of the same states.
  SearchInvariant-prepared : {old new : Components} {visited now : FoundStates} {start : State} {found : List State} {closed : ℕ}
      → AppendsRows old visited new now
      → SearchInvariant program start old visited found closed
      → SearchInvariant program start new now found closed
  SearchInvariant-prepared {old} {new} {visited} {now} {start} {found} {closed} rows before = record {
    key_count = ap length rows.keys ∙ a.key_count;
    origin_count = ap length rows.origins ∙ a.origin_count;
    within = a.within;
    represents = λ i key s at and. a.represents i key s (ap (λ l. slice_get l i) (sym rows.keys) ∙ at) and;
    thread_count = a.thread_count;
    distinct = a.distinct;
    distinct_threads = a.distinct_threads;
    distinct_memories = a.distinct_memories;
    first = a.first;
    predecessor = λ i o s at and.
        HasPredecessor-prefix program rows.runs (λ j x h. h)
        (a.predecessor i o s (ap (λ l. slice_get l (suc i)) (sym rows.origins) ∙ at) and);
    covered = a.covered;
  }
    where
      -- The invariant holds with the larger tables.
      a : SearchInvariant program start new visited found closed
      a = SearchInvariant-extended program rows.extended before

  -- If rows were appended before a state was expanded, it is expanded from the tables without them too.
  pub ExpandsState-prepared : {old mid new : Components} {visited prepared now : FoundStates} (at : ℕ) (key : List ℕ)
      (Is : State → Type 0) (Holds : State → List State → Type 0)
      → AppendsRows old visited mid prepared
      → ExpandsState program mid prepared new now at key Is Holds
      → ExpandsState program old visited new now at key Is Holds
  ExpandsState-prepared at key Is Holds rows expands start found closed s invariant found_at key_at is =
      let a =
      expands start found closed s (SearchInvariant-prepared rows invariant) found_at
      (ap (λ l. slice_get l at) rows.keys ∙ key_at) is in
      record {
        more = a.more;
        longer = a.longer;
        keys = λ i x h. a.keys i x (ap (λ l. slice_get l i) rows.keys ∙ h);
        invariant = a.invariant;
        holds = a.holds;
      }

  -- ---- taking an event

  -- If an event takes a thread from p to q, the invisible events after it take it from q to r, and the successor's numbers are
  -- those of r, the words and the run, then this is a transition.
  pub IsTransition-taken : {tables : Components} {runs : List (List (ℕ × Bool))} (e : ℕ × Bool) (t thread memory set : ℕ)
      (next : Successor) (p q r : Processor) (m n o : List ℕ) (more : List (ℕ × Bool))
      → e.0 ≡ t
      → slice_get tables.threads thread ≡ Some p
      → slice_get tables.memories memory ≡ Some m
      → ((locs : ℕ) → ActResult (event_effect program locs (event_of e) p) p m true q n)
      → Settles program set t (events_of more) q n r o
      → slice_get tables.threads next.thread ≡ Some r
      → slice_get tables.memories next.memory ≡ Some o
      → slice_get runs next.run ≡ Some (e ∷ more)
      → IsTransition program tables runs (record { event = e; thread = thread; memory = memory; conflicts = set; next = next })
  IsTransition-taken e t thread memory set next p q r m n o more cpu thread_row memory_row result settles next_thread next_memory run =
      record {
        from = p;
        words = m;
        acted = q;
        written = n;
        end = r;
        end_words = o;
        more = more;
        thread_row = thread_row;
        memory_row = memory_row;
        next_thread_row = next_thread;
        next_memory_row = next_memory;
        next_run_row = run;
        acts = acts;
        settles = subst (λ u. Settles program set u (events_of more) q n r o) (sym cpu) settles;
      }
    where
      -- In each state with p and m the event leads to the state with q and n.
      acts : (s : State)
          → slice_get s.processors e.0 ≡ Some p
          → s.memory ≡ m
          → MachineTransition flat_memory program (event_of e) s (Ok tt) (set_thread s e.0 q n)
      acts s at words =
          let locs = length s.memory in
          let act = event_effect program locs (event_of e) p in
          let does : EffectLeadsTo s.memory act q n =
          subst (λ l. EffectLeadsTo l act q n) (sym words) (EffectLeadsTo-if_done t act p q m n (result locs t)) in
          let led : MachineTransition flat_memory program (event_of e) s (Ok tt)
          (state (slice_set s.processors (cpu_of (event_of e)) q) n) =
          MachineTransition-of_effect program (event_of e) s.processors p q s.memory n
          (ap (slice_get s.processors) (cpu_of-event e) ∙ at) does in
          subst (λ v. MachineTransition flat_memory program (event_of e) s (Ok tt) (state (slice_set s.processors v q) n))
          (cpu_of-event e) led

  -- An event of a thread without a row is enabled in no state of the key, since there is none.
  pub IsNeverEnabled-without_thread : {tables : Components} (key : List ℕ) (t : ℕ) (e : ℕ × Bool) (code : List Instr)
      → slice_get program t ≡ Some code
      → slice_get tables.threads (slice_index key (t + 1)) ≡ None
      → IsNeverEnabled program tables key e
  IsNeverEnabled-without_thread key t e code coded none s next is_represented as_many done =
      let lt : t < length s.processors = subst (λ n. t < n) (sym as_many) (slice_get_within program t code coded) in
      let r = slice_get-in_range s.processors t lt in
      absurd (let row = sym none ∙ is_represented.threads t r.0 r.1 in cc)

  -- If the memory of a key has no row, an event is enabled in no state of the key, since there is none.
  pub IsNeverEnabled-without_memory : {tables : Components} (key : List ℕ) (e : ℕ × Bool)
      → slice_get tables.memories (slice_index key 0) ≡ None
      → IsNeverEnabled program tables key e
  IsNeverEnabled-without_memory key e none s next is_represented as_many done =
      absurd (let row = sym none ∙ is_represented.memory in cc)

  -- An event that the machine refuses in the thread state of a key's row is enabled in no state of the key.
  pub IsNeverEnabled-refused : {tables : Components} (key : List ℕ) (t : ℕ) (e : ℕ × Bool) (code : List Instr) (p q : Processor)
      (m n : List ℕ)
      → e.0 ≡ t
      → slice_get program t ≡ Some code
      → slice_get tables.threads (slice_index key (t + 1)) ≡ Some p
      → ((locs : ℕ) → ActResult (event_effect program locs (event_of e) p) p m false q n)
      → IsNeverEnabled program tables key e
  IsNeverEnabled-refused {tables} key t e code p q m n cpu coded row refused s next is_represented as_many done =
      let r = refused (length s.memory) in
      not-MachineTransition-if_refused program (event_of e) s next p r.0.0
      (ap (slice_get s.processors) (cpu_of-event e ∙ cpu)
      ∙ slice_get-loaded_thread program key s t code p is_represented as_many coded (λ z at. same_Some p z (sym row ∙ at))) r.0.1
      done

  -- Of an event that is enabled in no state of the key, nothing has to be covered.
  pub ExpandsState-never_enabled : {tables : Components} {visited : FoundStates} (at : ℕ) (key : List ℕ) (e : ℕ × Bool)
      (Is : State → Type 0)
      → IsNeverEnabled program tables key e
      → ExpandsState program tables visited tables visited at key Is (λ s more. IsCovered program more s (event_of e))
  ExpandsState-never_enabled at key e Is never start found closed s invariant found_at key_at so = record {
    more = found;
    longer = λ i x is. is;
    keys = λ i x is. is;
    invariant = invariant;
    holds = λ next done.
        absurd (never s next (invariant.represents at key s key_at found_at) (invariant.thread_count at s found_at) done);
  }

  -- ---- the state after a transition

  -- The state to which a transition leads, followed by invisible events of all threads, is found.
  pub IsCovered-transition : {old settled new : Components} {visited now : FoundStates} {runs : List (List (ℕ × Bool))} (at c : ℕ)
      (t : Transition) (code : List Instr) (key own all next n : List ℕ) (parent : ℕ) (run : List (ℕ × Bool))
      (is : IsTransition program old runs t)
      → t.event.0 ≡ c
      → slice_get program c ≡ Some code
      → t.thread ≡ slice_index key (c + 1)
      → t.memory ≡ slice_index key 0
      → length own ≡ length key
      → slice_index own (c + 1) ≡ t.next.thread
      → ((u : ℕ) → u ≢ c → slice_index own (u + 1) ≡ slice_index key (u + 1))
      → SettlesFrom program (IsWorking program old own is.end_words) old settled all n (t.event ∷ is.more) run
      → Extends settled new
      → length next ≡ length all
      → slice_get new.memories (slice_index next 0) ≡ Some n
      → ((u : ℕ) → slice_index next (u + 1) ≡ slice_index all (u + 1))
      → parent ≡ at
      → InsertsKey visited next parent run now
      → ExpandsState program old visited new now at key (λ s. HasConflictsOfOthers program s c t.conflicts)
      (λ s more. IsCovered program more s (event_of t.event))
  IsCovered-transition {old} {settled} {new} {visited} {now} at c t code key own all next n parent run is cpu coded from_thread from_memory size thread others settles extended next_size memory threads parent_is adds start found closed s invariant found_at key_at has =
      after start found closed s invariant found_at key_at (done, has)
    where
      -- The events of the transition lead from each state with the loaded thread to one with the thread's new number.
      moved : SettlesFrom program (IsLoaded program old key t.conflicts c is.acted is.written) old old own is.end_words
          (t.event ∷ []) (t.event ∷ is.more)
      moved =
          SettlesFrom-loaded program key own t.conflicts c is.acted is.end is.written is.end_words (t.event ∷ [])
          (t.event ∷ is.more) is.more refl
          (subst (λ v. Settles program t.conflicts v (events_of is.more) is.acted is.written is.end is.end_words) cpu is.settles)
          (Extends-refl old) size (ap (slice_get old.threads) thread ∙ is.next_thread_row) others

      -- These events and those of all threads lead from each such state to one that covers it.
      both : SettlesFrom program (IsLoaded program old key t.conflicts c is.acted is.written) old settled all n (t.event ∷ []) run
      both = SettlesFrom-trans program own all is.end_words n (t.event ∷ []) (t.event ∷ is.more) run moved settles

      -- The successor by the event is covered.
      after : ExpandsState program old visited new now at key (λ z.
          MachineTransition flat_memory program (event_of t.event) z (Ok tt) (set_thread z c is.acted is.written)
          × HasConflictsOfOthers program z c t.conflicts) (λ z more. IsCovered program more z (event_of t.event))
      after =
          IsCovered-after_event program at t.conflicts c t.event key all next is.acted is.written n parent run cpu both extended
          next_size memory threads parent_is adds

      -- The key represents s.
      is_represented : Represents old key s
      is_represented = invariant.represents at key s key_at found_at

      -- In s thread c has the state from which the transition leads.
      was : slice_get s.processors c ≡ Some is.from
      was =
          slice_get-loaded_thread program key s c code is.from is_represented (invariant.thread_count at s found_at) coded
          (λ z row. same_Some is.from z (sym is.thread_row ∙ ap (slice_get old.threads) from_thread ∙ row))

      -- In s memory has the words from which the transition leads.
      words : s.memory ≡ is.words
      words =
          same_Some s.memory is.words (sym is_represented.memory ∙ ap (slice_get old.memories) (sym from_memory) ∙ is.memory_row)

      -- The event leads from s to the state after it.
      done : MachineTransition flat_memory program (event_of t.event) s (Ok tt) (set_thread s c is.acted is.written)
      done =
          subst (λ v. MachineTransition flat_memory program (event_of t.event) s (Ok tt) (set_thread s v is.acted is.written)) cpu
          (is.acts s (ap (slice_get s.processors) cpu ∙ was) words)
