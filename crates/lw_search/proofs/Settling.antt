-- Invisible events that a thread takes at once: the state after them covers the state before them. Lemmas for
-- `settle` and for the functions of `search.rt` that call it: events taken in sequence, by one thread and by
-- all.
use Rattle.lw_search.proofs.Common.{cases_eq, inl, inr, slice_set, slice_get-in_range, ◌≢◌, ◌+◌, slice_index}
use Rattle.lw_search.proofs.Common.{length-append, ◌≡◌, ℕ, ◌<◌, ◌≤◌, ⊎_elim, Bool, true, false, Option, Some}
use Rattle.lw_search.proofs.Common.{Ok, List, [], ◌∷◌, ◌++◌, length, refl, sym, ap, ap₂, ◌∙◌, subst, arith}
use Rattle.lw_search.proofs.Common.{slice_get, length-set, map-append, set-set, set-get_same}
use Rattle.lw_search.proofs.Common.{slice_get-slice_set_same, slice_get-slice_set_other, same_Some}
use Rattle.lw_search.proofs.Common.{slice_get_within, get_or_from_slice_get, cases_lt, Event, Step, Drain}
use Rattle.lw_search.proofs.Common.{thread_code, flat_memory, Instr, Processor, cpu_of, MachineTransition}
use Rattle.lw_search.proofs.Common.{MachineRunsTo, RunsTo-append, if◌then◌else◌, operation_effect}
use Rattle.lw_search.proofs.Common.{x86_operation, event_effect, drain_effect, step_effect}
use Rattle.lw_search.proofs.Common.{IsWellFormedThread, IsWellFormedProgram, X86Test, x86_language}
use Rattle.lw_search.proofs.Common.{get_or_past, append-nil, state, EffectLeadsTo}
use Rattle.lw_search.proofs.Common.{MachineTransition-of_effect, EffectLeadsTo-if_done, option_to_list}
use Rattle.lw_search.proofs.Common.{operation_access, step_access, drain_access, event_access, IsInvisible}
use Rattle.lw_search.proofs.Common.{IsForward, ActResult, State, Components, Extends, Represents}
use Rattle.lw_search.proofs.Common.{RepresentsOthers, RepresentsThreads, event_of, events_of, set_thread}
use Rattle.lw_search.proofs.Common.{Covers, Settles, Settled, SettlesFrom, IsLoaded, IsWorking, DescribeState}
use Rattle.lw_search.proofs.Common.{HasConflictsOfOthers, AvoidsConflicts, Outlook, append_assoc}
use Rattle.lw_search.proofs.InvisibleEvents.{Covers-invisible_event}
use Rattle.lw_search.proofs.Rows.{Extends-refl, Extends-trans}

-- Jumps of a well-formed program go forward, and so do its other instructions.
pub IsForward-of_well_formed : (test : X86Test) → IsWellFormedProgram test → IsForward test.threads
IsForward-of_well_formed test formed t k j i at leads =
    ⊎_elim (λ lt.
    let thread : IsWellFormedThread x86_language (length test.head.locs) (thread_code test.threads t) = formed.code t [] lt in
    ⊎_elim (λ on. omega (arith, on.1)) (λ to. (thread.forward k i at j to).0) leads) (λ past.
    let none : thread_code test.threads t ≡ [] = get_or_past test.threads t [] past in
    absurd (let e = ap (λ c. slice_get c k) (sym none) ∙ at in cc)) (cases_lt t (length test.threads))

module _ (program : List (List Instr)) where
  -- A state covers itself.
  Covers-refl : (s : State) → Covers program s s
  Covers-refl s events end ran final = (events, omega arith, ran)

  -- A state covers an equal one.
  pub Covers-eq : (r s : State) → r ≡ s → Covers program r s
  Covers-eq r s same = subst (λ z. Covers program z s) (sym same) (Covers-refl s)

  -- Covering is transitive.
  pub Covers-trans : (r s t : State) → Covers program r s → Covers program s t → Covers program r t
  Covers-trans r s t first second events end ran final =
      let a = second events end ran final in
      let b = first a.0 end a.2 final in
      (b.0, omega (arith, a.1, b.1), b.2)

  module _ (tables : Components) (key : List ℕ) (t : ℕ) where
    -- If a key represents a state, it represents the other threads, whatever thread t and the memory become.
    pub RepresentsOthers-set_thread : (s : State) (q : Processor) (n : List ℕ)
        → Represents tables key s
        → RepresentsOthers tables key t (set_thread s t q n)
    RepresentsOthers-set_thread s q n is_represented = record {
      size = is_represented.size;
      threads =
          λ u p ne at. is_represented.threads u p (sym (slice_get-slice_set_other s.processors t u q (λ e. ne (sym e))) ∙ at);
      unused = λ u le. is_represented.unused u (subst (λ k. k ≤ u) (length-set s.processors t q) le);
    }

  module _ (set t : ℕ) where
    -- The conflicts of the other threads do not depend on the state of thread t and on the memory.
    pub HasConflictsOfOthers-set_thread : (s : State) (q : Processor) (n : List ℕ)
        → HasConflictsOfOthers program s t set
        → HasConflictsOfOthers program (set_thread s t q n) t set
    HasConflictsOfOthers-set_thread s q n has u p ne at =
        has u p ne (sym (slice_get-slice_set_other s.processors t u q (λ e. ne (sym e))) ∙ at)

    -- Without events a thread and the memory are unchanged.
    pub Settles-none : (p : Processor) (m : List ℕ) → Settles program set t [] p m p m
    Settles-none p m s has size at words = (same, Covers-eq (set_thread s t p m) s same)
      where
        -- To set a thread and the memory to what they are changes nothing.
        same : set_thread s t p m ≡ s
        same = ap₂ (λ ps k. state ps k) (set-get_same s.processors t p at) (sym words)

    -- Events that take a thread to one state, and then to another, take it there in sequence.
    pub Settles-append : (es fs : List Event) (p q r : Processor) (m n o : List ℕ)
        → Settles program set t es p m q n
        → Settles program set t fs q n r o
        → Settles program set t (es ++ fs) p m r o
    Settles-append es fs p q r m n o first second s has size at words = (
      RunsTo-append (MachineTransition flat_memory program) es fs s mid end first_run.0
          (subst (λ z. MachineRunsTo flat_memory program fs mid z) same_end second_run.0),
      Covers-trans end mid s (subst (λ z. Covers program z mid) same_end second_run.1) first_run.1,
    )
      where
        -- The state after the first events.
        mid : State
        mid = set_thread s t q n

        -- The state after all events.
        end : State
        end = set_thread s t r o

        -- The first events lead to `mid`, which covers s.
        first_run : MachineRunsTo flat_memory program es s (set_thread s t q n) × Covers program (set_thread s t q n) s
        first_run = first s has size at words

        -- The further events lead from `mid` to a state that covers it.
        second_run : MachineRunsTo flat_memory program fs mid (set_thread mid t r o) × Covers program (set_thread mid t r o) mid
        second_run =
            second mid (HasConflictsOfOthers-set_thread s q n has) (length-set s.processors t q ∙ size)
            (slice_get-slice_set_same s.processors t q p at) refl

        -- This state is `end`.
        same_end : set_thread mid t r o ≡ end
        same_end = ap (λ ps. state ps o) (set-set s.processors t q r)

    -- If the events of a run take a thread from p to q, and one more event or none takes it from q to r, the run with this
    -- event takes it from p to r.
    pub Settles-push : (run : List (ℕ × Bool)) (event : Option (ℕ × Bool)) (p q r : Processor) (m n o : List ℕ)
        → Settles program set t (events_of run) p m q n
        → Settles program set t (events_of (option_to_list event)) q n r o
        → Settles program set t (events_of (run ++ option_to_list event)) p m r o
    Settles-push run event p q r m n o first second =
        subst (λ es. Settles program set t es p m r o) (sym (map-append event_of run (option_to_list event)))
        (Settles-append (events_of run) (events_of (option_to_list event)) p q r m n o first second)

    -- If the events of a run take a thread from p to q, and no event from q to r, the run takes it from p to r.
    pub Settles-end : (run : List (ℕ × Bool)) (p q r : Processor) (m n o : List ℕ)
        → Settles program set t (events_of run) p m q n
        → Settles program set t [] q n r o
        → Settles program set t (events_of run) p m r o
    Settles-end run p q r m n o first second =
        subst (λ es. Settles program set t es p m r o) (append-nil (events_of run))
        (Settles-append (events_of run) [] p q r m n o first second)

  module _ (forward : IsForward program) (set : ℕ) where
    -- If an event's effect leads from p and m to q and n, and its access avoids the set's conflicts, the event alone settles
    -- the thread so.
    Settles-event : (e : Event) (p q : Processor) (m n : List ℕ)
        → cpu_of e < length program
        → ((locs : ℕ) → EffectLeadsTo m (event_effect program locs e p) q n)
        → AvoidsConflicts set m (event_access (thread_code program (cpu_of e)) e p)
        → Settles program set (cpu_of e) (e ∷ []) p m q n
    Settles-event e p q m n lt does free s has size at words = (
      (set_thread s (cpu_of e) q n, done, refl),
      Covers-invisible_event program forward e s (set_thread s (cpu_of e) q n) done invisible lt,
    )
      where
        -- The event leads from s to the state with q and n.
        done : MachineTransition flat_memory program e s (Ok tt) (set_thread s (cpu_of e) q n)
        done =
            MachineTransition-of_effect program e s.processors p q s.memory n at
            (subst (λ k. EffectLeadsTo k (event_effect program (length s.memory) e p) q n) (sym words) (does (length s.memory)))

        -- The event is invisible in s.
        invisible : IsInvisible program e s
        invisible r a is access =
            let same : r ≡ p = same_Some r p (sym is ∙ at) in
            let f = free a (subst (λ z. event_access (thread_code program (cpu_of e)) e z ≡ Some a) same access) in
            record {
              in_range = subst (λ k. a.0 < length k) (sym words) f.0;
              others = λ u z ne there. has u z ne there a.0 a.1 f.1 f.2;
            }

    -- If the access of a step is none of the conflicts with other threads, the step is taken at once if it is executed. If it is refused, nothing
    -- changes.
    pub Settles-step : (t : ℕ) (code : List Instr) (i : Instr) (p q : Processor) (m n : List ℕ) (done : Bool)
        → slice_get program t ≡ Some code
        → slice_get code p.position ≡ Some i
        → AvoidsConflicts set m (operation_access (x86_operation i))
        → ActResult (operation_effect (x86_operation i) p) p m done q n
        → Settles program set t (if done then Step t ∷ [] else []) p m q n
    Settles-step t code i p q m n true coded next free result =
        Settles-event (Step t) p q m n (slice_get_within program t code coded) (λ locs.
        subst (λ o. EffectLeadsTo m (step_effect o p) q n) (sym here)
        (EffectLeadsTo-if_done t (operation_effect (x86_operation i) p) p q m n (result t)))
        (λ a access. free a (ap step_access (sym here) ∙ access))
      where
        -- The code of thread t has the instruction at the position of p.
        here : slice_get (thread_code program t) p.position ≡ Some i
        here = ap (λ c. slice_get c p.position) (get_or_from_slice_get program t code [] coded) ∙ next
    Settles-step t code i p q m n false coded next free result =
        subst (λ r. Settles program set t [] p m r n) (sym result.1)
        (subst (λ k. Settles program set t [] p m p k) (sym result.2) (Settles-none set t p m))

    -- If the access of a drain is none of the conflicts with other threads, the drain is taken at once if it is executed. If it is refused, nothing
    -- changes.
    pub Settles-drain : (t : ℕ) (p q : Processor) (m n : List ℕ) (done : Bool)
        → t < length program
        → AvoidsConflicts set m (drain_access p.buffer)
        → ActResult (drain_effect p.buffer p) p m done q n
        → Settles program set t (if done then Drain t ∷ [] else []) p m q n
    Settles-drain t p q m n true lt free result =
        Settles-event (Drain t) p q m n lt (λ locs. EffectLeadsTo-if_done t (drain_effect p.buffer p) p q m n (result t)) free
    Settles-drain t p q m n false lt free result =
        subst (λ r. Settles program set t [] p m r n) (sym result.1)
        (subst (λ k. Settles program set t [] p m p k) (sym result.2) (Settles-none set t p m))

-- ---- keys

module _ (program : List (List Instr)) where
  -- Outlooks that describe a state of a key by the tables' program describe it by the search's, which is the same.
  pub DescribeState-same_program : {tables : Components} (key : List ℕ) (outlooks : List Outlook) (s : State)
      → tables.program ≡ program
      → (RepresentsThreads tables key s → length s.processors ≡ length tables.program → DescribeState tables.program s outlooks)
      → RepresentsThreads tables key s
      → length s.processors ≡ length program
      → DescribeState program s outlooks
  DescribeState-same_program key outlooks s same describe is_represented as_many =
      subst (λ p. DescribeState p s outlooks) same (describe is_represented (as_many ∙ ap length (sym same)))

  -- A key that represents a state represents its threads.
  pub RepresentsThreads-of_state : (tables : Components) (key : List ℕ) (s : State)
      → Represents tables key s
      → RepresentsThreads tables key s
  RepresentsThreads-of_state tables key s is_represented =
      record { size = is_represented.size; threads = λ u p at. is_represented.threads u p at; unused = is_represented.unused }

  -- With the loaded thread's number, the key represents all threads.
  RepresentsThreads-loaded : {old new : Components} (key next : List ℕ) (t : ℕ) (s : State) (p q : Processor) (n : List ℕ)
      → RepresentsOthers old key t s
      → slice_get s.processors t ≡ Some p
      → Extends old new
      → length next ≡ length key
      → slice_get new.threads (slice_index next (t + 1)) ≡ Some q
      → ((u : ℕ) → u ≢ t → slice_index next (u + 1) ≡ slice_index key (u + 1))
      → RepresentsThreads new next (set_thread s t q n)
  RepresentsThreads-loaded {old} {new} key next t s p q n is_represented there extended size thread others = record {
    size = size ∙ is_represented.size;
    threads = λ u r at. threads u r at;
    unused = λ u ge.
        let lt = slice_get_within s.processors t p there in
        let few : length s.processors ≤ u = subst (λ k. k ≤ u) (length-set s.processors t q) ge in
        others u (λ e. absurd (omega (arith, e, lt, few))) ∙ is_represented.unused u few;
  }
    where
      -- The key has for each thread the number of its state.
      threads : (u : ℕ) (r : Processor)
          → slice_get (slice_set s.processors t q) u ≡ Some r
          → slice_get new.threads (slice_index next (u + 1)) ≡ Some r
      threads u r at = elim (cases_eq u t) [
        | inl same ↦
            let is : q ≡ r =
            same_Some q r
            (sym (slice_get-slice_set_same s.processors t q p there)
            ∙ ap (slice_get (slice_set s.processors t q)) (sym same)
            ∙ at) in
            ap (λ v. slice_get new.threads (slice_index next (v + 1))) same ∙ thread ∙ ap Some is
        | inr ne ↦
            ap (slice_get new.threads) (others u ne)
            ∙ extended.threads _ r
            (is_represented.threads u r ne (sym (slice_get-slice_set_other s.processors t u q (λ e. ne (sym e))) ∙ at))
      ]

  -- If the events `more` take a loaded thread from p to q, and the key `next` has q's number for it, the events lead from each
  -- state in which it is loaded to one that covers it, with the threads of `next`.
  pub SettlesFrom-loaded : {old new : Components} (key next : List ℕ) (set t : ℕ) (p q : Processor) (m n : List ℕ)
      (run longer more : List (ℕ × Bool))
      → longer ≡ run ++ more
      → Settles program set t (events_of more) p m q n
      → Extends old new
      → length next ≡ length key
      → slice_get new.threads (slice_index next (t + 1)) ≡ Some q
      → ((u : ℕ) → u ≢ t → slice_index next (u + 1) ≡ slice_index key (u + 1))
      → SettlesFrom program (IsLoaded program old key set t p m) old new next n run longer
  SettlesFrom-loaded {old} {new} key next set t p q m n run longer more appended settles extended size thread others = record {
    extended = extended;
    more = more;
    appended = appended;
    settled = λ s loaded.
        let a = settles s loaded.conflicts loaded.thread_count loaded.thread loaded.words in
        record {
          end = set_thread s t q n;
          working = record {
            represented =
                RepresentsThreads-loaded key next t s p q n loaded.represented loaded.thread extended size thread others;
            thread_count = length-set s.processors t q ∙ loaded.thread_count;
            words = refl;
          };
          ran = a.0;
          covers = a.1;
        };
  }

  -- If p is the state that the table has for thread t, each state with the threads of a key is one in which thread t is loaded
  -- as p.
  pub IsLoaded-of_working : {tables : Components} (key : List ℕ) (set t : ℕ) (code : List Instr) (p : Processor) (m : List ℕ)
      (s : State)
      → slice_get program t ≡ Some code
      → ((r : Processor) → slice_get tables.threads (slice_index key (t + 1)) ≡ Some r → p ≡ r)
      → (RepresentsThreads tables key s → length s.processors ≡ length program → HasConflictsOfOthers program s t set)
      → IsWorking program tables key m s
      → IsLoaded program tables key set t p m s
  IsLoaded-of_working key set t code p m s coded loaded are_conflicts working =
      let lt : t < length s.processors = subst (λ k. t < k) (sym working.thread_count) (slice_get_within program t code coded) in
      let r = slice_get-in_range s.processors t lt in
      record {
        represented = record {
          size = working.represented.size;
          threads = λ u z ne at. working.represented.threads u z at;
          unused = working.represented.unused;
        };
        conflicts = are_conflicts working.represented working.thread_count;
        thread_count = working.thread_count;
        thread = r.1 ∙ ap Some (sym (loaded r.0 (working.represented.threads t r.0 r.1)));
        words = working.words;
      }

  -- What is taken from each state with one property is taken from each state with a stronger one.
  pub SettlesFrom-mono : {old new : Components} (From Other : State → Type 0) (key : List ℕ) (m : List ℕ)
      (run longer : List (ℕ × Bool))
      → ((s : State) → Other s → From s)
      → SettlesFrom program From old new key m run longer
      → SettlesFrom program Other old new key m run longer
  SettlesFrom-mono From Other key m run longer weaker a =
      record { extended = a.extended; more = a.more; appended = a.appended; settled = λ s other. a.settled s (weaker s other) }

  -- If no event was taken, the thread is settled with the key as it was.
  pub SettlesFrom-unmoved : {tables : Components} (key : List ℕ) (set t : ℕ) (p q : Processor) (m n : List ℕ)
      (run longer more : List (ℕ × Bool))
      → longer ≡ run ++ more
      → length longer ≡ length run
      → Settles program set t (events_of more) p m q n
      → ((s : State) → IsWorking program tables key m s → IsLoaded program tables key set t p m s)
      → SettlesFrom program (IsWorking program tables key m) tables tables key n run longer
  SettlesFrom-unmoved {tables} key set t p q m n run longer more appended size settles load = record {
    extended = Extends-refl tables;
    more = more;
    appended = appended;
    settled = λ s working. unmoved s working (load s working);
  }
    where
      -- No event was appended to the run.
      none : more ≡ []
      none = no_items more (let e = ap length appended ∙ length-append run more in omega (arith, e, size))
        where
          -- A list of length 0 is empty.
          no_items : {X : Type 0} (xs : List X) → length xs ≡ 0 → xs ≡ []
          no_items [] e = refl
          no_items (x ∷ xs) e = absurd (omega (arith, e))

      -- Each such state is settled without an event, with the threads of the key.
      unmoved : (s : State)
          → IsWorking program tables key m s
          → IsLoaded program tables key set t p m s
          → Settled program tables key n (events_of more) s
      unmoved s working loaded =
          let a = settles s loaded.conflicts loaded.thread_count loaded.thread loaded.words in
          let same : set_thread s t q n ≡ s =
          subst (λ es. MachineRunsTo flat_memory program (events_of es) s (set_thread s t q n)) none a.0 in
          record {
            end = s;
            working = record {
              represented = working.represented;
              thread_count = working.thread_count;
              words = sym (ap (λ (z : State). z.memory) same);
            };
            ran = subst (λ es. MachineRunsTo flat_memory program (events_of es) s s) (sym none) refl;
            covers = Covers-refl program s;
          }

  -- Without events the run, the key and the memory are unchanged.
  pub SettlesFrom-none : {tables : Components} (key : List ℕ) (m : List ℕ) (run : List (ℕ × Bool))
      → SettlesFrom program (IsWorking program tables key m) tables tables key m run run
  SettlesFrom-none {tables} key m run = record {
    extended = Extends-refl tables;
    more = [];
    appended = sym (append-nil run);
    settled = λ s working. record { end = s; working = working; ran = refl; covers = Covers-refl program s };
  }

  -- Events that lead to one key, and then to another, lead there in sequence.
  pub SettlesFrom-trans : {t0 t1 t2 : Components} {From : State → Type 0} (key next : List ℕ) (m n : List ℕ)
      (r0 r1 r2 : List (ℕ × Bool))
      → SettlesFrom program From t0 t1 key m r0 r1
      → SettlesFrom program (IsWorking program t1 key m) t1 t2 next n r1 r2
      → SettlesFrom program From t0 t2 next n r0 r2
  SettlesFrom-trans {t0} {t1} {t2} {From} key next m n r0 r1 r2 first second = record {
    extended = Extends-trans first.extended second.extended;
    more = first.more ++ second.more;
    appended = second.appended ∙ ap (λ r. r ++ second.more) first.appended ∙ append_assoc r0 first.more second.more;
    settled = settled;
  }
    where
      -- The events of both runs lead from each state of which `From` holds to one that covers it, with the threads of the
      -- second key.
      settled : (s : State) → From s → Settled program t2 next n (events_of (first.more ++ second.more)) s
      settled s from =
          let a = first.settled s from in
          let b = second.settled a.end a.working in
          record {
            end = b.end;
            working = b.working;
            ran =
                subst (λ es. MachineRunsTo flat_memory program es s b.end) (sym (map-append event_of first.more second.more))
                (RunsTo-append (MachineTransition flat_memory program) (events_of first.more) (events_of second.more) s a.end
                b.end a.ran b.ran);
            covers = Covers-trans program b.end a.end s b.covers a.covers;
          }

  -- A key of all threads, with the number of the memory, represents the state.
  pub Represents-of_working : {old new : Components} (key next : List ℕ) (m : List ℕ) (s : State)
      → IsWorking program old key m s
      → Extends old new
      → length next ≡ length key
      → slice_get new.memories (slice_index next 0) ≡ Some m
      → ((u : ℕ) → slice_index next (u + 1) ≡ slice_index key (u + 1))
      → Represents new next s
  Represents-of_working {old} {new} key next m s working extended size memory threads = record {
    size = size ∙ working.represented.size;
    memory = memory ∙ ap Some (sym working.words);
    threads = λ u p at. ap (slice_get new.threads) (threads u) ∙ extended.threads _ p (working.represented.threads u p at);
    unused = λ u ge. threads u ∙ working.represented.unused u ge;
  }
