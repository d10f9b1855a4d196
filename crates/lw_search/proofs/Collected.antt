-- The outcomes and schedules of the states that a search has found. Lemmas for the functions of `collect.rt`:
-- whether a state is final, its registers, the schedule along its origins, and one more state whose outcome
-- is listed.
use Rattle.lw_search.proofs.Common.{OutcomeEntries, IsScheduleOf, AreSame, ◌≡◌, ℕ, zero, suc, ◌+◌, ◌<◌, ◌≤◌}
use Rattle.lw_search.proofs.Common.{Bool, true, false, true≢false, inl, inr, Some, None, List, [], ◌∷◌, ◌++◌}
use Rattle.lw_search.proofs.Common.{length, map, take, refl, sym, ap, ◌∙◌, subst, arith, ap₂, slice_get}
use Rattle.lw_search.proofs.Common.{slice_index, IsTrue, cases_lt, same_Some, slice_get_within}
use Rattle.lw_search.proofs.Common.{slice_get-in_range, map-append, list_all_zip-of_each}
use Rattle.lw_search.proofs.Common.{list_all_zip-at_index, RunsTo-append, get_or, slice_get_read}
use Rattle.lw_search.proofs.Common.{get_or_from_slice_get, get_or_past, Event, flat_memory, Instr, Processor}
use Rattle.lw_search.proofs.Common.{MachineTransition, MachineRunsTo, has_terminated, is_final, FinalState}
use Rattle.lw_search.proofs.Common.{All, machine_outcome, Contains, Contains-append_left, Contains-push}
use Rattle.lw_search.proofs.Common.{All-push, take-suc, outcomes_of, Origin, State, Components, FoundStates}
use Rattle.lw_search.proofs.Common.{Represents, events_of, SearchInvariant, ReportsThreadEnd, LeadsTo}
use Rattle.lw_search.proofs.Common.{ReachesIndex, CollectsState, CollectsAll, events_at, All-permutation}
use Rattle.lw_search.proofs.Common.{IsPermutation, Contains-permuted_outcomes}
use Rattle.lw_search.proofs.Start.{length-past}

-- The item of a loop over a list is the list's at the loop's index.
pub slice_get-loop_item : {X : Type 0} (xs ys : List X) (i : ℕ) (x : X)
    → ys ≡ xs
    → i < length xs
    → x ≡ get_or ys i x
    → slice_get xs i ≡ Some x
slice_get-loop_item xs ys i x same within is = slice_get_read xs _ i x refl within (rw (← same) is)

-- ---- final states

module _ (program : List (List Instr)) (tables : Components) (key : List ℕ) where
  -- In each state that the key represents, the first n threads have terminated.
  abbrev pub AreDone : ℕ → Type 0
  AreDone n =
      (t : ℕ) (code : List Instr) (p : Processor)
      → t < n
      → slice_get program t ≡ Some code
      → slice_get tables.threads (slice_index key (t + 1)) ≡ Some p
      → has_terminated code p ≡ true

  -- If thread n is reported as terminated too, the first n + 1 threads have terminated.
  pub AreDone-next : (n : ℕ) (code : List Instr) (answer : Bool)
      → AreDone n
      → slice_get program n ≡ Some code
      → ReportsThreadEnd tables key n (length code) answer
      → answer ≡ true
      → AreDone (n + 1)
  AreDone-next n code answer done at is passed t c p lt coded thread = elim (cases_lt t n) [
    | inl less ↦ done t c p less coded thread
    | inr not ↦
        let same : n ≡ t = omega arith in
        let one : code ≡ c = same_Some code c (sym at ∙ ap (slice_get program) same ∙ coded) in
        let there : slice_get tables.threads (slice_index key (n + 1)) ≡ Some p =
        ap (λ u. slice_get tables.threads (slice_index key (u + 1))) same ∙ thread in
        ap (λ l. has_terminated l p) (sym one) ∙ sym (is p there) ∙ passed
  ]

  -- If all threads have terminated, each state that the key represents is final.
  pub is_final-if_all_done : (n : ℕ)
      → AreDone n
      → length program ≤ n
      → (s : State)
      → Represents tables key s
      → length s.processors ≡ length program
      → IsTrue (is_final program s)
  is_final-if_all_done n done few s is_represented as_many =
      list_all_zip-of_each (λ (x : List Instr × Processor). has_terminated x.0 x.1) program s.processors (λ t code p at and.
      let lt = slice_get_within program t code at in done t code p (omega (arith, lt, few)) at (is_represented.threads t p and))

  -- If a thread is reported as not terminated, no state that the key represents is final.
  pub not-is_final-if_unfinished : (n : ℕ) (code : List Instr) (answer : Bool)
      → slice_get program n ≡ Some code
      → ReportsThreadEnd tables key n (length code) answer
      → answer ≡ false
      → (s : State)
      → Represents tables key s
      → length s.processors ≡ length program
      → IsTrue (is_final program s)
      → ⊥
  not-is_final-if_unfinished n code answer at is failed s is_represented as_many final =
      let lt : n < length s.processors = subst (λ k. n < k) (sym as_many) (slice_get_within program n code at) in
      let p = slice_get-in_range s.processors n lt in
      let done : has_terminated code p.0 ≡ true =
      list_all_zip-at_index (λ (x : List Instr × Processor). has_terminated x.0 x.1) program s.processors n code p.0 final at
      p.1 in
      true≢false (sym done ∙ sym (is p.0 (is_represented.threads n p.0 p.1)) ∙ failed)

  -- ---- the outcome

  -- In each state that the key represents, the first n threads have these registers.
  abbrev pub AreRegisters : List (List ℕ) → ℕ → Type 0
  AreRegisters regs n =
      (s : State)
      → Represents tables key s
      → length s.processors ≡ length program
      → regs ≡ map (λ p. p.regs) (take n s.processors)

  -- With the registers of thread n appended, the rows are those of the first n + 1 threads.
  pub AreRegisters-push : (regs : List (List ℕ)) (n : ℕ) (r : List ℕ)
      → AreRegisters regs n
      → n < length program
      → ((p : Processor) → slice_get tables.threads (slice_index key (n + 1)) ≡ Some p → r ≡ p.regs)
      → AreRegisters (regs ++ r ∷ []) (n + 1)
  AreRegisters-push regs n r are lt is s is_represented as_many =
      let p = slice_get-in_range s.processors n (subst (λ k. n < k) (sym as_many) lt) in
      let next : suc n ≡ n + 1 = omega arith in
      ap₂ (λ l w. l ++ w ∷ []) (are s is_represented as_many) (is p.0 (is_represented.threads n p.0 p.1))
      ∙ sym (map-append (λ (q : Processor). q.regs) (take n s.processors) (p.0 ∷ []))
      ∙ ap (map (λ (q : Processor). q.regs)) (sym (take-suc s.processors n p.0 p.1) ∙ ap (λ k. take k s.processors) next)

-- ---- schedules

-- A state whose parent is not before it is the start, which is reached without events.
pub ReachesIndex-start : (visited : FoundStates) (index : ℕ) (origin : Origin)
    → slice_get visited.origins index ≡ Some origin
    → index ≤ origin.parent
    → ReachesIndex visited index []
ReachesIndex-start visited zero origin at not program start tables found closed s invariant there =
    same_Some s start (sym there ∙ invariant.first)
ReachesIndex-start visited (suc i) origin at not program start tables found closed s invariant there =
    let predecessor = invariant.predecessor i origin s at there in absurd (omega (arith, predecessor.before, not))

-- A number of a run without a row has no events.
pub events_at-none : (runs : List (List (ℕ × Bool))) (n : ℕ) → slice_get runs n ≡ None → events_at runs n ≡ []
events_at-none runs n none = ap events_of (get_or_past runs n [] (length-past runs n none))

-- An index past the end of the table has no state, and is reached without events.
pub ReachesIndex-past : (visited : FoundStates) (index : ℕ)
    → slice_get visited.origins index ≡ None
    → ReachesIndex visited index []
ReachesIndex-past visited index none program start tables found closed s invariant there =
    let lt = slice_get_within found index s there in
    let origin = slice_get-in_range visited.origins index (subst (λ n. index < n) (sym invariant.origin_count) lt) in
    absurd (let e = sym none ∙ origin.1 in cc)

-- The events to the parent, followed by those of the origin's run, reach the state.
pub ReachesIndex-next : (visited : FoundStates) (index : ℕ) (origin : Origin) (more : List Event)
    → (index ≤ origin.parent → ⊥)
    → slice_get visited.origins index ≡ Some origin
    → ReachesIndex visited origin.parent more
    → ReachesIndex visited index (more ++ events_at visited.runs origin.run)
ReachesIndex-next visited zero origin more after at leads = absurd (after (omega arith))
ReachesIndex-next visited (suc i) origin more after at leads = λ program start tables found closed s invariant found_at.
    let predecessor = invariant.predecessor i origin s at found_at in
    let is : events_at visited.runs origin.run ≡ events_of predecessor.run =
    ap events_of (get_or_from_slice_get visited.runs origin.run predecessor.run [] predecessor.run_row) in
    subst (λ es. MachineRunsTo flat_memory program (more ++ es) start s) (sym is)
    (RunsTo-append (MachineTransition flat_memory program) more (events_of predecessor.run) start predecessor.from s
    (leads program start tables found closed predecessor.from invariant predecessor.found_at) predecessor.ran)

-- Each state that was found is reachable.
pub MachineRunsTo-found : (program : List (List Instr)) (start : State) (tables : Components) (visited : FoundStates)
    (found : List State) (closed : ℕ)
    → SearchInvariant program start tables visited found closed
    → (n i : ℕ) (s : State)
    → i < n
    → slice_get found i ≡ Some s
    → (events : List Event) × MachineRunsTo flat_memory program events start s
MachineRunsTo-found program start tables visited found closed invariant zero i s lt at = absurd (omega (arith, lt))
MachineRunsTo-found program start tables visited found closed invariant (suc n) zero s lt at =
    ([], same_Some s start (sym at ∙ invariant.first))
MachineRunsTo-found program start tables visited found closed invariant (suc n) (suc i) s lt at =
    let within = slice_get_within found (suc i) s at in
    let origin = slice_get-in_range visited.origins (suc i) (subst (λ k. suc i < k) (sym invariant.origin_count) within) in
    let predecessor = invariant.predecessor i origin.0 s origin.1 at in
    let before =
    MachineRunsTo-found program start tables visited found closed invariant n origin.0.parent predecessor.from
    (omega (arith, predecessor.before, lt)) predecessor.found_at in (
      before.0 ++ events_of predecessor.run,
      RunsTo-append (MachineTransition flat_memory program) before.0 (events_of predecessor.run) start predecessor.from s before.1
          predecessor.ran,
    )

-- ---- entries

module _ (program : List (List Instr)) (tables : Components) (visited : FoundStates) where
  -- If the state's outcome is among the entries already, the state is collected without a change.
  pub CollectsState-known : (at : ℕ) (key : List ℕ) (o : FinalState) (es : OutcomeEntries)
      → slice_get visited.keys at ≡ Some key
      → ((s : State) → Represents tables key s → length s.processors ≡ length program → o ≡ machine_outcome flat_memory s)
      → Contains (outcomes_of es) o
      → CollectsState program tables visited at es es
  CollectsState-known at key o es key_at is there = record {
    covered = λ start found closed s invariant found_at final.
        subst (λ p. Contains (outcomes_of es) p)
        (is s (invariant.represents at key s key_at found_at) (invariant.thread_count at s found_at)) there;
    preserves_outcomes = λ p c. c;
    each_leads = λ start found closed invariant a. a;
  }

  -- Appending a final state's outcome, with a schedule that reaches the state, collects the state.
  pub CollectsState-new : (at : ℕ) (key : List ℕ) (o : FinalState) (schedule : List Event) (es fs : OutcomeEntries)
      → slice_get visited.keys at ≡ Some key
      → ((s : State) → Represents tables key s → length s.processors ≡ length program → o ≡ machine_outcome flat_memory s)
      → ((s : State) → Represents tables key s → length s.processors ≡ length program → IsTrue (is_final program s))
      → ReachesIndex visited at schedule
      → fs ≡ es ++ (o, schedule) ∷ []
      → CollectsState program tables visited at es fs
  CollectsState-new at key o schedule es fs key_at is final leads grown = record {
    covered = λ start found closed s invariant found_at ends.
        subst (λ p. Contains (outcomes_of fs) p)
        (is s (invariant.represents at key s key_at found_at) (invariant.thread_count at s found_at))
        (subst (λ ks. Contains ks o) (sym keys) (Contains-push (outcomes_of es) o));
    preserves_outcomes = λ p c. subst (λ ks. Contains ks p) (sym keys) (Contains-append_left (outcomes_of es) (o ∷ []) p c);
    each_leads = λ start found closed invariant a.
        let lt : at < length found = subst (λ n. at < n) invariant.key_count (slice_get_within visited.keys at key key_at) in
        let s = slice_get-in_range found at lt in
        let is_represented = invariant.represents at key s.0 key_at s.1 in
        let as_many = invariant.thread_count at s.0 s.1 in
        let ran = leads program start tables found closed s.0 invariant s.1 in
        let to : LeadsTo IsScheduleOf program start (o, schedule) =
        (schedule, refl, (s.0, ran, final s.0 is_represented as_many, is s.0 is_represented as_many)) in
        subst (λ gs. All (LeadsTo IsScheduleOf program start) gs) (sym grown)
        (All-push (LeadsTo IsScheduleOf program start) es (o, schedule) a to);
  }
    where
      -- The outcomes of the new entries are those of the old ones, followed by o.
      keys : outcomes_of fs ≡ outcomes_of es ++ o ∷ []
      keys = ap outcomes_of grown ∙ map-append _ es ((o, schedule) ∷ [])

  -- The outcomes of the first n states are collected.
  pub record CollectsFirst (n : ℕ) (entries : OutcomeEntries) : Type 0 where
    pub covered : (start : State) (found : List State) (closed : ℕ) (i : ℕ) (s : State)
        → SearchInvariant program start tables visited found closed
        → i < n
        → slice_get found i ≡ Some s
        → IsTrue (is_final program s)
        → Contains (outcomes_of entries) (machine_outcome flat_memory s)
    pub each_leads : (start : State) (found : List State) (closed : ℕ)
        → SearchInvariant program start tables visited found closed
        → All (LeadsTo IsScheduleOf program start) entries

  -- If the first n states are collected, and then the state at index n, the first n + 1 are collected.
  pub CollectsFirst-next : (n : ℕ) (es fs : OutcomeEntries)
      → CollectsFirst n es
      → CollectsState program tables visited n es fs
      → CollectsFirst (n + 1) fs
  CollectsFirst-next n es fs first here = record {
    covered = λ start found closed i s invariant lt at final. elim (cases_lt i n) [
      | inl less ↦
          here.preserves_outcomes (machine_outcome flat_memory s) (first.covered start found closed i s invariant less at final)
      | inr not ↦
          let same : i ≡ n = omega arith in
          here.covered start found closed s invariant (ap (slice_get found) (sym same) ∙ at) final
    ];
    each_leads = λ start found closed invariant.
        here.each_leads start found closed invariant (first.each_leads start found closed invariant);
  }

  -- The collected outcomes are those of all states, in any order.
  pub CollectsAll-of_first : (n : ℕ) (es fs : OutcomeEntries)
      → CollectsFirst n es
      → length visited.keys ≤ n
      → IsPermutation es fs
      → CollectsAll AreSame IsScheduleOf program tables visited fs
  CollectsAll-of_first n es fs first few same = record {
    covered = λ start found closed i s invariant at final.
        let lt : i < n = (let h = slice_get_within found i s at in omega (arith, h, few, invariant.key_count)) in
        let o = machine_outcome flat_memory s in
        (o, (Contains-permuted_outcomes es fs o same).0 (first.covered start found closed i s invariant lt at final), refl);
    each_leads = λ start found closed invariant.
        All-permutation (LeadsTo IsScheduleOf program start) es fs same (first.each_leads start found closed invariant);
  }
