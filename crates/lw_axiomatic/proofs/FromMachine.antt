-- A run along an order of the items of a path assignment is an execution: each read reads from the newest
-- write before it in the order, and coherence order is the order in which writes reach memory. Half of the
-- theorem: from a run on the machine to a candidate with times.
use Rattle.lw_axiomatic.proofs.Common.{ThreadExecutesTo, ◌≡◌, ℕ, zero, suc, ◌+◌, ◌<◌, ◌≤◌, inl, inr, Bool}
use Rattle.lw_axiomatic.proofs.Common.{true, false, Option, Some, None, refl, sym, ap, ap₂, ◌∙◌, subst, arith}
use Rattle.lw_axiomatic.proofs.Common.{if◌then◌else◌, List, [], ◌∷◌, length, slice_get, Contains, true≢false}
use Rattle.lw_axiomatic.proofs.Common.{◌==◌, ◌||◌, map, IsTrue, nat_le, take, drop, leb-true, eqb-true}
use Rattle.lw_axiomatic.proofs.Common.{eq-eqb, option_map, option_and_then, slice_index, slice_index_or, ◌&&◌}
use Rattle.lw_axiomatic.proofs.Common.{nat_lt, option_map_or, cases_Bool, cases_lt, cases_eq, cond-true}
use Rattle.lw_axiomatic.proofs.Common.{cond-false, and_from, and_parts, or_cases, or_left, or_right, lt-ltb}
use Rattle.lw_axiomatic.proofs.Common.{ltb-true, nat_tests, length-map, length-set, none-some, same_Some}
use Rattle.lw_axiomatic.proofs.Common.{slice_get_within, get_or_from_slice_get, slice_get-get_or}
use Rattle.lw_axiomatic.proofs.Common.{slice_get-map, HasOutcomeShape, thread_code, slice_get-slice_set_same}
use Rattle.lw_axiomatic.proofs.Common.{slice_get-slice_set_other, slice_get-in_range, take_drop-at}
use Rattle.lw_axiomatic.proofs.Common.{slice_get-map_inv, list_all_zip-at_index, is_same_location, Instr}
use Rattle.lw_axiomatic.proofs.Common.{Operation, writes, location_of, IsSuccessor, x86_language}
use Rattle.lw_axiomatic.proofs.Common.{x86_operation, IsFlowSuccessor, X86Test, flat_memory, index_in}
use Rattle.lw_axiomatic.proofs.Common.{IsOrder, index_in-order_split, Item, IsFlowSuccessor-in_range}
use Rattle.lw_axiomatic.proofs.Common.{Contains-map, Contains-map_inv, Contains-head, Contains-tail}
use Rattle.lw_axiomatic.proofs.Common.{Contains-cons, not-Contains-nil, IsMember, item, item_slot-increasing}
use Rattle.lw_axiomatic.proofs.Common.{IsItemOnPath, IsItemOnPath-of_member, IsAscendingFrom}
use Rattle.lw_axiomatic.proofs.Common.{IsAscendingFrom-lower_bound, IsAscendingFrom-flow_path, MachineState}
use Rattle.lw_axiomatic.proofs.Common.{Processor, initial_processor, initial_machine_state, machine_outcome}
use Rattle.lw_axiomatic.proofs.Common.{is_final, has_terminated, ItemsRunTo, X86ItemTransition}
use Rattle.lw_axiomatic.proofs.Common.{x86_item_system, ItemStep, ItemStep-of_transition}
use Rattle.lw_axiomatic.proofs.Common.{AllBuffersHoldStores-start, AreWaitingStores-start, ThreadState}
use Rattle.lw_axiomatic.proofs.Common.{first_state, state_after, word_written, MemoryEvent, Execution, reads}
use Rattle.lw_axiomatic.proofs.Common.{operation_is, location, operation_at, IsEvent, Reads, Writes}
use Rattle.lw_axiomatic.proofs.Common.{ThreadExecutes, IsReadFrom, IsLast, IsCandidate, IsBefore, IsNewest}
use Rattle.lw_axiomatic.proofs.Common.{HasConsistentTimes}
use Rattle.lw_axiomatic.proofs.EventLists.{event}
use Rattle.lw_axiomatic.proofs.StepCases.{StepCase, thread_of, word_seen, word_for, word_for-reads}
use Rattle.lw_axiomatic.proofs.Paths.{IsSuccessor-state_after}
use Rattle.lw_axiomatic.proofs.Indices.{number_in_order, order_length, KeptOrder, items, item_numbered, turn}
use Rattle.lw_axiomatic.proofs.Indices.{turn-of_number, step_of, point_of, event_of_item, done, reached}
use Rattle.lw_axiomatic.proofs.Indices.{forward, Placed, operation_is-of_instruction, Placed-step}
use Rattle.lw_axiomatic.proofs.Indices.{Placed-point, turn-injective, turn_in_range}
use Rattle.lw_axiomatic.proofs.Indices.{turn_increases-AreOrdered, Contains-IsMember, in_list}
use Rattle.lw_axiomatic.proofs.Indices.{IsFlowPathFrom-whole_path}
use Rattle.lw_axiomatic.proofs.Prefixes.{Written, LastBefore, PrefixInvariant, Turn, Agrees}
use Rattle.lw_axiomatic.proofs.Prefixes.{PrefixInvariant-next, step_case, Drained-ItemStep}
use Rattle.lw_axiomatic.proofs.Seen.{sees_newest, source_word}
use Rattle.lw_axiomatic.proofs.Indices as places
use Rattle.lw_axiomatic.proofs.Prefixes as prefixes

-- ---- the newest number that passes a test

module _ (time : MemoryEvent → ℕ) (test : MemoryEvent → Bool) where
  -- Tests whether an event has a later time than another, if there is another.
  abbrev is_newer : MemoryEvent → Option MemoryEvent → Bool
  is_newer e None = true
  is_newer e (Some v) = nat_lt (time v) (time e)

  -- The event of a list that passes the test and has the latest time.
  abbrev newest_in : List MemoryEvent → Option MemoryEvent
  newest_in [] = None
  newest_in (e ∷ es) = if test e && is_newer e (newest_in es) then Some e else newest_in es

  -- The event is in the list and passes the test, and no other such event has a later time.
  record IsTop (es : List MemoryEvent) (v : MemoryEvent) : Type 0 where
    among : Contains es v
    passes : test v ≡ true
    most : (w : MemoryEvent) → Contains es w → test w ≡ true → time w ≤ time v

  -- The result is that event, or `None` if no event of the list passes the test.
  abbrev IsTopOf : List MemoryEvent → Option MemoryEvent → Type 0
  IsTopOf es None = (w : MemoryEvent) → Contains es w → test w ≡ true → ⊥
  IsTopOf es (Some v) = IsTop es v

  -- `newest_in` computes the latest event of a list that passes the test, or `None` if none passes.
  IsTopOf-newest_in : (es : List MemoryEvent) → IsTopOf es (newest_in es)
  IsTopOf-newest_in [] = λ w c e. not-Contains-nil w c
  IsTopOf-newest_in (e ∷ es) = IsTopOf-cons (newest_in es) (IsTopOf-newest_in es)
    where
      -- With one more event the newest is this one or that of the rest.
      IsTopOf-cons : (q : Option MemoryEvent) → IsTopOf es q → IsTopOf (e ∷ es) (if test e && is_newer e q then Some e else q)
      IsTopOf-cons None none = elim (cases_Bool (test e)) [
        | inl f ↦
            subst (IsTopOf (e ∷ es)) (sym (cond-true (test e && true) (Some e) None (and_from (test e) true f refl))) (record {
              among = Contains-head e e es refl;
              passes = f;
              most = λ w c g. elim (Contains-cons e w es c) [
                | inl is_head ↦ omega (arith, ap time is_head)
                | inr in_tail ↦ absurd (none w in_tail g)
              ];
            })
        | inr f ↦
            subst (IsTopOf (e ∷ es)) (sym (cond-false (test e && true) (Some e) None (and-false_left (test e) true f)))
            (λ w c g. elim (Contains-cons e w es c) [
              | inl is_head ↦ true≢false (sym g ∙ (ap test (sym is_head) ∙ f))
              | inr in_tail ↦ none w in_tail g
            ])
      ]
        where
          -- A conjunction with a false test is false.
          and-false_left : (a b : Bool) → a ≡ false → (a && b) ≡ false
          and-false_left true b f = absurd (true≢false f)
          and-false_left false b f = refl
      IsTopOf-cons (Some v) top = elim (cases_Bool (test e && nat_lt (time v) (time e))) [
        | inl f ↦
            (let both = and_parts (test e) (nat_lt (time v) (time e)) f in
            let less : time v < time e = ltb-true (time v) (time e) both.1 in
            subst (IsTopOf (e ∷ es)) (sym (cond-true (test e && nat_lt (time v) (time e)) (Some e) (Some v) f)) (record {
              among = Contains-head e e es refl;
              passes = both.0;
              most = λ w c g. elim (Contains-cons e w es c) [
                | inl is_head ↦ omega (arith, ap time is_head)
                | inr in_tail ↦ omega (arith, top.most w in_tail g, less)
              ];
            }))
        | inr f ↦ subst (IsTopOf (e ∷ es)) (sym (cond-false (test e && nat_lt (time v) (time e)) (Some e) (Some v) f)) (record {
          among = Contains-tail e v es top.among;
          passes = top.passes;
          most = λ w c g. elim (Contains-cons e w es c) [
            | inl is_head ↦ elim (cases_lt (time v) (time e)) [
              | inl less ↦
                  absurd (true≢false (sym (and_from (test e) (nat_lt (time v) (time e)) (ap test is_head ∙ g)
                  (lt-ltb (time v) (time e) less))
                  ∙ f))
              | inr ge ↦ omega (arith, ge, ap time is_head)
            ]
            | inr in_tail ↦ top.most w in_tail g
          ];
        })
      ]

-- A number in a list is at the index that `index_in` finds.
slice_get-index_in : (xs : List ℕ) (i : ℕ) → index_in xs i < length xs → slice_get xs (index_in xs i) ≡ Some i
slice_get-index_in [] i l = absurd (omega (arith, l))
slice_get-index_in (x ∷ xs) i l = elim (cases_eq x i) [
  | inl e ↦
      (let here : index_in (x ∷ xs) i ≡ 0 = cond-true (x == i) 0 (suc (index_in xs i)) (eq-eqb x i e) in
      ap (slice_get (x ∷ xs)) here ∙ ap Some e)
  | inr ne ↦
      (let there : index_in (x ∷ xs) i ≡ suc (index_in xs i) = grind (arith, nat_tests) in
      ap (slice_get (x ∷ xs)) there ∙ slice_get-index_in xs i (omega (arith, l, there)))
]

module _ {test : X86Test} {paths : List (List ℕ)} (given : KeptOrder test paths) (end : MachineState (List ℕ)) where
  -- The items of the path assignment.
  abbrev all_items : List Item
  all_items = items given

  -- The item with this number.
  abbrev nth_item : ℕ → Item
  nth_item i = item_numbered given i

  -- When an event is done: an index in the order.
  abbrev done_index : MemoryEvent → ℕ
  done_index = done given

  -- When an event reaches memory: an index in the order.
  abbrev reached_index : MemoryEvent → ℕ
  reached_index = reached given

  -- The items of the list are executed one after another.
  abbrev Ran : List Item → MachineState (List ℕ) → MachineState (List ℕ) → Type 0
  Ran = ItemsRunTo (x86_item_system flat_memory test test.head.init_words)

  -- ---- the states of a run

  -- The state after the first k items of a run.
  abbrev states_of : (done_items : List Item) (s e : MachineState (List ℕ)) → Ran done_items s e → ℕ → MachineState (List ℕ)
  states_of [] s e ran k = s
  states_of (a ∷ done_items) s e ran zero = s
  states_of (a ∷ done_items) s e ran (suc k) = states_of done_items ran.0 e ran.2 k

  -- The state after no item is the start of the run.
  states_of-first : (done_items : List Item) (s e : MachineState (List ℕ)) (ran : Ran done_items s e)
      → states_of done_items s e ran 0 ≡ s
  states_of-first [] s e ran = refl
  states_of-first (a ∷ done_items) s e ran = refl

  -- The state after all items is the end of the run.
  states_of-last : (done_items : List Item) (s e : MachineState (List ℕ)) (ran : Ran done_items s e)
      → states_of done_items s e ran (length done_items) ≡ e
  states_of-last [] s e ran = sym ran
  states_of-last (a ∷ done_items) s e ran = states_of-last done_items ran.0 e ran.2

  -- From the state after k items to that after `k + 1` the run executes the item at index k.
  X86ItemTransition-states_of : (done_items : List Item) (s e : MachineState (List ℕ)) (ran : Ran done_items s e) (k : ℕ)
      (a : Item)
      → slice_get done_items k ≡ Some a
      → X86ItemTransition flat_memory test.threads a (states_of done_items s e ran k) (states_of done_items s e ran (suc k))
  X86ItemTransition-states_of [] s e ran k a found_at = absurd (none-some a found_at)
  X86ItemTransition-states_of (b ∷ done_items) s e ran zero a found_at =
      subst (λ (z : Item). X86ItemTransition flat_memory test.threads z s (states_of done_items ran.0 e ran.2 0))
      (same_Some b a found_at)
      (subst (X86ItemTransition flat_memory test.threads b s) (sym (states_of-first done_items ran.0 e ran.2)) ran.1)
  X86ItemTransition-states_of (b ∷ done_items) s e ran (suc k) a found_at =
      X86ItemTransition-states_of done_items ran.0 e ran.2 k a found_at

  module _ (ran : Ran (map nth_item given.order) (initial_machine_state test test.head.init_words) end) where
    -- The state after the first k items of the order.
    abbrev state_at : ℕ → MachineState (List ℕ)
    state_at = states_of (map nth_item given.order) (initial_machine_state test test.head.init_words) end ran

    -- ---- the execution

    -- The word that an operation reads, and 0 without one.
    abbrev read_of : Option Operation → Option Processor → List ℕ → ℕ
    read_of (Some o) (Some p) m = word_for o p.buffer m
    read_of _ _ m = 0

    -- The word that an operation writes, and 0 without one.
    abbrev written_of : Option Operation → Option Processor → List ℕ → ℕ
    written_of (Some o) (Some p) m = word_written o p.regs (word_for o p.buffer m)
    written_of _ _ m = 0

    -- The events of the paths.
    abbrev events : List MemoryEvent
    events = map (λ (a : Item). event a.thread a.position) all_items

    -- Tests whether a write may be the source of a read: it is of the same location and before the read.
    abbrev is_source : MemoryEvent → MemoryEvent → Bool
    is_source r w =
        operation_is x86_language test writes w
        && (is_same_location (location x86_language test w) (location x86_language test r)
        && (nat_lt (reached_index w) (done_index r) || ((w.thread == r.thread) && nat_lt w.position r.position)))

    -- The execution that is made of the run.
    abbrev pub run_execution : Execution
    run_execution = record {
      paths = paths;
      read = λ e.
          read_of (operation_at x86_language test e) (slice_get (state_at (done_index e)).processors e.thread)
          (state_at (done_index e)).memory;
      written = λ e.
          written_of (operation_at x86_language test e) (slice_get (state_at (done_index e)).processors e.thread)
          (state_at (done_index e)).memory;
      rf = λ r. newest_in reached_index (is_source r) events;
      co = reached_index;
    }

    -- The list has each event of the execution.
    Contains-events : (w : MemoryEvent) → IsEvent run_execution w → Contains events w
    Contains-events w is_event =
        let p = Placed-step given w is_event in
        let is_there : Contains all_items (item w.thread w.position false) =
        (p.index, p.below, places.slice_index_or-of_Placed given p) in
        Contains-map (λ (a : Item). event a.thread a.position) all_items (item w.thread w.position false) is_there

    -- Each event of the list is one of the execution.
    IsEvent-of_contained : (w : MemoryEvent) → Contains events w → IsEvent run_execution w
    IsEvent-of_contained w is_member =
        let source = Contains-map_inv (λ (a : Item). event a.thread a.position) all_items w is_member in
        let re : IsItemOnPath x86_language test.threads paths source.0 = places.IsItemOnPath-Contains given source.0 source.1 in
        subst (λ (z : MemoryEvent). Contains (thread_code paths z.thread) z.position) source.2
        (Contains-IsMember (thread_code paths source.0.thread) source.0.position re.on_path)

    -- If a location is the same as l, it is l.
    equal-is_same_location : (a b : Option ℕ) (l : ℕ) → b ≡ Some l → is_same_location a b ≡ true → a ≡ Some l
    equal-is_same_location None b l e f = absurd (true≢false (sym f))
    equal-is_same_location (Some a) None l e f = absurd (none-some l e)
    equal-is_same_location (Some a) (Some b) l e f = ap Some (eqb-true a b f ∙ same_Some b l e)

    -- Two optional locations that are l are the same.
    is_same_location-equal : (a b : Option ℕ) (l : ℕ) → a ≡ Some l → b ≡ Some l → is_same_location a b ≡ true
    is_same_location-equal None b l e f = absurd (none-some l e)
    is_same_location-equal (Some a) None l e f = absurd (none-some l f)
    is_same_location-equal (Some a) (Some b) l e f = eq-eqb a b (same_Some a l e ∙ sym (same_Some b l f))

    module _ (r : MemoryEvent) (l : ℕ) (reading : Reads x86_language test run_execution r l) where
      -- A write before a read passes the test.
      is_source-IsBefore : (w : MemoryEvent)
          → Writes x86_language test run_execution w l
          → IsBefore run_execution done_index reached_index w r
          → is_source r w ≡ true
      is_source-IsBefore w writing before =
          and_from (operation_is x86_language test writes w) _ writing.is_write
          (and_from (is_same_location (location x86_language test w) (location x86_language test r)) _
          (is_same_location-equal (location x86_language test w) (location x86_language test r) l writing.location_is
          reading.location_is) (elim before [
            | inl early ↦ or_left (nat_lt (reached_index w) (done_index r)) _ (lt-ltb (reached_index w) (done_index r) early)
            | inr po ↦
                or_right (nat_lt (reached_index w) (done_index r)) _
                (and_from (w.thread == r.thread) _ (eq-eqb w.thread r.thread po.same_thread)
                (lt-ltb w.position r.position po.position_lt))
          ]))

      -- What passes the test is a write before the read.
      Writes-of_source_before : (w : MemoryEvent)
          → IsEvent run_execution w
          → is_source r w ≡ true
          → Writes x86_language test run_execution w l × IsBefore run_execution done_index reached_index w r
      Writes-of_source_before w is_event f =
          let a = and_parts (operation_is x86_language test writes w) _ f in
          let b = and_parts (is_same_location (location x86_language test w) (location x86_language test r)) _ a.1 in (
            record {
              is_event = is_event;
              location_is =
                  equal-is_same_location (location x86_language test w) (location x86_language test r) l reading.location_is b.0;
              is_write = a.0;
            },
            elim (or_cases (nat_lt (reached_index w) (done_index r)) _ b.1) [
              | inl early ↦ inl (ltb-true (reached_index w) (done_index r) early)
              | inr own ↦
                  (let o = and_parts (w.thread == r.thread) (nat_lt w.position r.position) own in
                  inr (record {
                    first_event = is_event;
                    second_event = reading.is_event;
                    same_thread = eqb-true w.thread r.thread o.0;
                    position_lt = ltb-true w.position r.position o.1;
                  }))
            ],
          )

      -- The latest event that passes `is_source r` is the newest write before the read.
      IsNewest-IsTopOf : (q : Option MemoryEvent)
          → IsTopOf reached_index (is_source r) events q
          → IsNewest test run_execution done_index reached_index r l q
      IsNewest-IsTopOf None none =
          λ w writing before. none w (Contains-events w writing.is_event) (is_source-IsBefore w writing before)
      IsNewest-IsTopOf (Some v) top =
          let s = Writes-of_source_before v (IsEvent-of_contained v top.among) top.passes in
          record {
            write = s.0;
            is_before = s.1;
            latest = λ w writing before. top.most w (Contains-events w writing.is_event) (is_source-IsBefore w writing before);
          }

      -- The read reads from the newest write before it.
      pub IsNewest-of_rf : IsNewest test run_execution done_index reached_index r l (run_execution.rf r)
      IsNewest-of_rf = IsNewest-IsTopOf (run_execution.rf r) (IsTopOf-newest_in reached_index (is_source r) events)

    -- The execution has consistent times: the indices of its items in the order.
    pub HasConsistentTimes-of_run : HasConsistentTimes test run_execution done_index reached_index
    HasConsistentTimes-of_run = record {
      po = places.done_increases-Po given run_execution refl;
      later = places.done_before_reached given run_execution refl;
      at_once = places.reached_is_done given run_execution refl;
      ppo = places.reached_increases-Ppo given run_execution refl;
      co = λ w v co. co.co_lt;
      reached_injective = places.reached-injective given run_execution refl;
      newest = IsNewest-of_rf;
    }

    -- ---- what the machine holds throughout

    -- The invariant along the order, of this execution.
    abbrev IsInv : ℕ → (ℕ → List ℕ) → MachineState (List ℕ) → Type 0
    IsInv = PrefixInvariant run_execution given

    -- The item whose turn is at an index.
    record TurnAt (k : ℕ) : Type 0 where
      now_at : Turn run_execution given k
      out : X86ItemTransition flat_memory test.threads (nth_item now_at.index) (state_at k) (state_at (suc k))

    -- The item at an index of the order has its turn there.
    TurnAt-get : (k i : ℕ) → slice_get given.order k ≡ Some i → TurnAt k
    TurnAt-get k i found_at =
        let split =
        index_in-order_split (length all_items) i (take k given.order) (drop (suc k) given.order)
        (subst (IsOrder (length all_items)) (take_drop-at given.order k i found_at) given.keeps.0) in
        let in_range : k < length given.order = slice_get_within given.order k i found_at in
        let index_i : index_in given.order i ≡ k =
        ap (λ zs. index_in zs i) (take_drop-at given.order k i found_at)
        ∙ (split.1 ∙ places.length_taken given.order k in_range) in
        record {
          now_at = record { index = i; below = split.0; index_is = index_i };
          out =
              X86ItemTransition-states_of (map nth_item given.order) (initial_machine_state test test.head.init_words) end ran k
              (nth_item i) (slice_get-map nth_item given.order k ∙ ap (option_map nth_item) found_at);
        }

    -- At each index that is in range of the order an item has its turn.
    TurnAt-in_range : (k : ℕ) → k < length given.order → TurnAt k
    TurnAt-in_range k l = let found = slice_get-in_range given.order k l in TurnAt-get k found.0 found.1

    -- The execution agrees with the machine on a step.
    module _ (k : ℕ) (ta : TurnAt k) where
      -- The thread of the item whose turn it is.
      abbrev turn_thread : ℕ
      turn_thread = (nth_item ta.now_at.index).thread

      -- The item's position.
      abbrev turn_position : ℕ
      turn_position = (nth_item ta.now_at.index).position

      -- The item is on its thread's path.
      abbrev item_on_path : IsItemOnPath x86_language test.threads paths (nth_item ta.now_at.index)
      item_on_path = IsItemOnPath-of_member x86_language test.threads paths ta.now_at.index ta.now_at.below

      -- What the machine does at this turn.
      abbrev item_step :
          ItemStep test.threads turn_thread turn_position (nth_item ta.now_at.index).is_drain (state_at k) (state_at (suc k))
      item_step =
          ItemStep-of_transition test.threads turn_thread turn_position (nth_item ta.now_at.index).is_drain (state_at k)
          (state_at (suc k)) ta.out

      -- The item that has its turn at k has the turn k.
      item_turn : turn given (nth_item ta.now_at.index) ≡ k
      item_turn = turn-of_number given ta.now_at.index ta.now_at.below ∙ ta.now_at.index_is

      -- If the item that has its turn at k is a step, its event is done at k.
      done_at_turn : (nth_item ta.now_at.index).is_drain ≡ false → done_index (event turn_thread turn_position) ≡ k
      done_at_turn f = ap (λ b. turn given (item turn_thread turn_position b)) (sym f) ∙ item_turn

      -- The event's operation is that of the item's instruction.
      operation_at_turn : operation_at x86_language test (event turn_thread turn_position)
          ≡ Some (x86_operation item_on_path.statement)
      operation_at_turn = ap (option_map x86_operation) item_on_path.at

      -- If the item that has its turn at k is a step, its event reads the word that its processor finds then.
      read_at_turn : (nth_item ta.now_at.index).is_drain ≡ false
          → run_execution.read (event turn_thread turn_position)
          ≡ word_for (x86_operation item_on_path.statement) item_step.old.buffer (state_at k).memory
      read_at_turn f =
          ap (λ n.
          read_of (operation_at x86_language test (event turn_thread turn_position))
          (slice_get (state_at n).processors turn_thread) (state_at n).memory) (done_at_turn f)
          ∙ (ap (λ q. read_of q (slice_get (state_at k).processors turn_thread) (state_at k).memory) operation_at_turn
          ∙ ap (λ q. read_of (Some (x86_operation item_on_path.statement)) q (state_at k).memory) item_step.was)

      -- If the item that has its turn at k is a step, its event writes the word that its processor writes then.
      written_at_turn : (nth_item ta.now_at.index).is_drain ≡ false
          → run_execution.written (event turn_thread turn_position)
          ≡ word_written (x86_operation item_on_path.statement) item_step.old.regs
          (word_for (x86_operation item_on_path.statement) item_step.old.buffer (state_at k).memory)
      written_at_turn f =
          ap (λ n.
          written_of (operation_at x86_language test (event turn_thread turn_position))
          (slice_get (state_at n).processors turn_thread) (state_at n).memory) (done_at_turn f)
          ∙ (ap (λ q. written_of q (slice_get (state_at k).processors turn_thread) (state_at k).memory) operation_at_turn
          ∙ ap (λ q. written_of (Some (x86_operation item_on_path.statement)) q (state_at k).memory) item_step.was)

    -- At the start all buffers are empty.
    initial_buffer_empty : (t : ℕ) (p : Processor)
        → slice_get (map initial_processor test.head.init_regs) t ≡ Some p
        → p.buffer ≡ []
    initial_buffer_empty t p found_at =
        ap (λ (q : Processor). q.buffer) (slice_get-map_inv initial_processor test.head.init_regs t p found_at).2

    -- The invariant holds at the start.
    IsInv-start : IsInv 0 (λ t. []) (initial_machine_state test test.head.init_words)
    IsInv-start = record {
      waiting = AreWaitingStores-start test.threads (forward given) paths given.assignment given.order;
      hold = AllBuffersHoldStores-start test test.head.init_words;
      words = λ t p got. subst (Written run_execution given t []) (sym (initial_buffer_empty t p got)) tt;
      memory = λ l. inl ((λ e writing lt. omega (arith, lt)), refl);
      size = given.well_scoped.head.words;
    }

    -- The invariant holds at each index.
    IsInv-at_each : (k : ℕ) → k ≤ length given.order → (pending : ℕ → List ℕ) × IsInv k pending (state_at k)
    IsInv-at_each zero le = (
      (λ t. []),
      subst (IsInv 0 (λ t. []))
          (sym (states_of-first (map nth_item given.order) (initial_machine_state test test.head.init_words) end ran))
          IsInv-start,
    )
    IsInv-at_each (suc k) le =
        let before = IsInv-at_each k (omega (arith, le)) in
        let ta : TurnAt k = TurnAt-in_range k (omega (arith, le)) in (
          prefixes.waiting_after run_execution given before.1 ta.now_at ta.out,
          PrefixInvariant-next run_execution given before.1 ta.now_at ta.out (λ f w. written_at_turn k ta f),
        )

    -- ---- reads

    -- Each read has the word of the write that it reads from.
    IsReadFrom-of_rf : (e : MemoryEvent) (l : ℕ)
        → Reads x86_language test run_execution e l
        → IsReadFrom x86_language test run_execution e l (run_execution.rf e)
    IsReadFrom-of_rf e l reading =
        let p : Placed given (step_of given e) = Placed-step given e reading.is_event in
        let k_low : index_in given.order p.index < length given.order =
        omega (arith, number_in_order given p.index p.below, order_length given) in
        IsReadFrom-of_item p (TurnAt-get (index_in given.order p.index) p.index (slice_get-index_in given.order p.index k_low))
        k_low
      where
        -- The read has the word of its source, shown at the turn of the read's step.
        IsReadFrom-of_item : (p : Placed given (step_of given e)) (ta : TurnAt (index_in given.order p.index))
            → index_in given.order p.index < length given.order
            → IsReadFrom x86_language test run_execution e l (run_execution.rf e)
        IsReadFrom-of_item p ta low =
            let one : ta.now_at.index ≡ p.index =
            places.same_number_at given ta.now_at.index p.index ta.now_at.below p.below ta.now_at.index_is in
            let this : nth_item ta.now_at.index ≡ item e.thread e.position false = ap nth_item one ∙ p.item_is in
            let f : (nth_item ta.now_at.index).is_drain ≡ false = ap (λ (a : Item). a.is_drain) this in
            let is_e : event (nth_item ta.now_at.index).thread (nth_item ta.now_at.index).position ≡ e =
            ap (λ (a : Item). event a.thread a.position) this in
            let k = index_in given.order p.index in
            let inv = IsInv-at_each (index_in given.order p.index) (omega (arith, low)) in
            let now = item_step (index_in given.order p.index) ta in
            let reading_ta : Reads x86_language test run_execution
            (event (nth_item ta.now_at.index).thread (nth_item ta.now_at.index).position) l =
            subst (λ z. Reads x86_language test run_execution z l) (sym is_e) reading in
            let op_reads : reads (x86_operation (item_on_path (index_in given.order p.index) ta).statement) ≡ true =
            sym (ap (λ q. option_map_or reads q false) (operation_at_turn (index_in given.order p.index) ta))
            ∙ reading_ta.is_read in
            let w =
            word_for-reads (x86_operation (item_on_path (index_in given.order p.index) ta).statement) now.old.buffer
            (state_at (index_in given.order p.index)).memory op_reads in
            let loc : w.0 ≡ l =
            same_Some w.0 l
            (sym w.1
            ∙ (sym (ap (λ q. option_and_then location_of q) (operation_at_turn (index_in given.order p.index) ta))
            ∙ reading_ta.location_is)) in
            let seen_word : run_execution.read (event (nth_item ta.now_at.index).thread (nth_item ta.now_at.index).position)
            ≡ source_word run_execution given l
            (run_execution.rf (event (nth_item ta.now_at.index).thread (nth_item ta.now_at.index).position)) =
            read_at_turn (index_in given.order p.index) ta f
            ∙ (w.2
            ∙ (ap (word_seen now.old.buffer (state_at (index_in given.order p.index)).memory) loc
            ∙ sees_newest run_execution given inv.1 ta.now_at now.was (position_at_turn (index_in given.order p.index) ta f) f l
            (run_execution.rf (event (nth_item ta.now_at.index).thread (nth_item ta.now_at.index).position))
            (IsNewest-of_rf (event (nth_item ta.now_at.index).thread (nth_item ta.now_at.index).position) l reading_ta))) in
            IsReadFrom-IsNewest (run_execution.rf e) (IsNewest-of_rf e l reading)
            (subst (λ z. run_execution.read z ≡ source_word run_execution given l (run_execution.rf z)) is_e seen_word)
          where
            -- The processor whose step has its turn is at the step's position.
            position_at_turn : (k : ℕ) (ta : TurnAt k)
                → (nth_item ta.now_at.index).is_drain ≡ false
                → (item_step k ta).old.position ≡ (nth_item ta.now_at.index).position
            position_at_turn k ta f = (item_step k ta).position_is f

            -- If a read has the word of the newest write, it reads from it.
            IsReadFrom-IsNewest : (q : Option MemoryEvent)
                → IsNewest test run_execution done_index reached_index e l q
                → run_execution.read e ≡ source_word run_execution given l q
                → IsReadFrom x86_language test run_execution e l q
            IsReadFrom-IsNewest None new is = is
            IsReadFrom-IsNewest (Some v) new is = record { write = new.write; word_is = is }

    -- ---- each thread follows its path

    -- If no step of a thread has its turn, the thread is unchanged.
    thread_unchanged-one_turn : (k t : ℕ) (ta : TurnAt k)
        → ((j : ℕ) → Contains (thread_code paths t) j → done_index (event t j) ≡ k → ⊥)
        → (p q : Processor)
        → slice_get (state_at k).processors t ≡ Some p
        → slice_get (state_at (suc k)).processors t ≡ Some q
        → thread_of q ≡ thread_of p
    thread_unchanged-one_turn k t ta none p q at_p at_q = elim (cases_eq (nth_item ta.now_at.index).thread t) [
      | inr ne ↦
          (let same : slice_get (state_at (suc k)).processors t ≡ slice_get (state_at k).processors t =
          ap (λ (z : MachineState (List ℕ)). slice_get z.processors t) (item_step k ta).state_is
          ∙ slice_get-slice_set_other (state_at k).processors (nth_item ta.now_at.index).thread t (item_step k ta).new ne in
          ap thread_of (same_Some q p (sym at_q ∙ (same ∙ at_p))))
      | inl own ↦ elim (cases_Bool (nth_item ta.now_at.index).is_drain) [
        | inr f ↦
            absurd (let on_path : Contains (thread_code paths t) (nth_item ta.now_at.index).position =
            subst (λ u. Contains (thread_code paths u) (nth_item ta.now_at.index).position) own
            (Contains-IsMember (thread_code paths (nth_item ta.now_at.index).thread) (nth_item ta.now_at.index).position
            (item_on_path k ta).on_path) in
            none (nth_item ta.now_at.index).position on_path
            (ap (λ u. done_index (event u (nth_item ta.now_at.index).position)) (sym own) ∙ done_at_turn k ta f))
        | inl f ↦
            (let drained = Drained-ItemStep (nth_item ta.now_at.index).is_drain f (item_step k ta) in
            let old_is : (item_step k ta).old ≡ p =
            same_Some (item_step k ta).old p (sym (item_step k ta).was ∙ (ap (slice_get (state_at k).processors) own ∙ at_p)) in
            let new_at : slice_get (state_at (suc k)).processors t ≡ Some (item_step k ta).new =
            subst (λ u. slice_get (state_at (suc k)).processors u ≡ Some (item_step k ta).new) own
            (ap (λ (z : MachineState (List ℕ)). slice_get z.processors (nth_item ta.now_at.index).thread)
            (item_step k ta).state_is
            ∙ slice_get-slice_set_same (state_at k).processors (nth_item ta.now_at.index).thread (item_step k ta).new
            (item_step k ta).old (item_step k ta).was) in
            let new_is : (item_step k ta).new ≡ q = same_Some (item_step k ta).new q (sym new_at ∙ at_q) in
            ap thread_of (sym new_is) ∙ (ap thread_of drained.processor_is ∙ ap thread_of old_is))
      ]
    ]

    -- The number of processors is always that of threads.
    processor_count : (k : ℕ) → k ≤ length given.order → length (state_at k).processors ≡ length test.threads
    processor_count zero le =
        ap (λ (z : MachineState (List ℕ)). length z.processors)
        (states_of-first (map nth_item given.order) (initial_machine_state test test.head.init_words) end ran)
        ∙ (length-map test.head.init_regs initial_processor ∙ (given.well_scoped.head.regs ∙ sym given.well_scoped.as_many))
    processor_count (suc k) le =
        let ta : TurnAt k = TurnAt-in_range k (omega (arith, le)) in
        ap (λ (z : MachineState (List ℕ)). length z.processors) (item_step k ta).state_is
        ∙ (length-set (state_at k).processors (nth_item ta.now_at.index).thread (item_step k ta).new
        ∙ processor_count k (omega (arith, le)))

    -- A thread without a turn among n items is unchanged by them.
    thread_unchanged-n_turns : (n k t : ℕ)
        → t < length test.threads
        → k + n ≤ length given.order
        → ((j : ℕ) → Contains (thread_code paths t) j → k ≤ done_index (event t j) → done_index (event t j) < k + n → ⊥)
        → (p q : Processor)
        → slice_get (state_at k).processors t ≡ Some p
        → slice_get (state_at (k + n)).processors t ≡ Some q
        → thread_of q ≡ thread_of p
    thread_unchanged-n_turns zero k t in_range le none p q at_p at_q =
        let same : k + 0 ≡ k = omega arith in
        ap thread_of (same_Some q p (sym at_q ∙ (ap (λ m. slice_get (state_at m).processors t) same ∙ at_p)))
    thread_unchanged-n_turns (suc n) k t in_range le none p q at_p at_q =
        let ta : TurnAt k = TurnAt-in_range k (omega (arith, le)) in
        let found =
        slice_get-in_range (state_at (suc k)).processors t
        (omega (arith, in_range, processor_count (suc k) (omega (arith, le)))) in
        let more : k + suc n ≡ suc k + n = omega arith in
        thread_unchanged-n_turns n (suc k) t in_range (omega (arith, le))
        (λ j on from to. none j on (omega (arith, from)) (omega (arith, to))) found.0 q found.1
        (subst (λ m. slice_get (state_at m).processors t ≡ Some q) more at_q)
        ∙ thread_unchanged-one_turn k t ta (λ j on now. none j on (omega (arith, now)) (omega (arith, now))) p found.0 at_p
        found.1

    -- A thread without a turn between two indices is unchanged between them.
    thread_unchanged : (k m t : ℕ)
        → t < length test.threads
        → k ≤ m
        → m ≤ length given.order
        → ((j : ℕ) → Contains (thread_code paths t) j → k ≤ done_index (event t j) → done_index (event t j) < m → ⊥)
        → (p q : Processor)
        → slice_get (state_at k).processors t ≡ Some p
        → slice_get (state_at m).processors t ≡ Some q
        → thread_of q ≡ thread_of p
    thread_unchanged k m t in_range le low none p q at_p at_q =
        let difference = places.difference_exists k m le in
        thread_unchanged-n_turns difference.0 k t in_range (omega (arith, difference.1, low))
        (λ j on from to. none j on from (omega (arith, to, difference.1))) p q at_p
        (subst (λ n. slice_get (state_at n).processors t ≡ Some q) (sym difference.1) at_q)

    module _ (t : ℕ) (in_test : t < length test.threads) (last : Processor)
        (last_at : slice_get (state_at (length given.order)).processors t ≡ Some last)
        (past : length (thread_code test.threads t) ≤ last.position) where
      -- The thread's code.
      abbrev code : List Instr
      code = thread_code test.threads t

      -- A step of the thread whose turn it is.
      module _ (j m : ℕ) (ta : TurnAt m) (this : nth_item ta.now_at.index ≡ item t j false) where
        -- The item is a step.
        item_is_step : (nth_item ta.now_at.index).is_drain ≡ false
        item_is_step = ap (λ (a : Item). a.is_drain) this

        -- The item's thread is the thread of the path.
        item_thread : (nth_item ta.now_at.index).thread ≡ t
        item_thread = ap (λ (a : Item). a.thread) this

        -- The item's position is the next one of the path.
        item_position : (nth_item ta.now_at.index).position ≡ j
        item_position = ap (λ (a : Item). a.position) this

        -- The item's instruction is that of the code at the next position of the path.
        instruction_at_turn : slice_get code j ≡ Some (item_on_path m ta).statement
        instruction_at_turn =
            ap₂ (λ u h. slice_get (thread_code test.threads u) h) (sym item_thread) (sym item_position) ∙ (item_on_path m ta).at

        -- Before the step thread t has the processor `old` of the step.
        slice_get-old_processor : slice_get (state_at m).processors t ≡ Some (item_step m ta).old
        slice_get-old_processor = ap (slice_get (state_at m).processors) (sym item_thread) ∙ (item_step m ta).was

        -- After the step thread t has the processor `new` of the step.
        slice_get-new_processor : slice_get (state_at (suc m)).processors t ≡ Some (item_step m ta).new
        slice_get-new_processor =
            ap (slice_get (state_at (suc m)).processors) (sym item_thread)
            ∙ (ap (λ (z : MachineState (List ℕ)). slice_get z.processors (nth_item ta.now_at.index).thread)
            (item_step m ta).state_is
            ∙ slice_get-slice_set_same (state_at m).processors (nth_item ta.now_at.index).thread (item_step m ta).new
            (item_step m ta).old (item_step m ta).was)

        -- The item's event is the next one of the path.
        item_event : event (nth_item ta.now_at.index).thread (nth_item ta.now_at.index).position ≡ event t j
        item_event = ap₂ event item_thread item_position

        -- The event reads the word that the processor finds at the step.
        read_word : run_execution.read (event t j)
            ≡ word_for (x86_operation (item_on_path m ta).statement) (item_step m ta).old.buffer (state_at m).memory
        read_word = ap run_execution.read (sym item_event) ∙ read_at_turn m ta item_is_step

        module _ (p : Processor) (unmoved : thread_of (item_step m ta).old ≡ thread_of p) where
          -- Before the step the thread is at the position j.
          thread_position : (thread_of p).position ≡ j
          thread_position =
              ap (λ (z : ThreadState). z.position) (sym unmoved) ∙ ((item_step m ta).position_is item_is_step ∙ item_position)

          -- The event writes the word that the operation gives for the thread's registers and the word that it reads.
          written_word : run_execution.written (event t j)
              ≡ word_written (x86_operation (item_on_path m ta).statement) (thread_of p).regs (run_execution.read (event t j))
          written_word =
              ap run_execution.written (sym item_event)
              ∙ (written_at_turn m ta item_is_step
              ∙ ap₂ (word_written (x86_operation (item_on_path m ta).statement)) (ap (λ (z : ThreadState). z.regs) unmoved)
              (sym read_word))

          -- The processor's step is one of the cases of a step.
          StepCase-at_turn : StepCase (x86_operation (item_on_path m ta).statement) (item_step m ta).old (item_step m ta).new
              (state_at m).memory (item_step m ta).words
          StepCase-at_turn = step_case (nth_item ta.now_at.index).is_drain item_is_step (item_step m ta) (item_on_path m ta).at

          -- After the step the thread's state is the one that the execution says.
          state_after_turn : thread_of (item_step m ta).new
              ≡ state_after (x86_operation (item_on_path m ta).statement) (thread_of p) (run_execution.read (event t j))
          state_after_turn =
              StepCase-at_turn.thread ∙ ap₂ (state_after (x86_operation (item_on_path m ta).statement)) unmoved (sym read_word)

          -- After the step the thread's position is in the code, or at its end.
          new_within : (item_step m ta).new.position ≤ length code
          new_within =
              let leads : IsSuccessor (x86_operation (item_on_path m ta).statement) (thread_of p).position
              (item_step m ta).new.position =
              subst
              (λ (z : ThreadState). IsSuccessor (x86_operation (item_on_path m ta).statement) (thread_of p).position z.position)
              (sym state_after_turn)
              (IsSuccessor-state_after (x86_operation (item_on_path m ta).statement) (thread_of p)
              (run_execution.read (event t j))) in
              let follows : IsFlowSuccessor x86_language (slice_get code j) j (item_step m ta).new.position =
              subst (λ (o : Option Instr). IsFlowSuccessor x86_language o j (item_step m ta).new.position)
              (sym instruction_at_turn)
              (subst (λ h. IsSuccessor (x86_operation (item_on_path m ta).statement) h (item_step m ta).new.position)
              thread_position leads) in
              (IsFlowSuccessor-in_range x86_language code j (item_step m ta).new.position (forward given t) follows).1

      -- The rest of its path starts from a state.
      abbrev GoesFrom : List ℕ → Type 0
      GoesFrom rest =
          (k low : ℕ) (p : Processor)
          → k ≤ length given.order
          → slice_get (state_at k).processors t ≡ Some p
          → p.position ≤ length code
          → IsAscendingFrom low rest
          → ((j : ℕ) → IsMember j rest → (k ≤ done_index (event t j)) × Contains (thread_code paths t) j)
          → ((j : ℕ) → Contains (thread_code paths t) j → k ≤ done_index (event t j) → IsMember j rest)
          → ThreadExecutes x86_language run_execution t code rest (thread_of p) (thread_of last)

      -- From each position on, the thread executes the rest of its path.
      GoesFrom-each : (rest : List ℕ) → GoesFrom rest
      GoesFrom-each [] k low p le at_p within up later all =
          let same : thread_of last ≡ thread_of p =
          thread_unchanged k (length given.order) t in_test le (omega arith) (λ j on from to. all j on from) p last at_p
          last_at in
          let position : last.position ≡ p.position = ap (λ (z : ThreadState). z.position) same in
          (omega (arith, position, past, within), same)
      GoesFrom-each (j ∷ rest) k low p le at_p within up later all =
          let placed = Placed-step given (event t j) (later j (inl refl)).1 in
          ThreadExecutes-by_turn (λ k low p. GoesFrom-each rest k low p) placed.index placed.below placed.item_is placed.index_is
        where
          -- The later steps have their turns later.
          done_before_rest : (h : ℕ) → IsMember h rest → done_index (event t j) < done_index (event t h)
          done_before_rest h is_member =
              turn_increases-AreOrdered given (item t j false) (item t h false)
              (Placed-step given (event t j) (later j (inl refl)).1) (Placed-step given (event t h) (later h (inr is_member)).1)
              refl (item_slot-increasing false false j h (IsAscendingFrom-lower_bound (suc j) h rest up.1 is_member))
              (λ d. absurd (true≢false (sym d)))

          -- The thread executes the next step and the rest, if the next step's item has index i.
          ThreadExecutes-by_turn : GoesFrom rest
              → (i : ℕ)
              → i < length all_items
              → nth_item i ≡ item t j false
              → done_index (event t j) ≡ index_in given.order i
              → ThreadExecutes x86_language run_execution t code (j ∷ rest) (thread_of p) (thread_of last)
          ThreadExecutes-by_turn further i in_range is turn_is_i =
              let m : ℕ = index_in given.order i in
              let low_m : index_in given.order i < length given.order =
              omega (arith, number_in_order given i in_range, order_length given) in
              let ta : TurnAt (index_in given.order i) =
              TurnAt-get (index_in given.order i) i (slice_get-index_in given.order i low_m) in
              let this : nth_item ta.now_at.index ≡ item t j false =
              ap nth_item (places.same_number_at given ta.now_at.index i ta.now_at.below in_range ta.now_at.index_is) ∙ is in
              let unmoved : thread_of (item_step (index_in given.order i) ta).old ≡ thread_of p =
              thread_unchanged k (index_in given.order i) t in_test (omega (arith, turn_is_i, (later j (inl refl)).0))
              (omega (arith, low_m)) (λ h on from to. (elim (all h on from) [
                | inl e ↦ omega (arith, to, ap (λ g. done_index (event t g)) e, turn_is_i)
                | inr there ↦ omega (arith, to, done_before_rest h there, turn_is_i)
              ])) p (item_step (index_in given.order i) ta).old at_p
              (slice_get-old_processor j (index_in given.order i) ta this) in
              let rest_goes =
              further (suc (index_in given.order i)) (suc j) (item_step (index_in given.order i) ta).new (omega (arith, low_m))
              (slice_get-new_processor j (index_in given.order i) ta this)
              (new_within j (index_in given.order i) ta this p unmoved) up.1
              (λ h there. (omega (arith, done_before_rest h there, turn_is_i), (later h (inr there)).1))
              (λ h on from. elim (all h on (omega (arith, from, turn_is_i, (later j (inl refl)).0))) [
                | inl e ↦ absurd (omega (arith, from, ap (λ g. done_index (event t g)) e, turn_is_i))
                | inr there ↦ there
              ]) in
              record {
                position_is = thread_position j (index_in given.order i) ta this p unmoved;
                statement = (item_on_path (index_in given.order i) ta).statement;
                statement_at = instruction_at_turn j (index_in given.order i) ta this;
                written_is = (λ w. written_word j (index_in given.order i) ta this p unmoved);
                rest =
                    subst (λ z. ThreadExecutes x86_language run_execution t code rest z (thread_of last))
                    (state_after_turn j (index_in given.order i) ta this p unmoved) rest_goes;
              }

    -- ---- so it is an execution with the outcome of its final state

    -- The last state is the end of the run.
    end_state : state_at (length given.order) ≡ end
    end_state =
        ap state_at (sym (length-map given.order nth_item))
        ∙ states_of-last (map nth_item given.order) (initial_machine_state test test.head.init_words) end ran

    module _ (final : IsTrue (is_final test.threads end))
        (of_test : HasOutcomeShape test.head.threads (length test.head.locs) (machine_outcome flat_memory end)) where
      -- Each thread executes its path in the execution made from the run.
      ThreadExecutesTo-of_thread : (t : ℕ)
          → t < length test.threads
          → ThreadExecutesTo x86_language run_execution t (thread_code test.threads t) (thread_code paths t)
          (first_state (slice_index_or test.head.init_regs t [])) (machine_outcome flat_memory end)
      ThreadExecutesTo-of_thread t in_range =
          let found = slice_get-in_range (state_at 0).processors t (omega (arith, in_range, processor_count 0 (omega arith))) in
          let q =
          slice_get-in_range (state_at (length given.order)).processors t
          (omega (arith, in_range, processor_count (length given.order) (omega arith))) in
          let at_start : slice_get (map initial_processor test.head.init_regs) t ≡ Some found.0 =
          ap (λ (z : MachineState (List ℕ)). slice_get z.processors t)
          (sym (states_of-first (map nth_item given.order) (initial_machine_state test test.head.init_words) end ran))
          ∙ found.1 in
          let mapped = slice_get-map_inv initial_processor test.head.init_regs t found.0 at_start in
          let regs : slice_index_or test.head.init_regs t [] ≡ mapped.0 =
          get_or_from_slice_get test.head.init_regs t mapped.0 [] mapped.1 in
          let first : thread_of found.0 ≡ first_state (slice_index_or test.head.init_regs t []) =
          ap thread_of mapped.2 ∙ ap first_state (sym regs) in
          let end_q : slice_get end.processors t ≡ Some q.0 =
          ap (λ (z : MachineState (List ℕ)). slice_get z.processors t) (sym end_state) ∙ q.1 in
          let code_at : slice_get test.threads t ≡ Some (thread_code test.threads t) =
          slice_get-get_or test.threads t [] in_range in
          let done_q =
          and_parts (nat_le (length (thread_code test.threads t)) q.0.position) (length q.0.buffer == 0)
          (list_all_zip-at_index (λ p. has_terminated p.0 p.1) test.threads end.processors t (thread_code test.threads t) q.0
          final code_at end_q) in
          record {
            end = thread_of q.0;
            executes =
                subst (λ z.
                ThreadExecutes x86_language run_execution t (thread_code test.threads t) (thread_code paths t) z (thread_of q.0))
                first
                (GoesFrom-each t in_range q.0 q.1 (leb-true (length (thread_code test.threads t)) q.0.position done_q.0)
                (thread_code paths t) 0 0 found.0 (omega arith) found.1
                (omega (arith, ap (λ (z : Processor). z.position) mapped.2))
                (IsAscendingFrom-flow_path x86_language (thread_code test.threads t) 0 (thread_code paths t) (forward given t)
                (IsFlowPathFrom-whole_path given t in_range))
                (λ j there. (omega arith, Contains-IsMember (thread_code paths t) j there))
                (λ j on from. in_list (thread_code paths t) j on));
            regs_are =
                get_or_from_slice_get (map (λ (z : Processor). z.regs) end.processors) t q.0.regs []
                (prefixes.regs_got end.processors t q.0 end_q);
          }

      -- Each event reaches memory in the order.
      reached_below : (e : MemoryEvent) → IsEvent run_execution e → reached_index e < length given.order
      reached_below e is_event =
          omega (arith, turn_in_range given (point_of given e) (Placed-point given e is_event), order_length given)

      -- The last word before the end is the last word of the execution.
      IsLast-LastBefore : (l w : ℕ)
          → LastBefore run_execution given (length given.order) l w
          → IsLast x86_language test run_execution l w
      IsLast-LastBefore l w (inl (never, is)) = inl ((λ e writing. never e writing (reached_below e writing.is_event)), is)
      IsLast-LastBefore l w (inr (e, writing, lt, last, is)) =
          inr (e, writing, (λ g wg. last g wg (reached_below g wg.is_event)), is)

      -- The execution made from the run is a candidate with the outcome of the run's end.
      pub IsCandidate-of_run : IsCandidate x86_language test run_execution (machine_outcome flat_memory end)
      IsCandidate-of_run = record {
        as_many = places.paths_length given;
        threads = ThreadExecutesTo-of_thread;
        rf = IsReadFrom-of_rf;
        co = λ w v l ww wv same. places.reached-injective given run_execution refl w v ww.is_event wv.is_event same;
        words = λ l lt.
            IsLast-LastBefore l (slice_index end.memory l)
            (subst (λ (z : MachineState (List ℕ)). LastBefore run_execution given (length given.order) l (slice_index z.memory l))
            end_state ((IsInv-at_each (length given.order) (omega arith)).1.memory l));
        of_test =
            subst (λ n. HasOutcomeShape n (length test.head.locs) (machine_outcome flat_memory end))
            (sym given.well_scoped.as_many) of_test;
      }
