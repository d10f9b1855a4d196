-- When the events of a path assignment are done, and when they reach memory, in an order of its items: the
-- indices of their items. Both halves of the theorem read an order of items as times: ToMachine and
-- FromMachine.
use Rattle.lw_axiomatic.proofs.Common.{IsWellScopedProgram, ◌≡◌, ℕ, zero, suc, ◌+◌, ◌<◌, ◌≤◌, ◌⊎◌, inl, inr}
use Rattle.lw_axiomatic.proofs.Common.{Bool, true, false, Option, Some, None, refl, sym, ap, ap₂, ◌∙◌, subst}
use Rattle.lw_axiomatic.proofs.Common.{arith, if◌then◌else◌, List, [], ◌∷◌, length, take, ◌-◌, slice_get}
use Rattle.lw_axiomatic.proofs.Common.{Contains, true≢false, ◌==◌, eq-eqb, ◌&&◌, option_map, slice_index_or}
use Rattle.lw_axiomatic.proofs.Common.{option_map_or, cases_Bool, cases_lt, cond-true, cond-false, or_cases}
use Rattle.lw_axiomatic.proofs.Common.{and_from, and_parts, nat_tests, get_or_past, get_or_default}
use Rattle.lw_axiomatic.proofs.Common.{thread_code, Instr, Operation, Store, is_store, needs_empty_buffer}
use Rattle.lw_axiomatic.proofs.Common.{writes, location_of, x86_language, x86_operation, IsFlowSuccessor}
use Rattle.lw_axiomatic.proofs.Common.{IsFlowPathFrom, X86Test, index_in, Before, IsLinearExtension}
use Rattle.lw_axiomatic.proofs.Common.{index_in-injective, Item, JumpsForward, IsPathAssignment, item_at}
use Rattle.lw_axiomatic.proofs.Common.{items_of, constraints_of, statement_of, statement_needs_empty_buffer}
use Rattle.lw_axiomatic.proofs.Common.{IsMember, HasItem, item, thread_rank, item_slot, item_slot-increasing}
use Rattle.lw_axiomatic.proofs.Common.{item_slot-store_before_drain, IsItemOnPath, IsItemOnPath-of_member}
use Rattle.lw_axiomatic.proofs.Common.{IsStoring, HasItem-on_path, length-path_assignment}
use Rattle.lw_axiomatic.proofs.Common.{index_lt-if_rank_lt, item_index-unique, AreOrdered}
use Rattle.lw_axiomatic.proofs.Common.{HasOrdered-if_respected, not-Contains-nil, Contains-cons}
use Rattle.lw_axiomatic.proofs.Common.{JumpsForward-thread, MemoryEvent, Execution, reads, operation_is}
use Rattle.lw_axiomatic.proofs.Common.{IsEvent, Po, Ppo}
use Rattle.lw_axiomatic.proofs.EventKinds.{reads-false_if_store_event, is_fence-false_if_store_event}
use Rattle.lw_axiomatic.proofs.EventKinds.{write_stores_or_waits, needs_empty_buffer-if_fence_event}
use Rattle.lw_litmus.specs.Operations as operations

-- If the slots of two items of a thread are equal, the items have one position, and both are its drain or neither is.
same_slot : (b c : Bool) (j k : ℕ) → item_slot b j ≡ item_slot c k → (b ≡ c) × (j ≡ k)
same_slot true true j k e = (refl, omega (arith, e))
same_slot false false j k e = (refl, omega (arith, e))
same_slot true false j k e = absurd (omega (arith, e))
same_slot false true j k e = absurd (omega (arith, e))

-- Tests whether two items have one thread and one slot in it: the number of a statement or of a drain.
abbrev is_same : Item → Item → Bool
is_same b a = (b.thread == a.thread) && (thread_rank b == thread_rank a)

-- The index of an item in a list; the list's length if it is not a member.
abbrev pub item_index : List Item → Item → ℕ
item_index [] a = 0
item_index (b ∷ bs) a = if is_same b a then 0 else suc (item_index bs a)

-- No two items of a list have one thread and slot.
abbrev AreApart : List Item → Type 0
AreApart items =
    (i j : ℕ)
    → i < length items
    → j < length items
    → (item_at items i).thread ≡ (item_at items j).thread
    → thread_rank (item_at items i) ≡ thread_rank (item_at items j)
    → i ≡ j

-- The item at an index has this index, if no two are the same.
item_index_at : (items : List Item) → AreApart items → (i : ℕ) → i < length items → item_index items (item_at items i) ≡ i
item_index_at [] apart i in_range = absurd (omega (arith, in_range))
item_index_at (b ∷ bs) apart zero in_range =
    cond-true (is_same b b) 0 (suc (item_index bs b))
    (and_from _ _ (eq-eqb b.thread b.thread refl) (eq-eqb (thread_rank b) (thread_rank b) refl))
item_index_at (b ∷ bs) apart (suc i) in_range =
    let rest : item_index bs (item_at bs i) ≡ i =
    item_index_at bs (λ j k lj lk e f.
    (let g : suc j ≡ suc k = apart (suc j) (suc k) (omega (arith, lj)) (omega (arith, lk)) e f in omega (arith, g))) i
    (omega (arith, in_range)) in
    cond-false (is_same b (item_at bs i)) 0 (suc (item_index bs (item_at bs i)))
    (is_same-false (cases_Bool (is_same b (item_at bs i))))
    ∙ ap suc rest
  where
    -- The item at index i is not the same as b.
    is_same-false : (is_same b (item_at bs i) ≡ true) ⊎ (is_same b (item_at bs i) ≡ false) → is_same b (item_at bs i) ≡ false
    is_same-false (inr e) = e
    is_same-false (inl e) =
        let both = and_parts (b.thread == (item_at bs i).thread) (thread_rank b == thread_rank (item_at bs i)) e in
        absurd (let z : 0 ≡ suc i =
        apart 0 (suc i) (omega (arith, in_range)) in_range (grind (arith, nat_tests, both.0))
        (grind (arith, nat_tests, both.1)) in
        omega (arith, z))

-- The first k items of a longer list are k.
pub length_taken : (xs : List ℕ) (k : ℕ) → k < length xs → length (take k xs) ≡ k
length_taken xs zero in_range = refl
length_taken [] (suc k) in_range = absurd (omega (arith, in_range))
length_taken (x ∷ xs) (suc k) in_range = ap suc (length_taken xs k (omega (arith, in_range)))

-- If k is at most m, adding some d to k gives m.
pub difference_exists : (k m : ℕ) → k ≤ m → (d : ℕ) × (k + d ≡ m)
difference_exists k m le = (m - k, omega (arith, le))

-- What a path contains is a member by `IsMember`, which says the same by recursion.
pub in_list : (path : List ℕ) (j : ℕ) → Contains path j → IsMember j path
in_list [] j on_path = absurd (not-Contains-nil j on_path)
in_list (k ∷ path) j on_path =
    elim (Contains-cons k j path on_path) [ inl is_head ↦ inl is_head | inr in_tail ↦ inr (in_list path j in_tail) ]

-- The path contains what is a member by `IsMember`, which says it by recursion.
pub Contains-IsMember : (path : List ℕ) (j : ℕ) → IsMember j path → Contains path j
Contains-IsMember [] j is_member = absurd is_member
Contains-IsMember (k ∷ path) j (inl e) = (0, omega arith, e)
Contains-IsMember (k ∷ path) j (inr h) =
    let member = Contains-IsMember path j h in (suc member.0, omega (arith, member.1), member.2)

-- A well-scoped test, a path assignment of its threads, and an order of the assignment's items that keeps the preserved pairs.
pub record KeptOrder (test : X86Test) (paths : List (List ℕ)) : Type 0 where
  pub well_scoped : IsWellScopedProgram test
  pub assignment : IsPathAssignment x86_language test.threads paths
  pub order : List ℕ
  pub keeps : IsLinearExtension (constraints_of x86_language test.threads (items_of x86_language test.threads paths)) order

module _ {test : X86Test} {paths : List (List ℕ)} (given : KeptOrder test paths) where
  -- The items of the path assignment.
  abbrev pub items : List Item
  items = items_of x86_language test.threads paths

  -- The item with this number: the one at this index in the list of the path assignment's items.
  abbrev pub item_numbered : ℕ → Item
  item_numbered i = item_at items i

  -- When an item has its turn: the index of its number in the order.
  abbrev pub turn : Item → ℕ
  turn a = index_in given.order (item_index items a)

  -- The item of an event's own step.
  abbrev pub step_of : MemoryEvent → Item
  step_of e = item e.thread e.position false

  -- The item by which an event reaches memory: a store's drain, or its own step.
  abbrev pub point_of : MemoryEvent → Item
  point_of e = item e.thread e.position (operation_is x86_language test is_store e)

  -- When an event is done: the index of its step in the order.
  abbrev pub done : MemoryEvent → ℕ
  done e = turn (step_of e)

  -- When an event reaches memory: the index of its drain or its step in the order.
  abbrev pub reached : MemoryEvent → ℕ
  reached e = turn (point_of e)

  -- The order has as many items as the path assignment.
  pub order_length : length given.order ≡ length items
  order_length = given.keeps.0.0

  -- The number of each item is in the order.
  pub number_in_order : (i : ℕ) → i < length items → index_in given.order i < length given.order
  number_in_order i in_range = omega (arith, given.keeps.0.1 i in_range, order_length)

  -- The code of each thread jumps only forward.
  abbrev pub forward : (t : ℕ) → JumpsForward x86_language (thread_code test.threads t)
  forward = JumpsForward-thread x86_language test given.well_scoped

  -- The index that `item_index` finds for the item with a number is that number.
  pub item_index-of_number : (i : ℕ) → i < length items → item_index items (item_numbered i) ≡ i
  item_index-of_number i in_range =
      item_index_at items (λ j k lj lk e f.
      (let s =
      same_slot (item_numbered j).is_drain (item_numbered k).is_drain (item_numbered j).position (item_numbered k).position f in
      item_index-unique x86_language test.threads paths forward given.assignment j k lj lk e s.1 s.0)) i in_range

  -- An item's turn is its number's index in the order.
  pub turn-of_number : (i : ℕ) → i < length items → turn (item_numbered i) ≡ index_in given.order i
  turn-of_number i in_range = ap (index_in given.order) (item_index-of_number i in_range)

  -- The event's position is on the path of its thread.
  abbrev OnPath : MemoryEvent → Type 0
  OnPath e = Contains (thread_code paths e.thread) e.position

  -- An item of the path assignment, with its number and its turn.
  pub record Placed (a : Item) : Type 0 where
    pub index : ℕ
    pub below : index < length items
    pub item_is : item_numbered index ≡ a
    pub index_is : turn a ≡ index_in given.order index

  -- Each item in the list has its number and its turn.
  Placed-HasItem : (a : Item) → HasItem items a → Placed a
  Placed-HasItem a (i, l, e) = record {
    index = i;
    below = l;
    item_is = e;
    index_is = subst (λ (b : Item). turn b ≡ index_in given.order i) e (turn-of_number i l);
  }

  -- Each thread has a path.
  pub paths_length : length paths ≡ length test.threads
  paths_length = length-path_assignment x86_language test.threads paths given.assignment

  -- An item of the path assignment is read at its number.
  pub slice_index_or-of_Placed : {a : Item} (p : Placed a) → slice_index_or items p.index a ≡ a
  slice_index_or-of_Placed {a} p =
      get_or_default items p.index a (record { thread = 0; position = 0; is_drain = false }) p.below ∙ p.item_is

  -- Each item of the list is a statement on its thread's path, or its drain.
  pub IsItemOnPath-Contains : (a : Item) → Contains items a → IsItemOnPath x86_language test.threads paths a
  IsItemOnPath-Contains a is_member =
      subst (IsItemOnPath x86_language test.threads paths)
      (get_or_default items is_member.0 (record { thread = 0; position = 0; is_drain = false }) a is_member.1 ∙ is_member.2)
      (IsItemOnPath-of_member x86_language test.threads paths is_member.0 is_member.1)

  -- The thread of an event on a path is one of the test.
  pub thread_in_range-OnPath : (e : MemoryEvent) → OnPath e → e.thread < length test.threads
  thread_in_range-OnPath e c = elim (cases_lt e.thread (length test.threads)) [
    | inl h ↦ h
    | inr h ↦
        (let is_nil : thread_code paths e.thread ≡ [] =
        get_or_past paths e.thread []
        (omega (arith, h, length-path_assignment x86_language test.threads paths given.assignment)) in
        absurd (not-Contains-nil e.position (subst (λ (path : List ℕ). Contains path e.position) is_nil c)))
  ]

  -- An event's kind is that of the instruction at its position.
  pub operation_is-of_instruction : (kind : Operation → Bool) (e : MemoryEvent) (i : Instr)
      → slice_get (thread_code test.threads e.thread) e.position ≡ Some i
      → operation_is x86_language test kind e ≡ kind (x86_operation i)
  operation_is-of_instruction kind e i found_at = ap (λ o. option_map_or kind (option_map x86_operation o) false) found_at

  -- ---- each event on a path has its items

  -- Each position of a path has an instruction of the code.
  path_instr : (code : List Instr) (at : ℕ) (path : List ℕ)
      → IsFlowPathFrom x86_language code at path
      → (j : ℕ)
      → Contains path j
      → (i : Instr) × (slice_get code j ≡ Some i)
  path_instr code at [] flows j on_path = absurd (not-Contains-nil j on_path)
  path_instr code at (k ∷ path) flows j on_path = elim (Contains-cons k j path on_path) [
    | inl is_head ↦
        (let there = instruction-IsFlowSuccessor (slice_get code at) at flows.1 flows.2 in
        (there.0, ap (slice_get code) (sym is_head ∙ flows.0) ∙ there.1))
    | inr in_tail ↦ path_instr code flows.1 path flows.3 j in_tail
  ]
    where
      -- What has a successor in the code is an instruction.
      instruction-IsFlowSuccessor : (o : Option Instr) (j k : ℕ) → IsFlowSuccessor x86_language o j k → (i : Instr) × (o ≡ Some i)
      instruction-IsFlowSuccessor None j k f = absurd f
      instruction-IsFlowSuccessor (Some i) j k f = (i, refl)

  -- In a path assignment the path of thread t is a whole flow path of its code.
  IsFlowPathFrom-of_thread : (program : List (List Instr)) (ps : List (List ℕ))
      → IsPathAssignment x86_language program ps
      → (t : ℕ)
      → t < length program
      → IsFlowPathFrom x86_language (thread_code program t) 0 (thread_code ps t)
  IsFlowPathFrom-of_thread (code ∷ program) (path ∷ ps) c zero in_range = c.0
  IsFlowPathFrom-of_thread (code ∷ program) (path ∷ ps) c (suc t) in_range =
      IsFlowPathFrom-of_thread program ps c.1 t (omega (arith, in_range))
  IsFlowPathFrom-of_thread [] ps c t in_range = absurd (omega (arith, in_range))
  IsFlowPathFrom-of_thread (code ∷ program) [] c t in_range = absurd c

  -- Each thread's path is a whole flow path.
  pub IsFlowPathFrom-whole_path : (t : ℕ)
      → t < length test.threads
      → IsFlowPathFrom x86_language (thread_code test.threads t) 0 (thread_code paths t)
  IsFlowPathFrom-whole_path t in_range = IsFlowPathFrom-of_thread test.threads paths given.assignment t in_range

  -- An event on a path has an instruction.
  pub instr_of : (e : MemoryEvent) → OnPath e → (i : Instr) × (slice_get (thread_code test.threads e.thread) e.position ≡ Some i)
  instr_of e c =
      path_instr (thread_code test.threads e.thread) 0 (thread_code paths e.thread)
      (IsFlowPathFrom-whole_path e.thread (thread_in_range-OnPath e c)) e.position c

  -- A store has a location.
  storing_operation : (o : Operation) → is_store o ≡ true → (l : ℕ) × ((if is_store o then location_of o else None) ≡ Some l)
  storing_operation (Store l v) e = (l, refl)
  storing_operation _ e = absurd (true≢false (sym e))

  -- A store adds an entry for a location.
  pub IsStoring-is_store : (i : Instr) → is_store (x86_operation i) ≡ true → IsStoring x86_language i
  IsStoring-is_store i e = storing_operation (x86_operation i) e

  -- The step of an event on a path has its place; so has its drain, if it is a store.
  Placed-item : (e : MemoryEvent) (b : Bool)
      → OnPath e
      → (b ≡ true → operation_is x86_language test is_store e ≡ true)
      → Placed (item e.thread e.position b)
  Placed-item e b c store =
      let instr = instr_of e c in
      Placed-HasItem (item e.thread e.position b)
      (HasItem-on_path x86_language test.threads paths e.thread e.position instr.0 b
      (length-path_assignment x86_language test.threads paths given.assignment) (thread_in_range-OnPath e c)
      (in_list (thread_code paths e.thread) e.position c) instr.1
      (λ f. IsStoring-is_store instr.0 (sym (operation_is-of_instruction is_store e instr.0 instr.1) ∙ store f)))

  -- The step of an event on a path is an item of the path assignment.
  pub Placed-step : (e : MemoryEvent) → OnPath e → Placed (step_of e)
  Placed-step e c = Placed-item e false c (λ f. absurd (true≢false (sym f)))

  -- The item by which an event on a path reaches memory is one of the path assignment.
  pub Placed-point : (e : MemoryEvent) → OnPath e → Placed (point_of e)
  Placed-point e c = Placed-item e (operation_is x86_language test is_store e) c (λ f. f)

  -- The event of an item: its thread and its position.
  abbrev pub event_of_item : Item → MemoryEvent
  event_of_item a = record { thread = a.thread; position = a.position }

  -- Of two items of a thread in a preserved order, the first has its turn before the second.
  pub turn_increases-AreOrdered : (a b : Item)
      → Placed a
      → Placed b
      → a.thread ≡ b.thread
      → thread_rank a < thread_rank b
      → AreOrdered x86_language test.threads a b
      → turn a < turn b
  turn_increases-AreOrdered a b pa pb same_thread less ordered =
      let threads : (item_numbered pa.index).thread ≡ (item_numbered pb.index).thread =
      ap (λ (z : Item). z.thread) pa.item_is ∙ same_thread ∙ sym (ap (λ (z : Item). z.thread) pb.item_is) in
      let slots : thread_rank (item_numbered pa.index) < thread_rank (item_numbered pb.index) =
      omega (arith, less, ap thread_rank pa.item_is, ap thread_rank pb.item_is) in
      let index : pa.index < pb.index =
      index_lt-if_rank_lt x86_language test.threads paths forward given.assignment pa.index pb.index pa.below threads slots in
      let before : Before given.order pa.index pb.index =
      HasOrdered-if_respected x86_language test.threads paths given.order given.keeps.1 pa.index pb.index index pb.below threads
      (subst (λ (z : Item). AreOrdered x86_language test.threads z (item_numbered pb.index)) (sym pa.item_is)
      (subst (AreOrdered x86_language test.threads a) (sym pb.item_is) ordered)) in
      omega (arith, before, pa.index_is, pb.index_is)

  -- Two item numbers at one index of the order are equal.
  pub same_number_at : (i k : ℕ) → i < length items → k < length items → index_in given.order i ≡ index_in given.order k → i ≡ k
  same_number_at i k li lk same = index_in-injective given.order i k same (number_in_order i li)

  -- Each item's turn is below the number of items.
  pub turn_in_range : (a : Item) → Placed a → turn a < length items
  turn_in_range a p = omega (arith, p.index_is, number_in_order p.index p.below, order_length)

  -- Two items with one turn are equal.
  pub turn-injective : (a b : Item) → Placed a → Placed b → turn a ≡ turn b → a ≡ b
  turn-injective a b pa pb same =
      let stands : index_in given.order pa.index < length given.order =
      omega (arith, number_in_order pa.index pa.below, order_length) in
      let index : pa.index ≡ pb.index =
      index_in-injective given.order pa.index pb.index (sym pa.index_is ∙ same ∙ pb.index_is) stands in
      sym pa.item_is ∙ ap item_numbered index ∙ pb.item_is

  -- ---- the indices are times

  module _ (x : Execution) (is_paths : x.paths ≡ paths) where
    -- An event of the execution is on its path.
    OnPath-IsEvent : (e : MemoryEvent) → IsEvent x e → OnPath e
    OnPath-IsEvent e is_event = subst (λ (ps : List (List ℕ)). Contains (thread_code ps e.thread) e.position) is_paths is_event

    -- Of two events in program order the first is done first.
    pub done_increases-Po : (a b : MemoryEvent) → Po x a b → done a < done b
    done_increases-Po a b po =
        turn_increases-AreOrdered (step_of a) (step_of b) (Placed-step a (OnPath-IsEvent a po.first_event))
        (Placed-step b (OnPath-IsEvent b po.second_event)) po.same_thread
        (item_slot-increasing false false a.position b.position po.position_lt) (λ f. absurd (true≢false (sym f)))

    -- A store reaches memory after it is done.
    pub done_before_reached : (e : MemoryEvent)
        → IsEvent x e
        → operation_is x86_language test is_store e ≡ true
        → done e < reached e
    done_before_reached e is_event s =
        turn_increases-AreOrdered (step_of e) (point_of e) (Placed-step e (OnPath-IsEvent e is_event))
        (Placed-point e (OnPath-IsEvent e is_event)) refl
        (item_slot-store_before_drain false (operation_is x86_language test is_store e) e.position e.position refl s refl)
        (λ f. absurd (true≢false (sym f)))

    -- An event that is no store reaches memory when it is done.
    pub reached_is_done : (e : MemoryEvent) → operation_is x86_language test is_store e ≡ false → reached e ≡ done e
    reached_is_done e s = ap (λ b. turn (item e.thread e.position b)) s

    -- What follows a store in preserved program order is a store, or waits.
    store_or_waits-Ppo_from_store : (a b : MemoryEvent)
        → Ppo x86_language test x a b
        → operation_is x86_language test is_store a ≡ true
        → (operation_is x86_language test is_store b ≡ true) ⊎ (operation_is x86_language test needs_empty_buffer b ≡ true)
    store_or_waits-Ppo_from_store a b ppo s = elim (or_cases (operation_is x86_language test reads a) _ ppo.is_preserved) [
      | inl r ↦ absurd (true≢false (sym r ∙ reads-false_if_store_event test a s))
      | inr rest ↦ elim (or_cases (operation_is x86_language test writes b) _ rest) [
        | inl w ↦ write_stores_or_waits test b w
        | inr fences ↦ elim (or_cases (operation_is x86_language test operations.is_fence a) _ fences) [
          | inl f ↦ absurd (true≢false (sym f ∙ is_fence-false_if_store_event test a s))
          | inr f ↦ inr (needs_empty_buffer-if_fence_event test b f)
        ]
      ]
    ]

    -- If an event waits for an empty buffer, so does its item's statement.
    statement_needs_empty_buffer-of_event : (a : Item) (e : MemoryEvent) (i : Instr)
        → a.thread ≡ e.thread
        → a.position ≡ e.position
        → slice_get (thread_code test.threads e.thread) e.position ≡ Some i
        → operation_is x86_language test needs_empty_buffer e ≡ true
        → option_map_or (statement_needs_empty_buffer x86_language) (statement_of x86_language test.threads a) false ≡ true
    statement_needs_empty_buffer-of_event a e i t j found_at w =
        ap (λ o. option_map_or (statement_needs_empty_buffer x86_language) o false)
        (ap₂ (λ t j. slice_get (thread_code test.threads t) j) t j ∙ found_at)
        ∙ (sym (operation_is-of_instruction needs_empty_buffer e i found_at) ∙ w)

    -- Of two events in preserved program order the first reaches memory first.
    pub reached_increases-Ppo : (a b : MemoryEvent) → Ppo x86_language test x a b → reached a < reached b
    reached_increases-Ppo a b ppo =
        turn_increases-AreOrdered (point_of a) (point_of b) (Placed-point a (OnPath-IsEvent a ppo.po.first_event))
        (Placed-point b (OnPath-IsEvent b ppo.po.second_event)) ppo.po.same_thread
        (item_slot-increasing (operation_is x86_language test is_store a) (operation_is x86_language test is_store b) a.position
        b.position ppo.po.position_lt) (λ s. elim (store_or_waits-Ppo_from_store a b ppo s) [
          | inl t ↦ inl t
          | inr w ↦
              (let instr = instr_of b (OnPath-IsEvent b ppo.po.second_event) in
              inr (statement_needs_empty_buffer-of_event (point_of b) b instr.0 refl refl instr.1 w))
        ])

    -- No two events reach memory at one index of the order.
    pub reached-injective : (a b : MemoryEvent) → IsEvent x a → IsEvent x b → reached a ≡ reached b → a ≡ b
    reached-injective a b ia ib same =
        let e : point_of a ≡ point_of b =
        turn-injective (point_of a) (point_of b) (Placed-point a (OnPath-IsEvent a ia)) (Placed-point b (OnPath-IsEvent b ib))
        same in
        ap event_of_item e
