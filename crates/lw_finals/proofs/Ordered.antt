-- The order of the items that a run of a program to a final state executes, in either language: it has each item of the paths exactly once,
-- and respects the preserved pairs. So the run's outcome is one of a path assignment.
use Rattle.lw_finals.proofs.Common.{◌≡◌, ℕ, zero, suc, ◌+◌, ◌<◌, inl, inr, List, [], ◌∷◌, map, length, Option}
use Rattle.lw_finals.proofs.Common.{Some, Bool, true, false, Result, refl, sym, ap, ◌∙◌, subst, arith}
use Rattle.lw_finals.proofs.Common.{slice_get, All, Contains, IsTrue, cases_eq, cases_lt, cases_order}
use Rattle.lw_finals.proofs.Common.{cases_Bool, none-some, All-nil, All-cons, All-head, All-tail, All-weaker}
use Rattle.lw_finals.proofs.Common.{FinalState, RunsTo, thread_code, Event, Stop, index_in, Before}
use Rattle.lw_finals.proofs.Common.{AreDistinct, Respects, indices, index_in-same, index_in-other}
use Rattle.lw_finals.proofs.Common.{index_in-injective, All-index_in, IsOrder-of_distinct, IsFlowPathFrom}
use Rattle.lw_finals.proofs.Common.{Language, JumpsForward, IsPathAssignment, Item, item_at, items_of}
use Rattle.lw_finals.proofs.Common.{constraints_of, AreOrdered, Respects-if_ordered, not-Contains-nil}
use Rattle.lw_finals.proofs.Common.{Contains-cons, Contains-map_inv, IsMember, Pairwise, HasItem, item}
use Rattle.lw_finals.proofs.Common.{HasItem-on_path, IsItemOnPath, length-path_assignment}
use Rattle.lw_finals.proofs.Common.{IsItemOnPath-of_member, thread_rank-increasing, item_index-unique}
use Rattle.lw_finals.proofs.Common.{ItemTransitionSystem, ItemsRunTo, IsAssignmentOutcome}
use Rattle.lw_finals.proofs.PathOfRun.{MayPrecede, IsAhead, Completed, AreItemRuns, Completed-of_run}

-- If a list contains an item, the item's index is below the list's length.
index_in-lt_length : (xs : List ℕ) (i : ℕ) → Contains xs i → index_in xs i < length xs
index_in-lt_length [] i is_member = absurd (not-Contains-nil i is_member)
index_in-lt_length (x ∷ xs) i is_member = elim (cases_eq x i) [
  | inl e ↦ omega (arith, index_in-same x xs i e)
  | inr ne ↦ elim (Contains-cons x i xs is_member) [
    | inl is_head ↦ absurd (ne is_head)
    | inr in_tail ↦ omega (arith, index_in-other x xs i ne, index_in-lt_length xs i in_tail)
  ]
]

-- If t is below n, the list of P's values at the n numbers from k up has P of k + t at index t.
thread_code-of_function : (P : ℕ → List ℕ) (k n t : ℕ) → t < n → thread_code (map P (indices k n)) t ≡ P (k + t)
thread_code-of_function P k zero t l = absurd (omega arith)
thread_code-of_function P k (suc n) zero l = let e : k ≡ k + 0 = omega arith in ap P e
thread_code-of_function P k (suc n) (suc t) l =
    let e : suc k + t ≡ k + suc t = omega arith in thread_code-of_function P (suc k) n t (omega arith) ∙ ap P e

module _ {S : Type 0} (language : Language S) where
  -- If P gives each thread a flow path through its code, with the threads numbered from k on, these paths are a path assignment.
  IsPathAssignment-of_function : (program : List (List S)) (P : ℕ → List ℕ) (k : ℕ)
      → ((t : ℕ) → t < length program → IsFlowPathFrom language (thread_code program t) 0 (P (k + t)))
      → IsPathAssignment language program (map P (indices k (length program)))
  IsPathAssignment-of_function [] P k each = tt
  IsPathAssignment-of_function (code ∷ program) P k each =
      let first : k + 0 ≡ k = omega arith in (
        subst (λ (n : ℕ). IsFlowPathFrom language code 0 (P n)) first (each 0 (omega arith)),
        IsPathAssignment-of_function program P (suc k) (λ t l.
            (let next : k + suc t ≡ suc k + t = omega arith in
            subst (λ n. IsFlowPathFrom language (thread_code program t) 0 (P n)) next (each (suc t) (omega arith)))),
      )

  -- If a thread has a statement, it is one of the program.
  thread_in_range-of_instr : (program : List (List S)) (t j : ℕ) (i : S)
      → slice_get (thread_code program t) j ≡ Some i
      → t < length program
  thread_in_range-of_instr [] t j i found_at = absurd (none-some i found_at)
  thread_in_range-of_instr (code ∷ program) zero j i found_at = omega arith
  thread_in_range-of_instr (code ∷ program) (suc t) j i found_at = omega (arith, thread_in_range-of_instr program t j i found_at)

-- Lists of indices, and the items at these indices.
module _ {S : Type 0} (language : Language S) (program : List (List S)) (items : List Item) where
  -- The item at an index.
  abbrev it : ℕ → Item
  it i = item_at items i

  -- The executed items, named by their indices: these are in range, and `order` lists them in the order of execution.
  record Named (done : List Item) : Type 0 where
    pub order : List ℕ
    pub same : map it order ≡ done
    pub below : All (λ i. i < length items) order

  -- If each executed item is on the list, all are named by their indices.
  Named-of_items : (done : List Item) → All (HasItem items) done → Named done
  Named-of_items [] h = record { order = []; same = refl; below = All-nil (λ i. i < length items) }
  Named-of_items (a ∷ done) h =
      let r : Named done = Named-of_items done (All-tail (HasItem items) a done h) in
      let n : HasItem items a = All-head (HasItem items) a done h in
      record {
        order = n.0 ∷ r.order;
        same = ap (λ xs. it n.0 ∷ xs) r.same ∙ ap (λ x. x ∷ done) n.2;
        below = All-cons (λ i. i < length items) n.0 r.order n.1 r.below;
      }

  -- If P holds of each item of an order, and i is in the order, P holds of item i.
  All-at_index_in : (P : Item → Type 0) (xs : List ℕ) (i : ℕ) → All P (map it xs) → index_in xs i < length xs → P (it i)
  All-at_index_in P [] i h l = absurd (omega arith)
  All-at_index_in P (x ∷ xs) i h l = elim (cases_eq x i) [
    | inl e ↦ subst (λ k. P (it k)) e (All-head P (it x) (map it xs) h)
    | inr ne ↦ All-at_index_in P xs i (All-tail P (it x) (map it xs) h) (omega (arith, index_in-other x xs i ne))
  ]

  -- If in an order no preserved pair orders two items the other way, the order has no duplicates.
  AreDistinct-of_right : (xs : List ℕ) → Pairwise (MayPrecede language program) (map it xs) → AreDistinct xs
  AreDistinct-of_right [] h = tt
  AreDistinct-of_right (x ∷ xs) h = (
    elim (cases_lt (index_in xs x) (length xs)) [
      | inl l ↦ absurd (All-at_index_in (MayPrecede language program (it x)) xs x h.0 l refl (omega arith) inl)
      | inr ge ↦ ge
    ],
    AreDistinct-of_right xs h.1,
  )

  -- If in an order no preserved pair orders two items the other way, and j precedes i in it, then no preserved pair orders item
  -- i before item j.
  MayPrecede-if_before : (xs : List ℕ) (j i : ℕ)
      → Pairwise (MayPrecede language program) (map it xs)
      → index_in xs j < index_in xs i
      → index_in xs i < length xs
      → MayPrecede language program (it j) (it i)
  MayPrecede-if_before [] j i h less l = absurd (omega arith)
  MayPrecede-if_before (x ∷ xs) j i h less l = elim (cases_eq x i) [
    | inl e ↦ absurd (omega (arith, index_in-same x xs i e))
    | inr ni ↦ elim (cases_eq x j) [
      | inl e ↦
          subst (λ k. MayPrecede language program (it k) (it i)) e
          (All-at_index_in (MayPrecede language program (it x)) xs i h.0 (omega (arith, index_in-other x xs i ni)))
      | inr nj ↦
          MayPrecede-if_before xs j i h.1 (omega (arith, index_in-other x xs i ni, index_in-other x xs j nj))
          (omega (arith, index_in-other x xs i ni))
    ]
  ]

-- The outcome is one of some path assignment of the program.
abbrev pub OfAssignment : {S State : Type 0} → Language S → List (List S) → ItemTransitionSystem State → FinalState → Type 0
OfAssignment language program system o =
    (paths : List (List ℕ)) × IsPathAssignment language program paths × IsAssignmentOutcome system language program paths o

module _ {S : Type 0} (language : Language S) (program : List (List S)) {State : Type 0} (system : ItemTransitionSystem State)
    (position_of : State → ℕ → Option ℕ) where
  module _ (forward : (t : ℕ) → JumpsForward language (thread_code program t)) (end : State)
      (starts : (t : ℕ) → t < length program → position_of system.start t ≡ Some 0)
      (completed : Completed language program system position_of (λ t. []) system.start end) where
    -- The paths that the threads take in the run.
    abbrev paths : List (List ℕ)
    paths = map completed.paths (indices 0 (length program))

    -- The items of these paths.
    abbrev its : List Item
    its = items_of language program paths

    -- The item at an index.
    abbrev nth_item : ℕ → Item
    nth_item i = item_at its i

    -- The path at a thread's index is the one that the thread takes.
    thread_code-of_paths : (t : ℕ) → t < length program → thread_code paths t ≡ completed.paths t
    thread_code-of_paths t in_range =
        let e : 0 + t ≡ t = omega arith in
        thread_code-of_function completed.paths 0 (length program) t in_range ∙ ap completed.paths e

    -- The paths that the threads take are a path assignment of the program.
    IsPathAssignment-paths : IsPathAssignment language program paths
    IsPathAssignment-paths = IsPathAssignment-of_function language program completed.paths 0 (λ t l.
        let e : t ≡ 0 + t = omega arith in
        subst (λ (n : ℕ). IsFlowPathFrom language (thread_code program t) 0 (completed.paths n)) e
        (completed.flows t 0 (starts t l)))

    -- Each item that was executed is one of the paths.
    HasItem-if_ahead : (a : Item) → IsAhead language program completed.paths (λ t. []) a → HasItem its a
    HasItem-if_ahead a h =
        let l = thread_in_range-of_instr language program a.thread a.position h.statement h.at in
        let is_member : IsMember a.position (completed.paths a.thread) = elim h.on [ inl g ↦ g | inr (d, g) ↦ absurd g ] in
        HasItem-on_path language program paths a.thread a.position h.statement a.is_drain
        (length-path_assignment language program paths IsPathAssignment-paths) l
        (subst (IsMember a.position) (sym (thread_code-of_paths a.thread l)) is_member) h.at h.store

    -- Each item of the paths was executed.
    Contains-done : (i : ℕ) → i < length its → Contains completed.done (nth_item i)
    Contains-done i in_range =
        let r : IsItemOnPath language program paths (nth_item i) = IsItemOnPath-of_member language program paths i in_range in
        let on = subst (IsMember (nth_item i).position) (thread_code-of_paths (nth_item i).thread r.thread_in_range) r.on_path in
        let contains_by_kind : (b : Bool)
        → (nth_item i).is_drain ≡ b
        → Contains completed.done (item (nth_item i).thread (nth_item i).position b)
        → Contains completed.done (nth_item i) =
        λ b e. subst (λ (d : Bool). Contains completed.done (item (nth_item i).thread (nth_item i).position d)) (sym e) in
        elim (cases_Bool (nth_item i).is_drain) [
          | inl d ↦
              contains_by_kind true d
              (completed.drained (nth_item i).thread 0 (nth_item i).position r.statement
              (starts (nth_item i).thread r.thread_in_range) (inl on) r.at (r.store d))
          | inr f ↦ contains_by_kind false f (completed.statements (nth_item i).thread (nth_item i).position on)
        ]

    -- The executed items are named by their indices.
    names : Named language program its completed.done
    names =
        Named-of_items language program its completed.done
        (All-weaker _ (HasItem its) HasItem-if_ahead completed.done completed.ahead)

    -- In the order of execution, no preserved pair orders two items the other way.
    right : Pairwise (MayPrecede language program) (map nth_item names.order)
    right = subst (Pairwise (MayPrecede language program)) (sym names.same) completed.right

    -- Each item of the paths is in the order of execution.
    index_in-names_order : (i : ℕ) → i < length its → index_in names.order i < length names.order
    index_in-names_order i in_range =
        let m = Contains-map_inv nth_item names.order (nth_item i) (rw (← names.same) at (Contains-done i in_range)) in
        let found : index_in names.order m.0 < length names.order = index_in-lt_length names.order m.0 m.1 in
        let below : m.0 < length its = All-index_in (λ i. i < length its) names.order m.0 names.below found in
        let same =
        item_index-unique language program paths forward IsPathAssignment-paths m.0 i below in_range (ap (λ x. x.thread) m.2)
        (ap (λ (x : Item). x.position) m.2) (ap (λ (x : Item). x.is_drain) m.2) in
        subst (λ k. index_in names.order k < length names.order) same found

    -- The order of execution respects the preserved pairs.
    Respects-names_order : Respects (constraints_of language program its).preserved names.order
    Respects-names_order = Respects-if_ordered language program its names.order Before-if_ordered
      where
        -- Of two items of a thread that are ordered, the first was executed first.
        Before-if_ordered : (i j : ℕ)
            → i < j
            → j < length its
            → (nth_item i).thread ≡ (nth_item j).thread
            → AreOrdered language program (nth_item i) (nth_item j)
            → Before names.order i j
        Before-if_ordered i j less in_range same ordered = elim (cases_order (index_in names.order i) (index_in names.order j)) [
          | inl e ↦ absurd (let g : i ≡ j = index_in-injective _ i j e (index_in-names_order i (omega arith)) in omega arith)
          | inr (inl b) ↦ b
          | inr (inr a) ↦
              absurd (MayPrecede-if_before language program its names.order j i right a (index_in-names_order i (omega arith))
              (sym same)
              (omega (arith, thread_rank-increasing language program paths forward IsPathAssignment-paths i j less in_range same))
              ordered)
        ]

    -- If the run ends in a final state, that state's outcome is one of a path assignment.
    OfAssignment-completed : (o : FinalState)
        → IsTrue (system.is_final end)
        → o ≡ system.outcome_of end
        → OfAssignment language program system o
    OfAssignment-completed o final is = (
      paths,
      IsPathAssignment-paths,
      record {
        order = names.order;
        keeps = (
          IsOrder-of_distinct (length its) names.order names.below (AreDistinct-of_right language program its names.order right)
              index_in-names_order,
          Respects-names_order,
        );
        run = record {
          end = end;
          ran = subst (λ (xs : List Item). ItemsRunTo system xs system.start end) (sym names.same) completed.ran;
          final = final;
          outcome_is = is;
        };
      },
    )

  -- If events execute items, jumps go forward, and a run reaches a final state, the run's outcome is one of a path assignment.
  pub OfAssignment-of_run : (Done : Event → State → Result (Unit {0}) Stop → State → Type 0) (Sound : (ℕ → List ℕ)
      → State
      → Type 0)
      → AreItemRuns language program system position_of Done Sound
      → ((t : ℕ) → JumpsForward language (thread_code program t))
      → (es : List Event) (end : State) (o : FinalState)
      → RunsTo Done es system.start end
      → IsTrue (system.is_final end)
      → o ≡ system.outcome_of end
      → OfAssignment language program system o
  OfAssignment-of_run Done Sound runs forward es end o ran final is =
      OfAssignment-completed forward end runs.starts
      (Completed-of_run language _ _ position_of Done _ runs forward es (λ t. []) system.start end
      (λ t p e. omega (arith, runs.at_start t p e)) runs.first ran final) o final is
