-- The order of an execution's items by their times: each thread's preserved pairs are in it, and what is
-- newest by the times is newest by the indices. So an execution with times becomes an order that the machine
-- can run along (ToMachine).
use Rattle.lw_axiomatic.proofs.Common.{IsWellScopedProgram, ◌≡◌, ℕ, suc, ◌<◌, ◌≤◌, ◌⊎◌, inl, inr, Bool, true}
use Rattle.lw_axiomatic.proofs.Common.{false, Option, Some, None, refl, sym, ap, ap₂, ◌∙◌, arith}
use Rattle.lw_axiomatic.proofs.Common.{if◌then◌else◌, List, [], ◌∷◌, length, true≢false, option_map}
use Rattle.lw_axiomatic.proofs.Common.{option_map_or, cases_Bool, cases_eq, cases_order, cond-false, or_left}
use Rattle.lw_axiomatic.proofs.Common.{or_right, none-some, FinalState, thread_code, Instr, Operation, Store}
use Rattle.lw_axiomatic.proofs.Common.{is_store, needs_empty_buffer, or_cases, writes, location_of}
use Rattle.lw_axiomatic.proofs.Common.{x86_language, x86_operation, IsFlowPathFrom, X86Test, Before}
use Rattle.lw_axiomatic.proofs.Common.{IsLinearExtension, Item, IsPathAssignment, item_at, items_of}
use Rattle.lw_axiomatic.proofs.Common.{constraints_of, statement_needs_empty_buffer, item, thread_rank}
use Rattle.lw_axiomatic.proofs.Common.{item_slot, thread_rank-increasing, IsItemOnPath-of_member, AreOrdered}
use Rattle.lw_axiomatic.proofs.Common.{Respects-if_ordered, first_state, MemoryEvent, Execution, reads}
use Rattle.lw_axiomatic.proofs.Common.{operation_is, IsEvent, Reads, Po, Ppo, IsCandidate, IsBefore, IsNewest}
use Rattle.lw_axiomatic.proofs.Common.{HasConsistentTimes, JumpsForward-thread}
use Rattle.lw_axiomatic.proofs.EventKinds.{is_store-false_if_reads_event, needs_empty_buffer-false_if_store}
use Rattle.lw_axiomatic.proofs.Paths.{IsFlowPathFrom-ThreadExecutes}
use Rattle.lw_axiomatic.proofs.ByTime.{by_time, IsOrder-by_time, Before-by_time}
use Rattle.lw_axiomatic.proofs.Indices.{KeptOrder, turn, step_of, point_of, done, reached, Placed}
use Rattle.lw_axiomatic.proofs.Indices.{Placed-step, Placed-point, Contains-IsMember}
use Rattle.lw_litmus.specs.Operations as operations

-- ---- the paths of a candidate are a path assignment

-- Whole flow paths, one for each thread, are a path assignment.
IsPathAssignment-flow_paths : (program : List (List Instr)) (paths : List (List ℕ))
    → length paths ≡ length program
    → ((t : ℕ) → t < length program → IsFlowPathFrom x86_language (thread_code program t) 0 (thread_code paths t))
    → IsPathAssignment x86_language program paths
IsPathAssignment-flow_paths [] [] same each = tt
IsPathAssignment-flow_paths (code ∷ program) (path ∷ paths) same each = (
  each 0 (omega arith),
  IsPathAssignment-flow_paths program paths (omega (arith, same)) (λ t l. each (suc t) (omega (arith, l))),
)
IsPathAssignment-flow_paths [] (path ∷ paths) same each = absurd (omega (arith, same))
IsPathAssignment-flow_paths (code ∷ program) [] same each = absurd (omega (arith, same))

module _ {test : X86Test} (well_scoped : IsWellScopedProgram test) {x : Execution} {o : FinalState}
    (candidate : IsCandidate x86_language test x o) where
  -- A candidate's paths are a path assignment.
  pub IsPathAssignment-of_candidate : IsPathAssignment x86_language test.threads x.paths
  IsPathAssignment-of_candidate = IsPathAssignment-flow_paths test.threads x.paths candidate.as_many (λ t l.
      (let executes = candidate.threads t l in
      IsFlowPathFrom-ThreadExecutes x86_language x t (thread_code test.threads t) (thread_code x.paths t) (first_state _)
      executes.end executes.executes))

  module _ {doneT reachedT : MemoryEvent → ℕ} (timed : HasConsistentTimes test x doneT reachedT) where
    -- An event's time: when it reaches memory, for a drain, and when it is done, for a step.
    abbrev time_of : Bool → MemoryEvent → ℕ
    time_of true e = reachedT e
    time_of false e = doneT e

    -- The time of an item's event.
    abbrev time : Item → ℕ
    time a = time_of a.is_drain (record { thread = a.thread; position = a.position })

    -- The items of the execution's paths.
    abbrev all_items : List Item
    all_items = items_of x86_language test.threads x.paths

    -- The numbers of the items, sorted by time.
    abbrev pub order : List ℕ
    order = by_time (λ i. time (item_at all_items i)) (length all_items)

    -- ---- the preserved pairs

    -- Each item is of an event of the execution.
    IsEvent-of_item : (i : ℕ) (l : i < length all_items)
        → IsEvent x (record { thread = (item_at all_items i).thread; position = (item_at all_items i).position })
    IsEvent-of_item i l =
        Contains-IsMember (thread_code x.paths (item_at all_items i).thread) (item_at all_items i).position
        (IsItemOnPath-of_member x86_language test.threads x.paths i l).on_path

    -- The event of a drain is a store.
    is_store-of_drain : (i : ℕ) (l : i < length all_items)
        → (item_at all_items i).is_drain ≡ true
        → operation_is x86_language test is_store
        (record { thread = (item_at all_items i).thread; position = (item_at all_items i).position })
        ≡ true
    is_store-of_drain i l f =
        let on_path = IsItemOnPath-of_member x86_language test.threads x.paths i l in
        ap (λ q. option_map_or is_store (option_map x86_operation q) false) on_path.at
        ∙ is_storing (x86_operation on_path.statement) (on_path.store f).0 (on_path.store f).1
      where
        -- What adds an entry is a store.
        is_storing : (q : Operation) (y : ℕ) → (if is_store q then location_of q else None) ≡ Some y → is_store q ≡ true
        is_storing q y e = elim (cases_Bool (is_store q)) [
          | inl s ↦ s
          | inr n ↦ absurd (none-some y (sym (cond-false (is_store q) (location_of q) None n) ∙ e))
        ]

    -- What waits for an empty buffer is no store, and is a fence or writes.
    waits_kind : (q : Operation)
        → needs_empty_buffer q ≡ true
        → (is_store q ≡ false) × ((operations.is_fence q ≡ true) ⊎ (writes q ≡ true))
    waits_kind q w = (
      elim (cases_Bool (is_store q)) [ inl s ↦ absurd (true≢false (sym w ∙ needs_empty_buffer-false_if_store q s)) | inr n ↦ n ],
      elim (or_cases (operations.is_fence q) _ w) [ inl fence ↦ inl fence | inr locked ↦ inr (or_right (is_store q) _ locked) ],
    )

    -- A store writes.
    store_kind : (q : Operation) → is_store q ≡ true → writes q ≡ true
    store_kind (Store x v) s = refl
    store_kind _ s = absurd (true≢false (sym s))

    -- The kind of an item's event is that of the item's instruction.
    operation_is-of_item : (kind : Operation → Bool) (i : ℕ) (l : i < length all_items)
        → operation_is x86_language test kind
        (record { thread = (item_at all_items i).thread; position = (item_at all_items i).position })
        ≡ kind (x86_operation (IsItemOnPath-of_member x86_language test.threads x.paths i l).statement)
    operation_is-of_item kind i l =
        ap (λ q. option_map_or kind (option_map x86_operation q) false)
        (IsItemOnPath-of_member x86_language test.threads x.paths i l).at

    module _ (i k : ℕ) (less : i < k) (l : k < length all_items)
        (same : (item_at all_items i).thread ≡ (item_at all_items k).thread)
        (ordered : AreOrdered x86_language test.threads (item_at all_items i) (item_at all_items k)) where
      -- The first item's number is in range.
      first_in_range : i < length all_items
      first_in_range = omega (arith, less, l)

      -- The first item's event.
      abbrev event_of_first : MemoryEvent
      event_of_first = record { thread = (item_at all_items i).thread; position = (item_at all_items i).position }

      -- The second item's event.
      abbrev event_of_second : MemoryEvent
      event_of_second = record { thread = (item_at all_items k).thread; position = (item_at all_items k).position }

      -- The first item has the lower slot in its thread.
      slot_increases : (b c : Bool)
          → (item_at all_items i).is_drain ≡ b
          → (item_at all_items k).is_drain ≡ c
          → item_slot b event_of_first.position < item_slot c event_of_second.position
      slot_increases b c f g =
          let up : thread_rank (item_at all_items i) < thread_rank (item_at all_items k) =
          thread_rank-increasing x86_language test.threads x.paths (JumpsForward-thread x86_language test well_scoped)
          IsPathAssignment-of_candidate i k less l same in
          omega (arith, up, ap (λ d. item_slot d event_of_first.position) f, ap (λ d. item_slot d event_of_second.position) g)

      -- If their positions differ, their events are in program order.
      Po-of_items : event_of_first.position < event_of_second.position → Po x event_of_first event_of_second
      Po-of_items up = record {
        first_event = IsEvent-of_item i first_in_range;
        second_event = IsEvent-of_item k l;
        same_thread = same;
        position_lt = up;
      }

      -- If the second one writes, their order is preserved.
      Ppo-to_write : event_of_first.position < event_of_second.position
          → operation_is x86_language test writes event_of_second ≡ true
          → Ppo x86_language test x event_of_first event_of_second
      Ppo-to_write up w = record {
        po = Po-of_items up;
        is_preserved =
            or_right (operation_is x86_language test reads event_of_first) _
            (or_left (operation_is x86_language test writes event_of_second) _ w);
      }

      -- By whether each of the two items is a drain.
      time_increases-by_kinds : (b c : Bool)
          → (item_at all_items i).is_drain ≡ b
          → (item_at all_items k).is_drain ≡ c
          → time_of b event_of_first < time_of c event_of_second
      time_increases-by_kinds false false f g =
          timed.po event_of_first event_of_second (Po-of_items (omega (arith, slot_increases false false f g)))
      time_increases-by_kinds false true f g = elim (cases_eq event_of_first.position event_of_second.position) [
        | inl same_position ↦
            (let e : event_of_first ≡ event_of_second = ap₂ (λ t j. record { thread = t; position = j }) same same_position in
            omega (arith, ap doneT e, timed.later event_of_second (IsEvent-of_item k l) (is_store-of_drain k l g)))
        | inr positions_differ ↦
            (let up : event_of_first.position < event_of_second.position =
            omega (arith, slot_increases false true f g, positions_differ) in
            omega (
              arith,
              timed.po event_of_first event_of_second (Po-of_items up),
              timed.later event_of_second (IsEvent-of_item k l) (is_store-of_drain k l g),
            ))
      ]
      time_increases-by_kinds true true f g =
          timed.ppo event_of_first event_of_second
          (Ppo-to_write (omega (arith, slot_increases true true f g))
          (operation_is-of_item writes k l
          ∙ store_kind (x86_operation (IsItemOnPath-of_member x86_language test.threads x.paths k l).statement)
          (sym (operation_is-of_item is_store k l) ∙ is_store-of_drain k l g)))
      time_increases-by_kinds true false f g =
          let up : event_of_first.position < event_of_second.position = omega (arith, slot_increases true false f g) in
          let op = x86_operation (IsItemOnPath-of_member x86_language test.threads x.paths k l).statement in
          let waiting : needs_empty_buffer (x86_operation (IsItemOnPath-of_member x86_language test.threads x.paths k
          l).statement)
          ≡ true = elim (ordered f) [
            | inl d ↦ absurd (true≢false (sym d ∙ g))
            | inr w ↦
                sym (ap (λ q. option_map_or (statement_needs_empty_buffer x86_language) q false)
                (IsItemOnPath-of_member x86_language test.threads x.paths k l).at)
                ∙ w
          ] in
          let kinds =
          waits_kind (x86_operation (IsItemOnPath-of_member x86_language test.threads x.paths k l).statement) waiting in
          let late : reachedT event_of_first < reachedT event_of_second = timed.ppo event_of_first event_of_second (elim kinds.1 [
            | inl fence ↦ record {
              po = Po-of_items up;
              is_preserved =
                  or_right (operation_is x86_language test reads event_of_first) _
                  (or_right (operation_is x86_language test writes event_of_second) _
                  (or_right (operation_is x86_language test operations.is_fence event_of_first) _
                  (operation_is-of_item operations.is_fence k l ∙ fence)));
            }
            | inr w ↦ Ppo-to_write up (operation_is-of_item writes k l ∙ w)
          ]) in
          omega (arith, late, timed.at_once event_of_second (operation_is-of_item is_store k l ∙ kinds.0))

      -- Of two items that a constraint orders, the first has the earlier time.
      time_increases : time (item_at all_items i) < time (item_at all_items k)
      time_increases = time_increases-by_kinds (item_at all_items i).is_drain (item_at all_items k).is_drain refl refl

    -- The order by times keeps all constraints.
    pub IsLinearExtension-by_time : IsLinearExtension (constraints_of x86_language test.threads all_items) order
    IsLinearExtension-by_time = (
      IsOrder-by_time (λ i. time (item_at all_items i)) (length all_items),
      Respects-if_ordered x86_language test.threads all_items order (λ i k less l same ordered.
          Before-by_time (λ i. time (item_at all_items i)) (length all_items) i k (omega (arith, less, l)) l
          (time_increases i k less l same ordered)),
    )

    -- The order by times is an order of the items that keeps the constraints.
    abbrev pub kept_order : KeptOrder test x.paths
    kept_order = record {
      well_scoped = well_scoped;
      assignment = IsPathAssignment-of_candidate;
      order = order;
      keeps = IsLinearExtension-by_time;
    }

    -- ---- what is newest by the times is newest by the indices

    -- When an event is done: an index in the order.
    abbrev done_index : MemoryEvent → ℕ
    done_index = done kept_order

    -- When an event reaches memory: an index in the order.
    abbrev reached_index : MemoryEvent → ℕ
    reached_index = reached kept_order

    -- An earlier time is an earlier turn.
    turn_increases-time : (a b : Item)
        → Placed kept_order a
        → Placed kept_order b
        → time a < time b
        → turn kept_order a < turn kept_order b
    turn_increases-time a b pa pb less =
        let before : Before order pa.index pb.index =
        Before-by_time (λ i. time (item_at all_items i)) (length all_items) pa.index pb.index pa.below pb.below
        (omega (arith, less, ap time pa.item_is, ap time pb.item_is)) in
        omega (arith, before, pa.index_is, pb.index_is)

    -- The item by which an event reaches memory has the time at which it does.
    point_time : (e : MemoryEvent) → time (point_of kept_order e) ≡ reachedT e
    point_time e = time_of_point-is_reached (operation_is x86_language test is_store e) refl
      where
        -- By whether the event is a store.
        time_of_point-is_reached : (b : Bool) → operation_is x86_language test is_store e ≡ b → time_of b e ≡ reachedT e
        time_of_point-is_reached true s = refl
        time_of_point-is_reached false s = sym (timed.at_once e s)

    module _ (r : MemoryEvent) (l : ℕ) (reading : Reads x86_language test x r l) where
      -- The read's step is one of the items.
      r_step : Placed kept_order (step_of kept_order r)
      r_step = Placed-step kept_order r reading.is_event

      -- A read reaches memory when it is done, by the times.
      read_reached_is_done : reachedT r ≡ doneT r
      read_reached_is_done = timed.at_once r (is_store-false_if_reads_event test r reading.is_read)

      -- By the indices too, the read reaches memory when it is done.
      r_turn : reached_index r ≡ done_index r
      r_turn = ap (λ b. turn kept_order (item r.thread r.position b)) (is_store-false_if_reads_event test r reading.is_read)

      -- A write that is before the read by the indices is before it by the times.
      IsBefore-of_indices : (w : MemoryEvent)
          → IsEvent x w
          → IsBefore x done_index reached_index w r
          → IsBefore x doneT reachedT w r
      IsBefore-of_indices w is_event (inr po) = inr po
      IsBefore-of_indices w is_event (inl early) = elim (cases_order (reachedT w) (doneT r)) [
        | inl same ↦
            absurd (let e : w ≡ r = timed.reached_injective w r is_event reading.is_event (same ∙ sym read_reached_is_done) in
            omega (arith, early, ap reached_index e, r_turn))
        | inr (inl less) ↦ inl less
        | inr (inr more) ↦ absurd (omega (
          arith,
          early,
          turn_increases-time (step_of kept_order r) (point_of kept_order w) r_step (Placed-point kept_order w is_event)
              (omega (arith, more, point_time w)),
        ))
      ]

      -- A write that is before the read by the times is before it by the indices.
      IsBefore-of_times : (w : MemoryEvent)
          → IsEvent x w
          → IsBefore x doneT reachedT w r
          → IsBefore x done_index reached_index w r
      IsBefore-of_times w is_event (inr po) = inr po
      IsBefore-of_times w is_event (inl early) =
          inl (turn_increases-time (point_of kept_order w) (step_of kept_order r) (Placed-point kept_order w is_event) r_step
          (omega (arith, early, point_time w)))

      -- Of two events, one that reaches memory no later by the times does so by the indices.
      reached_le-of_times : (w v : MemoryEvent)
          → IsEvent x w
          → IsEvent x v
          → reachedT w ≤ reachedT v
          → reached_index w ≤ reached_index v
      reached_le-of_times w v iw iv le = elim (cases_eq (reachedT w) (reachedT v)) [
        | inl same ↦ omega (arith, ap reached_index (timed.reached_injective w v iw iv same))
        | inr ne ↦
            (let up : reached_index w < reached_index v =
            turn_increases-time (point_of kept_order w) (point_of kept_order v) (Placed-point kept_order w iw)
            (Placed-point kept_order v iv) (omega (arith, le, ne, point_time w, point_time v)) in
            omega (arith, up))
      ]

      -- The newest write by the times is the newest by the indices.
      pub IsNewest-placed : (q : Option MemoryEvent)
          → IsNewest test x doneT reachedT r l q
          → IsNewest test x done_index reached_index r l q
      IsNewest-placed None new = λ w writing before. new w writing (IsBefore-of_indices w writing.is_event before)
      IsNewest-placed (Some v) new = record {
        write = new.write;
        is_before = IsBefore-of_times v new.write.is_event new.is_before;
        latest = λ w writing before.
            reached_le-of_times w v writing.is_event new.write.is_event
            (new.latest w writing (IsBefore-of_indices w writing.is_event before));
      }

    -- Of two events, the one that reaches memory earlier by the times does so by the indices.
    pub reached_lt-of_times : (w v : MemoryEvent)
        → IsEvent x w
        → IsEvent x v
        → reachedT w < reachedT v
        → reached_index w < reached_index v
    reached_lt-of_times w v iw iv less =
        turn_increases-time (point_of kept_order w) (point_of kept_order v) (Placed-point kept_order w iw)
        (Placed-point kept_order v iv) (omega (arith, less, point_time w, point_time v))
