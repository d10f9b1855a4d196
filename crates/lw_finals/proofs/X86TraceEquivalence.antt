-- Trace-equivalent orders of the items of an x86 test reach the same outcome over flat memory. One premise of
-- `CompleteLists`: adjacent items that are not ordered are independent events, which commute.
use Rattle.lw_finals.proofs.Common.{IsWellScopedProgram, ◌≡◌, ℕ, suc, ◌<◌, false, true≢false, List, []}
use Rattle.lw_finals.proofs.Common.{length, Some, sym, ap, ◌∙◌, inl, inr, option_map_or, cases_order}
use Rattle.lw_finals.proofs.Common.{thread_code, flat_memory, index_in, IsLinearExtension, MachineState}
use Rattle.lw_finals.proofs.Common.{EventsCommute-independent, Instr, x86_language, X86Test, JumpsForward}
use Rattle.lw_finals.proofs.Common.{IsPathAssignment, Item, item_at, items_of, statement_of}
use Rattle.lw_finals.proofs.Common.{statement_needs_empty_buffer, constraints_of, IsItemOnPath}
use Rattle.lw_finals.proofs.Common.{IsItemOnPath-of_member, thread_rank, item_slot-increasing}
use Rattle.lw_finals.proofs.Common.{item_slot-store_before_drain, index_lt-if_rank_lt, AreOrdered}
use Rattle.lw_finals.proofs.Common.{JumpsForward-thread, event_of, X86ItemTransition, x86_item_system}
use Rattle.lw_finals.proofs.api.Waiting.{DrainsOldest, waits_after}
use Rattle.lw_finals.proofs.TraceEquivalence.{Neighbours, OrdersEndAlike, OrdersEndAlike-if_swaps}
use Rattle.lw_finals.proofs.api.X86Waiting.{AllBuffersHoldStores, AllBuffersHoldStores-after_item}
use Rattle.lw_finals.proofs.api.X86Waiting.{AllBuffersHoldStores-start, CarriedItem, ItemStep-of_transition}
use Rattle.lw_finals.proofs.api.X86Prefix.{AreWaitingStores, AreWaitingStores-start, DrainsOldest-at_turn}
use Rattle.lw_finals.proofs.api.X86Prefix.{AreWaitingStores-next}
use Rattle.lw_finals.proofs.X86Swap.{IsUnpreservedPair, AreIndependent-unpreserved_items}

module _ (program : List (List Instr)) (forward : (u : ℕ) → JumpsForward x86_language (thread_code program u))
    (paths : List (List ℕ)) (assignment : IsPathAssignment x86_language program paths) where
  -- The items of the path assignment.
  abbrev items : List Item
  items = items_of x86_language program paths

  -- The item at an index.
  abbrev nth_item : ℕ → Item
  nth_item i = item_at items i

  -- The list is an order of the items that respects the preserved pairs.
  abbrev RespectsPreservedPairs : List ℕ → Type 0
  RespectsPreservedPairs = IsLinearExtension (constraints_of x86_language program items)

  -- The buffers hold these stores, which wait after the first k items of the order.
  pub record HoldsWaitingStores (order : List ℕ) (k : ℕ) (pending : ℕ → List ℕ) (s : MachineState (List ℕ)) : Type 0 where
    pub waiting : AreWaitingStores program forward paths assignment order k pending
    pub hold : AllBuffersHoldStores program pending s

  -- The item i of an order leads from s to `mid`: it is an instruction, or the drain of the store that has waited longest. Then the buffers
  -- hold the stores that wait after one more item.
  pub record ItemTurn (order : List ℕ) (k i : ℕ) (pending : ℕ → List ℕ) (s mid : MachineState (List ℕ)) : Type 0 where
    pub instr : Instr
    pub statement : statement_of x86_language program (nth_item i) ≡ Some instr
    pub did : CarriedItem program (nth_item i) s mid
    pub head : DrainsOldest (nth_item i).is_drain (nth_item i).position (pending (nth_item i).thread)
    pub reached : HoldsWaitingStores order (suc k) (waits_after x86_language program (nth_item i) pending) mid

  -- If the waiting stores are known after the first k items of an order, and its item i at index k leads from s to `mid`, this
  -- is the item's turn.
  ItemTurn-of_transition : (order : List ℕ)
      → RespectsPreservedPairs order
      → (k i : ℕ)
      → i < length items
      → index_in order i ≡ k
      → (pending : ℕ → List ℕ) (s mid : MachineState (List ℕ))
      → HoldsWaitingStores order k pending s
      → X86ItemTransition flat_memory program (nth_item i) s mid
      → ItemTurn order k i pending s mid
  ItemTurn-of_transition order is k i in_range there pending s mid r done =
      let at_i : IsItemOnPath x86_language program paths (nth_item i) =
      IsItemOnPath-of_member x86_language program paths i in_range in
      let c : CarriedItem program (nth_item i) s mid =
      ItemStep-of_transition program (nth_item i).thread (nth_item i).position (nth_item i).is_drain s mid done in
      let climbs = (r.hold (nth_item i).thread c.old c.was).climbs in
      record {
        instr = at_i.statement;
        statement = at_i.at;
        did = c;
        head =
            DrainsOldest-at_turn program forward paths assignment order is k c.old.position i pending r.waiting climbs in_range
            there;
        reached = record {
          waiting =
              AreWaitingStores-next _ forward _ assignment order is k c.old.position i pending r.waiting climbs in_range there;
          hold = AllBuffersHoldStores-after_item program forward (nth_item i) at_i.statement pending s mid c at_i.at r.hold;
        };
      }

  -- If two adjacent items of an order that neither conflict nor are preserved are of one thread, they are an unpreserved pair.
  IsUnpreservedPair-neighbours : (order : List ℕ) (k x y : ℕ)
      → Neighbours x86_language program paths order k x y
      → (h : Instr)
      → statement_of x86_language program (nth_item y) ≡ Some h
      → (nth_item x).thread ≡ (nth_item y).thread
      → IsUnpreservedPair (nth_item x).is_drain (nth_item y).is_drain h (nth_item x).position (nth_item y).position
  IsUnpreservedPair-neighbours order k x y n h is same = record {
    kinds_differ = λ kind. elim (cases_order x y) [
      | inl is ↦ n.differ is
      | inr (inl less) ↦ n.first_is_free less same (λ d. inl (sym kind ∙ d))
      | inr (inr more) ↦ n.second_is_free more (sym same) (λ d. inl (kind ∙ d))
    ];
    others =
        λ dx dy p.
        not-ordered_neighbours
        (item_slot-store_before_drain (nth_item x).is_drain (nth_item y).is_drain (nth_item x).position (nth_item y).position dx
        dy p) (λ d. absurd (true≢false (sym d ∙ dx)));
    no_wait =
        λ dx dy less w.
        not-ordered_neighbours
        (item_slot-increasing (nth_item x).is_drain (nth_item y).is_drain (nth_item x).position (nth_item y).position less)
        (λ d. inr (ap (λ o. option_map_or (statement_needs_empty_buffer x86_language) o false) is ∙ w));
  }
    where
      -- No preserved pair orders the two items.
      not-ordered_neighbours : thread_rank (nth_item x) < thread_rank (nth_item y)
          → AreOrdered x86_language program (nth_item x) (nth_item y)
          → ⊥
      not-ordered_neighbours less =
          n.first_is_free (index_lt-if_rank_lt x86_language program paths forward assignment x y n.x_below same less) same

  -- If two adjacent items neither conflict nor are preserved, and lead in sequence from s to `end`, they do so in the other
  -- order too.
  X86ItemTransition-swap : (order : List ℕ)
      → RespectsPreservedPairs order
      → (k x y : ℕ)
      → Neighbours x86_language program paths order k x y
      → (pending : ℕ → List ℕ) (s mid end : MachineState (List ℕ))
      → HoldsWaitingStores order k pending s
      → X86ItemTransition flat_memory program (nth_item x) s mid
      → X86ItemTransition flat_memory program (nth_item y) mid end
      → (other : MachineState (List ℕ))
      × X86ItemTransition flat_memory program (nth_item y) s other
      × X86ItemTransition flat_memory program (nth_item x) other end
  X86ItemTransition-swap order is k x y n pending s mid end r one two =
      let u : ItemTurn order k x pending s mid = ItemTurn-of_transition order is k x n.x_below n.x_index pending s mid r one in
      let v =
      ItemTurn-of_transition order is (suc k) y n.y_below n.y_index (waits_after x86_language program (nth_item x) pending) mid
      end u.reached two in
      let free =
      AreIndependent-unpreserved_items program pending s mid end (nth_item x) (nth_item y) u.instr v.instr
      (record { instr_at = u.statement; hold = r.hold; oldest = u.head; carried = u.did })
      (record { instr_at = v.statement; hold = u.reached.hold; oldest = v.head; carried = v.did }) n.no_conflict
      (IsUnpreservedPair-neighbours order k x y n v.instr v.statement) in
      EventsCommute-independent program (event_of (nth_item x)) (event_of (nth_item y)) s free (nth_item x).position
      (nth_item y).position mid end one two

-- If two orders of a well-scoped x86 test's items that respect the preserved pairs are trace-equivalent, they reach the same
-- outcome over flat memory.
pub OrdersEndAlike-x86 : (test : X86Test) (paths : List (List ℕ))
    → IsWellScopedProgram test
    → IsPathAssignment x86_language test.threads paths
    → OrdersEndAlike x86_language test.threads paths (x86_item_system flat_memory test test.head.init_words)
OrdersEndAlike-x86 test paths well_scoped assignment =
    let forward : (u : ℕ) → JumpsForward x86_language (thread_code test.threads u) =
    JumpsForward-thread x86_language test well_scoped in
    OrdersEndAlike-if_swaps x86_language test.threads paths (x86_item_system flat_memory test test.head.init_words)
    (λ order k s. (pending : ℕ → List ℕ) × HoldsWaitingStores test.threads forward paths assignment order k pending s) (record {
      first = λ order. (
        (λ u. []),
        record {
          waiting = AreWaitingStores-start test.threads forward paths assignment order;
          hold = AllBuffersHoldStores-start test test.head.init_words;
        },
      );
      next = λ order is k i l there s mid r out. (
        waits_after x86_language test.threads (item_at (items_of x86_language test.threads paths) i) r.0,
        (ItemTurn-of_transition test.threads forward paths assignment order is k i l there r.0 s mid r.1 out).reached,
      );
      exchange = λ order is k x y n s mid end r.
          X86ItemTransition-swap test.threads forward paths assignment order is k x y n r.0 s mid end r.1;
    })
