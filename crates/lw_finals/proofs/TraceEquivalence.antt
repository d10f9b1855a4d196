-- Trace-equivalent orders of a path assignment's items reach the same outcome, in either language, if adjacent items that neither conflict
-- nor are preserved commute. SourceOutcomes and X86TraceEquivalence apply it to each language.
use Rattle.lw_finals.proofs.Common.{◌≡◌, ◌≢◌, ℕ, suc, ◌<◌, true, List, [], ◌∷◌, ◌++◌, length, refl, sym, ap}
use Rattle.lw_finals.proofs.Common.{◌∙◌, subst, inl, inr, arith, append_assoc, append-nil, length-append}
use Rattle.lw_finals.proofs.Common.{cases_order, Contains-append_right, FinalState, Language, Constraints}
use Rattle.lw_finals.proofs.Common.{index_in, IsOrder, IsLinearExtension, AreTraceEquivalent, AreDependent}
use Rattle.lw_finals.proofs.Common.{IsAdjacentSwap, index_in-order_split}
use Rattle.lw_finals.proofs.Common.{trace_equivalent_orders_are_connected, preserved-by_swaps, Item, item_at}
use Rattle.lw_finals.proofs.Common.{items_of, statement_of, items_conflict, constraints_of, AreOrdered}
use Rattle.lw_finals.proofs.Common.{HasOrdered-if_respected, Contains-conflict_pair, AreAscending-conflicts}
use Rattle.lw_finals.proofs.Common.{conflict_by-sym, ItemTransitionSystem, OrderRunsTo, FollowsPathsToEnd}

module _ {S : Type 0} (language : Language S) (program : List (List S)) (paths : List (List ℕ)) where
  -- The items of the path assignment.
  abbrev items : List Item
  items = items_of language program paths

  -- The items' preserved pairs and conflicts.
  abbrev constraints : Constraints
  constraints = constraints_of language program items

  -- The item at an index.
  abbrev nth_item : ℕ → Item
  nth_item i = item_at items i

  -- The list is an order of the items that respects the preserved pairs.
  abbrev RespectsPreservedPairs : List ℕ → Type 0
  RespectsPreservedPairs = IsLinearExtension constraints

  -- No preserved pair orders item x before item y.
  abbrev pub IsFree : ℕ → ℕ → Type 0
  IsFree x y = x < y → (nth_item x).thread ≡ (nth_item y).thread → AreOrdered language program (nth_item x) (nth_item y) → ⊥

  -- The items x and y neither conflict nor are preserved, and are adjacent in the order, x at index k.
  pub record Neighbours (order : List ℕ) (k x y : ℕ) : Type 0 where
    pub x_below : x < length items
    pub y_below : y < length items
    pub x_index : index_in order x ≡ k
    pub y_index : index_in order y ≡ suc k
    -- The two items differ.
    pub differ : x ≢ y
    pub no_conflict : items_conflict language program (nth_item x) (nth_item y) ≡ true → ⊥
    pub first_is_free : IsFree x y
    pub second_is_free : IsFree y x

  -- If two orders that respect the preserved pairs differ by a swap of adjacent independent items, these items neither conflict nor are preserved.
  Neighbours-of_swap : (xs ys : List ℕ)
      → RespectsPreservedPairs xs
      → RespectsPreservedPairs ys
      → (e : IsAdjacentSwap (AreDependent constraints) xs ys)
      → Neighbours xs (length e.front) e.x e.y
  Neighbours-of_swap xs ys ix iy e = record {
    x_below = indices_in_first.0;
    y_below = indices_in_first.1;
    x_index = indices_in_first.2;
    y_index = indices_in_first.3;
    differ = differ;
    no_conflict = λ c. elim (cases_order e.x e.y) [
      | inl same ↦ differ same
      | inr (inl less) ↦
          e.free (inl (Contains-append_right constraints.preserved constraints.conflicts (e.x, e.y)
          (Contains-conflict_pair language program items e.x e.y less indices_in_first.1 c)))
      | inr (inr more) ↦
          e.free (inr (Contains-append_right constraints.preserved _ (e.y, e.x)
          (Contains-conflict_pair language program items e.y e.x more indices_in_first.0
          (conflict_by-sym language (nth_item e.y).is_drain (nth_item e.x).is_drain (statement_of language program (nth_item e.y))
          (statement_of language program (nth_item e.x))
          ∙ c))))
    ];
    first_is_free = λ less same ordered. omega (
      arith,
      HasOrdered-if_respected language program paths ys iy.1 e.x e.y less indices_in_first.1 same ordered,
      indices_in_second.2,
      indices_in_second.3,
    );
    second_is_free = λ less same ordered. omega (
      arith,
      HasOrdered-if_respected language program paths xs ix.1 e.y e.x less indices_in_first.0 same ordered,
      indices_in_first.2,
      indices_in_first.3,
    );
  }
    where
      -- If an order is `front`, then x, y and the rest, the index of x is the length of `front`, and y is next.
      index_in-swapped_pair : (order front : List ℕ) (x y : ℕ) (rest : List ℕ)
          → IsOrder (length items) order
          → order ≡ front ++ x ∷ y ∷ rest
          → (x < length items) × (y < length items) × (index_in order x ≡ length front) × (index_in order y ≡ suc (length front))
      index_in-swapped_pair order front x y rest is split =
          let again = split ∙ sym (append_assoc front (x ∷ []) (y ∷ rest)) in
          let a = index_in-order_split (length items) x front (y ∷ rest) (subst (IsOrder (length items)) split is) in
          let b = index_in-order_split (length items) y _ rest (subst (IsOrder (length items)) again is) in (
            a.0,
            b.0,
            ap (λ zs. index_in zs x) split ∙ a.1,
            ap (λ zs. index_in zs y) again ∙ (b.1 ∙ omega (arith, length-append front (x ∷ []))),
          )

      -- The indices of the two items in the first order.
      indices_in_first : (e.x < length items)
          × (e.y < length items)
          × (index_in xs e.x ≡ length e.front)
          × (index_in xs e.y ≡ suc (length e.front))
      indices_in_first = index_in-swapped_pair xs e.front e.x e.y e.rest ix.0 e.old

      -- The indices of the two items in the second order.
      indices_in_second : (e.y < length items)
          × (e.x < length items)
          × (index_in ys e.y ≡ length e.front)
          × (index_in ys e.x ≡ suc (length e.front))
      indices_in_second = index_in-swapped_pair ys e.front e.y e.x e.rest iy.0 e.new

      -- The two swapped items differ, since they have different indices.
      differ : e.x ≢ e.y
      differ same = omega (arith, ap (index_in xs) same, indices_in_first.2, indices_in_first.3)

  -- If one of two trace-equivalent orders that respect the preserved pairs follows its paths, so does the other, with the same outcome.
  abbrev pub OrdersEndAlike : {State : Type 0} → ItemTransitionSystem State → Type 0
  OrdersEndAlike system =
      (xs ys : List ℕ) (o : FinalState)
      → RespectsPreservedPairs xs
      → RespectsPreservedPairs ys
      → AreTraceEquivalent constraints.conflicts xs ys
      → FollowsPathsToEnd system items xs o
      → FollowsPathsToEnd system items ys o

  -- An invariant after the first k items of an order are executed: the next item preserves it, and under it adjacent independent items
  -- commute.
  module _ {State : Type 0} (system : ItemTransitionSystem State) (Holds : List ℕ → ℕ → State → Type 0) where
    pub record CanExchange : Type 0 where
      pub first : (order : List ℕ) → Holds order 0 system.start
      pub next : (order : List ℕ)
          → RespectsPreservedPairs order
          → (k i : ℕ)
          → i < length items
          → index_in order i ≡ k
          → (s mid : State)
          → Holds order k s
          → system.Carried (nth_item i) s mid
          → Holds order (suc k) mid
      pub exchange : (order : List ℕ)
          → RespectsPreservedPairs order
          → (k x y : ℕ)
          → Neighbours order k x y
          → (s mid end : State)
          → Holds order k s
          → system.Carried (nth_item x) s mid
          → system.Carried (nth_item y) mid end
          → (other : State) × system.Carried (nth_item y) s other × system.Carried (nth_item x) other end

    module _ (can : CanExchange) where
      -- The items of an order, executed in sequence, lead from one state to another.
      abbrev Ran : List ℕ → State → State → Type 0
      Ran = OrderRunsTo system items

      -- If two orders that respect the preserved pairs differ by a swap of adjacent independent items, and the first leads to
      -- `end`, so does the second.
      Ran-after_swap : (xs ys : List ℕ)
          → RespectsPreservedPairs xs
          → RespectsPreservedPairs ys
          → IsAdjacentSwap (AreDependent constraints) xs ys
          → (end : State)
          → Ran xs system.start end
          → Ran ys system.start end
      Ran-after_swap xs ys ix iy e end ran =
          subst (λ zs. Ran zs system.start end) (sym e.new)
          (Ran-up_to_swap [] e.front system.start e.old refl (can.first xs) (subst (λ zs. Ran zs system.start end) e.old ran))
        where
          -- By induction on the items before the two adjacent ones.
          Ran-up_to_swap : (before front : List ℕ) (s : State)
              → xs ≡ before ++ (front ++ e.x ∷ e.y ∷ e.rest)
              → before ++ front ≡ e.front
              → Holds xs (length before) s
              → Ran (front ++ e.x ∷ e.y ∷ e.rest) s end
              → Ran (front ++ e.y ∷ e.x ∷ e.rest) s end
          Ran-up_to_swap before [] s split is holds (mid, one, (after, two, rest)) =
              let here : before ≡ e.front = sym (append-nil before) ∙ is in
              let o =
              can.exchange xs ix (length e.front) e.x e.y (Neighbours-of_swap xs ys ix iy e) s mid after
              (subst (λ (zs : List ℕ). Holds xs (length zs) s) here holds) one two in
              (o.0, o.1, (after, o.2, rest))
          Ran-up_to_swap before (i ∷ front) s split is holds (mid, one, rest) =
              let o =
              index_in-order_split (length items) i before (front ++ e.x ∷ e.y ∷ e.rest)
              (subst (IsOrder (length items)) split ix.0) in
              let there : index_in xs i ≡ length before = ap (λ zs. index_in zs i) split ∙ o.1 in
              let more : suc (length before) ≡ length (before ++ i ∷ []) = omega (arith, length-append before (i ∷ [])) in (
                mid,
                one,
                Ran-up_to_swap (before ++ i ∷ []) front mid
                    (split ∙ sym (append_assoc before (i ∷ []) (front ++ e.x ∷ e.y ∷ e.rest)))
                    (append_assoc before (i ∷ []) front ∙ is)
                    (subst (λ (k : ℕ). Holds xs k mid) more (can.next xs ix (length before) i o.0 there s mid holds one)) rest,
              )

      -- If adjacent items that neither conflict nor are preserved can be exchanged, trace-equivalent orders reach the same
      -- outcome.
      pub OrdersEndAlike-if_swaps : OrdersEndAlike system
      OrdersEndAlike-if_swaps xs ys o ix iy alike r =
          let joined =
          trace_equivalent_orders_are_connected constraints (AreAscending-conflicts language program items) xs ys ix iy alike in
          let ran =
          preserved-by_swaps constraints (λ zs. Ran zs system.start r.end)
          (λ us vs iu iv e run. Ran-after_swap us vs iu iv e r.end run) xs ys ix joined r.ran in
          record { end = r.end; ran = ran; final = r.final; outcome_is = r.outcome_is }
