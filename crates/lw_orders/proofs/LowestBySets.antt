-- The lowest order as the code computes it with sets of bits: in each turn it searches for the lowest minimal
-- item. Then the tables used. Lemmas for `greedy.rt` and `adjacency.rt`.
use Rattle.lw_orders.proofs.Common.{most_items, ℕ, zero, suc, ◌≡◌, ◌+◌, ◌-◌, ◌^◌, ◌<◌, ◌≤◌, List, [], ◌∷◌}
use Rattle.lw_orders.proofs.Common.{◌++◌, length, get_or, set, take, ap, sym, ◌∙◌, refl, subst, inl, inr}
use Rattle.lw_orders.proofs.Common.{arith, Bool, true, false, not, ◌&&◌, ◌||◌, eqb, ltb, Option, Some, None}
use Rattle.lw_orders.proofs.Common.{Contains, filter, option_map, option_and_then, find, eq-eqb, eqb-true}
use Rattle.lw_orders.proofs.Common.{lt-ltb, length-take, get_or-take, append_assoc, Decides, cases_eq}
use Rattle.lw_orders.proofs.Common.{cases_Bool, false_from_ne_true, both_ways, nat_tests, same_from_decides}
use Rattle.lw_orders.proofs.Common.{take_more_set, get_or_append_left, All-contains, Contains-get_or}
use Rattle.lw_orders.proofs.Common.{list_any-append, AllPass-from_list_all, list_all-from_AllPass}
use Rattle.lw_orders.proofs.Common.{option_map_id, bit_at-zero, Walk, without, is_minimal, greedy_order}
use Rattle.lw_orders.proofs.Common.{lowest_order, indices, has, are_disjoint, has_edge, ArePredecessors}
use Rattle.lw_orders.proofs.Common.{reaches_in, AreGraphTables, IsBlocked, Narrowed, IsFound}
use Rattle.lw_orders.proofs.LowestOrder.{is_in}
use Rattle.lw_orders.proofs.Walks.{has_edge-inv, has_edge-of_member, closure-edge}
use Rattle.lw_orders.proofs.Bits.{not-both_if_disjoint, bit_and-zero}

-- ---- the numbers from k up that satisfy p
module _ (p : ℕ → Bool) where
  -- For a number of the range, the list of its numbers that satisfy p has it if and only if it satisfies p.
  is_in-indices : (k n i : ℕ) → k ≤ i → i < k + n → is_in (filter p (indices k n)) i ≡ p i
  is_in-indices k zero i a b = absurd (omega arith)
  is_in-indices k (suc n) i a b = elim (cases_eq k i) [
    | inl e ↦ rw (← e) (elim (cases_Bool (p k)) [
      | inl y ↦ rw (y, eq-eqb k k refl) refl
      | inr f ↦ rw f (is_in-false_below (suc k) n k (omega arith))
    ])
    | inr ne ↦ grind (arith, nat_tests, is_in-indices (suc k) n i)
  ]
    where
      -- A number below the range is not in the list.
      is_in-false_below : (k n i : ℕ) → i < k → is_in (filter p (indices k n)) i ≡ false
      is_in-false_below k zero i l = refl
      is_in-false_below k (suc n) i l = grind (arith, nat_tests, is_in-false_below (suc k) n i)

  -- If all numbers of the range satisfy p, the list is the whole range.
  filter_all : (k n : ℕ) → ((i : ℕ) → k ≤ i → i < k + n → p i ≡ true) → filter p (indices k n) ≡ indices k n
  filter_all k zero all = refl
  filter_all k (suc n) all = grind (arith, all k, filter_all (suc k) n (λ i a b. all i (omega arith) (omega arith)))

  -- If q and p have the same value on the range, the lists are the same.
  filter_same : (q : ℕ → Bool) (k n : ℕ)
      → ((i : ℕ) → k ≤ i → i < k + n → q i ≡ p i)
      → filter q (indices k n) ≡ filter p (indices k n)
  filter_same q k zero same = refl
  filter_same q k (suc n) same = grind (arith, same k, filter_same q (suc k) n (λ i a b. same i (omega arith) (omega arith)))

  -- If x satisfies p, and q is satisfied by the same numbers of the range except x, the list of those that satisfy q is that of
  -- those that satisfy p, without x.
  filter-without : (q : ℕ → Bool) (x k n : ℕ)
      → p x ≡ true
      → ((i : ℕ) → k ≤ i → i < k + n → q i ≡ (not (eqb i x) && p i))
      → filter q (indices k n) ≡ without (filter p (indices k n)) x
  filter-without q x k zero e same = refl
  filter-without q x k (suc n) e same = elim (cases_eq k x) [
    | inl kx ↦ grind (arith, nat_tests, same k, filter_same q (suc k) n (λ i a b. grind (arith, nat_tests, same i)))
    | inr ne ↦ grind (arith, nat_tests, same k, filter-without q x (suc k) n e (λ i a b. same i (omega arith) (omega arith)))
  ]

  -- If i satisfies p and passes a test, and no lower number that satisfies p passes it, then i is the first number that is
  -- found.
  find-lowest_passing : (test : ℕ → Bool) (k n i : ℕ)
      → k ≤ i
      → i < k + n
      → p i ≡ true
      → test i ≡ true
      → ((j : ℕ) → j < i → p j ≡ true → test j ≡ false)
      → find test (filter p (indices k n)) ≡ Some i
  find-lowest_passing test k zero i a b pi ti none = absurd (omega arith)
  find-lowest_passing test k (suc n) i a b pi ti none = grind (arith, cases_eq k i, none k, find-lowest_passing test (suc k) n i)

  -- If no number that satisfies p passes a test, none is found.
  find-none_passing : (test : ℕ → Bool) (k n : ℕ)
      → ((j : ℕ) → j < k + n → p j ≡ true → test j ≡ false)
      → find test (filter p (indices k n)) ≡ None
  find-none_passing test k zero none = refl
  find-none_passing test k (suc n) none = grind (arith, none k, find-none_passing test (suc k) n (λ j l. none j (omega arith)))

-- ---- the candidates: what a blocked candidate reaches is no longer a candidate
module _ {len : ℕ} {predecessors reach : List ℕ} {left old mid : ℕ} (new item : ℕ) (few : len ≤ most_items) (l : item < len)
    (narrowed : Narrowed len predecessors reach left old mid) (is_candidate : has mid item ≡ true)
    (says : (k : ℕ) → k < most_items → has new k ≡ (has mid k && not (has (get_or reach item 0) k))) where
  -- If the candidate `item` is blocked, the candidates without all that it reaches are narrowed too.
  pub Narrowed-next : IsBlocked predecessors left item → Narrowed len predecessors reach left old new
  Narrowed-next w = record {
    among_old = λ k lk h. narrowed.among_old k lk (grind (arith, says k lk));
    dropped = λ k lk was gone. elim (cases_Bool (has mid k)) [
      | inl e ↦ (item, l, narrowed.among_old item (omega (arith, l, few)) is_candidate, w, grind (arith, says k lk))
      | inr a ↦ narrowed.dropped k lk was a
    ];
  }

  -- The next lowest candidate is higher than `item`, since that reaches itself and was dropped: so the search ends.
  pub lowest-increases : (next width : ℕ)
      → len ≤ width
      → ((k : ℕ) → k < item → has mid k ≡ false)
      → reaches_in reach item item ≡ true
      → (next < width → has new next ≡ true)
      → item < next
  lowest-increases next width wide below itself lowest = grind (arith, below next, says next)

-- ---- the items of a set

-- The items of a set below a bound, in ascending order.
abbrev pub items_below : ℕ → ℕ → List ℕ
items_below len left = filter (has left) (indices 0 len)

-- The loop's invariant: `items` starts with the items taken, one for each turn, in sequence, and `left` has the rest. Every item left is a
-- candidate or blocked; and every item that an item left reaches is left.
pub record TakenSoFar (pairs : List (ℕ × ℕ)) (len : ℕ) (predecessors reach items : List ℕ)
    (left candidates turn : ℕ) : Type 0 where
  pub so_far : lowest_order len pairs
      ≡ option_map (λ xs. take turn items ++ xs) (greedy_order (len - turn) pairs (items_below len left))
  pub inside : (k : ℕ) → k < most_items → has candidates k ≡ true → has left k ≡ true
  pub waiting : (k : ℕ) → k < len → has left k ≡ true → has candidates k ≡ false → IsBlocked predecessors left k
  pub closed : (i j : ℕ) → i < len → j < len → has left i ≡ true → reaches_in reach i j ≡ true → has left j ≡ true

-- If every item is left and a candidate, the invariant holds before the first turn.
pub TakenSoFar-start : {len : ℕ} {predecessors reach items : List ℕ} (pairs : List (ℕ × ℕ)) (left : ℕ)
    → len ≤ most_items
    → ((k : ℕ) → k < most_items → has left k ≡ ltb k len)
    → TakenSoFar pairs len predecessors reach items left left 0
TakenSoFar-start {len = len} pairs left len_le below =
    let all : items_below len left ≡ indices 0 len =
    filter_all (has left) 0 len (λ k a b. below k (omega arith) ∙ lt-ltb k len (omega arith)) in
    record {
      so_far =
          rw (all, (let e : len - 0 ≡ len = omega arith in e)) (sym (option_map_id (greedy_order len pairs (indices 0 len))));
      inside = λ k l h. h;
      waiting = λ k l h n. absurd (both_ways (has left k) n h);
      closed = λ i j li lj h r. below j (omega arith) ∙ lt-ltb j len lj;
    }

-- To put x before a list and `front` before both is to put `front ++ [x]` before the list.
option_map-push : (front : List ℕ) (x : ℕ) (more : List ℕ) (o : Option (List ℕ))
    → more ≡ front ++ x ∷ []
    → option_map (λ xs. front ++ xs) (option_map (λ xs. x ∷ xs) o) ≡ option_map (λ xs. more ++ xs) o
option_map-push front x more None e = refl
option_map-push front x more (Some xs) e = ap Some (sym (ap (λ ys. ys ++ xs) e ∙ append_assoc front (x ∷ []) xs))

module _ {pairs : List (ℕ × ℕ)} {len : ℕ} {predecessors reach neighbours items : List ℕ} {left candidates turn : ℕ}
    (few : len ≤ most_items) (fits : left < 2 ^ most_items) (l : turn < len)
    (tables : AreGraphTables len pairs predecessors reach neighbours)
    (so : TakenSoFar pairs len predecessors reach items left candidates turn) where
  -- No item that is left is a predecessor of i: i is minimal.
  abbrev NoneLeads : ℕ → Type 0
  NoneLeads i = (j : ℕ) → j < len → Contains pairs (j, i) → has left j ≡ true → ⊥

  -- For an item i in range, the code's test whether its predecessors are disjoint from those left decides whether i is minimal.
  Decides-are_disjoint : (i : ℕ) → i < len → Decides (are_disjoint (get_or predecessors i 0) left) (NoneLeads i)
  Decides-are_disjoint i li = (
    λ e j lj c h.
        not-both_if_disjoint (get_or predecessors i 0) left j (eqb-true _ 0 e)
        (tables.sets_are_predecessors i j li (omega (arith, lj, few)) ∙ has_edge-of_member pairs j i c) h,
    λ none. eq-eqb _ 0 (bit_and-zero (get_or predecessors i 0) left fits (λ j lj hr hl.
        (let c = has_edge-inv pairs j i (sym (tables.sets_are_predecessors i j li lj) ∙ hr) in
        none j (closure-edge tables.closes j i c).0 c hl))),
  )

  -- Tests that a pair is not from an item left to the item i.
  abbrev avoids_edge_from_left : ℕ → ℕ × ℕ → Bool
  avoids_edge_from_left i p = not (eqb p.1 i && is_in (items_below len left) p.0)

  -- The definition's test `is_minimal` decides whether i is minimal.
  Decides-is_minimal : (i : ℕ) → Decides (is_minimal pairs (items_below len left) i) (NoneLeads i)
  Decides-is_minimal i = (
    λ e j lj c h.
        (let t : avoids_edge_from_left i (j, i) ≡ true =
        All-contains (λ p. avoids_edge_from_left i p ≡ true) pairs (j, i)
        (AllPass-from_list_all (avoids_edge_from_left i) pairs e) c in
        grind (arith, nat_tests, is_in-indices (has left) 0 len j)),
    λ none.
        list_all-from_AllPass (avoids_edge_from_left i) pairs
        (λ k z lk. avoids_edge_from_left-if_none_leads (get_or pairs k z) (λ j. none j) (Contains-get_or pairs k z lk)),
  )
    where
      -- If i is minimal, each of the pairs is no pair from an item left to i.
      avoids_edge_from_left-if_none_leads : (p : ℕ × ℕ) → NoneLeads i → Contains pairs p → avoids_edge_from_left i p ≡ true
      avoids_edge_from_left-if_none_leads p none is_member = elim (cases_eq p.1 i) [
        | inl e ↦
            (let lp = (closure-edge tables.closes p.0 p.1 is_member).0 in
            let out = false_from_ne_true (has left p.0) (none p.0 lp (subst (λ i. Contains pairs (p.0, i)) e is_member)) in
            grind (arith, nat_tests, is_in-indices (has left) 0 len p.0))
        | inr ne ↦ grind (arith, nat_tests)
      ]

  -- For an item i in range, the definition's test `is_minimal` has the same value as the code's test.
  is_minimal-are_disjoint : (i : ℕ)
      → i < len
      → is_minimal pairs (items_below len left) i ≡ are_disjoint (get_or predecessors i 0) left
  is_minimal-are_disjoint i li = same_from_decides _ _ (Decides-is_minimal i) (Decides-are_disjoint i li)

  -- If an item i that is left reaches k, then k is blocked, provided that it is blocked if it is i itself.
  IsBlocked-reached : (m i k : ℕ)
      → i < len
      → Walk pairs m i k
      → has left i ≡ true
      → (i ≡ k → IsBlocked predecessors left k)
      → IsBlocked predecessors left k
  IsBlocked-reached zero i k li e is_candidate w = w e
  IsBlocked-reached (suc m) i k li (h, c, walk) is_candidate w =
      let (_, lh, on, _) = closure-edge tables.closes i h c in
      IsBlocked-reached m h k lh walk (so.closed i h li lh is_candidate on)
      (λ e. subst (IsBlocked predecessors left) e (false_from_ne_true (are_disjoint (get_or predecessors h 0) left)
      (λ a. (Decides-are_disjoint h lh).0 a i li c is_candidate)))

  module _ {narrow : ℕ} (narrowed : Narrowed len predecessors reach left candidates narrow) where
    -- An item left that is no candidate is blocked.
    IsBlocked-no_candidate : (k : ℕ) → k < len → has left k ≡ true → has narrow k ≡ false → IsBlocked predecessors left k
    IsBlocked-no_candidate k lk is_candidate gone = elim (cases_Bool (has candidates k)) [
      | inl e ↦
          (let (i, li, was, w, r) = narrowed.dropped k (omega (arith, lk, few)) e gone in
          let (m, walk) = (tables.closes.walks i k li lk).0 r in
          IsBlocked-reached m i k li walk (so.inside i (omega (arith, li, few)) was)
          (λ e. subst (IsBlocked predecessors left) e w))
      | inr n ↦ so.waiting k lk is_candidate n
    ]

    -- The lowest order is that of the items taken, then the minimal item o that is found among those left, and then the greedy
    -- order of the others; it is `None` if no item is found.
    lowest_order-turn : (o : Option ℕ)
        → find (is_minimal pairs (items_below len left)) (items_below len left) ≡ o
        → lowest_order len pairs
        ≡ option_map (λ xs. take turn items ++ xs)
        (option_and_then
        (λ x. option_map (λ xs. x ∷ xs) (greedy_order (len - (turn + 1)) pairs (without (items_below len left) x))) o)
    lowest_order-turn o e =
        so.so_far
        ∙ (ap (λ n. option_map (λ xs. take turn items ++ xs) (greedy_order n pairs (items_below len left)))
        (let q : len - turn ≡ suc (len - (turn + 1)) = omega arith in q)
        ∙ ap (λ f.
        option_map (λ xs. take turn items ++ xs)
        (option_and_then
        (λ x. option_map (λ xs. x ∷ xs) (greedy_order (len - (turn + 1)) pairs (without (items_below len left) x))) f)) e)

    -- If no candidate is found, no item is minimal, so there is no order.
    pub TakenSoFar-none : IsFound len predecessors left narrow None → lowest_order len pairs ≡ None
    TakenSoFar-none none =
        lowest_order-turn None (find-none_passing (has left) (is_minimal pairs (items_below len left)) 0 len (λ k lk is_candidate.
        is_minimal-are_disjoint k (omega arith) ∙ IsBlocked-no_candidate k (omega arith) is_candidate (none k (omega arith))))

    -- If a candidate is found, it is the lowest minimal item, and the turn takes it.
    module _ (item : ℕ) (found : IsFound len predecessors left narrow (Some item)) (room : length items ≡ most_items) (next : ℕ)
        (cleared : (k : ℕ) → k < most_items → has next k ≡ (not (eqb k item) && has left k)) where
      -- The item that is found is left.
      item_is_left : has left item ≡ true
      item_is_left = so.inside item (omega (arith, found.0, few)) (narrowed.among_old item (omega (arith, found.0, few)) found.1)

      -- After the turn, the lowest order is made of the items taken, with this one, and of the order of the items then left.
      lowest_order-so_far_next : lowest_order len pairs
          ≡ option_map (λ xs. take (turn + 1) (set items turn item) ++ xs)
          (greedy_order (len - (turn + 1)) pairs (items_below len next))
      lowest_order-so_far_next =
          lowest_order-turn (Some item)
          (find-lowest_passing (has left) (is_minimal pairs (items_below len left)) 0 len item (omega arith)
          (omega (arith, found.0)) item_is_left (is_minimal-are_disjoint item found.0 ∙ found.2) (λ k lk e.
          is_minimal-are_disjoint k (omega (arith, lk, found.0))
          ∙ IsBlocked-no_candidate k (omega (arith, lk, found.0)) e (found.3 k lk)))
          ∙ (option_map-push (take turn items) item (take (turn + 1) (set items turn item))
          (greedy_order (len - (turn + 1)) pairs (without (items_below len left) item))
          (take_more_set items turn item (omega (arith, room, l, few)))
          ∙ ap (λ xs. option_map (λ ys. take (turn + 1) (set items turn item) ++ ys) (greedy_order (len - (turn + 1)) pairs xs))
          (sym (filter-without (has left) (has next) item 0 len item_is_left (λ k a b. cleared k (omega (arith, b, few))))))

      -- An item that is blocked, and no neighbour of the item taken, is blocked after the turn.
      IsBlocked-after_turn : (k : ℕ)
          → k < len
          → IsBlocked predecessors left k
          → reaches_in neighbours item k ≡ false
          → IsBlocked predecessors next k
      IsBlocked-after_turn k lk w away =
          false_from_ne_true (are_disjoint (get_or predecessors k 0) next)
          (λ e.
          both_ways (are_disjoint (get_or predecessors k 0) left) w
          (eq-eqb _ 0 (bit_and-zero (get_or predecessors k 0) left fits (λ j lj hr hl. elim (cases_eq j item) [
            | inl q ↦
                (let c = has_edge-inv pairs j k (sym (tables.sets_are_predecessors k j lk lj) ∙ hr) in
                both_ways (reaches_in neighbours item k) away
                (rw (← q) (All-contains (λ p. reaches_in neighbours p.0 p.1 ≡ true) pairs (j, k) tables.pairs_are_edges c)))
            | inr ne ↦
                not-both_if_disjoint (get_or predecessors k 0) next j (eqb-true _ 0 e) hr (grind (arith, nat_tests, cleared j lj))
          ]))))

      -- The invariant holds in the next turn, if its candidates are those left over, and the neighbours of the item taken that
      -- are left.
      pub TakenSoFar-next : (more : ℕ)
          → ((k : ℕ) → k < most_items → has more k ≡ ((has narrow k || reaches_in neighbours item k) && has next k))
          → TakenSoFar pairs len predecessors reach (set items turn item) next more (turn + 1)
      TakenSoFar-next more says = record {
        so_far = lowest_order-so_far_next;
        inside = λ k lk h. grind (arith, says k lk);
        waiting = λ k lk h gone.
            (let s = says k (omega (arith, lk, few)) in
            let c = cleared k (omega (arith, lk, few)) in
            IsBlocked-after_turn k lk (IsBlocked-no_candidate k lk (grind arith) (grind arith)) (grind arith));
        closed = λ i j li lj h r.
            (let c = cleared i (omega (arith, li, few)) in
            let is_candidate' : has left i ≡ true = grind arith in
            let (m, walk) = (tables.closes.walks i j li lj).0 r in
            let other : j ≡ item → ⊥ = λ q.
            both_ways (are_disjoint (get_or predecessors item 0) left)
            (IsBlocked-reached m i item li (subst (Walk pairs m i) q walk) is_candidate' (λ e. absurd (grind (arith, nat_tests))))
            found.2 in
            let still = so.closed i j li lj is_candidate' r in
            grind (arith, nat_tests, cleared j (omega (arith, lj, few))));
      }

-- If `first` has the predecessors by the pairs xs, and `second` has these and the predecessors by ys, then `second` has those
-- by both.
pub ArePredecessors-append : (n : ℕ) (first second : List ℕ) (xs ys : List (ℕ × ℕ))
    → ArePredecessors n xs first
    → ((i j : ℕ) → i < n → j < most_items → has (get_or second i 0) j ≡ (has (get_or first i 0) j || has_edge ys j i))
    → ArePredecessors n (xs ++ ys) second
ArePredecessors-append n first second xs ys are more i j li lj =
    more i j li lj ∙ (ap (λ x. x || has_edge ys j i) (are i j li lj) ∙ sym (list_any-append (λ p. eqb p.0 j && eqb p.1 i) xs ys))

-- If all sets of a table are empty, they are the predecessors by no pairs.
pub ArePredecessors-empty : (none : List ℕ)
    → ((i : ℕ) → i < most_items → get_or none i 0 ≡ 0)
    → ArePredecessors most_items [] none
ArePredecessors-empty none zero' i j li lj = ap (λ n. has n j) (zero' i li) ∙ ap (λ n. eqb n 1) (bit_at-zero j)

-- If `front` is the first `len` sets of `before`, then reading `front` and `rest` at an index below `len` gives the set of
-- `before`.
pub get_or-copied_set : (len i : ℕ) (before front rest : List ℕ)
    → i < len
    → len ≤ length before
    → front ≡ take len before
    → get_or (front ++ rest) i 0 ≡ get_or before i 0
get_or-copied_set len i before front rest l long e =
    ap (λ xs. get_or (xs ++ rest) i 0) e
    ∙ (get_or_append_left (take len before) rest 0 i (omega (arith, length-take len before)) ∙ get_or-take len before i 0 l)
