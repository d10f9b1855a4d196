-- The items that an item reaches, from those that its successors reach. Lemmas for the loops of `reached` and
-- `reached_from`, which go from the highest item down.
use Rattle.lw_orders.proofs.Common.{most_items, ℕ, zero, suc, ◌≡◌, ◌<◌, ◌≤◌, List, sym, ◌∙◌, inl, inr, ◌⊎◌}
use Rattle.lw_orders.proofs.Common.{arith, or_left, or_right, and_parts, ne_eqb, eq-eqb, refl, true, false}
use Rattle.lw_orders.proofs.Common.{not, ◌&&◌, ◌||◌, eqb, Decides, cases_eq, or_cases, nat_tests}
use Rattle.lw_orders.proofs.Common.{All-contains, AreAscending, Walk, has, has_edge, reaches_in}
use Rattle.lw_orders.proofs.Common.{IsReachedFrom}
use Rattle.lw_orders.proofs.Walks.{has_edge-inv, has_edge-of_member}

-- The invariant of the loop that computes what an item reaches: `set` has what was found so far. The item's successors in `left` are still
-- to be visited; the lowest of them is `next`.
pub record IsReaching (item len steps : ℕ) (sets : List ℕ) (set left next : ℕ) : Type 0 where
  pub itself : has set item ≡ true
  pub has_reached_or_left : (k j : ℕ)
      → k < len
      → j < most_items
      → has steps k ≡ true
      → reaches_in sets k j ≡ true
      → (has left k ≡ true) ⊎ (has set j ≡ true)
  pub nothing_else : (j : ℕ)
      → j < most_items
      → has set j ≡ true
      → (item ≡ j) ⊎ ((k : ℕ) × (k < len) × (has steps k ≡ true) × (reaches_in sets k j ≡ true))
  pub left_are_steps : (k : ℕ) → k < most_items → has left k ≡ true → has steps k ≡ true
  pub below : (k : ℕ) → k < next → has left k ≡ false
  pub lowest : next < most_items → has left next ≡ true

-- If the set has only the item itself, and every successor is still to be visited, of which `next` is the lowest, the invariant
-- holds.
pub IsReaching-start : {len steps : ℕ} {sets : List ℕ} (item set none next : ℕ)
    → item < most_items
    → ((k : ℕ) → k < most_items → has set k ≡ (eqb k item || has none k))
    → ((k : ℕ) → k < most_items → has none k ≡ false)
    → ((k : ℕ) → k < next → has steps k ≡ false)
    → (next < most_items → has steps next ≡ true)
    → IsReaching item len steps sets set steps next
IsReaching-start item set none next l with empty below lowest = record {
  itself = grind (arith, nat_tests, with item l);
  has_reached_or_left = λ k j lk lj s r. inl s;
  nothing_else = λ j lj e. inl (grind (arith, nat_tests, with j lj, empty j lj));
  left_are_steps = λ k lk s. s;
  below = below;
  lowest = lowest;
}

module _ {item len steps : ℕ} {sets : List ℕ} {set left next : ℕ} (few : len ≤ most_items) (low : item < most_items)
    (r : IsReaching item len steps sets set left next) where
  -- If no successor is left (`next` is past the last item), the set has all that the item reaches.
  pub IsReachedFrom-end : len ≤ next → IsReachedFrom item len steps sets set
  IsReachedFrom-end end = record {
    itself = r.itself;
    has_reached = λ k j lk lj s t.
        elim (r.has_reached_or_left k j lk lj s t) [ inl h ↦ cc (r.below k (omega (arith, lk, end)), h) | inr h ↦ h ];
    nothing_else = r.nothing_else;
  }

  module _ (more rest further : ℕ) (more_is : next < len)
      (join : (k : ℕ) → k < most_items → has more k ≡ (has set k || reaches_in sets next k))
      (drop_next : (k : ℕ) → k < most_items → has rest k ≡ (not (eqb k next) && has left k))
      (below : (k : ℕ) → k < further → has rest k ≡ false) (lowest : further < most_items → has rest further ≡ true) where
    -- If the successor `next` is visited and its set joined, the invariant holds of the remaining successors.
    pub IsReaching-next : IsReaching item len steps sets more rest further
    IsReaching-next = record {
      itself = join item low ∙ or_left _ _ r.itself;
      has_reached_or_left = λ k j lk lj s t. elim (r.has_reached_or_left k j lk lj s t) [
        | inl h ↦ elim (cases_eq k next) [
          | inl e ↦ inr (join j lj ∙ or_right _ _ (rw e at t))
          | inr ne ↦ inl (drop_next k (omega (arith, lk, few)) ∙ rw (ne_eqb k next ne, h) refl)
        ]
        | inr h ↦ inr (join j lj ∙ or_left _ _ h)
      ];
      nothing_else = λ j lj e. elim (or_cases (has set j) (reaches_in sets next j) (sym (join j lj) ∙ e)) [
        | inl h ↦ r.nothing_else j lj h
        | inr h ↦
            inr (next, more_is, r.left_are_steps next (omega (arith, more_is, few)) (r.lowest (omega (arith, more_is, few))), h)
      ];
      left_are_steps = λ k lk h. r.left_are_steps k lk (and_parts _ _ (sym (drop_next k lk) ∙ h)).1;
      below = below;
      lowest = lowest;
    }

    -- The following successor is higher than `next`: so the loop ends.
    pub next_lt_further : next < further
    next_lt_further = grind (arith, eq-eqb further next, drop_next further, r.below further)

-- If the sets of the items after `item` say which items walks from them reach, so does the set computed for `item` from its
-- successors.
pub Decides-set_of_steps : {item len set_of steps : ℕ} {sets : List ℕ} (preserved : List (ℕ × ℕ))
    → AreAscending len preserved
    → len ≤ most_items
    → ((k : ℕ) → k < most_items → has steps k ≡ has_edge preserved item k)
    → IsReachedFrom item len steps sets set_of
    → (j : ℕ)
    → j < len
    → ((k : ℕ) → item < k → k < len → Decides (reaches_in sets k j) ((m : ℕ) × Walk preserved m k j))
    → Decides (has set_of j) ((m : ℕ) × Walk preserved m item j)
Decides-set_of_steps {item = item} {len = len} {set_of = set_of} preserved up len_le says r j lj above = (
  λ e. elim (r.nothing_else j (omega (arith, lj, len_le)) e) [
    | inl q ↦ (0, q)
    | inr (k, lk, s, l) ↦
        (let c = has_edge-inv preserved item k (sym (says k (omega (arith, lk, len_le))) ∙ s) in
        let (m, w) = (above k (All-contains (λ p. (p.0 < p.1) × (p.1 < len)) preserved (item, k) up c).0 lk).0 l in
        (suc m, (k, c, w)))
  ],
  λ w. has-of_walk w.0 w.1,
)
  where
    -- The set has what a walk from the item reaches.
    has-of_walk : (m : ℕ) → Walk preserved m item j → has set_of j ≡ true
    has-of_walk zero e = rw (← e) r.itself
    has-of_walk (suc m) (k, c, w) =
        let (a, b) = All-contains (λ p. (p.0 < p.1) × (p.1 < len)) preserved (item, k) up c in
        r.has_reached k j b (omega (arith, lj, len_le))
        (says k (omega (arith, b, len_le)) ∙ has_edge-of_member preserved item k c) ((above k a b).1 (m, w))
