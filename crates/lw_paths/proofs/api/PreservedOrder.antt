-- What the preserved pairs order: of two items of a thread the first precedes the second if it is a statement, or if the second is a drain or
-- waits for drains. And an order with all these pairs respects the preserved pairs. Both hold of every transitive relation.
use Rattle.lw_paths.proofs.Common.{◌≡◌, ℕ, ◌<◌, ◌==◌, ◌⊎◌, inl, inr, List, length, Bool, true, false}
use Rattle.lw_paths.proofs.Common.{true≢false, refl, sym, ◌∙◌, arith, All, cases_eq, cases_Bool, and_parts}
use Rattle.lw_paths.proofs.Common.{eqb-true, eq-eqb, All-contains, Before, Respects, Item, Language, item_at}
use Rattle.lw_paths.proofs.Common.{items_of, needs_earlier_drains, is_preserved, pairs_from, constraints_of}
use Rattle.lw_paths.proofs.Drains.{IsStatementOf, IsStatementOf-before_drain}
use Rattle.lw_paths.proofs.api.PreservedPairs.{Contains-preserved_pair}
use Rattle.lw_paths.proofs.api.PairRanges.{IsPairInRange, All-passing, IsPairInRange-pairs_from}

module _ {S : Type 0} (language : Language S) (program : List (List S)) where
  -- Of two items of a thread the first is ordered before the second: it is a statement, or the second is a drain or waits for drains.
  abbrev pub AreOrdered : Item → Item → Type 0
  AreOrdered a b = a.is_drain ≡ true → (b.is_drain ≡ true) ⊎ (needs_earlier_drains language program b ≡ true)

  -- R relates the indices of any two items of one thread that are `AreOrdered`.
  abbrev pub HasOrdered : (ℕ → ℕ → Type 0) → List Item → Type 0
  HasOrdered R items =
      (i j : ℕ)
      → i < j
      → j < length items
      → (item_at items i).thread ≡ (item_at items j).thread
      → AreOrdered (item_at items i) (item_at items j)
      → R i j

  -- ---- two items
  module _ (a b : Item) where
    -- If two items are in preserved order, they are of one thread, and the first is ordered before the second.
    AreOrdered-if_preserved : is_preserved language program a b ≡ true → (a.thread ≡ b.thread) × AreOrdered a b
    AreOrdered-if_preserved e =
        (let (same, kinds) = and_parts (a.thread == b.thread) _ e in (
          eqb-true a.thread b.thread same,
          λ d. elim (cases_Bool b.is_drain) [ inl drain ↦ inl drain | inr statement ↦ inr (rw (d, statement) at kinds) ],
        ))

    -- If two items of one thread are statements, they are in preserved order.
    is_preserved-statements : a.thread ≡ b.thread
        → a.is_drain ≡ false
        → b.is_drain ≡ false
        → is_preserved language program a b ≡ true
    is_preserved-statements same_thread d e = rw (eq-eqb a.thread b.thread same_thread, d, e) refl

    -- If a is the statement of b, which is its drain, they are in preserved order.
    is_preserved-store_and_drain : IsStatementOf a b → b.is_drain ≡ true → is_preserved language program a b ≡ true
    is_preserved-store_and_drain store e =
        rw (eq-eqb a.thread b.thread store.thread, store.statement, e, eq-eqb a.position b.position store.position) refl

    -- If two items of one thread are drains, they are in preserved order.
    is_preserved-drains : a.thread ≡ b.thread → a.is_drain ≡ true → b.is_drain ≡ true → is_preserved language program a b ≡ true
    is_preserved-drains same_thread d e = rw (eq-eqb a.thread b.thread same_thread, d, e) refl

    -- If a is a drain, and b a statement of its thread that waits for drains, they are in preserved order.
    is_preserved-drain_and_waiting : a.thread ≡ b.thread
        → a.is_drain ≡ true
        → b.is_drain ≡ false
        → needs_earlier_drains language program b ≡ true
        → is_preserved language program a b ≡ true
    is_preserved-drain_and_waiting same_thread d e waits = rw (eq-eqb a.thread b.thread same_thread, d, e, waits) refl

  -- ---- the items of a path assignment
  module _ (paths : List (List ℕ)) where
    -- The items of the path assignment.
    abbrev items : List Item
    items = items_of language program paths

    -- The item at an index.
    abbrev at : ℕ → Item
    at i = item_at items i

    -- R is transitive, and relates the preserved pairs of the items.
    module _ (R : ℕ → ℕ → Type 0) (transitive : (i j k : ℕ) → R i j → R j k → R i k)
        (has : All (λ p. R p.0 p.1) (constraints_of language program items).preserved) where
      -- If two ascending items are in preserved order, R relates them, since they are a preserved pair.
      related : (i j : ℕ) → i < j → j < length items → is_preserved language program (at i) (at j) ≡ true → R i j
      related i j less in_range preserved =
          All-contains (λ p. R p.0 p.1) _ (i, j) has (Contains-preserved_pair language program items i j less in_range preserved)

      -- By whether each of two ascending items of a thread that are ordered is a drain: R relates them. A store whose drain
      -- follows is related to that drain by way of its own.
      related-by_kinds : (d e : Bool) (i j : ℕ)
          → (at i).is_drain ≡ d
          → (at j).is_drain ≡ e
          → i < j
          → j < length items
          → (at i).thread ≡ (at j).thread
          → AreOrdered (at i) (at j)
          → R i j
      related-by_kinds false false i j d e less in_range same ordered =
          related i j less in_range (is_preserved-statements (at i) (at j) same d e)
      related-by_kinds true true i j d e less in_range same ordered =
          related i j less in_range (is_preserved-drains (at i) (at j) same d e)
      related-by_kinds true false i j d e less in_range same ordered = elim (ordered d) [
        | inl drain ↦ absurd (true≢false (sym drain ∙ e))
        | inr waits ↦ related i j less in_range (is_preserved-drain_and_waiting (at i) (at j) same d e waits)
      ]
      related-by_kinds false true i j d e less in_range same ordered =
          let (m, next, store) = IsStatementOf-before_drain language program paths j in_range e in
          let own = related m j (omega arith) in_range (is_preserved-store_and_drain (at m) (at j) store e) in
          elim (cases_eq i m) [
            | inl is ↦ rw is own
            | inr ne ↦
                transitive i m j
                (related i m (omega arith) (omega arith)
                (is_preserved-statements (at i) (at m) (same ∙ sym store.thread) d store.statement)) own
          ]

      -- If a transitive relation relates the preserved pairs, it relates all ordered items.
      pub HasOrdered-if_preserved_related : HasOrdered R items
      HasOrdered-if_preserved_related i j = related-by_kinds (at i).is_drain (at j).is_drain i j refl refl

    -- If an order respects the preserved pairs, it has all ordered items in order.
    pub HasOrdered-if_respected : (order : List ℕ)
        → Respects (constraints_of language program items).preserved order
        → HasOrdered (Before order) items
    HasOrdered-if_respected order keeps = HasOrdered-if_preserved_related (Before order) (λ i j k a b. omega (arith, a, b)) keeps

  -- If a relation of indices relates all ordered items, it relates the preserved pairs.
  pub All-preserved_related : (R : ℕ → ℕ → Type 0) (items : List Item)
      → HasOrdered R items
      → All (λ p. R p.0 p.1) (constraints_of language program items).preserved
  All-preserved_related R items has =
      All-passing (λ p. is_preserved language program (item_at items p.0) (item_at items p.1)) (IsPairInRange 0 (length items))
      (λ p. R p.0 p.1) (pairs_from 0 (length items)) (IsPairInRange-pairs_from 0 (length items)) (λ p within preserved.
      (let (same, ordered) = AreOrdered-if_preserved (item_at items p.0) (item_at items p.1) preserved in
      has p.0 p.1 within.1 (omega (arith, within.2)) same ordered))

  -- If an order has all ordered items in order, it respects the preserved pairs.
  pub Respects-if_ordered : (items : List Item) (order : List ℕ)
      → HasOrdered (Before order) items
      → Respects (constraints_of language program items).preserved order
  Respects-if_ordered items order = All-preserved_related (Before order) items
