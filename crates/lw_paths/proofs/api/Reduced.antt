-- The reduced pairs are equivalent to all preserved pairs: a transitive relation has the reduced pairs if and only if it has all.
-- So the same orders respect them, and they have the same closure.
use Rattle.lw_paths.proofs.Common.{◌≡◌, ℕ, zero, suc, ◌<◌, ◌≤◌, ◌⊎◌, ◌↔◌, inl, inr, List, [], length, Option}
use Rattle.lw_paths.proofs.Common.{Some, None, Bool, true, false, refl, sym, ap, ◌∙◌, arith, All, cases_eq}
use Rattle.lw_paths.proofs.Common.{All-head, Before, IsOrderedByPath, IsLinearExtension, All-parts, Leads}
use Rattle.lw_paths.proofs.Common.{LeadsAlong-refl, Leads-trans, IsOrderedByPath-along}
use Rattle.lw_paths.proofs.Common.{orientation_count-same_closure, orientation_count, Item, LastItems}
use Rattle.lw_paths.proofs.Common.{Language, item_at, items_of, edge_from, reduced_at, record_last}
use Rattle.lw_paths.proofs.Common.{needs_earlier_drains, constraints_of, reduced_constraints_of}
use Rattle.lw_paths.proofs.api.ReducedPairs.{last_of_thread-same, last_by, thread_upto, last_upto, last_at}
use Rattle.lw_paths.proofs.api.ReducedPairs.{reduced-at, All-reduced_pairs, AreAscending-reduced}
use Rattle.lw_paths.proofs.api.PreservedOrder.{HasOrdered, HasOrdered-if_preserved_related}
use Rattle.lw_paths.proofs.api.PreservedOrder.{All-preserved_related}
use Rattle.lw_paths.proofs.api.PreservedPairs.{AreAscending-preserved}
use Rattle.lw_paths.proofs.api.Numbering.{thread_le-index}

module _ {S : Type 0} (language : Language S) (program : List (List S)) where
  -- ---- a transitive relation that has the reduced pairs has all ordered pairs
  module _ (R : ℕ → ℕ → Type 0) (transitive : (i j k : ℕ) → R i j → R j k → R i k) where
    -- The item i reaches the optional item: it is that item, or R relates it to it. Nothing reaches `None`.
    abbrev Reaches : ℕ → Option ℕ → Type 0
    Reaches i None = ⊥
    Reaches i (Some m) = (i ≡ m) ⊎ R i m

    -- The two items of a pair are related.
    abbrev Related : ℕ × ℕ → Type 0
    Related p = R p.0 p.1

    -- If item i reaches the optional item q, and R relates the pair of q with n, then R relates i to n.
    related-if_reaches_edge : (q : Option ℕ) (n i : ℕ) → All Related (edge_from q n) → Reaches i q → R i n
    related-if_reaches_edge None n i kept h = absurd h
    related-if_reaches_edge (Some m) n i kept (inl same) = rw same (All-head Related (m, n) [] kept)
    related-if_reaches_edge (Some m) n i kept (inr h) = transitive i m n h (All-head Related (m, n) [] kept)

    -- If R relates the reduced pairs of item n, and i reaches the last statement (or, if n is a drain or waits for drains, the
    -- last drain), then R relates i to n.
    related-if_reaches_last : (is_drain waits of_drains : Bool) (last : LastItems) (n i : ℕ)
        → All Related (reduced_at is_drain waits last n)
        → (of_drains ≡ true → (is_drain ≡ true) ⊎ (waits ≡ true))
        → Reaches i (last_by of_drains last)
        → R i n
    related-if_reaches_last false false false last n i kept ordered h = related-if_reaches_edge last.statement n i kept h
    related-if_reaches_last false false true last n i kept ordered h = elim (ordered refl) [ inl e ↦ cc | inr e ↦ cc ]
    related-if_reaches_last _ _ false last n i kept ordered h = related-if_reaches_edge _ n i (All-parts Related _ _ kept).0 h
    related-if_reaches_last _ _ true last n i kept ordered h =
        related-if_reaches_edge last.drain n i (All-parts Related _ _ kept).1 h

    module _ (all : List Item) where
      -- The item at an index.
      abbrev at : ℕ → Item
      at i = item_at all i

      module _ (up : (i j : ℕ) → i ≤ j → j < length all → (at i).thread ≤ (at j).thread)
          (has : All Related (reduced_constraints_of language program all).preserved) where
        -- Each item of the thread before index n reaches the last statement or the last drain.
        abbrev Covers : ℕ → ℕ → LastItems → Type 0
        Covers n t last = (b : Bool) (i : ℕ) → i < n → (at i).thread ≡ t → (at i).is_drain ≡ b → Reaches i (last_by b last)

        -- If the claim holds before index n of the thread of the item before n, it holds there of the thread of item n.
        Covers-thread_of_item : (n : ℕ)
            → n < length all
            → Covers n (thread_upto all n) (last_upto all n)
            → Covers n (at n).thread (last_at all n)
        Covers-thread_of_item zero in_range c b i less same is = absurd (omega arith)
        Covers-thread_of_item (suc n) in_range c b i less same is =
            let e : (at n).thread ≡ (at (suc n)).thread =
            omega (arith, up i n (omega arith) (omega arith), up n (suc n) (omega arith) in_range, same) in
            rw (last_of_thread-same (at n).thread (at (suc n)).thread (last_upto all (suc n)) e) (c b i less (same ∙ sym e) is)

        -- If i is n, or is related to n if it is of n's kind, or reaches the last item of its own kind before n, then it
        -- reaches the last item of its kind after n is recorded.
        Covers-next : (n_is_drain i_is_drain : Bool) (n i : ℕ) (last : LastItems)
            → (at n).is_drain ≡ n_is_drain
            → (i ≡ n → i_is_drain ≡ n_is_drain)
            → (i_is_drain ≡ n_is_drain → (i ≡ n → ⊥) → R i n)
            → ((i ≡ n → ⊥) → Reaches i (last_by i_is_drain last))
            → Reaches i (last_by i_is_drain (record_last n_is_drain last n))
        Covers-next true true n i last is own before old = elim (cases_eq i n) [ inl e ↦ inl e | inr ne ↦ inr (before refl ne) ]
        Covers-next false false n i last is own before old = elim (cases_eq i n) [ inl e ↦ inl e | inr ne ↦ inr (before refl ne) ]
        Covers-next true false n i last is own before old = old (λ e. cc (own e))
        Covers-next false true n i last is own before old = old (λ e. cc (own e))

        -- Before each index n the claim holds of the thread of the item before n.
        covers : (n : ℕ) → n ≤ length all → Covers n (thread_upto all n) (last_upto all n)
        covers zero l b i less same is = absurd (omega arith)
        covers (suc n) l b i less same is =
            let there = Covers-thread_of_item n (omega arith) (covers n (omega arith)) in
            Covers-next (at n).is_drain b n i (last_at all n) refl (λ e. sym is ∙ ap (λ k. (at k).is_drain) e) (λ same_kind ne.
            related-if_reaches_last (at n).is_drain _ b (last_at all n) n i
            (reduced-at all language program Related has n (omega arith)) (λ drain. inl (sym same_kind ∙ drain))
            (there b i (omega arith) same is)) (λ ne. there b i (omega arith) same is)

        -- R, which is transitive and relates the reduced pairs, relates all ordered items.
        reduced_ordered : HasOrdered language program R all
        reduced_ordered i j less l same ordered =
            related-if_reaches_last (at j).is_drain (needs_earlier_drains language program (at j)) (at i).is_drain (last_at all j)
            j i (reduced-at all language program Related has j l) ordered
            (Covers-thread_of_item j l (covers j (omega arith)) (at i).is_drain i less same refl)

      -- If R relates all ordered items, it relates the reduced pairs.
      has_reduced : HasOrdered language program R all → All Related (reduced_constraints_of language program all).preserved
      has_reduced has =
          All-reduced_pairs all language program Related
          (λ b m n less l same is ordered. has m n less l same (λ drain. ordered (sym is ∙ drain)))

  -- ---- a path assignment
  module _ (paths : List (List ℕ)) where
    -- The items of the path assignment.
    abbrev items : List Item
    items = items_of language program paths

    module _ (R : ℕ → ℕ → Type 0) (transitive : (i j k : ℕ) → R i j → R j k → R i k) where
      -- If a transitive relation relates the reduced pairs, it relates all preserved pairs.
      all_from_reduced : All (λ p. R p.0 p.1) (reduced_constraints_of language program items).preserved
          → All (λ p. R p.0 p.1) (constraints_of language program items).preserved
      all_from_reduced has =
          All-preserved_related language program R items
          (reduced_ordered R transitive items (thread_le-index language program paths) has)

      -- If a transitive relation relates all preserved pairs, it relates the reduced pairs.
      reduced_from_all : All (λ p. R p.0 p.1) (constraints_of language program items).preserved
          → All (λ p. R p.0 p.1) (reduced_constraints_of language program items).preserved
      reduced_from_all has =
          has_reduced R transitive items (HasOrdered-if_preserved_related language program paths R transitive has)

    -- An order respects the reduced pairs if and only if it respects all preserved pairs.
    pub IsLinearExtension-reduced_iff : (order : List ℕ)
        → IsLinearExtension (reduced_constraints_of language program items) order
        ↔ IsLinearExtension (constraints_of language program items) order
    IsLinearExtension-reduced_iff order = (
      λ is. (is.0, all_from_reduced (Before order) (λ i j k a b. omega (arith, a, b)) is.1),
      λ is. (is.0, reduced_from_all (Before order) (λ i j k a b. omega (arith, a, b)) is.1),
    )

    -- All preserved pairs of the path assignment's items.
    abbrev preserved : List (ℕ × ℕ)
    preserved = (constraints_of language program items).preserved

    -- The reduced preserved pairs of these items.
    abbrev reduced : List (ℕ × ℕ)
    reduced = (reduced_constraints_of language program items).preserved

    -- Each reduced pair is a walk along all preserved pairs.
    Leads-reduced_along_preserved : All (λ p. Leads preserved p.0 p.1) reduced
    Leads-reduced_along_preserved = reduced_from_all (Leads preserved) (Leads-trans preserved) (LeadsAlong-refl preserved)

    -- Each preserved pair is a walk along the reduced ones.
    Leads-preserved_along_reduced : All (λ p. Leads reduced p.0 p.1) preserved
    Leads-preserved_along_reduced = all_from_reduced (Leads reduced) (Leads-trans reduced) (LeadsAlong-refl reduced)

    -- A path of reduced pairs orders a pair if and only if a path of preserved pairs does.
    pub IsOrderedByPath-reduced_iff : (p : ℕ × ℕ) → IsOrderedByPath reduced p ↔ IsOrderedByPath preserved p
    IsOrderedByPath-reduced_iff p = (
      IsOrderedByPath-along preserved reduced Leads-reduced_along_preserved p,
      IsOrderedByPath-along reduced preserved Leads-preserved_along_reduced p,
    )

    -- With the reduced pairs there are as many orientations as with all preserved pairs.
    pub orientation_count-reduced : orientation_count (reduced_constraints_of language program items)
        ≡ orientation_count (constraints_of language program items)
    orientation_count-reduced =
        orientation_count-same_closure (reduced_constraints_of language program items) (constraints_of language program items)
        (AreAscending-reduced language program items) (AreAscending-preserved language program items)
        Leads-reduced_along_preserved Leads-preserved_along_reduced refl

  -- If the items are those of a path assignment, there are as many orientations with the reduced pairs as with all preserved
  -- pairs.
  pub orientation_count-reduced_items : (given : List Item) (paths : List (List ℕ))
      → given ≡ items_of language program paths
      → orientation_count (reduced_constraints_of language program given)
      ≡ orientation_count (constraints_of language program given)
  orientation_count-reduced_items given paths are = rw are (orientation_count-reduced paths)
