-- The search's invariant: its start, one step, and the number of orientations that one call tries. For
-- `Orders::with_unordered` and, by `OneCall`, for `next`.
use Rattle.lw_orders.proofs.Common.{most_items, ℕ, zero, suc, ◌≡◌, ◌+◌, ◌-◌, ◌*◌, ◌<◌, ◌≤◌, List, [], ◌∷◌}
use Rattle.lw_orders.proofs.Common.{◌++◌, length, get_or, take, replicate, ap, sym, ◌∙◌, refl, subst, inl}
use Rattle.lw_orders.proofs.Common.{inr, arith, ◌⊎◌, All, Bool, true, false, cond, Option, Some, None}
use Rattle.lw_orders.proofs.Common.{unwrap_or, append_assoc, append-nil, length-set, take_all, take-take}
use Rattle.lw_orders.proofs.Common.{length-take-le, get_or-set_same, get_or-set_other, get_or-take, cases_eq}
use Rattle.lw_orders.proofs.Common.{cases_lt, take-set, take_more, take_more_set, take-set-le, get_or_past}
use Rattle.lw_orders.proofs.Common.{get_or-replicate, length-replicate, All-append, All-cons, All-nil}
use Rattle.lw_orders.proofs.Common.{All-drop, All-head, All-tail, Respects, All-push, lowest_order}
use Rattle.lw_orders.proofs.Common.{AreInRange, has, reaches_in, ArePredecessors, EdgesAreIn, AreNeighbours}
use Rattle.lw_orders.proofs.Common.{Reaches, IsAcyclicClosure, SearchState, reverse_if, ReversesLast}
use Rattle.lw_orders.proofs.Common.{oriented, search_from, after_reversals, from_reversals, IsChosen, pair_at}
use Rattle.lw_orders.proofs.Common.{reach, CanBeSearched, IsSearchState, HasSearchTables, remaining_orders}
use Rattle.lw_orders.proofs.SearchTree.{oriented-push, from_reversals-push_false, after_reversals-push_false}
use Rattle.lw_orders.proofs.SearchTree.{after_reversals-push_true, from_reversals-all_oriented}
use Rattle.lw_orders.proofs.SearchTree.{from_reversals-no_order}
use Rattle.lw_orders.proofs.Walks.{closure-antisym}
use Rattle.lw_orders.proofs.GrowingClosure.{IsAcyclicClosure-start, IsAcyclicClosure-push}
use Rattle.lw_orders.proofs.GrowingClosure.{not-Before-if_reached_back, lowest_order-if_acyclic}
use Rattle.lw_orders.proofs.api.Complete.{All-parts, IsWithin, IsAscendingPair, Respects-push_inv}

-- The number of orientations that one call tries is at most 3 k, for k unordered pairs. At first the call may go up, from a reversed pair
-- that closes a cycle to the pair before it, and tries one orientation for each pair that it leaves. After the first orientation choice it goes
-- down, and tries at most two for each pair: if the first closes a cycle, the second does not.
abbrev pub Phase : List (ℕ × ℕ) → SearchState → Option ℕ → ℕ → Type 0
Phase unordered s None tried = tried ≤ 3 * length unordered
Phase unordered s (Some level) tried =
    ((get_or s.reversals level false ≡ true) × (tried + level + 1 ≤ length unordered))
    ⊎ ((tried ≤ length unordered + 2 * level + cond (get_or s.reversals level false) 1 0)
    × (get_or s.reversals level false ≡ true
    → reach s.saved level (get_or unordered level (0, 0)).1 (get_or unordered level (0, 0)).0 ≡ true))

-- ---- after some reversals
module _ (reversals : List Bool) (ps : List (ℕ × ℕ)) (long : length reversals ≡ length ps) where
  -- If the reversal at k is w, the first k + 1 reversals are the first k and then w.
  take_reversals-suc : (k : ℕ) (w : Bool)
      → k < length ps
      → get_or reversals k false ≡ w
      → take (k + 1) reversals ≡ take k reversals ++ w ∷ []
  take_reversals-suc k w in_range e = take_more reversals k false (omega (arith, long)) ∙ ap (λ v. take k reversals ++ v ∷ []) e

  -- If there are at least k pairs, the first k reversals are k in number.
  length_take-reversals : (k : ℕ) → k ≤ length ps → length (take k reversals) ≡ k
  length_take-reversals k l = length-take-le k reversals (omega (arith, long))

module _ (len : ℕ) (graph ps : List (ℕ × ℕ)) (reversals : List Bool) (long : length reversals ≡ length ps) where
  -- The orders that come after those whose first k reversals are these.
  abbrev orders_after : ℕ → List (List ℕ)
  orders_after k = after_reversals len graph ps (take k reversals)

  -- If the pair at k is reversed, the orders after the first k + 1 reversals are those after the first k.
  orders_after-reversed : (k : ℕ) → k < length ps → get_or reversals k false ≡ true → orders_after (k + 1) ≡ orders_after k
  orders_after-reversed k in_range on =
      ap (after_reversals len graph ps) (take_reversals-suc reversals ps long k true in_range on)
      ∙ after_reversals-push_true len graph ps (take k reversals)
      (omega (arith, length_take-reversals reversals ps long k (omega arith)))

  -- If the d pairs from `from` on are reversed, the orders after the reversals up to `upto` are those after the first `from`.
  orders_after-all_reversed : (d from upto : ℕ)
      → from + d ≡ upto
      → upto ≤ length ps
      → ((k : ℕ) → from ≤ k → k < upto → get_or reversals k false ≡ true)
      → orders_after upto ≡ orders_after from
  orders_after-all_reversed zero from upto e l all = let same : upto ≡ from = omega arith in ap orders_after same
  orders_after-all_reversed (suc d) from upto e l all =
      orders_after-all_reversed d (from + 1) upto (omega arith) l (λ k a b. all k (omega arith) b)
      ∙ orders_after-reversed from (omega arith) (all from (omega arith) (omega arith))

  -- If the last pair not yet reversed, among the first `upto`, is reversed, the remaining orders are those that come after all orders with
  -- these first reversals: the later pairs were reversed already.
  pub remaining_orders-reversed_last : (next : List Bool) (upto : ℕ) (found : Option ℕ)
      → upto ≤ length ps
      → ReversesLast reversals next upto found
      → remaining_orders found len graph ps next ≡ orders_after upto
  remaining_orders-reversed_last next upto None l (same, all) =
      sym (orders_after-all_reversed upto 0 upto (omega arith) l (λ k a b. all k b))
  remaining_orders-reversed_last next upto (Some i) l (li, off, is, on) =
      let now : take (i + 1) next ≡ take i reversals ++ true ∷ [] =
      ap (take (i + 1)) is ∙ take_more_set reversals i true (omega (arith, li, l, long)) in
      let was : take (i + 1) reversals ≡ take i reversals ++ false ∷ [] =
      take_reversals-suc reversals ps long i false (omega (arith, li, l)) off in
      let other_reversal : after_reversals len graph ps (take i reversals ++ false ∷ [])
      ≡ from_reversals len graph ps (take i reversals ++ true ∷ []) =
      after_reversals-push_false len graph ps (take i reversals)
      (omega (arith, li, l, length_take-reversals reversals ps long i (omega (arith, li, l)))) in
      let rest_turned : orders_after upto ≡ orders_after (i + 1) =
      orders_after-all_reversed (upto - (i + 1)) (i + 1) upto (omega (arith, li)) l (λ k a b. on k (omega arith) b) in
      ap (from_reversals len graph ps) now
      ∙ (sym other_reversal ∙ (sym (ap (after_reversals len graph ps) was) ∙ sym rest_turned))

-- ---- the search state

-- The first i of the oriented pairs are the pairs oriented by the first i reversals.
take-oriented : (i : ℕ) (ps : List (ℕ × ℕ)) (ws : List Bool) → oriented ps (take i ws) ≡ take i (oriented ps ws)
take-oriented zero [] ws = refl
take-oriented zero (p ∷ ps) ws = refl
take-oriented (suc i) [] ws = refl
take-oriented (suc i) (p ∷ ps) [] = refl
take-oriented (suc i) (p ∷ ps) (w ∷ ws) = ap (λ xs. reverse_if w p ∷ xs) (take-oriented i ps ws)

-- If P holds of each pair in both orientations, it holds of the oriented pairs.
All-oriented : (P : ℕ × ℕ → Type 0) (ps : List (ℕ × ℕ)) (ws : List Bool)
    → All (λ p. P p × P (p.1, p.0)) ps
    → All P (oriented ps ws)
All-oriented P [] ws all = All-nil P
All-oriented P (p ∷ ps) [] all = All-nil P
All-oriented P (p ∷ ps) (w ∷ ws) all =
    All-cons P (reverse_if w p) _ (reverse_if-both w (All-head (λ p. P p × P (p.1, p.0)) p ps all))
    (All-oriented P ps ws (All-tail (λ p. P p × P (p.1, p.0)) p ps all))
  where
    -- If P holds of the pair and of its reverse, it holds of the pair reversed or not (w).
    reverse_if-both : (w : Bool) → P p × P (p.1, p.0) → P (reverse_if w p)
    reverse_if-both false h = h.0
    reverse_if-both true h = h.1

-- If the last unreversed pair of the first `upto` is reversed, the reversals before it and their number are unchanged, and it
-- is below `upto`.
ReversesLast-front_unchanged : (reversals next : List Bool) (upto : ℕ) (found : Option ℕ)
    → ReversesLast reversals next upto found
    → (length next ≡ length reversals)
    × (take (unwrap_or found 0) next ≡ take (unwrap_or found 0) reversals)
    × (unwrap_or found 0 ≤ upto - 1)
ReversesLast-front_unchanged reversals next upto None (same, all) = (ap length same, ap (take 0) same, omega arith)
ReversesLast-front_unchanged reversals next upto (Some i) (li, off, is, on) =
    (ap length is ∙ length-set reversals i true, ap (take i) is ∙ take-set reversals i true, omega arith)

module _ {len : ℕ} {preserved unordered : List (ℕ × ℕ)} {s : SearchState} {level : ℕ}
    (st : IsSearchState len preserved unordered s level) where
  -- If the last unreversed pair up to this level is reversed, the invariant holds at that pair; if there is none, the search
  -- has ended, and the invariant holds at the first pair.
  pub IsSearchState-after_reversal : (next : List Bool) (upto : ℕ) (found : Option ℕ)
      → upto ≤ level + 1
      → ReversesLast s.reversals next upto found
      → IsSearchState len preserved unordered (record { reversals = next; chosen = s.chosen; saved = s.saved })
      (unwrap_or found 0)
  IsSearchState-after_reversal next upto found l turn =
      let (long, same, low) = ReversesLast-front_unchanged s.reversals next upto found turn in
      let i : ℕ = unwrap_or found 0 in
      record {
        can = st.can;
        reversals_long = long ∙ st.reversals_long;
        chosen_long = st.chosen_long;
        saved_long = st.saved_long;
        level_in = omega (arith, low, st.level_in);
        reversals_chosen =
            sym (take-take i level s.chosen (omega (arith, low)))
            ∙ (ap (take i) st.reversals_chosen
            ∙ (sym (take-oriented i unordered (take level s.reversals))
            ∙ ap (oriented unordered) (take-take i level s.reversals (omega (arith, low)) ∙ sym same)));
        closed = λ k lk. st.closed k (omega (arith, lk, low));
      }

  -- At a leaf every pair has its orientation: the only order there comes first, and then those after it.
  module _ (leaf : level ≡ length unordered) where
    -- All orientations are chosen.
    all_chosen : take level s.chosen ≡ s.chosen
    all_chosen = take_all level s.chosen (omega (arith, st.chosen_long, leaf))

    -- From this level on, the first reversals are all reversals.
    all_reversals : (k : ℕ) → level ≤ k → take k s.reversals ≡ s.reversals
    all_reversals k l = take_all k s.reversals (omega (arith, st.reversals_long, leaf))

    -- The orientations chosen are those of the reversals.
    chosen-oriented : s.chosen ≡ oriented unordered s.reversals
    chosen-oriented = sym all_chosen ∙ (st.reversals_chosen ∙ ap (oriented unordered) (all_reversals _ (omega arith)))

    -- The saved sets are the acyclic closure of the preserved pairs and all orientations chosen.
    pub IsAcyclicClosure-at_leaf : IsAcyclicClosure len (preserved ++ s.chosen) (reaches_in (get_or s.saved level []))
    IsAcyclicClosure-at_leaf = rw all_chosen at (st.closed level (omega arith))

    -- The orientations chosen are of items in range.
    pub chosen_within : AreInRange len s.chosen
    chosen_within = (All-parts (IsWithin len) preserved s.chosen IsAcyclicClosure-at_leaf.within).1

    -- Neighbours by the preserved pairs and the unordered ones include those by the orientations chosen.
    pub EdgesAreIn-at_leaf : (neighbours : List ℕ)
        → EdgesAreIn preserved neighbours
        → AreNeighbours unordered neighbours
        → EdgesAreIn (preserved ++ s.chosen) neighbours
    EdgesAreIn-at_leaf neighbours into both =
        All-append (λ p. reaches_in neighbours p.0 p.1 ≡ true) preserved s.chosen into
        (rw chosen-oriented (All-oriented (λ p. reaches_in neighbours p.0 p.1 ≡ true) unordered s.reversals both))

    -- There is a lowest order with the orientations chosen, and it comes before the orders that are left.
    pub lowest_order-at_leaf : (o : List ℕ)
        × (lowest_order len (preserved ++ s.chosen) ≡ Some o)
        × (from_reversals len preserved unordered (take (level + 1) s.reversals)
        ≡ o ∷ after_reversals len preserved unordered (take level s.reversals))
    lowest_order-at_leaf =
        let (o, h) = lowest_order-if_acyclic IsAcyclicClosure-at_leaf in (
          o,
          h,
          rw (all_reversals level (omega arith), all_reversals (level + 1) (omega arith))
              (from_reversals-all_oriented len preserved unordered s.reversals o st.reversals_long
              (ap (λ cs. lowest_order len (preserved ++ cs)) (sym chosen-oriented) ∙ h)),
        )

  -- At a pair the search tries an orientation.
  module _ (below : level < length unordered) where
    -- The orientation to try.
    abbrev p : ℕ × ℕ
    p = pair_at unordered s.reversals level

    -- The items of the orientation to try are in range.
    p_within : (p.0 < len) × (p.1 < len)
    p_within = let (a, b) = st.can.unordered_up level (0, 0) below in grind arith

    -- The reversals before this pair are as many as the level says.
    long_here : length (take level s.reversals) ≡ level
    long_here = length_take-reversals s.reversals unordered st.reversals_long level st.level_in

    -- The pairs oriented by the reversals up to this pair are those chosen before, and the orientation to try.
    reversal_chosen : oriented unordered (take (level + 1) s.reversals) ≡ take level s.chosen ++ p ∷ []
    reversal_chosen =
        ap (oriented unordered)
        (take_reversals-suc s.reversals _ st.reversals_long level (get_or s.reversals level false) below refl)
        ∙ (oriented-push _ _ _ (0, 0) (omega (arith, long_here)) ∙ rw (long_here, st.reversals_chosen) refl)

    -- The preserved pairs with these oriented pairs are those at the level, and the orientation to try.
    graph_is : preserved ++ oriented unordered (take (level + 1) s.reversals) ≡ (preserved ++ take level s.chosen) ++ p ∷ []
    graph_is = ap (λ ds. preserved ++ ds) reversal_chosen ∙ sym (append_assoc preserved (take level s.chosen) (p ∷ []))

    -- If the orientation closes a cycle, there are no orders with it: the orders from its reversals on are those after them.
    pub from_reversals-closing_cycle : reach s.saved level p.1 p.0 ≡ true
        → from_reversals len preserved unordered (take (level + 1) s.reversals)
        ≡ after_reversals len preserved unordered (take (level + 1) s.reversals)
    from_reversals-closing_cycle back =
        from_reversals-no_order len preserved unordered (take (level + 1) s.reversals)
        (omega (arith, length_take-reversals s.reversals unordered st.reversals_long (level + 1) (omega (arith, below))))
        (rw graph_is (All-push (IsWithin len) (preserved ++ take level s.chosen) p closure_at_level.within p_within))
        (All-drop (IsAscendingPair len) (length (take (level + 1) s.reversals)) unordered st.can.unordered_up)
        (λ o keeps. no_order o (rw graph_is at keeps))
      where
        -- The sets at this level are the closure of the pairs chosen before.
        closure_at_level : IsAcyclicClosure len (preserved ++ take level s.chosen) (reach s.saved level)
        closure_at_level = st.closed level (omega arith)

        -- No order respects the orientation, since it closes a cycle.
        no_order : (o : List ℕ) → Respects ((preserved ++ take level s.chosen) ++ p ∷ []) o → ⊥
        no_order o keeps =
            let (graph, pair) = Respects-push_inv (preserved ++ take level s.chosen) p o keeps in
            not-Before-if_reached_back p.0 p.1 p_within.0 p_within.1 closure_at_level back o graph pair

    module _ {next : SearchState} (choice : IsChosen len p level s next) where
      -- If the orientation closes no cycle and is chosen, the search is at the next pair.
      pub IsSearchState-next_pair : reach s.saved level p.1 p.0 ≡ false → IsSearchState len preserved unordered next (level + 1)
      IsSearchState-next_pair free = record {
        can = st.can;
        reversals_long = choice.as_long ∙ st.reversals_long;
        chosen_long = ap length choice.chosen ∙ (length-set s.chosen level p ∙ st.chosen_long);
        saved_long = ap length choice.saved ∙ (length-set s.saved (level + 1) (get_or next.saved (level + 1) []) ∙ st.saved_long);
        level_in = omega (arith, below);
        reversals_chosen = chosen_now ∙ (sym reversal_chosen ∙ ap (oriented unordered) (sym choice.before));
        closed = λ i li. elim (cases_eq i (level + 1)) [
          | inl q ↦
              rw (q, chosen_now, ← append_assoc preserved (take level s.chosen) (p ∷ []))
              (IsAcyclicClosure-push p.0 p.1 p_within.0 p_within.1 (st.closed level (omega arith)) free choice.reached)
          | inr n ↦
              (let was = ap (take i) choice.chosen ∙ take-set-le i s.chosen level p (omega arith) in
              let set_of =
              ap (λ xs. get_or xs i []) choice.saved
              ∙ get_or-set_other s.saved (level + 1) i (get_or next.saved (level + 1) []) [] n in
              subst (λ xs. IsAcyclicClosure len (preserved ++ take i next.chosen) (reaches_in xs)) (sym set_of)
              (rw was (st.closed i (omega arith))))
        ];
      }
        where
          -- The pairs chosen now are those before, and the orientation.
          chosen_now : take (level + 1) next.chosen ≡ take level s.chosen ++ p ∷ []
          chosen_now = ap (take (level + 1)) choice.chosen ∙ take_more_set s.chosen level p (omega (arith, st.chosen_long, below))

      -- If the orientation is chosen, the orders from these reversals on are those from the reversals at the next pair on.
      pub from_reversals-next_pair : from_reversals len preserved unordered (take (level + 1) s.reversals)
          ≡ from_reversals len preserved unordered (take (level + 1 + 1) next.reversals)
      from_reversals-next_pair = elim (cases_lt (level + 1) (length unordered)) [
        | inl l ↦
            from_reversals-push_false len preserved unordered (take (level + 1) s.reversals)
            (omega (arith, length_take-reversals s.reversals unordered st.reversals_long (level + 1) (omega arith)))
            ∙ ap (from_reversals len preserved unordered)
            (ap (λ ws. ws ++ false ∷ []) (sym choice.before)
            ∙ sym (take_reversals-suc next.reversals unordered (choice.as_long ∙ st.reversals_long) (level + 1) false l
            choice.next_unreversed))
        | inr g ↦
            ap (from_reversals len preserved unordered)
            (sym (take_all (level + 1 + 1) next.reversals (omega (arith, st.reversals_long, choice.as_long))
            ∙ (sym (take_all (level + 1) next.reversals (omega (arith, st.reversals_long, choice.as_long))) ∙ choice.before)))
      ]

    -- ---- the count of orientations tried

    -- Of the two orientations of a level's pair at most one closes a cycle with the pairs chosen before.
    not-both_close_cycle : reach s.saved level (get_or unordered level (0, 0)).1 (get_or unordered level (0, 0)).0 ≡ true
        → reach s.saved level (get_or unordered level (0, 0)).0 (get_or unordered level (0, 0)).1 ≡ true
        → ⊥
    not-both_close_cycle x y =
        let (a, b) = st.can.unordered_up level (0, 0) below in
        omega (arith, closure-antisym (st.closed level (omega arith)) _ _ (omega arith) b y x)

    module _ (tried : ℕ) (ph : Phase unordered s (Some level) tried) where
      -- If an orientation closes a cycle, and the last unreversed pair up to this level is reversed, the count of tries is
      -- still within its bound, with one more.
      pub Phase-orientation_abandoned : (reversed : Bool) (next : List Bool) (found : Option ℕ)
          → get_or s.reversals level false ≡ reversed
          → reach s.saved level (reverse_if reversed (get_or unordered level (0, 0))).1
          (reverse_if reversed (get_or unordered level (0, 0))).0
          ≡ true
          → ReversesLast s.reversals next (level + 1) found
          → Phase unordered (record { reversals = next; chosen = s.chosen; saved = s.saved }) found (tried + 1)
      Phase-orientation_abandoned false next None e back (same, all) = cc (all level (omega arith))
      Phase-orientation_abandoned true next None e back (same, all) =
          elim ph [ inl a ↦ omega (arith, a.1) | inr b ↦ absurd (not-both_close_cycle (b.1 e) back) ]
      Phase-orientation_abandoned true next (Some i) e back (li, off, is, on) =
          let ne : i ≡ level → ⊥ = λ q. cc (e, off, q) in
          inl (
            ap (λ ws. get_or ws i false) is
                ∙ get_or-set_same s.reversals i true false (omega (arith, li, below, st.reversals_long)),
            elim ph [ inl a ↦ omega (arith, a.1, li, ne) | inr b ↦ absurd (not-both_close_cycle (b.1 e) back) ],
          )
      Phase-orientation_abandoned false next (Some i) e back (li, off, is, on) = elim (cases_eq i level) [
        | inl q ↦ inr (
          rw (is, get_or-set_same s.reversals i true false (omega (arith, li, below, st.reversals_long)), q)
              (elim ph [ inl a ↦ cc (a.0, e) | inr b ↦ omega (arith, rw e at b.0) ]),
          λ _. rw q back,
        )
        | inr n ↦ cc (on level (omega arith) (omega arith))
      ]

      -- If an orientation is chosen, and the next pair is not reversed, the count of tries is still within its bound, with one
      -- more.
      pub Phase-next_pair : (next : SearchState)
          → get_or next.reversals (level + 1) false ≡ false
          → Phase unordered next (Some (level + 1)) (tried + 1)
      Phase-next_pair next off =
          inr (rw off (elim ph [ inl a ↦ omega (arith, a.1) | inr b ↦ grind (arith, b.0) ]), λ t. cc (off, t))

  -- If the count of tries is within its bound at a pair, it is at most three for each unordered pair.
  pub tries-le_three_per_pair : (tried : ℕ) → Phase unordered s (Some level) tried → tried ≤ 3 * length unordered
  tries-le_three_per_pair tried (inl a) = omega (arith, a.1)
  tries-le_three_per_pair tried (inr b) = elim (cases_lt level (length unordered)) [
    | inl lt ↦ grind (arith, b.0)
    | inr ge ↦ omega (arith, rw (get_or_past s.reversals level false (omega (arith, st.reversals_long))) at b.0, st.level_in)
  ]

-- ---- the start

-- If the first pair is not reversed, the orders from its reversal on are all orders of the search.
pub from_reversals-start : (n : ℕ) (preserved unordered : List (ℕ × ℕ)) (reversals : List Bool)
    → length reversals ≡ length unordered
    → get_or reversals 0 false ≡ false
    → from_reversals n preserved unordered (take (0 + 1) reversals) ≡ search_from n preserved unordered
from_reversals-start n preserved [] [] long off = refl
from_reversals-start n preserved (p ∷ ps) [] long off = refl
from_reversals-start n preserved [] (w ∷ reversals) long off = refl
from_reversals-start n preserved (p ∷ ps) (w ∷ reversals) long off =
    ap (λ v. from_reversals n preserved (p ∷ ps) (v ∷ [])) off
    ∙ sym (from_reversals-push_false n preserved (p ∷ ps) [] (omega arith))

-- In a list of reversals that are not set, the first is not set.
pub get_or-replicate_false : (n : ℕ) → get_or (replicate n false) 0 false ≡ false
get_or-replicate_false zero = refl
get_or-replicate_false (suc n) = refl

-- At the start the search is at the first pair, and no pair is reversed.
pub IsSearchState-start : {len : ℕ} {preserved unordered : List (ℕ × ℕ)} {s : SearchState} (sets : List ℕ) (k : ℕ)
    → CanBeSearched len preserved unordered
    → k ≡ length unordered
    → s.reversals ≡ replicate k false
    → s.chosen ≡ unordered
    → s.saved ≡ replicate (k + 1) sets
    → Reaches len preserved (reaches_in sets)
    → IsSearchState len preserved unordered s 0
IsSearchState-start {len = len} {preserved = preserved} {unordered = unordered} {s = s} sets k can kl w c sv reaches = record {
  can = can;
  reversals_long = ap length w ∙ (length-replicate k false ∙ kl);
  chosen_long = ap length c;
  saved_long = ap length sv ∙ (length-replicate (k + 1) sets ∙ ap (λ n. n + 1) kl);
  level_in = omega arith;
  reversals_chosen = sym (take-oriented 0 unordered s.reversals);
  closed = λ i li.
      (let e : i ≡ 0 = omega arith in
      rw (e, append-nil preserved) (rw (← first_saved) at (IsAcyclicClosure-start can.preserved_up reaches)));
}
  where
    -- The first table of saved sets is `sets`.
    first_saved : get_or s.saved 0 [] ≡ sets
    first_saved = ap (λ xs. get_or xs 0 []) sv ∙ get_or-replicate (k + 1) 0 sets [] (omega arith)

-- How the code fills the tables of a search: with two copies of `sets`, the predecessors by the preserved pairs; and with the first `len` sets
-- of `all`, the neighbours by the preserved and the unordered pairs.
pub record TablesAreMade (len : ℕ) (preserved unordered : List (ℕ × ℕ)) (tables : List (List ℕ))
    (neighbours sets all : List ℕ) : Type 0 where
  pub copies : tables ≡ replicate 2 sets
  pub predecessors : ArePredecessors most_items preserved sets
  pub first : neighbours ≡ take len all
  pub long : length neighbours ≡ len
  pub preserved_are_edges : EdgesAreIn preserved all
  pub unordered_are_neighbours : AreNeighbours unordered all

-- A search can start with tables that are filled so.
pub HasSearchTables-start : {len : ℕ} {preserved unordered : List (ℕ × ℕ)} {tables : List (List ℕ)} {neighbours : List ℕ}
    (sets all : List ℕ)
    → CanBeSearched len preserved unordered
    → TablesAreMade len preserved unordered tables neighbours sets all
    → HasSearchTables len preserved unordered tables neighbours
HasSearchTables-start {len = len} {neighbours = neighbours} sets all can made = record {
  two = ap length made.copies;
  sets = rw made.copies made.predecessors;
  neighbours_long = omega (arith, made.long);
  neighbours_preserved =
      λ k d l. (let (a, b) = can.preserved_up k d l in same_reach _ _ (omega (arith, a, b)) ∙ made.preserved_are_edges k d l);
  neighbours_unordered = λ k d l.
      (let (a, b) = can.unordered_up k d l in
      let (there, back) = made.unordered_are_neighbours k d l in
      (same_reach _ _ (omega (arith, a, b)) ∙ there, same_reach _ _ b ∙ back));
}
  where
    -- The neighbours reach what all sets reach.
    same_reach : (i j : ℕ) → i < len → reaches_in neighbours i j ≡ reaches_in all i j
    same_reach i j l = ap (λ set. has set j) (ap (λ rs. get_or rs i 0) made.first ∙ get_or-take len all i 0 l)
