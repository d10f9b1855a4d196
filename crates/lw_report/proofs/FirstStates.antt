-- Removing duplicates from sorted states: the first of those with the same words remains. For
-- `first_of_each`; the first one has the smallest index in the listing.
use Rattle.lw_report.proofs.Common.{◌≡◌, ℕ, suc, ◌+◌, ◌≤◌, ◌⊎◌, inl, inr, Bool, true, false, List, [], ◌∷◌}
use Rattle.lw_report.proofs.Common.{get_or, refl, sym, ap, ◌∙◌, subst, arith, All, Contains, nat_eq, IsSorted}
use Rattle.lw_report.proofs.Common.{nat_cmp, is_lt, Ordering, Less, Equal, Greater, lt-ltb, slice_cmp}
use Rattle.lw_report.proofs.Common.{same_text, other_text, on_texts_equal, IsTotalOrder, bool_cmp_total}
use Rattle.lw_report.proofs.Common.{AllPairs, dedup, dedup_from, ordering_then, ordering_reverse, cases_Bool}
use Rattle.lw_report.proofs.Common.{cases_lt, nat_cmp_total, nat_list_cmp_total, on_total, then_total}
use Rattle.lw_report.proofs.Common.{All-weaker, All-nil, All-cons, All-head, All-tail, All-contains}
use Rattle.lw_report.proofs.Common.{All-from_recursion, Contains-get_or, AllPairs-cons, Any-dedup}
use Rattle.lw_report.proofs.Common.{Contains-from_dedup, IsStrictlySortedBy-dedup, ranks_by, sorted_far}
use Rattle.lw_report.proofs.Common.{exact_bytes, is_eq-slice_cmp, state_cmp, AreFirstStates, ListedState}
use Rattle.lw_report.proofs.Common.{pointwise, Contains-cons}
use Rattle.std.specs.List.Sorted.{IsStrictlySortedBy}
use Rattle.lw_report.proofs.api.OneList.{words_less-irreflexive}

-- ---- The order.

-- The order of states by their words.
abbrev words_cmp : ListedState → ListedState → Ordering
words_cmp s t = slice_cmp nat_cmp s.words t.words

-- Tests whether two states have the same words.
abbrev pub have_same_words : ListedState → ListedState → Bool
have_same_words s t = pointwise nat_eq s.words t.words

-- A state is not greater than another: its words are less, or they are the same and its index is not greater.
abbrev NotAbove : ListedState → ListedState → Type 0
NotAbove s t = (words_cmp s t ≡ Less) ⊎ ((s.words ≡ t.words) × (s.entry ≤ t.entry))

-- If a state t is not sorted before s, then s is not greater than t.
NotAbove-if_not_sorted_after : (s t : ListedState) → is_lt (state_cmp t s) ≡ false → NotAbove s t
NotAbove-if_not_sorted_after s t h = go (words_cmp t s) refl
  where
    -- By how the words of t and s compare.
    go : (o : Ordering) → words_cmp t s ≡ o → NotAbove s t
    go Less e = let clash : true ≡ false = rw e at h in absurd cc
    go Equal e = inr (
      sym (exact_bytes t.words s.words e),
      elim (cases_lt t.entry s.entry) [
        | inl lt ↦
            let below = lt-ltb t.entry s.entry lt in
            let clash = rw (e, below) at h in
            absurd cc
        | inr le ↦ le
      ],
    )
    go Greater e = inl (nat_list_cmp_total.antisymm s.words t.words ∙ ap ordering_reverse e)

-- If s is not greater than t, and both have the same words, the index of s is not greater.
entry_le-if_not_above : (s t : ListedState) → NotAbove s t → t.words ≡ s.words → s.entry ≤ t.entry
entry_le-if_not_above s t (inl less) e =
    absurd (words_less-irreflexive s.words (subst (λ (w : List ℕ). slice_cmp nat_cmp s.words w ≡ Less) e less))
entry_le-if_not_above s t (inr p) e = p.1

-- The order by words is total.
IsTotalOrder-words_cmp : IsTotalOrder words_cmp
IsTotalOrder-words_cmp = on_total (λ (s : ListedState). s.words) nat_list_cmp_total

-- The order of states, by their words and then by the index of their outcome, is total.
IsTotalOrder-state_cmp : IsTotalOrder state_cmp
IsTotalOrder-state_cmp =
    then_total IsTotalOrder-words_cmp
    (then_total (on_total (λ (s : ListedState). s.entry) nat_cmp_total) (on_total _ bool_cmp_total))

-- If a comparison of words and then of indices is not `Less`, that of words is not `Less`.
ordering_then-not_less : (o r : Ordering) → is_lt (ordering_then o r) ≡ false → is_lt o ≡ false
ordering_then-not_less Less r h = h
ordering_then-not_less _ r h = refl

-- ---- The first state with its words has the smallest index.

-- This state has the smallest index of an outcome among all states with its words.
abbrev IsSmallest : List ListedState → ListedState → Type 0
IsSmallest all s = (t : ListedState) → Contains all t → t.words ≡ s.words → s.entry ≤ t.entry

-- If k is not greater than the states xs, and of any two of these the first is not greater, then each state that remains of k
-- and xs has the smallest index among those with its words.
IsSmallest-dedup_from : (k : ListedState) (xs : List ListedState)
    → All (NotAbove k) xs
    → AllPairs NotAbove xs
    → All (IsSmallest (k ∷ xs)) (dedup_from have_same_words k xs)
IsSmallest-dedup_from k [] first rest = All-cons (IsSmallest (k ∷ [])) k [] first_is_smallest (All-nil (IsSmallest (k ∷ [])))
  where
    -- The first state has the smallest index of those with its words.
    first_is_smallest : IsSmallest (k ∷ []) k
    first_is_smallest t h e = elim (Contains-cons k t [] h) [
      | inl is ↦ subst (λ (y : ListedState). k.entry ≤ y.entry) is (omega arith)
      | inr (j, lt, at) ↦ absurd (omega arith)
    ]
IsSmallest-dedup_from k (x ∷ xs) first rest = elim (cases_Bool (have_same_words x k)) [
  | inl same ↦
      rw same
      (All-weaker (IsSmallest (k ∷ xs)) (IsSmallest (k ∷ x ∷ xs))
      (λ s old. IsSmallest-skip_same_words (same_text x.words k.words (sym same)) s old) (dedup_from have_same_words k xs)
      (IsSmallest-dedup_from k xs (All-tail (NotAbove k) x xs first) later_not_above))
  | inr other ↦ rw other (All-cons (IsSmallest (k ∷ x ∷ xs)) k (dedup_from have_same_words x xs) first_is_smallest (λ j d lt.
      IsSmallest-keep_greater (other_text x.words k.words (sym other)) (get_or (dedup_from have_same_words x xs) j d)
      (Contains-get_or (dedup_from have_same_words x xs) j d lt)
      (IsSmallest-dedup_from x xs next_not_above_later later_not_above j d lt)))
]
  where
    -- The first state is not greater than the next.
    first_not_above_next : NotAbove k x
    first_not_above_next = All-head (NotAbove k) x xs first

    -- The next state is not greater than those after it.
    next_not_above_later : All (NotAbove x) xs
    next_not_above_later j d lt = rest 0 (suc j) d (omega arith) (omega (arith, lt))

    -- Of two states after the first, the one before is not greater.
    later_not_above : AllPairs NotAbove xs
    later_not_above i j d lt within = rest (suc i) (suc j) d (omega (arith, lt)) (omega (arith, within))

    -- The first state has the smallest index of those with its words.
    first_is_smallest : IsSmallest (k ∷ x ∷ xs) k
    first_is_smallest t h e = elim (Contains-cons k t (x ∷ xs) h) [
      | inl is ↦ subst (λ (y : ListedState). k.entry ≤ y.entry) is (omega arith)
      | inr there ↦ entry_le-if_not_above k t (All-contains (NotAbove k) (x ∷ xs) t first there) e
    ]

    -- If x has the words of k, and s has the smallest index of k and xs, it has that of k, x and xs.
    IsSmallest-skip_same_words : x.words ≡ k.words → (s : ListedState) → IsSmallest (k ∷ xs) s → IsSmallest (k ∷ x ∷ xs) s
    IsSmallest-skip_same_words same s old t h e = elim (Contains-cons k t (x ∷ xs) h) [
      | inl is ↦ old t (0, omega arith, is) e
      | inr there ↦ elim (Contains-cons x t xs there) [
        | inl is ↦
            let words : t.words ≡ x.words = ap (λ (y : ListedState). y.words) (sym is) in
            let first_of = old k (0, omega arith, refl) (sym same ∙ sym words ∙ e) in
            omega (arith, first_of, entry_le-if_not_above k x first_not_above_next same, ap (λ (y : ListedState). y.entry) is)
        | inr (j, lt, at) ↦ old t (suc j, omega (arith, lt), at) e
      ]
    ]

    -- If x has other words than k, a state that remains of x and xs, and has the smallest index among these, has that of k, x
    -- and xs.
    IsSmallest-keep_greater : (x.words ≡ k.words → ⊥)
        → (s : ListedState)
        → Contains (dedup_from have_same_words x xs) s
        → IsSmallest (x ∷ xs) s
        → IsSmallest (k ∷ x ∷ xs) s
    IsSmallest-keep_greater other s among old t h e = elim (Contains-cons k t (x ∷ xs) h) [
      | inr there ↦ old t there e
      | inl is ↦
          let words : k.words ≡ s.words = ap (λ (y : ListedState). y.words) is ∙ e in
          absurd (words_less-irreflexive k.words
          (above first_not_above_next (elim (Contains-cons x s xs (Contains-from_dedup have_same_words (x ∷ xs) s among)) [
            | inl same ↦ inr (ap (λ (y : ListedState). y.words) same ∙ sym words)
            | inr far ↦ elim (All-contains (NotAbove x) xs s next_not_above_later far) [
              | inl less ↦ inl (subst (λ (w : List ℕ). slice_cmp nat_cmp x.words w ≡ Less) (sym words) less)
              | inr p ↦ inr (p.0 ∙ sym words)
            ]
          ])))
    ]
      where
        -- The words of k would be less than themselves.
        above : NotAbove k x
            → (slice_cmp nat_cmp x.words k.words ≡ Less) ⊎ (x.words ≡ k.words)
            → slice_cmp nat_cmp k.words k.words ≡ Less
        above h (inr same) = absurd (other same)
        above (inl less) (inl more) = nat_list_cmp_total.trans k.words x.words k.words less more
        above (inr p) (inl more) = absurd (other (sym p.0))

-- States that are strictly sorted by their words, each below all after it, are so by their indices (`AllPairs`).
AllPairs-of_strictly_sorted : (ks : List ListedState)
    → IsStrictlySortedBy words_cmp ks
    → AllPairs (λ s t. words_cmp s t ≡ Less) ks
unfolding IsStrictlySortedBy
AllPairs-of_strictly_sorted [] h = λ i j d lt within. absurd (omega (arith, within))
AllPairs-of_strictly_sorted (k ∷ ks) h =
    AllPairs-cons (λ s t. words_cmp s t ≡ Less) k ks (All-from_recursion (λ t. words_cmp k t ≡ Less) ks h.0)
    (AllPairs-of_strictly_sorted ks h.1)

-- If states are sorted, removing all except the first of those with the same words leaves the first states.
pub AreFirstStates-dedup : (all : List ListedState) → IsSorted state_cmp all → AreFirstStates all (dedup have_same_words all)
AreFirstStates-dedup all up = record {
  sorted =
      AllPairs-of_strictly_sorted (dedup have_same_words all)
      (IsStrictlySortedBy-dedup IsTotalOrder-words_cmp (λ x y. sym (is_eq-slice_cmp x.words y.words)) all
      (λ k d low within. ordering_then-not_less (words_cmp (get_or all (k + 1) d) (get_or all k d)) _ (up k d low within)));
  among = λ k d lt.
      Contains-from_dedup have_same_words all (get_or (dedup have_same_words all) k d)
      (Contains-get_or (dedup have_same_words all) k d lt);
  smallest = go all (λ i j d lt within.
      NotAbove-if_not_sorted_after (get_or all i d) (get_or all j d)
      (sorted_far (λ s t. is_lt (state_cmp s t)) (ranks_by IsTotalOrder-state_cmp (λ (s : ListedState). s)) all up i j d
      (omega (arith, lt)) within));
  each = λ t h.
      let a = Any-dedup (on_texts_equal (λ (s : ListedState). s.words)) all t h in
      (a.1, (a.0, a.2, a.3), sym (same_text t.words (a.1).words (sym a.4)));
}
  where
    -- By the cases of the list: the first state is not greater than all others.
    go : (all : List ListedState) → AllPairs NotAbove all → All (IsSmallest all) (dedup have_same_words all)
    go [] pairs = All-nil (IsSmallest [])
    go (k ∷ xs) pairs =
        IsSmallest-dedup_from k xs (λ j d lt. pairs 0 (suc j) d (omega arith) (omega (arith, lt)))
        (λ i j d lt within. pairs (suc i) (suc j) d (omega (arith, lt)) (omega (arith, within)))
