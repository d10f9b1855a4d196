-- Entries sorted by their outcomes. For `find`, which searches them, and for `from_entries`, which leaves one entry of those with the same
-- outcome.
use Rattle.std.proofs.Common.{◌≡◌, sym, ap, ◌∙◌, subst, arith, ℕ, Bool, true≢false, ◌+◌, ◌<◌, get_or, slice_get}
use Rattle.std.proofs.Common.{[], ◌∷◌, length, All, Contains, MatchOption, Some, Result, Ok, Err, IsPermutation, IsSorted}
use Rattle.std.proofs.Common.{is_eq, is_lt, Ordering, Less, Equal, Greater, ⊎_elim}
use Rattle.std.proofs.lemmas.Bool.{cases_lt}
use Rattle.std.proofs.lemmas.Cmp.{on_equiv, on_total, tied_itself}
use Rattle.std.proofs.lemmas.List.{get_or-map}
use Rattle.std.proofs.lemmas.List.Elements.{All-from_recursion}
use Rattle.std.proofs.lemmas.List.Kept.{AllPairs-cons, Any-dedup, IsStrictlySortedBy-dedup}
use Rattle.std.proofs.lemmas.List.Sorted.{searchable_from_sorted, IsPermutation-map}
use Rattle.std.proofs.lemmas.Option.{slice_get-get_or}
use Rattle.std.specs.Cmp.{IsTotalOrder}
use Rattle.std.specs.List.{HoldsAt, IsDistinct, dedup}
use Rattle.std.specs.List.Sorted.{IsStrictlySortedBy, IsBinarySearchResult, IsSearchInRange, IsPartitionPoint}
use Rattle.std.specs.Ordering.{ordering_reverse}
use Rattle.std.specs.Result.{result_ok}
use Rattle.std.proofs.lemmas.Map.Entries.{length-keys_of}
use Rattle.indexmap.proofs.MapLemmas.{distinct_permutation}
use Rattle.lw_base.specs.Outcomes.{FinalState, final_state_cmp}
use Rattle.lw_outcome_map.specs.Listings.{OutcomesWith, outcomes_of, IsStrictlySorted}
use Rattle.lw_outcome_map.proofs.api.Listings.{final_eq, Decides-final_eq, IsEquivalence-final_eq, final_eq-is_cmp_equal, IsTotalOrder-final_state_cmp, IsStrictlySorted-of_distinct, Contains-entry_of_outcome}

-- The result `Less` of a comparison is not `Equal`.
not-Less_eq_Equal : Less ≡ Equal → ⊥
not-Less_eq_Equal e = absurd (true≢false (ap is_lt e))

-- The result `Greater` of a comparison is not `Equal`.
not-Greater_eq_Equal : Greater ≡ Equal → ⊥
not-Greater_eq_Equal e = absurd (true≢false (sym (ap is_eq e)))

-- Outcomes that compare as equal are equal.
eq-of_equal : (o p : FinalState) → final_state_cmp o p ≡ Equal → o ≡ p
eq-of_equal o p equal = (Decides-final_eq o p).0 (final_eq-is_cmp_equal o p ∙ ap is_eq equal)

module _ {Kept : Type 0} where
  -- The order of entries by their outcomes.
  abbrev entry_cmp : FinalState × Kept → FinalState × Kept → Ordering
  entry_cmp e f = final_state_cmp e.0 f.0

  -- Tests whether two entries have the same outcome.
  abbrev pub have_same_outcome : FinalState × Kept → FinalState × Kept → Bool
  have_same_outcome e f = final_eq e.0 f.0

  -- If k is in range, the outcome at index k is that of the entry there.
  outcomes_of-at : (es : OutcomesWith Kept) (k : ℕ) (d : FinalState × Kept) (o : FinalState)
      → k < length es
      → get_or (outcomes_of es) k o ≡ (get_or es k d).0
  outcomes_of-at es k d o within = get_or-map (λ e. e.0) es k d o within

  -- If P holds of the outcome of each entry, it holds of each outcome.
  All-outcomes_of : (P : FinalState → Type 0) (es : OutcomesWith Kept) → All (λ e. P e.0) es → All P (outcomes_of es)
  All-outcomes_of P [] all k o lt = absurd (omega (arith, lt))
  All-outcomes_of P (e ∷ es) all k o lt =
      let within : k < length (e ∷ es) = omega (arith, lt, length-keys_of (e ∷ es)) in
      subst P (sym (outcomes_of-at (e ∷ es) k e o within)) (all k e within)

  -- If the entries contain e, the outcomes contain that of e.
  Contains-outcomes_of : (es : OutcomesWith Kept) (e : FinalState × Kept) → Contains es e → Contains (outcomes_of es) e.0
  Contains-outcomes_of es e h =
      (h.0, omega (arith, h.1, length-keys_of es), outcomes_of-at es h.0 e e.0 h.1 ∙ ap (λ (f : FinalState × Kept). f.0) h.2)

  -- ---- One entry for each outcome.

  -- The order of entries by their outcomes is total.
  IsTotalOrder-entry_cmp : IsTotalOrder entry_cmp
  IsTotalOrder-entry_cmp = on_total (λ (e : FinalState × Kept). e.0) IsTotalOrder-final_state_cmp

  -- If the outcomes are sorted, the entries are sorted by their outcomes.
  IsSorted-entries : (es : OutcomesWith Kept) → IsSorted final_state_cmp (outcomes_of es) → IsSorted entry_cmp es
  IsSorted-entries es up k d low within =
      sym (λ i.
      is_lt (final_state_cmp (outcomes_of-at es (k + 1) d d.0 within i) (outcomes_of-at es k d d.0 (omega (arith, within)) i)))
      ∙ up k d.0 low (omega (arith, within, length-keys_of es))

  -- Entries that are strictly sorted by their outcomes, each below all after it, are so by their indices (`IsStrictlySorted`).
  IsStrictlySorted-of_recursion : (es : OutcomesWith Kept) → IsStrictlySortedBy entry_cmp es → IsStrictlySorted es
  unfolding IsStrictlySortedBy
  IsStrictlySorted-of_recursion [] h = λ i j d lt within. absurd (omega (arith, within))
  IsStrictlySorted-of_recursion (e ∷ es) h =
      AllPairs-cons (λ o p. final_state_cmp o p ≡ Less) e.0 (outcomes_of es)
      (All-outcomes_of (λ o. final_state_cmp e.0 o ≡ Less) es (All-from_recursion (λ f. entry_cmp e f ≡ Less) es h.0))
      (IsStrictlySorted-of_recursion es h.1)

  -- If the outcomes of entries are sorted, the first entry with each outcome of them is strictly sorted with the others.
  pub IsStrictlySorted-dedup : (es : OutcomesWith Kept)
      → IsSorted final_state_cmp (outcomes_of es)
      → IsStrictlySorted (dedup have_same_outcome es)
  IsStrictlySorted-dedup es up =
      IsStrictlySorted-of_recursion (dedup have_same_outcome es)
      (IsStrictlySortedBy-dedup IsTotalOrder-entry_cmp (λ e f. final_eq-is_cmp_equal e.0 f.0) es (IsSorted-entries es up))

  -- If an outcome is listed, it is listed after all entries but the first with each outcome are removed.
  pub Contains-outcomes_of_dedup : (es : OutcomesWith Kept) (o : FinalState)
      → Contains (outcomes_of es) o
      → Contains (outcomes_of (dedup have_same_outcome es)) o
  Contains-outcomes_of_dedup es o h =
      let e = Contains-entry_of_outcome es o h in
      let rest = Any-dedup (on_equiv (λ (f : FinalState × Kept). f.0) IsEquivalence-final_eq) es e.0 e.1 in
      subst (Contains (outcomes_of (dedup have_same_outcome es))) (sym ((Decides-final_eq (e.0).0 (rest.1).0).0 rest.4) ∙ e.2)
      (Contains-outcomes_of (dedup have_same_outcome es) rest.1 (rest.0, rest.2, rest.3))

  -- If the outcomes of es are distinct, and fs is a sorted permutation of es, then fs is strictly sorted.
  pub IsStrictlySorted-of_permutation : (es fs : OutcomesWith Kept)
      → IsDistinct final_eq (outcomes_of es)
      → IsPermutation es fs
      → IsSorted final_state_cmp (outcomes_of fs)
      → IsStrictlySorted fs
  IsStrictlySorted-of_permutation es fs distinct same up =
      IsStrictlySorted-of_distinct fs up
      (distinct_permutation IsEquivalence-final_eq (outcomes_of es) (outcomes_of fs) (IsPermutation-map (λ e. e.0) es fs same)
      distinct)

  -- ---- The search for an outcome.

  -- If entries are strictly sorted, they are sorted.
  IsSorted-of_strictly_sorted : (es : OutcomesWith Kept) → IsStrictlySorted es → IsSorted entry_cmp es
  IsSorted-of_strictly_sorted es sorted k d low within =
      IsSorted-entries es (λ j o below inside.
      let less = sorted j (j + 1) o (omega arith) inside in
      ap is_lt (IsTotalOrder-final_state_cmp.antisymm (get_or (outcomes_of es) (j + 1) o) (get_or (outcomes_of es) j o))
      ∙ ap (λ c. is_lt (ordering_reverse c)) less) k d low within

  -- If the entry at k compares as equal to the outcome o, the outcome at k is o.
  slice_get-of_equal : (es : OutcomesWith Kept) (o : FinalState) (k : ℕ)
      → k < length es
      → HoldsAt (λ e. final_state_cmp e.0 o ≡ Equal) es k
      → slice_get (outcomes_of es) k ≡ Some o
  slice_get-of_equal [] o k within equal = absurd (omega (arith, within))
  slice_get-of_equal (e ∷ es) o k within equal =
      slice_get-get_or (outcomes_of (e ∷ es)) k o (omega (arith, within, length-keys_of (e ∷ es)))
      ∙ ap Some (outcomes_of-at (e ∷ es) k e o within ∙ eq-of_equal (get_or (e ∷ es) k e).0 o (equal e))

  -- If each entry before an index has a smaller outcome than o, and each other one a greater, o is not listed.
  not-Contains-if_partitioned : (es : OutcomesWith Kept) (o : FinalState) (i : ℕ)
      → IsPartitionPoint (λ e. final_state_cmp e.0 o ≡ Less) (λ e. final_state_cmp e.0 o ≡ Greater) es i
      → Contains (outcomes_of es) o
      → ⊥
  not-Contains-if_partitioned [] o i split h = absurd (omega (arith, h.1))
  not-Contains-if_partitioned (e ∷ es) o i split h =
      let within : h.0 < length (e ∷ es) = omega (arith, h.1, length-keys_of (e ∷ es)) in
      let found : (get_or (e ∷ es) h.0 e).0 ≡ o = sym (outcomes_of-at (e ∷ es) h.0 e o within) ∙ h.2 in
      let equal : final_state_cmp (get_or (e ∷ es) h.0 e).0 o ≡ Equal =
      ap (λ p. final_state_cmp p o) found ∙ tied_itself IsTotalOrder-final_state_cmp o in
      ⊎_elim (λ before. not-Less_eq_Equal (sym (split.0 h.0 e (omega arith) before) ∙ equal))
      (λ after. not-Greater_eq_Equal (sym (split.1 h.0 e after within) ∙ equal)) (cases_lt h.0 i)

  -- If entries are strictly sorted, the result r of a binary search for o is the index of o, or `None` if it is not listed.
  pub search-finds_outcome : (es : OutcomesWith Kept) (o : FinalState) (r : Result ℕ ℕ)
      → IsStrictlySorted es
      → IsSearchInRange r (length es)
      → IsBinarySearchResult (λ e. final_state_cmp e.0 o) es r
      → MatchOption (result_ok r) (Contains (outcomes_of es) o → ⊥) (λ i. slice_get (outcomes_of es) i ≡ Some o)
  search-finds_outcome es o (Ok i) sorted within found = slice_get-of_equal es o i within found
  search-finds_outcome es o (Err i) sorted within found =
      not-Contains-if_partitioned es o i
      (found (searchable_from_sorted IsTotalOrder-final_state_cmp (λ e. e.0) es o (IsSorted-of_strictly_sorted es sorted)))
