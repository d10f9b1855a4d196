-- Outcomes as keys of a map: `==` is an equivalence and `cmp` a total order of them, so a sorted list without duplicates is strictly
-- ascending.
use Rattle.std.proofs.Common.{◌≡◌, ◌≢◌, ◌↔◌, refl, sym, ap, ◌∙◌, ℕ, Bool, true, false, true≢false, ◌&&◌, ◌<◌}
use Rattle.std.proofs.Common.{inl, inr, ⊎_elim, List, [], ◌∷◌, ◌++◌, nat_eq, get_or, slice_get, is_some}
use Rattle.std.proofs.Common.{Contains, IsTrue, arith, Option, None, Some, IsPermutation}
use Rattle.std.proofs.Common.{IsSorted, Decides, is_eq, is_lt, nat_cmp, Ordering, Less, Equal, Greater}
use Rattle.std.specs.List.{IsDistinct}
use Rattle.std.specs.Cmp.{IsEquivalence, IsTotalOrder, first_so, second_so, both_tied, unsigned_ties}
use Rattle.std.specs.Cmp.{unsigned_Decides}
use Rattle.std.specs.Cmp.Lexicographic.{pointwise, pointwise_decides, lists_ties, slice_cmp}
use Rattle.std.specs.Map.{lookup}
use Rattle.std.specs.Ordering.{ordering_reverse}
use Rattle.std.proofs.lemmas.Bool.{cases_lt}
use Rattle.std.proofs.lemmas.Cmp.{tied_itself, and_equiv, on_equiv, lists_equiv, nat_list_eq_equiv}
use Rattle.std.proofs.lemmas.Cmp.{then_total, on_total, lists_total, nat_list_cmp_total}
use Rattle.std.proofs.lemmas.List.Sorted.{sorted_far, ranks_by, Contains-permutation, IsPermutation-sym}
use Rattle.std.proofs.lemmas.List.Sorted.{IsPermutation-map}
use Rattle.std.proofs.lemmas.Map.Made.{AllPairs-from_IsDistinct}
use Rattle.std.proofs.lemmas.Map.Views.{Contains-keys_from_lookup, IsSome-lookup_from_Contains}
use Rattle.std.proofs.lemmas.Option.{slice_get_within, get_or_from_slice_get}
use Rattle.indexmap.specs.IndexMap.{insert_entry}
use Rattle.indexmap.specs.Layout.{hash_map}
use Rattle.indexmap.proofs.CallerLemmas.{insert_entry-new}
use Rattle.lw_base.proofs.api.Members.{not-Contains-nil, Contains-head, Contains-tail, Contains-cons}
use Rattle.lw_base.specs.Outcomes.{FinalState, final_state_cmp}
use Rattle.lw_outcome_map.specs.Listings.{OutcomesWith, outcomes_of, IsStrictlySorted}

-- The test of `==` on outcomes.
abbrev pub final_eq : FinalState → FinalState → Bool
final_eq o p = pointwise (pointwise nat_eq) o.regs p.regs && pointwise nat_eq o.words p.words

-- Outcomes with equal registers and equal words are equal.
FinalState-eq : (o p : FinalState) → o.regs ≡ p.regs → o.words ≡ p.words → o ≡ p
FinalState-eq o p e f = λ i. record { regs = e i; words = f i }

-- `==` decides equality of outcomes.
pub Decides-final_eq : (o p : FinalState) → Decides (final_eq o p) (o ≡ p)
Decides-final_eq o p =
    let row : (xs ys : List ℕ) → Decides (pointwise nat_eq xs ys) (xs ≡ ys) = pointwise_decides unsigned_Decides in
    let rows : (xs ys : List (List ℕ)) → Decides (pointwise (pointwise nat_eq) xs ys) (xs ≡ ys) = pointwise_decides row in
    let same_regs : Bool = pointwise (pointwise nat_eq) o.regs p.regs in
    let same_words : Bool = pointwise nat_eq o.words p.words in (
      λ e.
          FinalState-eq o p ((rows o.regs p.regs).0 (first_so same_regs same_words e))
          ((row o.words p.words).0 (second_so same_regs same_words e)),
      λ e. λ i.
          (rows o.regs p.regs).1 (ap (λ (f : FinalState). f.regs) e) i
          && (row o.words p.words).1 (ap (λ (f : FinalState). f.words) e) i,
    )

-- `==` of outcomes is an equivalence, as a map's keys require.
pub IsEquivalence-final_eq : IsEquivalence final_eq
IsEquivalence-final_eq =
    and_equiv (on_equiv (λ (f : FinalState). f.regs) (lists_equiv nat_list_eq_equiv))
    (on_equiv (λ (f : FinalState). f.words) nat_list_eq_equiv)

-- `cmp` of outcomes is a total order.
pub IsTotalOrder-final_state_cmp : IsTotalOrder final_state_cmp
IsTotalOrder-final_state_cmp =
    then_total (on_total (λ (f : FinalState). f.regs) (lists_total nat_list_cmp_total))
    (on_total (λ (f : FinalState). f.words) nat_list_cmp_total)

-- `==` holds of the outcomes that `cmp` reports as equal.
pub final_eq-is_cmp_equal : (o p : FinalState) → final_eq o p ≡ is_eq (final_state_cmp o p)
final_eq-is_cmp_equal o p =
    let row : (xs ys : List ℕ) → pointwise nat_eq xs ys ≡ is_eq (slice_cmp nat_cmp xs ys) = lists_ties nat_cmp unsigned_ties in
    both_tied _ _ _ _ (lists_ties (slice_cmp nat_cmp) row o.regs p.regs) (row o.words p.words)

-- If a look-up by `==` finds an outcome among the keys, it is listed.
Contains-if_lookup : {Kept : Type 0} (es : OutcomesWith Kept) (o : FinalState)
    → is_some (lookup (final_eq o) es) ≡ true
    → Contains (outcomes_of es) o
Contains-if_lookup es o h = Contains-keys_from_lookup (λ x y. (Decides-final_eq x y).0) o es h

-- If an outcome is listed, it is that of an entry.
pub Contains-entry_of_outcome : {Kept : Type 0} (entries : OutcomesWith Kept) (o : FinalState)
    → Contains (outcomes_of entries) o
    → (entry : FinalState × Kept) × Contains entries entry × (entry.0 ≡ o)
Contains-entry_of_outcome [] o c = absurd (not-Contains-nil o c)
Contains-entry_of_outcome (entry ∷ entries) o c = elim (Contains-cons entry.0 o (outcomes_of entries) c) [
  | inl same ↦ (entry, Contains-head entry entry entries refl, same)
  | inr rest ↦
      (let found = Contains-entry_of_outcome entries o rest in (found.0, Contains-tail entry found.0 entries found.1, found.2))
]

-- The result b of a look-up of the outcome says whether it is listed.
pub lookup-iff_Contains : {Kept : Type 0} (es : OutcomesWith Kept) (o : FinalState) (b : Bool)
    → b ≡ is_some (lookup (final_eq o) es)
    → IsTrue b ↔ Contains (outcomes_of es) o
lookup-iff_Contains es o b e =
    ((λ t. Contains-if_lookup es o (sym e ∙ t)), (λ i. e ∙ IsSome-lookup_from_Contains IsEquivalence-final_eq o es i))

-- If an option has no value, it is `None`.
None-if_not_some : {X : Type 0} (o : Option X) → (is_some o ≡ true → ⊥) → o ≡ None
None-if_not_some None h = refl
None-if_not_some (Some x) h = absurd (h refl)

-- If an outcome is not listed, inserting it appends it with its value.
pub insert_entry-appends : {Kept : Type 0} (es fs : OutcomesWith Kept) (o : FinalState) (s : Kept)
    → (Contains (outcomes_of es) o → ⊥)
    → fs ≡ insert_entry final_eq es o s
    → fs ≡ es ++ (o, s) ∷ []
insert_entry-appends es fs o s new e =
    e
    ∙ insert_entry-new final_eq (hash_map es (tt {0}) 0) o s
    (None-if_not_some (lookup (final_eq o) es) (λ h. new (Contains-if_lookup es o h)))

-- If an outcome is neither greater than another nor equal to it, it is less.
final_state_cmp-Less : (o p : FinalState) (c : Ordering)
    → c ≡ final_state_cmp o p
    → is_lt (ordering_reverse c) ≡ false
    → o ≢ p
    → c ≡ Less
final_state_cmp-Less o p Less e up other = refl
final_state_cmp-Less o p Equal e up other =
    absurd (other ((Decides-final_eq o p).0 (final_eq-is_cmp_equal o p ∙ sym (ap is_eq e))))
final_state_cmp-Less o p Greater e up other = absurd (true≢false up)

-- If a list is sorted by `cmp`, and its outcomes are distinct, it is strictly ascending.
pub IsStrictlySorted-of_distinct : {Kept : Type 0} (es : OutcomesWith Kept)
    → IsSorted final_state_cmp (outcomes_of es)
    → IsDistinct final_eq (outcomes_of es)
    → IsStrictlySorted es
IsStrictlySorted-of_distinct es sorted once i j d lt within =
    let first : FinalState = get_or (outcomes_of es) i d in
    let later : FinalState = get_or (outcomes_of es) j d in
    let up : is_lt (final_state_cmp later first) ≡ false =
    sorted_far _ (ranks_by IsTotalOrder-final_state_cmp (λ o. o)) (outcomes_of es) sorted i j d (omega (arith, lt)) within in
    let turned : is_lt (ordering_reverse (final_state_cmp first later)) ≡ false =
    sym (ap is_lt (IsTotalOrder-final_state_cmp.antisymm later first)) ∙ up in
    final_state_cmp-Less first later (final_state_cmp first later) refl turned
    (AllPairs-from_IsDistinct Decides-final_eq (outcomes_of es) once i j d lt within)

-- A permutation of a list has the same outcomes.
pub Contains-permuted_outcomes : {Kept : Type 0} (es fs : OutcomesWith Kept) (o : FinalState)
    → IsPermutation es fs
    → Contains (outcomes_of es) o ↔ Contains (outcomes_of fs) o
Contains-permuted_outcomes es fs o same =
    let keys : IsPermutation (outcomes_of es) (outcomes_of fs) = IsPermutation-map (λ e. e.0) es fs same in
    (Contains-permutation _ _ o keys, Contains-permutation _ _ o (IsPermutation-sym _ _ keys))

-- If a list is strictly ascending, an outcome at index i is not at a later index j.
not-listed_later : {Kept : Type 0} (es : OutcomesWith Kept) (i j : ℕ) (o : FinalState)
    → IsStrictlySorted es
    → slice_get (outcomes_of es) i ≡ Some o
    → slice_get (outcomes_of es) j ≡ Some o
    → i < j
    → ⊥
not-listed_later es i j o sorted at to lt =
    let first = get_or_from_slice_get (outcomes_of es) i o o at in
    let later = get_or_from_slice_get (outcomes_of es) j o o to in
    let less : final_state_cmp o o ≡ Less =
    sym (λ k. final_state_cmp (first k) (later k)) ∙ sorted i j o lt (slice_get_within (outcomes_of es) j o to) in
    true≢false (ap is_lt (sym less ∙ tied_itself IsTotalOrder-final_state_cmp o))

-- If a list is strictly ascending, and an outcome is at the indices i and j, they are the same.
pub outcome_index-unique : {Kept : Type 0} (es : OutcomesWith Kept) (i j : ℕ) (o : FinalState)
    → IsStrictlySorted es
    → slice_get (outcomes_of es) i ≡ Some o
    → slice_get (outcomes_of es) j ≡ Some o
    → i ≡ j
outcome_index-unique es i j o sorted at to =
    ⊎_elim (λ lt. absurd (not-listed_later es i j o sorted at to lt))
    (λ le. ⊎_elim (λ lt. absurd (not-listed_later es j i o sorted to at lt)) (λ ge. omega arith) (cases_lt j i)) (cases_lt i j)
