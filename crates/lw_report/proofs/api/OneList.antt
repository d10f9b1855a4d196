-- Two strictly sorted lists with the same elements are equal. So a set of outcomes determines its list of
-- states, and its report.
use Rattle.lw_report.proofs.Common.{◌≡◌, ◌↔◌, ℕ, suc, ◌⊎◌, inl, inr, List, [], ◌∷◌, refl, sym, ap, ◌∙◌, subst}
use Rattle.lw_report.proofs.Common.{arith, All, Contains, AllPairs, nat_cmp, Less, slice_cmp}
use Rattle.lw_report.proofs.Common.{nat_list_cmp_total, tied_itself, All-contains, TestHead, FinalState}
use Rattle.lw_report.proofs.Common.{IsReport, report_text, ProjectedState, AreStatesOf, Claim}
use Rattle.lw_report.proofs.Common.{not-Contains-nil, Contains-head, Contains-tail, Contains-cons}

-- ---- lists whose elements are pairwise related

module _ {X : Type 0} (R : X → X → Type 0) where
  -- If a list's elements are pairwise related, the first is related to all after it.
  pub AllPairs-head : (x : X) (xs : List X) → AllPairs R (x ∷ xs) → All (R x) xs
  AllPairs-head x xs h = λ k d lt. h 0 (suc k) d (omega arith) (omega (arith, lt))

  -- If a list's elements are pairwise related, so are those of its tail.
  pub AllPairs-tail : (x : X) (xs : List X) → AllPairs R (x ∷ xs) → AllPairs R xs
  AllPairs-tail x xs h = λ i j d less lt. h (suc i) (suc j) d (omega (arith, less)) (omega (arith, lt))

module _ {X : Type 0} (R : X → X → Type 0) (strict : (x y : X) → R x y → R y x → ⊥) where
  -- If strictly sorted lists start with the same element, the elements of one tail are in the other.
  Contains-tail_of_other : (x y : X) (xs ys : List X)
      → x ≡ y
      → All (R x) xs
      → ((s : X) → Contains (x ∷ xs) s → Contains (y ∷ ys) s)
      → (s : X)
      → Contains xs s
      → Contains ys s
  Contains-tail_of_other x y xs ys same above has s h = elim (Contains-cons y s ys (has s (Contains-tail x s xs h))) [
    | inl e ↦
        let itself : R s s = subst (λ (z : X). R z s) (same ∙ e) (All-contains (R x) xs s above h) in
        absurd (strict s s itself itself)
    | inr k ↦ k
  ]

  -- Two strictly sorted lists with the same elements are equal.
  pub strictly_sorted_list-unique : (xs ys : List X)
      → AllPairs R xs
      → AllPairs R ys
      → ((s : X) → Contains xs s → Contains ys s)
      → ((s : X) → Contains ys s → Contains xs s)
      → xs ≡ ys
  strictly_sorted_list-unique [] [] up above h k = refl
  strictly_sorted_list-unique [] (y ∷ ys) up above h k = absurd (not-Contains-nil y (k y (Contains-head y y ys refl)))
  strictly_sorted_list-unique (x ∷ xs) [] up above h k = absurd (not-Contains-nil x (h x (Contains-head x x xs refl)))
  strictly_sorted_list-unique (x ∷ xs) (y ∷ ys) up above h k =
      let same : x ≡ y =
      heads_equal-if_sorted (Contains-cons y x ys (h x (Contains-head x x xs refl)))
      (Contains-cons x y xs (k y (Contains-head y y ys refl))) in
      let rest : xs ≡ ys =
      strictly_sorted_list-unique xs ys (AllPairs-tail R x xs up) (AllPairs-tail R y ys above)
      (Contains-tail_of_other x y xs ys same (AllPairs-head R x xs up) h)
      (Contains-tail_of_other y x ys xs (sym same) (AllPairs-head R y ys above) k) in
      cc
    where
      heads_equal-if_sorted : (y ≡ x) ⊎ Contains ys x → (x ≡ y) ⊎ Contains xs y → x ≡ y
      heads_equal-if_sorted (inl e) there = sym e
      heads_equal-if_sorted (inr here) (inl e) = e
      heads_equal-if_sorted (inr here) (inr there) =
          absurd (strict x y (All-contains (R x) xs y (AllPairs-head R x xs up) there)
          (All-contains (R y) ys x (AllPairs-head R y ys above) here))

-- ---- states

-- No list of words is less than itself.
pub words_less-irreflexive : (xs : List ℕ) → slice_cmp nat_cmp xs xs ≡ Less → ⊥
words_less-irreflexive xs h = let e = tied_itself nat_list_cmp_total xs in cc

-- The order of states by their words is asymmetric: if the words of one state are less than those of another, the reverse does
-- not hold.
pub words_less-asymmetric : (first later : ProjectedState)
    → slice_cmp nat_cmp first.words later.words ≡ Less
    → slice_cmp nat_cmp later.words first.words ≡ Less
    → ⊥
words_less-asymmetric first later h k =
    words_less-irreflexive first.words (nat_list_cmp_total.trans first.words later.words first.words h k)

module _ (head : TestHead) (Has Also : FinalState → Type 0) (same : (o : FinalState) → Has o ↔ Also o) where
  -- If two sets have the same outcomes, they have the same list of states.
  pub AreStatesOf-unique : (states others : List ProjectedState)
      → AreStatesOf head Has states
      → AreStatesOf head Also others
      → states ≡ others
  AreStatesOf-unique states others a b =
      strictly_sorted_list-unique (λ (first later : ProjectedState). slice_cmp nat_cmp first.words later.words ≡ Less)
      words_less-asymmetric states others a.sorted b.sorted
      (λ s h. let e = (a.exactly s).0 h in (b.exactly s).1 (e.0, (same e.0).0 e.1, e.2))
      (λ s h. let e = (b.exactly s).0 h in (a.exactly s).1 (e.0, (same e.0).1 e.1, e.2))

  -- If two sets have the same outcomes, they have the same report.
  pub IsReport-unique : (claim : Claim) (text other : List ℕ)
      → IsReport head Has claim text
      → IsReport head Also claim other
      → text ≡ other
  IsReport-unique claim text other a b =
      a.text_is ∙ ap (report_text head claim) (AreStatesOf-unique a.states b.states a.states_are b.states_are) ∙ sym b.text_is
