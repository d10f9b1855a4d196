-- The verdict, computed from the numbers of states, is a statement about all outcomes. For the law that says
-- what `Ok` means.
use Rattle.lw_report.proofs.Common.{not-true, ◌↔◌, ◌≡◌, ℕ, suc, ◌⊎◌, inl, inr, Bool, true, false, List, []}
use Rattle.lw_report.proofs.Common.{◌∷◌, length, refl, sym, ap, ◌∙◌, arith, filter, not, ◌==◌, Contains}
use Rattle.lw_report.proofs.Common.{eqb-true, cases_Bool, TestHead, FinalState, positive, negative, OkMeans}
use Rattle.lw_report.proofs.Common.{verdict_of, ProjectedState, project_state, Exists, NotExists, Forall}
use Rattle.lw_report.proofs.Common.{Exact, AreStatesOf, is_true, Contains-head, Contains-tail, Contains-cons}
use Rattle.lw_report.specs.declared.judgement.Verdict.TheVariants as verdict

-- No element of a set passes a test.
abbrev NonePasses : {X : Type 0} → (X → Type 0) → (X → Bool) → Type 0
NonePasses {X} Has p = (x : X) → Has x → p x ≡ false

-- Some element of a set passes a test.
abbrev SomePasses : {X : Type 0} → (X → Type 0) → (X → Bool) → Type 0
SomePasses {X} Has p = (x : X) × Has x × (p x ≡ true)

-- The number is 0 if and only if no element of the set passes the test.
abbrev IsZeroIffNone : {X : Type 0} → (X → Type 0) → (X → Bool) → ℕ → Type 0
IsZeroIffNone Has p n = ((n == 0) ≡ true) × NonePasses Has p ⊎ ((n == 0) ≡ false) × SomePasses Has p

-- A successor is not 0.
suc_eq_zero-false : (n : ℕ) → (suc n == 0) ≡ false
suc_eq_zero-false n = elim (cases_Bool (suc n == 0)) [ inl e ↦ absurd (omega (arith, eqb-true (suc n) 0 e)) | inr e ↦ e ]

-- The number of a list's elements that pass a test is 0 if and only if none does.
IsZeroIffNone-length_filter : {X : Type 0} (p : X → Bool) (xs : List X) → IsZeroIffNone (Contains xs) p (length (filter p xs))
IsZeroIffNone-length_filter {X} p [] = inl (refl, λ x h. absurd (let lt = h.1 in omega arith))
IsZeroIffNone-length_filter {X} p (x ∷ xs) = go (cases_Bool (p x)) (IsZeroIffNone-length_filter p xs)
  where
    -- By whether the head passes the test.
    go : (p x ≡ true) ⊎ (p x ≡ false)
        → IsZeroIffNone (Contains xs) p (length (filter p xs))
        → IsZeroIffNone (Contains (x ∷ xs)) p (length (filter p (x ∷ xs)))
    go (inl t) rest = inr (rw t (suc_eq_zero-false (length (filter p xs))), (x, Contains-head x x xs refl, t))
    go (inr t) (inl nothing) =
        inl (rw t nothing.0, λ y h. elim (Contains-cons x y xs h) [ inl e ↦ ap p (sym e) ∙ t | inr k ↦ nothing.1 y k ])
    go (inr t) (inr some) = inr (rw t some.0, (some.1.0, Contains-tail x some.1.0 xs some.1.1, some.1.2))

-- If `states` are those of a set of outcomes, the number of states whose truth value passes a test is 0 if and only if no
-- outcome's does.
IsZeroIffNone-states : (head : TestHead) (Has : FinalState → Type 0) (states : List ProjectedState)
    → AreStatesOf head Has states
    → (p : Bool → Bool)
    → IsZeroIffNone Has (λ o. p (is_true head.proposition o)) (length (filter (λ (s : ProjectedState). p s.holds) states))
IsZeroIffNone-states head Has states are p = go (IsZeroIffNone-length_filter (λ (s : ProjectedState). p s.holds) states)
  where
    -- The same of the states, by their outcomes.
    go : IsZeroIffNone (Contains states) (λ (s : ProjectedState). p s.holds)
        (length (filter (λ (s : ProjectedState). p s.holds) states))
        → IsZeroIffNone Has (λ o. p (is_true head.proposition o)) (length (filter (λ (s : ProjectedState). p s.holds) states))
    go (inl nothing) =
        inl (nothing.0, λ o h. nothing.1 (project_state head o) ((are.exactly (project_state head o)).1 (o, h, refl)))
    go (inr some) =
        let (o, has, is) = (are.exactly some.1.0).0 some.1.1 in
        inr (some.0, (o, has, ap (λ (s : ProjectedState). p s.holds) is ∙ some.1.2))

-- If the negation of a truth value is false, it is true.
true-if_not_false : (b : Bool) → not b ≡ false → b ≡ true
true-if_not_false true e = refl
true-if_not_false false e = absurd cc

-- The meaning of `Ok` if the states are complete: the proposition is true in p of them, and false in q.
module _ {Has : FinalState → Type 0} {holds : FinalState → Bool} (p q : ℕ) where
  -- If no element of the set passes, some element cannot pass.
  not-NonePasses-SomePasses : NonePasses Has holds → SomePasses Has holds → ⊥
  not-NonePasses-SomePasses none (o, has, is) = let f = none o has in cc

  -- If p is 0 exactly if the proposition is true in no outcome, then `Ok` means, for `exists`, that it is true in some.
  Ok-iff_some_passes : IsZeroIffNone Has holds p → verdict_of Exact Exists p q ≡ verdict.Ok ↔ SomePasses Has holds
  Ok-iff_some_passes (inl none) = rw none.0 (λ e. absurd cc, λ some. absurd (not-NonePasses-SomePasses none.1 some))
  Ok-iff_some_passes (inr some) = rw some.0 (λ e. some.1, λ _. refl)

  -- If p is 0 exactly if the proposition is true in no outcome, then `Ok` means, for `~exists`, that it is true in none.
  Ok-iff_none_passes : IsZeroIffNone Has holds p → verdict_of Exact NotExists p q ≡ verdict.Ok ↔ NonePasses Has holds
  Ok-iff_none_passes (inl none) = rw none.0 (λ e. none.1, λ _. refl)
  Ok-iff_none_passes (inr some) = rw some.0 (λ e. absurd cc, λ none. absurd (not-NonePasses-SomePasses none some.1))

  -- If q is 0 exactly if the proposition is false in no outcome, then `Ok` means, for `forall`, that it is true in all.
  Ok-iff_all_pass : IsZeroIffNone Has (λ o. not (holds o)) q
      → verdict_of Exact Forall p q ≡ verdict.Ok ↔ ((o : FinalState) → Has o → holds o ≡ true)
  Ok-iff_all_pass (inl none) = rw none.0 (λ e o has. true-if_not_false (holds o) (none.1 o has), λ _. refl)
  Ok-iff_all_pass (inr (false_count, (o, has, is))) = rw false_count (
    λ e. absurd cc,
    λ all.
        absurd (let t = all o has in
        let u = not-true (holds o) is in
        cc),
  )

-- If `states` are those of a set of outcomes, `Ok`, by the numbers of these states, is a statement about all outcomes of the
-- set.
pub OkMeans-of_outcomes : (head : TestHead) (Has : FinalState → Type 0) (states : List ProjectedState)
    → AreStatesOf head Has states
    → OkMeans head Has (positive states) (negative states)
OkMeans-of_outcomes head Has states are =
    let true_ones = IsZeroIffNone-states head Has states are (λ b. b) in
    record {
      exists_some = Ok-iff_some_passes (positive states) (negative states) true_ones;
      exists_none = Ok-iff_none_passes (positive states) (negative states) true_ones;
      forall_all = Ok-iff_all_pass (positive states) (negative states) (IsZeroIffNone-states head Has states are not);
    }
