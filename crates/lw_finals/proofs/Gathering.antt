-- What is collected by runs in sequence, and by path assignments in sequence. Lemmas for the functions of
-- `collect.rt`, which add the outcomes of one order after another.
use Rattle.lw_finals.proofs.Common.{◌≡◌, ◌==◌, Bool, true, ℕ, ◌+◌, ◌<◌, ◌≤◌, List, [], ◌∷◌, ◌++◌, length}
use Rattle.lw_finals.proofs.Common.{refl, sym, ◌∙◌, subst, inl, inr, arith, All, Contains, IsPermutation}
use Rattle.lw_finals.proofs.Common.{eqb-true, map-append, All-nil, All-cons, All-append, All-weaker}
use Rattle.lw_finals.proofs.Common.{Contains-append_left, Contains-append_right, FinalState, indices}
use Rattle.lw_finals.proofs.Common.{CollectsOutcomes, OutcomesOfOne, OutcomesWith, outcomes_of, VisitsAll}
use Rattle.lw_finals.proofs.Common.{Contains-permuted_outcomes, Contains-head, Contains-tail, Contains-cons}
use Rattle.lw_finals.proofs.Common.{not-Contains-nil, Contains-singleton, All-indices_in_range}

module _ {Kept : Type 0} (Leads : Kept → FinalState → Type 0) where
  -- If there is no outcome, the unchanged entries collect all outcomes.
  pub CollectsOutcomes-none : (Ends : FinalState → Type 0) (es : OutcomesWith Kept)
      → ((o : FinalState) → Ends o → ⊥)
      → CollectsOutcomes Ends Leads es es
  CollectsOutcomes-none Ends es none =
      record { covered = λ o e. absurd (none o e); preserves_outcomes = λ o c. c; each_leads = λ a. a }

  -- If o is the only outcome, appending it with a value that leads to it collects all outcomes.
  pub CollectsOutcomes-one : (Ends : FinalState → Type 0) (es fs : OutcomesWith Kept) (o p : FinalState) (s : Kept)
      → ((q : FinalState) → Ends q → q ≡ o)
      → p ≡ o
      → Leads s p
      → fs ≡ es ++ (p, s) ∷ []
      → CollectsOutcomes Ends Leads es fs
  CollectsOutcomes-one Ends es fs o p s only same leads grown =
      subst (λ (gs : OutcomesWith Kept). CollectsOutcomes Ends Leads es gs) (sym grown) (record {
        covered = λ q e.
            (let is : q ≡ p = only q e ∙ sym same in
            subst (λ (ks : List FinalState). Contains ks q) (sym outcomes_of-push)
            (Contains-append_right (outcomes_of es) (p ∷ []) q (Contains-head p q [] (sym is))));
        preserves_outcomes =
            λ q h. subst (λ ks. Contains ks q) (sym outcomes_of-push) (Contains-append_left (outcomes_of es) (p ∷ []) q h);
        each_leads = λ a. All-append (λ e. Leads e.1 e.0) es _ a (All-cons (λ e. Leads e.1 e.0) _ [] leads (All-nil _));
      })
    where
      -- The outcomes of the entries with one more.
      outcomes_of-push : outcomes_of (es ++ (p, s) ∷ []) ≡ outcomes_of es ++ p ∷ []
      outcomes_of-push = map-append _ es ((p, s) ∷ [])

  -- If entries collect the outcomes of `More`, they collect those of `Ends`, which are among them.
  pub CollectsOutcomes-mono : (More Ends : FinalState → Type 0) (es fs : OutcomesWith Kept)
      → ((o : FinalState) → Ends o → More o)
      → CollectsOutcomes More Leads es fs
      → CollectsOutcomes Ends Leads es fs
  CollectsOutcomes-mono _ _ _ fs h a =
      record { covered = λ o e. a.covered o (h o e); preserves_outcomes = a.preserves_outcomes; each_leads = a.each_leads }

  -- If entries collect the outcomes, so does a permutation of them in which each value still leads to its outcome.
  pub CollectsOutcomes-sorted : {Ends : FinalState → Type 0} {es fs gs : OutcomesWith Kept}
      → IsPermutation fs gs
      → CollectsOutcomes Ends Leads es fs
      → (All (λ e. Leads e.1 e.0) fs → All (λ e. Leads e.1 e.0) gs)
      → CollectsOutcomes Ends Leads es gs
  CollectsOutcomes-sorted {fs = fs} {gs} same a all = record {
    covered = λ o e. (Contains-permuted_outcomes fs gs o same).0 (a.covered o e);
    preserves_outcomes = λ o c. (Contains-permuted_outcomes fs gs o same).0 (a.preserves_outcomes o c);
    each_leads = λ h. all (a.each_leads h);
  }

  -- Entries that have collected the outcomes of x, and then those of xs, have collected the outcomes of `x ∷ xs`.
  pub CollectsOutcomes-cons : {X : Type 0} (Ends : X → FinalState → Type 0) (x : X) (xs : List X) (es fs gs : OutcomesWith Kept)
      → CollectsOutcomes (Ends x) Leads es fs
      → CollectsOutcomes (OutcomesOfOne Ends xs) Leads fs gs
      → CollectsOutcomes (OutcomesOfOne Ends (x ∷ xs)) Leads es gs
  CollectsOutcomes-cons {X} Ends x xs es fs gs a b = record {
    covered = λ o (y, c, e). elim (Contains-cons x y xs c) [
      | inl is_head ↦ b.preserves_outcomes o (a.covered o (subst (λ (z : X). Ends z o) (sym is_head) e))
      | inr in_tail ↦ b.covered o (y, in_tail, e)
    ];
    preserves_outcomes = λ o c. b.preserves_outcomes o (a.preserves_outcomes o c);
    each_leads = λ h. b.each_leads (a.each_leads h);
  }

-- The orders to come are among all. If entries that grew from `found` collect the outcomes of those to come, they have grown from `old` and
-- collect the outcomes of all.
pub record CollectedUpTo {Kept : Type 0} (Ends : List ℕ → FinalState → Type 0) (Leads : Kept → FinalState → Type 0)
    (all to_come : List (List ℕ)) (old found : OutcomesWith Kept) : Type 0 where
  pub among : (order : List ℕ) → Contains to_come order → Contains all order
  pub rest : (new : OutcomesWith Kept)
      → CollectsOutcomes (OutcomesOfOne Ends to_come) Leads found new
      → CollectsOutcomes (OutcomesOfOne Ends all) Leads old new

module _ {Kept : Type 0} (Ends : List ℕ → FinalState → Type 0) (Leads : Kept → FinalState → Type 0) (all : List (List ℕ))
    (old : OutcomesWith Kept) where
  -- If the remaining orders begin with `order`, and its outcomes are collected, those after it remain.
  pub CollectedUpTo-next : {to_come next : List (List ℕ)} {found more : OutcomesWith Kept} {order : List ℕ}
      → to_come ≡ order ∷ next
      → CollectedUpTo Ends Leads all to_come old found
      → CollectsOutcomes (Ends order) Leads found more
      → CollectedUpTo Ends Leads all next old more
  CollectedUpTo-next {to_come} {next} {found} {more} {order} e u h = record {
    among = λ x c. u.among x (subst (λ xs. Contains xs x) (sym e) (Contains-tail order x next c));
    rest = λ new r.
        u.rest new
        (subst (λ (xs : List (List ℕ)). CollectsOutcomes (OutcomesOfOne Ends xs) Leads found new) (sym e)
        (CollectsOutcomes-cons Leads Ends order next found more new h r));
  }

-- Path assignments visited in sequence.
module _ {V Kept : Type 0} (Test : Type 0) (test_of : V → Test) (found_of : V → OutcomesWith Kept)
    (visits : V → List (List ℕ) → V → Type 0) (Ends : Test → List (List ℕ) → FinalState → Type 0)
    (Leads : Test → Kept → FinalState → Type 0)
    (each : (v : V) (paths : List (List ℕ)) (w : V)
    → visits v paths w
    → (test_of w ≡ test_of v) × CollectsOutcomes (Ends (test_of v) paths) (Leads (test_of v)) (found_of v) (found_of w)) where
  -- If path assignments are visited in sequence, and each visit collects its outcomes, the outcomes of all are collected.
  pub CollectsOutcomes-all_visits : (test : Test) (assignments : List (List (List ℕ))) (v w : V)
      → test_of v ≡ test
      → VisitsAll visits assignments v w
      → CollectsOutcomes (OutcomesOfOne (Ends test) assignments) (Leads test) (found_of v) (found_of w)
  CollectsOutcomes-all_visits test [] v w is same =
      subst (λ (u : V). CollectsOutcomes (OutcomesOfOne (Ends test) []) (Leads test) (found_of v) (found_of u)) (sym same)
      (CollectsOutcomes-none (Leads test) _ (found_of v) (λ o (paths, c, e). not-Contains-nil paths c))
  CollectsOutcomes-all_visits test (paths ∷ assignments) v w is (mid, one, rest) =
      let h : (test_of mid ≡ test) × CollectsOutcomes (Ends test paths) (Leads test) (found_of v) (found_of mid) =
      subst (λ (t : Test). (test_of mid ≡ t) × CollectsOutcomes (Ends t paths) (Leads t) (found_of v) (found_of mid)) is
      (each v paths mid one) in
      CollectsOutcomes-cons _ _ paths assignments _ _ (found_of w) h.1
      (CollectsOutcomes-all_visits test assignments mid w h.0 rest)

-- If there is only one order, and its outcomes are collected, those of all orders are.
pub CollectsOutcomes-only_order : {Kept : Type 0} (Ends : List ℕ → FinalState → Type 0) (Leads : Kept → FinalState → Type 0)
    (given : List (List ℕ)) (order : List ℕ) (es fs : OutcomesWith Kept)
    → given ≡ order ∷ []
    → CollectsOutcomes (Ends order) Leads es fs
    → CollectsOutcomes (OutcomesOfOne Ends given) Leads es fs
CollectsOutcomes-only_order Ends Leads given order es fs one = CollectsOutcomes-mono Leads (Ends order) _ es fs (λ o (x, c, e).
    subst (λ (y : List ℕ). Ends y o) (Contains-singleton order x (subst (λ (xs : List (List ℕ)). Contains xs x) one c)) e)

-- Each number of the range from 0 to n is below n.
pub All-indices_below : (n : ℕ) → All (λ i. i < n) (indices 0 n)
All-indices_below n =
    All-weaker (λ (j : ℕ). (0 ≤ j) × (j < 0 + n)) (λ (j : ℕ). j < n) (λ j h. omega (arith, h.1)) (indices 0 n)
    (All-indices_in_range 0 n)

-- If the test b says that the length n of a list is 0, the list is empty.
pub nil-if_length_zero : {X : Type 0} (xs : List X) (n : ℕ) (b : Bool) → b ≡ (n == 0) → b ≡ true → n ≡ length xs → xs ≡ []
nil-if_length_zero [] n b e is len = refl
nil-if_length_zero (x ∷ xs) n b e is len = let zero_is : n ≡ 0 = eqb-true n 0 (sym e ∙ is) in absurd (omega arith)
