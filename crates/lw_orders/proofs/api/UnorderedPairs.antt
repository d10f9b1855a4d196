-- The unordered conflicts that are computed are exactly those of the definition, in the same order. Then
-- sorted lists of pairs. For the law that orientations are counted.
use Rattle.lw_orders.proofs.Common.{◌≡◌, ℕ, zero, suc, ◌^◌, ◌⊎◌, inl, inr, Bool, true, false, not, List, []}
use Rattle.lw_orders.proofs.Common.{◌∷◌, length, filter, refl, sym, ap, ◌∙◌, subst, arith, All, Contains}
use Rattle.lw_orders.proofs.Common.{cases_Bool, All-nil, All-cons, All-head, All-weaker, All-filter}
use Rattle.lw_orders.proofs.Common.{All-contains, Constraints, AreAscending, IsLexicographicallyLess}
use Rattle.lw_orders.proofs.Common.{AreSorted, AreUnorderedConflicts, HasOrientationCount, is_ordered}
use Rattle.lw_orders.proofs.Common.{unordered_conflicts, orientation_count, ◌↔◌, All-contains_itself}
use Rattle.lw_orders.proofs.Common.{filter_passes, IsOrderedByPath}
use Rattle.lw_orders.proofs.Walks.{IsOrderedByPath-if_ordered, is_ordered-if_path}

-- An empty list contains nothing.
not-Contains-nil : {X : Type 0} (x : X) → Contains [] x → ⊥
not-Contains-nil x (k, l, e) = absurd (omega arith)

-- A list contains its first pair.
Contains-first_pair : (p : ℕ × ℕ) (ps : List (ℕ × ℕ)) → Contains (p ∷ ps) p
Contains-first_pair p ps = (0, omega arith, refl)

-- A list contains what its tail contains.
Contains-later_pair : (p q : ℕ × ℕ) (ps : List (ℕ × ℕ)) → Contains ps q → Contains (p ∷ ps) q
Contains-later_pair p q ps (k, l, e) = (suc k, omega arith, e)

-- An element of a list is its first pair, or is in its tail.
Contains-pair_cases : (p q : ℕ × ℕ) (ps : List (ℕ × ℕ)) → Contains (p ∷ ps) q → (p ≡ q) ⊎ Contains ps q
Contains-pair_cases p q ps (zero, l, e) = inl e
Contains-pair_cases p q ps (suc k, l, e) = inr (k, omega arith, e)

-- ---- sorted pairs

-- The lexicographic order of pairs is transitive.
IsLexicographicallyLess-trans : (p q r : ℕ × ℕ)
    → IsLexicographicallyLess p q
    → IsLexicographicallyLess q r
    → IsLexicographicallyLess p r
IsLexicographicallyLess-trans p q r (inl a) (inl b) = inl (omega (arith, a, b))
IsLexicographicallyLess-trans p q r (inl a) (inr b) = inl (omega (arith, a, b.0))
IsLexicographicallyLess-trans p q r (inr a) (inl b) = inl (omega (arith, a.0, b))
IsLexicographicallyLess-trans p q r (inr a) (inr b) = inr (a.0 ∙ b.0, omega (arith, a.1, b.1))

-- If a pair is lexicographically less than another, they differ.
IsLexicographicallyLess-irreflexive : (p q : ℕ × ℕ) → IsLexicographicallyLess p q → p ≡ q → ⊥
IsLexicographicallyLess-irreflexive p q (inl a) e = absurd (omega (arith, a, ap (λ (r : ℕ × ℕ). r.0) e))
IsLexicographicallyLess-irreflexive p q (inr a) e = absurd (omega (arith, a.1, ap (λ (r : ℕ × ℕ). r.1) e))

-- If pairs are sorted, the first is less than all others.
IsLexicographicallyLess-first : (p : ℕ × ℕ) (ps : List (ℕ × ℕ)) → AreSorted (p ∷ ps) → All (IsLexicographicallyLess p) ps
IsLexicographicallyLess-first p [] s = All-nil (IsLexicographicallyLess p)
IsLexicographicallyLess-first p (q ∷ ps) s =
    All-cons (IsLexicographicallyLess p) q ps s.0
    (All-weaker (IsLexicographicallyLess q) (IsLexicographicallyLess p) (λ r b. IsLexicographicallyLess-trans p q r s.0 b) ps
    (IsLexicographicallyLess-first q ps s.1))

-- If pairs are sorted, so is their tail.
AreSorted-tail : (p : ℕ × ℕ) (ps : List (ℕ × ℕ)) → AreSorted (p ∷ ps) → AreSorted ps
AreSorted-tail p [] s = tt
AreSorted-tail p (q ∷ ps) s = s.1

-- If p is less than all of sorted pairs, p followed by them is sorted.
AreSorted-cons : (p : ℕ × ℕ) (ps : List (ℕ × ℕ)) → All (IsLexicographicallyLess p) ps → AreSorted ps → AreSorted (p ∷ ps)
AreSorted-cons p [] above s = tt
AreSorted-cons p (q ∷ ps) above s = (All-head (IsLexicographicallyLess p) q ps above, s)

-- If pairs are sorted, so are those that pass a test.
AreSorted-filter : (test : ℕ × ℕ → Bool) (ps : List (ℕ × ℕ)) → AreSorted ps → AreSorted (filter test ps)
AreSorted-filter test [] s = tt
AreSorted-filter test (p ∷ ps) s =
    (let rest = AreSorted-filter test ps (AreSorted-tail p ps s) in
    elim (cases_Bool (test p)) [
      | inl e ↦
          rw e
          (AreSorted-cons p (filter test ps)
          (All-filter test (IsLexicographicallyLess p) ps (IsLexicographicallyLess-first p ps s)) rest)
      | inr e ↦ rw e rest
    ])

-- If pairs are sorted, the first is not in the tail.
not-Contains-sorted_tail : (p : ℕ × ℕ) (ps : List (ℕ × ℕ)) → AreSorted (p ∷ ps) → Contains ps p → ⊥
not-Contains-sorted_tail p ps s is_member =
    IsLexicographicallyLess-irreflexive p p
    (All-contains (IsLexicographicallyLess p) ps p (IsLexicographicallyLess-first p ps s) is_member) refl

-- Two sorted lists with the same pairs are equal.
AreSorted-unique : (ps qs : List (ℕ × ℕ)) → AreSorted ps → AreSorted qs → ((r : ℕ × ℕ) → Contains ps r ↔ Contains qs r) → ps ≡ qs
AreSorted-unique [] [] s t same = refl
AreSorted-unique [] (q ∷ qs) s t same = absurd (not-Contains-nil q ((same q).1 (Contains-first_pair q qs)))
AreSorted-unique (p ∷ ps) [] s t same = absurd (not-Contains-nil p ((same p).0 (Contains-first_pair p ps)))
AreSorted-unique (p ∷ ps) (q ∷ qs) s t same =
    let first : p ≡ q = elim (Contains-pair_cases q p qs ((same p).0 (Contains-first_pair p ps))) [
      | inl e ↦ sym e
      | inr above_q ↦ elim (Contains-pair_cases p q ps ((same q).1 (Contains-first_pair q qs))) [
        | inl e ↦ e
        | inr above_p ↦
            absurd (IsLexicographicallyLess-irreflexive p p
            (IsLexicographicallyLess-trans p q p
            (All-contains (IsLexicographicallyLess p) ps q (IsLexicographicallyLess-first p ps s) above_p)
            (All-contains (IsLexicographicallyLess q) qs p (IsLexicographicallyLess-first q qs t) above_q)) refl)
      ]
    ] in
    let rest : ps ≡ qs = AreSorted-unique ps qs (AreSorted-tail p ps s) (AreSorted-tail q qs t) (λ r. (
      λ c. elim (Contains-pair_cases q r qs ((same r).0 (Contains-later_pair p r ps c))) [
        | inl e ↦ absurd (not-Contains-sorted_tail p ps s (subst (Contains ps) (sym (first ∙ e)) c))
        | inr d ↦ d
      ],
      λ c. elim (Contains-pair_cases p r ps ((same r).1 (Contains-later_pair q r qs c))) [
        | inl e ↦ absurd (not-Contains-sorted_tail q qs t (subst (Contains qs) (sym (sym first ∙ e)) c))
        | inr d ↦ d
      ],
    )) in
    cc

-- ---- pairs that pass a test

-- A pair of the list that passes the test is in the filtered list.
Contains-filter_pair : (test : ℕ × ℕ → Bool) (ps : List (ℕ × ℕ)) (p : ℕ × ℕ)
    → Contains ps p
    → test p ≡ true
    → Contains (filter test ps) p
Contains-filter_pair test [] p is_member e = absurd (not-Contains-nil p is_member)
Contains-filter_pair test (q ∷ ps) p is_member e = elim (cases_Bool (test q)) [
  | inl f ↦ rw f (elim (Contains-pair_cases q p ps is_member) [
    | inl is ↦ subst (λ r. Contains (r ∷ filter test ps) p) (sym is) (Contains-first_pair p (filter test ps))
    | inr r ↦ Contains-later_pair q p (filter test ps) (Contains-filter_pair test ps p r e)
  ])
  | inr f ↦ rw f (elim (Contains-pair_cases q p ps is_member) [ inl is ↦ absurd cc | inr r ↦ Contains-filter_pair test ps p r e ])
]

-- A pair of the filtered list is in the list, and passes the test.
Contains-filter_pair_inv : (test : ℕ × ℕ → Bool) (ps : List (ℕ × ℕ)) (p : ℕ × ℕ)
    → Contains (filter test ps) p
    → Contains ps p × (test p ≡ true)
Contains-filter_pair_inv test ps p is_member = (
  All-contains (Contains ps) (filter test ps) p (All-filter test (Contains ps) ps (All-contains_itself ps)) is_member,
  All-contains (λ q. test q ≡ true) (filter test ps) p (filter_passes test ps) is_member,
)

-- ---- the unordered conflicts
module _ (t : Constraints) where
  -- If the preserved pairs are ascending and the conflicts sorted, the list `unordered_conflicts` satisfies the definition
  -- `AreUnorderedConflicts`.
  pub AreUnorderedConflicts-computed : AreAscending t.len t.preserved
      → AreSorted t.conflicts
      → AreUnorderedConflicts t (unordered_conflicts t)
  AreUnorderedConflicts-computed up sorted =
      record { exactly = λ p. (kept p, kept_if_unordered p); sorted = AreSorted-filter passes t.conflicts sorted }
    where
      -- The test that a pair passes if its items have no order yet.
      passes : ℕ × ℕ → Bool
      passes q = not (is_ordered t.preserved q)

      -- No pair that passes has an order.
      unordered : (p : ℕ × ℕ) → passes p ≡ true → is_ordered t.preserved p ≡ true → ⊥
      unordered p passed ordered = let bad : false ≡ true = rw ordered at passed in absurd cc

      -- A pair that is kept is a conflict that no path orders.
      kept : (p : ℕ × ℕ) → Contains (unordered_conflicts t) p → Contains t.conflicts p × ¬ IsOrderedByPath t.preserved p
      kept p is_member =
          let found = Contains-filter_pair_inv passes t.conflicts p is_member in
          (found.0, λ ordered. unordered p found.1 (is_ordered-if_path t.len t.preserved p up ordered))

      -- A conflict that no path orders is kept.
      kept_if_unordered : (p : ℕ × ℕ)
          → Contains t.conflicts p × ¬ IsOrderedByPath t.preserved p
          → Contains (unordered_conflicts t) p
      kept_if_unordered p c = Contains-filter_pair passes t.conflicts p c.0 (elim (cases_Bool (is_ordered t.preserved p)) [
        | inl e ↦ absurd (c.1 (IsOrderedByPath-if_ordered t.preserved p e))
        | inr e ↦ ap not e
      ])

  -- If the preserved pairs are ascending and the conflicts sorted, the number `orientation_count` satisfies the definition
  -- `HasOrientationCount`.
  pub HasOrientationCount-computed : AreAscending t.len t.preserved
      → AreSorted t.conflicts
      → HasOrientationCount t (orientation_count t)
  HasOrientationCount-computed up sorted = (unordered_conflicts t, AreUnorderedConflicts-computed up sorted, refl)

  -- If two lists satisfy `AreUnorderedConflicts`, they are equal.
  pub AreUnorderedConflicts-unique : (ps qs : List (ℕ × ℕ)) → AreUnorderedConflicts t ps → AreUnorderedConflicts t qs → ps ≡ qs
  AreUnorderedConflicts-unique ps qs p q =
      AreSorted-unique ps qs p.sorted q.sorted
      (λ r. ((λ c. (q.exactly r).1 ((p.exactly r).0 c)), λ c. (p.exactly r).1 ((q.exactly r).0 c)))

  -- If two numbers satisfy `HasOrientationCount`, they are equal.
  pub HasOrientationCount-unique : (n m : ℕ) → HasOrientationCount t n → HasOrientationCount t m → n ≡ m
  HasOrientationCount-unique n m (ps, p, n_is) (qs, q, m_is) =
      n_is ∙ (ap (λ (rs : List (ℕ × ℕ)). 2 ^ length rs) (AreUnorderedConflicts-unique ps qs p q) ∙ sym m_is)

  -- If the preserved pairs are ascending and the conflicts sorted, n is the number of orientations if and only if it is the
  -- computed one.
  pub HasOrientationCount-iff_computed : AreAscending t.len t.preserved
      → AreSorted t.conflicts
      → (n : ℕ)
      → HasOrientationCount t n ↔ (n ≡ orientation_count t)
  HasOrientationCount-iff_computed up sorted n = (
    λ reversals. HasOrientationCount-unique n (orientation_count t) reversals (HasOrientationCount-computed up sorted),
    λ is. subst (HasOrientationCount t) (sym is) (HasOrientationCount-computed up sorted),
  )
