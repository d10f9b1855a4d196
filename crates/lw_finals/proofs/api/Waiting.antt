-- Which stores of a thread wait for their drains, by their positions, along a run of items. In either
-- language: a source test's stores never wait.
use Rattle.lw_finals.proofs.Common.{◌≡◌, ◌≢◌, ℕ, suc, ◌<◌, ◌≤◌, ◌==◌, Bool, true, false, if◌then◌else◌, List}
use Rattle.lw_finals.proofs.Common.{[], ◌∷◌, ◌++◌, Option, Some, None, refl, sym, ◌∙◌, subst, inl, inr, ◌⊎◌}
use Rattle.lw_finals.proofs.Common.{⊎_elim, arith, eq-eqb, ne_eqb, true≢false, option_map_or, cases_eq}
use Rattle.lw_finals.proofs.Common.{cond-true, cond-false, Language, Item, drained_location, statement_of}
use Rattle.lw_finals.proofs.Common.{IsMember}

-- If x is in a list, it is in the list with a number appended.
IsMember-append_left : (x j : ℕ) (ws : List ℕ) → IsMember x ws → IsMember x (ws ++ j ∷ [])
IsMember-append_left x j [] is_member = absurd is_member
IsMember-append_left x j (w ∷ ws) (inl e) = inl e
IsMember-append_left x j (w ∷ ws) (inr h) = inr (IsMember-append_left x j ws h)

-- A list with j appended has j.
IsMember-append_last : (j : ℕ) (ws : List ℕ) → IsMember j (ws ++ j ∷ [])
IsMember-append_last j [] = inl refl
IsMember-append_last j (w ∷ ws) = inr (IsMember-append_last j ws)

-- If x is in a list with j appended, it is in the list, or is j.
IsMember-append_inv : (x j : ℕ) (ws : List ℕ) → IsMember x (ws ++ j ∷ []) → IsMember x ws ⊎ (j ≡ x)
IsMember-append_inv x j [] (inl e) = inr e
IsMember-append_inv x j [] (inr h) = absurd h
IsMember-append_inv x j (w ∷ ws) (inl e) = inl (inl e)
IsMember-append_inv x j (w ∷ ws) (inr h) = ⊎_elim (λ g. inl (inr g)) (λ e. inr e) (IsMember-append_inv x j ws h)

-- The numbers are strictly ascending, at least `low`, and below `high`.
abbrev pub IsAscendingBetween : ℕ → List ℕ → ℕ → Type 0
IsAscendingBetween low [] high = low ≤ high
IsAscendingBetween low (w ∷ ws) high = (low ≤ w) × IsAscendingBetween (suc w) ws high

-- If numbers are ascending between `low` and `high`, then `low` ≤ `high`.
IsAscendingBetween-bounds : (low high : ℕ) (ws : List ℕ) → IsAscendingBetween low ws high → low ≤ high
IsAscendingBetween-bounds low high [] c = c
IsAscendingBetween-bounds low high (w ∷ ws) c = omega (arith, c.0, IsAscendingBetween-bounds (suc w) high ws c.1)

-- If numbers are ascending between bounds, each of them is within the bounds.
pub IsAscendingBetween-member : (low high x : ℕ) (ws : List ℕ)
    → IsAscendingBetween low ws high
    → IsMember x ws
    → (low ≤ x) × (x < high)
IsAscendingBetween-member low high x [] c is_member = absurd is_member
IsAscendingBetween-member low high x (w ∷ ws) c (inl e) =
    let u : suc w ≤ high = IsAscendingBetween-bounds (suc w) high ws c.1 in (omega (arith, c.0), omega arith)
IsAscendingBetween-member low high x (w ∷ ws) c (inr h) =
    let u = IsAscendingBetween-member (suc w) high x ws c.1 h in (omega (arith, c.0, u.0), u.1)

-- If numbers are ascending between bounds, they are so between wider bounds.
IsAscendingBetween-wider : (low l high h : ℕ) (ws : List ℕ)
    → l ≤ low
    → high ≤ h
    → IsAscendingBetween low ws high
    → IsAscendingBetween l ws h
IsAscendingBetween-wider low l high h [] a b c = omega arith
IsAscendingBetween-wider _ l _ h (w ∷ ws) a b c =
    (omega (arith, c.0), IsAscendingBetween-wider (suc w) _ _ h ws (omega arith) b c.1)

-- If numbers are ascending below j, they are ascending below j + 1 with j appended.
IsAscendingBetween-push : (low j : ℕ) (ws : List ℕ) → IsAscendingBetween low ws j → IsAscendingBetween low (ws ++ j ∷ []) (suc j)
IsAscendingBetween-push low j [] c = (c, omega arith)
IsAscendingBetween-push low j (w ∷ ws) c = (c.0, IsAscendingBetween-push (suc w) j ws c.1)

-- The stores of a thread that wait after its item at j, if ws waited before: after a drain (`true`) all but the first; after a
-- statement (`false`) the same, and j too if it makes an entry (its location is given).
abbrev pub own_waits : Bool → Option ℕ → ℕ → List ℕ → List ℕ
own_waits true o j [] = []
own_waits true o j (w ∷ ws) = ws
own_waits false None j ws = ws
own_waits false (Some x) j ws = ws ++ j ∷ []

-- If the waiting stores are ascending below a bound, so are those after a drain.
pub IsAscendingBetween-after_drain : (o : Option ℕ) (ws : List ℕ) (j high : ℕ)
    → IsAscendingBetween 0 ws high
    → IsAscendingBetween 0 (own_waits true o j ws) high
IsAscendingBetween-after_drain o [] j high c = omega arith
IsAscendingBetween-after_drain o (w ∷ ws) j high c =
    IsAscendingBetween-wider (suc w) 0 high high ws (omega arith) (omega arith) c.1

-- If the waiting stores are ascending below j, those after the statement at j are ascending below each later position k.
pub IsAscendingBetween-after_statement : (o : Option ℕ) (ws : List ℕ) (j k : ℕ)
    → j < k
    → IsAscendingBetween 0 ws j
    → IsAscendingBetween 0 (own_waits false o j ws) k
IsAscendingBetween-after_statement None ws j k on c = IsAscendingBetween-wider 0 0 j k ws (omega arith) (omega arith) c
IsAscendingBetween-after_statement (Some x) ws j k on c =
    IsAscendingBetween-wider 0 0 (suc j) k (ws ++ j ∷ []) (omega arith) on (IsAscendingBetween-push 0 j ws c)

-- If the item is a drain (`true`), it is that of the store that has waited longest.
abbrev pub DrainsOldest : Bool → ℕ → List ℕ → Type 0
DrainsOldest b j ws = b ≡ true → (rest : List ℕ) × (ws ≡ j ∷ rest)

-- If two lists are equal, their first numbers are equal.
numbers-head_eq : (v j : ℕ) (ws vs : List ℕ) → v ∷ ws ≡ j ∷ vs → v ≡ j
numbers-head_eq v j ws vs e = cc

-- If the drain, for which b is `true`, is that of the oldest store, a store that waits after an item waited before and is not
-- drained, or is the item itself, which makes an entry.
own_waits-member_cases : (b : Bool) (o : Option ℕ) (j w high : ℕ) (ws : List ℕ)
    → IsAscendingBetween 0 ws high
    → DrainsOldest b j ws
    → IsMember w (own_waits b o j ws)
    → (IsMember w ws × (b ≡ true → w ≢ j)) ⊎ ((b ≡ false) × ((x : ℕ) × (o ≡ Some x)) × (j ≡ w))
own_waits-member_cases true o j w high [] c head is_member = absurd is_member
own_waits-member_cases true o j w high (v ∷ ws) c head is_member =
    let r = head refl in
    let e : v ≡ j = numbers-head_eq v j ws r.0 r.1 in
    let u = IsAscendingBetween-member (suc v) high w ws c.1 is_member in
    inl (inr is_member, λ f g. omega (arith, u.0, e, g))
own_waits-member_cases false (Some x) j w high ws c head is_member =
    ⊎_elim (λ g. inl (g, λ f. absurd (true≢false (sym f)))) (λ e. inr (refl, (x, refl), e)) (IsMember-append_inv w j ws is_member)
own_waits-member_cases false None j w high ws c head is_member = inl (is_member, λ f. absurd (true≢false (sym f)))

-- If the item is a statement (b is `false`) that makes an entry, its store waits after it.
own_waits-own_store : (b : Bool) (o : Option ℕ) (j x : ℕ) (ws : List ℕ) → b ≡ false → o ≡ Some x → IsMember j (own_waits b o j ws)
own_waits-own_store true o j x ws f e = absurd (true≢false f)
own_waits-own_store false (Some y) j x ws f e = IsMember-append_last j ws
own_waits-own_store false None j x ws f e = absurd cc

-- If a store waits, and the item is not its drain (b is `true` of a drain), it waits after the item.
own_waits-still_waits : (b : Bool) (o : Option ℕ) (j w : ℕ) (ws : List ℕ)
    → DrainsOldest b j ws
    → (b ≡ true → w ≢ j)
    → IsMember w ws
    → IsMember w (own_waits b o j ws)
own_waits-still_waits true o j w [] head ne is_member = absurd is_member
own_waits-still_waits true o j w (v ∷ ws) head ne (inl e) =
    let r = head refl in absurd (ne refl (sym e ∙ numbers-head_eq v j ws r.0 r.1))
own_waits-still_waits true o j w (v ∷ ws) head ne (inr h) = h
own_waits-still_waits false (Some x) j w ws head ne is_member = IsMember-append_left w j ws is_member
own_waits-still_waits false None j w ws head ne is_member = is_member

module _ {S : Type 0} (language : Language S) where
  -- The location of a statement's entry, if it makes one.
  abbrev pub entry_location : Option S → Option ℕ
  entry_location o = option_map_or (drained_location language) o None

  -- The stores of each thread that wait after an item.
  abbrev pub waits_after : List (List S) → Item → (ℕ → List ℕ) → ℕ → List ℕ
  waits_after program a pending u =
      if a.thread == u
      then own_waits a.is_drain (entry_location (statement_of language program a)) a.position (pending u)
      else pending u

  -- After an item, the waiting stores of its own thread are those of `own_waits`.
  pub waits_after-same_thread : (program : List (List S)) (a : Item) (pending : ℕ → List ℕ) (u : ℕ)
      → a.thread ≡ u
      → waits_after program a pending u
      ≡ own_waits a.is_drain (entry_location (statement_of language program a)) a.position (pending u)
  waits_after-same_thread program a pending u same_thread =
      cond-true (a.thread == u) _ (pending u) (eq-eqb a.thread u same_thread)

  -- An item does not change which stores of other threads wait.
  pub waits_after-other_thread : (program : List (List S)) (a : Item) (pending : ℕ → List ℕ) (u : ℕ)
      → a.thread ≢ u
      → waits_after program a pending u ≡ pending u
  waits_after-other_thread program a pending u ne = cond-false (a.thread == u) _ (pending u) (ne_eqb a.thread u ne)

  -- After an item that, if it is a drain, is that of the store that has waited longest.
  module _ (program : List (List S)) (pending : ℕ → List ℕ) (a : Item) (high : ℕ)
      (climbs : IsAscendingBetween 0 (pending a.thread) high)
      (oldest : DrainsOldest a.is_drain a.position (pending a.thread)) where
    -- The location of the entry that the item's statement makes, if it makes one.
    abbrev entry : Option ℕ
    entry = entry_location (statement_of language program a)

    -- The stores of each thread that wait after the item.
    abbrev after : ℕ → List ℕ
    after = waits_after program a pending

    -- If the item is a drain of thread u, it is that of the thread's store that has waited longest.
    DrainsOldest-at_thread : (u : ℕ) → a.thread ≡ u → DrainsOldest a.is_drain a.position (pending u)
    DrainsOldest-at_thread u same_thread = subst (λ (v : ℕ). DrainsOldest a.is_drain a.position (pending v)) same_thread oldest

    -- If a store waits after the item, it waited before and the item is not its drain, or it is the item's, which makes an
    -- entry.
    pub waits_after-cases : (u k : ℕ)
        → IsMember k (after u)
        → (IsMember k (pending u) × (a.thread ≡ u → a.is_drain ≡ true → k ≢ a.position))
        ⊎ ((a.thread ≡ u) × (a.is_drain ≡ false) × ((x : ℕ) × (entry ≡ Some x)) × (a.position ≡ k))
    waits_after-cases u k is_member = elim (cases_eq a.thread u) [
      | inl same_thread ↦
          elim (own_waits-member_cases a.is_drain entry a.position k high (pending u)
          (subst (λ (v : ℕ). IsAscendingBetween 0 (pending v) high) same_thread climbs) (DrainsOldest-at_thread u same_thread)
          (subst (IsMember k) (waits_after-same_thread program a pending u same_thread) is_member)) [
            | inl (w, ne) ↦ inl (w, λ same f. ne f)
            | inr (f, store, e) ↦ inr (same_thread, f, store, e)
          ]
      | inr threads_differ ↦ inl (
        subst (IsMember k) (waits_after-other_thread program a pending u threads_differ) is_member,
        λ same. absurd (threads_differ same),
      )
    ]

    -- If a store waits, and the item is not its drain, it waits after the item.
    pub waits_after-still_waits : (u k : ℕ)
        → IsMember k (pending u)
        → (a.thread ≡ u → a.is_drain ≡ true → k ≢ a.position)
        → IsMember k (after u)
    waits_after-still_waits u k is_member ne = elim (cases_eq a.thread u) [
      | inl same_thread ↦
          subst (IsMember k) (sym (waits_after-same_thread program a pending u same_thread))
          (own_waits-still_waits a.is_drain entry a.position k (pending u) (DrainsOldest-at_thread u same_thread) (ne same_thread)
          is_member)
      | inr threads_differ ↦ subst (IsMember k) (sym (waits_after-other_thread program a pending u threads_differ)) is_member
    ]

    -- If the item is a statement that makes an entry, its store waits after it.
    pub waits_after-contains_store : (u x : ℕ)
        → a.thread ≡ u
        → a.is_drain ≡ false
        → entry ≡ Some x
        → IsMember a.position (after u)
    waits_after-contains_store u x same_thread f e =
        subst (IsMember a.position) (sym (waits_after-same_thread _ a pending u same_thread)) (own_waits-own_store _ _ _ x _ f e)
