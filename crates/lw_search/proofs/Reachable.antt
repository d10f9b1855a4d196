-- The states that a search has found are different from each other, and each is reachable. So the returned
-- number of visited states is right, and the budget is exceeded only if that many states are reachable.
use Rattle.lw_search.proofs.Common.{◌≡◌, ◌<◌, ℕ, zero, suc, List, [], ◌∷◌, length, inl, inr, subst, sym, refl}
use Rattle.lw_search.proofs.Common.{arith, slice_get, Some, All, X86Test, initial_machine_state, Contains}
use Rattle.lw_search.proofs.Common.{All-cons, All-nil, not-Contains-nil, Contains-head, Contains-tail}
use Rattle.lw_search.proofs.Common.{Contains-cons, IsDuplicateFree, IsReachable, AreReachable, Visits}
use Rattle.lw_search.proofs.Common.{ExceedsBudget, State, Components, FoundStates, HasUniqueIndices}
use Rattle.lw_search.proofs.Common.{SearchInvariant}
use Rattle.lw_search.proofs.AllFound.{final_state-found}
use Rattle.lw_search.proofs.Collected.{MachineRunsTo-found}

-- ---- members and indices

-- A member of a list has an index.
index-Contains : {X : Type 0} (xs : List X) (x : X) → Contains xs x → (i : ℕ) × (slice_get xs i ≡ Some x)
index-Contains [] x c = absurd (not-Contains-nil x c)
index-Contains (y ∷ xs) x c = elim (Contains-cons y x xs c) [
  | inl e ↦ (0, λ i. Some (e i))
  | inr r ↦ (let found = index-Contains xs x r in (suc found.0, found.1))
]

-- An item at an index is a member.
Contains-of_slice_get : {X : Type 0} (xs : List X) (i : ℕ) (x : X) → slice_get xs i ≡ Some x → Contains xs x
Contains-of_slice_get [] i x at = absurd cc
Contains-of_slice_get (y ∷ xs) zero x at = Contains-head y x xs (Some-injective y x at)
  where
    -- Items are equal if they are equal as values of `Some`.
    Some-injective : {X : Type 0} (y x : X) → Some y ≡ Some x → y ≡ x
    Some-injective y x e = cc
Contains-of_slice_get (y ∷ xs) (suc i) x at = Contains-tail y x xs (Contains-of_slice_get xs i x at)

-- A list of which each item has only one index has no duplicates.
IsDuplicateFree-of_unique_indices : {X : Type 0} (xs : List X) → HasUniqueIndices xs → IsDuplicateFree xs
IsDuplicateFree-of_unique_indices [] distinct = tt
IsDuplicateFree-of_unique_indices (x ∷ xs) distinct = (
  λ c.
      (let again = index-Contains xs x c in
      let e = distinct 0 (suc again.0) x refl again.1 in
      absurd (omega (arith, e))),
  IsDuplicateFree-of_unique_indices xs (λ i j y at and. let e = distinct (suc i) (suc j) y at and in omega (arith, e)),
)

-- What holds of the item at each index holds of all items.
All-slice_get : {X : Type 0} (P : X → Type 0) (xs : List X) → ((i : ℕ) (x : X) → slice_get xs i ≡ Some x → P x) → All P xs
All-slice_get P [] each = All-nil P
All-slice_get P (x ∷ xs) each = All-cons P x xs (each 0 x refl) (All-slice_get P xs (λ i y at. each (suc i) y at))

-- ---- the states found

module _ (test : X86Test) (tables : Components) (visited : FoundStates) (found : List State) where
  -- The states found are reachable, whatever number of them was expanded.
  pub AreReachable-found : (closed : ℕ)
      → SearchInvariant test.threads (initial_machine_state test test.head.init_words) tables visited found closed
      → AreReachable test found
  AreReachable-found closed invariant = record {
    distinct = IsDuplicateFree-of_unique_indices found invariant.distinct;
    reachable = All-slice_get (IsReachable test) found (λ i s at.
        MachineRunsTo-found test.threads (initial_machine_state test test.head.init_words) tables visited found closed invariant
        (suc i) i s (omega arith) at);
  }

  -- A search that expanded each state that it found visited that number of states.
  pub visits-found :
      SearchInvariant test.threads (initial_machine_state test test.head.init_words) tables visited found (length visited.keys)
      → Visits test (length visited.keys)
  visits-found invariant = record {
    states = found;
    size = sym invariant.key_count;
    reachable = AreReachable-found (length visited.keys) invariant;
    final = λ s (events, ran) final.
        let all : SearchInvariant test.threads (initial_machine_state test test.head.init_words) tables visited found
        (length found) =
        subst (λ n. SearchInvariant test.threads (initial_machine_state test test.head.init_words) tables visited found n)
        invariant.key_count invariant in
        let at =
        final_state-found test.threads (initial_machine_state test test.head.init_words) tables visited found all events s ran
        final in
        Contains-of_slice_get found at.0 s at.1;
  }

  -- A search that found more states than its budget exceeds it.
  pub ExceedsBudget-of_found : (budget closed : ℕ)
      → SearchInvariant test.threads (initial_machine_state test test.head.init_words) tables visited found closed
      → budget < length found
      → ExceedsBudget test budget
  ExceedsBudget-of_found budget closed invariant more =
      record { states = found; more = more; reachable = AreReachable-found closed invariant }
