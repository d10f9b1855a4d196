-- The fences that the compiler finds by the marks are exactly the needed ones. Lemmas for the loop of
-- `fences_of`, which reads the marks of `Marks`.
use Rattle.lw_fence.proofs.Common.{◌≡◌, ◌↔◌, ℕ, ◌+◌, ◌<◌, ◌≤◌, List, [], ◌∷◌, ◌++◌, length, Option, Some}
use Rattle.lw_fence.proofs.Common.{Bool, true, false, ◌&&◌, sym, ap, ◌∙◌, subst, ⊎_elim, arith, slice_get}
use Rattle.lw_fence.proofs.Common.{length-append, slice_index_or, option_map_or, slice_get_past}
use Rattle.lw_fence.proofs.Common.{slice_get_within, cases_lt, false≢true, and_parts, and_from}
use Rattle.lw_fence.proofs.Common.{slice_get-append_cases, slice_get-in_range, Stmt, is_load}
use Rattle.lw_fence.proofs.Common.{source_operation, HasOperation, IsReachableFromStore, NeedsFence}

-- Tests whether the statement is a load.
abbrev is_some_load : Option Stmt → Bool
is_some_load o = option_map_or (λ s. is_load (source_operation s)) o false

-- If the code has a load at position j, then j is within the code.
position_in_range-of_load : (code : List Stmt) (j : ℕ) → HasOperation is_load code j → j < length code
position_in_range-of_load code j h =
    ⊎_elim (λ lt. lt) (λ past. absurd (false≢true (subst (λ o. is_some_load o ≡ true) (slice_get_past code j past) h)))
    (cases_lt j (length code))

module _ (code : List Stmt) (marks : List Bool) where
  -- Tests whether position j is marked and has a load.
  abbrev is_needed : ℕ → Bool
  is_needed j = is_some_load (slice_get code j) && slice_index_or marks j false

  -- The fences found for the first statements: a flag for each, set if the statement is a marked load.
  pub record AreFencesOfFirst (index : ℕ) (fences : List Bool) : Type 0 where
    pub as_many : length fences ≡ index
    pub each : (j : ℕ) (b : Bool) → slice_get fences j ≡ Some b → b ≡ is_needed j

  -- The empty list of flags is that of the first 0 statements.
  pub AreFencesOfFirst-none : (fences : List Bool) → fences ≡ [] → AreFencesOfFirst 0 fences
  AreFencesOfFirst-none fences is_nil = record {
    as_many = ap length is_nil;
    each = λ j b at. absurd (omega (arith, slice_get_within fences j b at, ap length is_nil));
  }

  -- If `fences` has the flags of the first statements, and b says whether the next one is a marked load, appending b gives the
  -- flags of one statement more.
  pub AreFencesOfFirst-push : (index : ℕ) (fences : List Bool) {new : List Bool} (b : Bool) {s : Stmt}
      → AreFencesOfFirst index fences
      → slice_get code index ≡ Some s
      → b ≡ (is_load (source_operation s) && slice_index_or marks index false)
      → new ≡ fences ++ b ∷ []
      → AreFencesOfFirst (index + 1) new
  AreFencesOfFirst-push index fences b found found_at is e = record {
    as_many = ap length e ∙ length-append fences (b ∷ []) ∙ ap (λ (n : ℕ). n + 1) found.as_many;
    each = λ j d got.
        ⊎_elim (λ old. found.each j d old) (λ last. newest_flag_eq j d last)
        (slice_get-append_cases fences b d j (subst (λ (l : List Bool). slice_get l j ≡ Some d) e got));
  }
    where
      -- The flag d at the index of the statement that was read is b, and is the one that this statement needs.
      newest_flag_eq : (j : ℕ) (d : Bool) → (j ≡ length fences) × (b ≡ d) → d ≡ is_needed j
      newest_flag_eq j d last =
          let here = is ∙ ap (λ (o : Option Stmt). is_some_load o && slice_index_or marks index false) (sym found_at) in
          sym last.1 ∙ subst (λ (k : ℕ). b ≡ is_needed k) (sym (last.0 ∙ found.as_many)) here

  -- If the marks are the positions reachable from stores, the fences found are exactly the needed ones.
  pub NeedsFence-found : ((j : ℕ) → j ≤ length code → (slice_index_or marks j false ≡ true) ↔ IsReachableFromStore code j)
      → (fences : List Bool)
      → AreFencesOfFirst (length code) fences
      → (j : ℕ)
      → (slice_get fences j ≡ Some true) ↔ NeedsFence code j
  NeedsFence-found reachable fences found j = (needed_if_set, set_if_needed)
    where
      -- A flag that is set is at a load that a store reaches.
      needed_if_set : slice_get fences j ≡ Some true → NeedsFence code j
      needed_if_set found_at =
          let both =
          and_parts (is_some_load (slice_get code j)) (slice_index_or marks j false) (sym (found.each j true found_at)) in
          (both.0, (reachable j (omega (arith, slice_get_within fences j true found_at, found.as_many))).0 both.1)

      -- The flag of such a load is set.
      set_if_needed : NeedsFence code j → slice_get fences j ≡ Some true
      set_if_needed needs =
          let within = position_in_range-of_load code j needs.0 in
          let at = slice_get-in_range fences j (omega (arith, within, found.as_many)) in
          let both = and_from _ _ needs.0 ((reachable j (omega (arith, within))).1 needs.1) in
          at.1 ∙ ap Some (found.each j at.0 at.1 ∙ both)
