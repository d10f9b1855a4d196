-- The list of the successors of a statement. It has exactly the positions to which control may flow, without duplicates, all later in the
-- code. All proofs about paths use this.
use Rattle.lw_paths.proofs.Common.{◌≡◌, ℕ, ◌+◌, ◌<◌, ◌≤◌, Bool, true, false, List, [], ◌∷◌, length, Option}
use Rattle.lw_paths.proofs.Common.{Some, None, refl, sym, ap, ◌∙◌, inl, inr, ◌⊎◌, slice_get, arith, Contains}
use Rattle.lw_paths.proofs.Common.{eq-eqb, ne_eqb, true≢false, cases_eq, slice_get_within, same_Some}
use Rattle.lw_paths.proofs.Common.{none-some, IsDuplicateFree, Language, IsFlowSuccessor, branch_target}
use Rattle.lw_paths.proofs.Common.{falls_through, Operation, Branch, JumpsForward, next_and_target}
use Rattle.lw_paths.proofs.Common.{successor_list, successors}
use Rattle.lw_paths.proofs.api.Members.{not-Contains-nil, Contains-singleton, Contains-head, Contains-tail}
use Rattle.lw_paths.proofs.api.Members.{Contains-cons}

-- If k is the next position or the target, the list of both contains k.
pub next_and_target-has : (next to k : ℕ) → (k ≡ to) ⊎ (k ≡ next) → Contains (next_and_target next to) k
next_and_target-has next to k o = elim (cases_eq next to) [
  | inl e ↦ rw (eq-eqb next to e) (Contains-head next k [] (elim o [ inl h ↦ e ∙ sym h | inr h ↦ sym h ]))
  | inr ne ↦ rw (ne_eqb next to ne) (elim o [
    | inl h ↦ Contains-tail next k (to ∷ []) (Contains-head to k [] (sym h))
    | inr h ↦ Contains-head next k (to ∷ []) (sym h)
  ])
]

-- If the list of the next position and the target contains k, then k is one of them.
pub next_and_target-only : (next to k : ℕ) → Contains (next_and_target next to) k → (k ≡ to) ⊎ (k ≡ next)
next_and_target-only next to k is_member = elim (cases_eq next to) [
  | inl e ↦ inr (Contains-singleton next k (rw (eq-eqb next to e) at is_member))
  | inr ne ↦ elim (Contains-cons next k (to ∷ []) (rw (ne_eqb next to ne) at is_member)) [
    | inl is_head ↦ inr (sym is_head)
    | inr in_tail ↦ inl (Contains-singleton to k in_tail)
  ]
]

-- A singleton has no duplicates.
IsDuplicateFree-singleton : (k : ℕ) → IsDuplicateFree (k ∷ [])
IsDuplicateFree-singleton k = (not-Contains-nil k, tt)

-- The list of the next position and a target has no duplicates.
IsDuplicateFree-next_and_target : (next to : ℕ) → IsDuplicateFree (next_and_target next to)
IsDuplicateFree-next_and_target next to = elim (cases_eq next to) [
  | inl e ↦ rw (eq-eqb next to e) (IsDuplicateFree-singleton next)
  | inr ne ↦ rw (ne_eqb next to ne) (
    λ c. elim (Contains-cons to next [] c) [ inl is_head ↦ ne (sym is_head) | inr in_tail ↦ not-Contains-nil next in_tail ],
    IsDuplicateFree-singleton to,
  )
]

-- The list of successors has no duplicates, even if a jump targets the next position.
pub IsDuplicateFree-successor_list : (o : Option ℕ) (goes : Bool) (j : ℕ) → IsDuplicateFree (successor_list o goes j)
IsDuplicateFree-successor_list None goes j = IsDuplicateFree-singleton (j + 1)
IsDuplicateFree-successor_list (Some to) true j = IsDuplicateFree-next_and_target (j + 1) to
IsDuplicateFree-successor_list (Some to) false j = IsDuplicateFree-singleton to

-- If an operation has no target, it falls through to the next statement.
falls_through-no_target : (o : Operation) → branch_target o ≡ None → falls_through o ≡ true
falls_through-no_target (Branch c to) is_none = absurd cc
falls_through-no_target _ is_none = refl

-- If k is the next position and control can pass to it (`goes`), or is the target o, the list contains k.
successor_list-has : (o : Option ℕ) (goes : Bool) (j k : ℕ)
    → ((goes ≡ true) × (k ≡ j + 1)) ⊎ (o ≡ Some k)
    → Contains (successor_list o goes j) k
successor_list-has None goes j k (inl (g, e)) = Contains-head (j + 1) k [] (sym e)
successor_list-has None goes j k (inr e) = absurd (none-some k e)
successor_list-has (Some to) true j k (inl (g, e)) = next_and_target-has (j + 1) to k (inr e)
successor_list-has (Some to) false j k (inl (g, e)) = absurd (true≢false (sym g))
successor_list-has (Some to) true j k (inr e) = next_and_target-has (j + 1) to k (inl (sym (same_Some to k e)))
successor_list-has (Some to) false j k (inr e) = Contains-head to k [] (same_Some to k e)

-- If the list contains k, then k is the next position and control can pass to it, or is the target; without a target control
-- can pass to the next.
successor_list-only : (o : Option ℕ) (goes : Bool) (j k : ℕ)
    → (o ≡ None → goes ≡ true)
    → Contains (successor_list o goes j) k
    → ((goes ≡ true) × (k ≡ j + 1)) ⊎ (o ≡ Some k)
successor_list-only None goes j k on is_member = inl (on refl, Contains-singleton (j + 1) k is_member)
successor_list-only (Some to) true j k on is_member =
    elim (next_and_target-only (j + 1) to k is_member) [ inl e ↦ inr (ap Some (sym e)) | inr e ↦ inl (refl, e) ]
successor_list-only (Some to) false j k on is_member = inr (ap Some (sym (Contains-singleton to k is_member)))

module _ {S : Type 0} (language : Language S) where
  -- If k is a flow successor of the statement s at j, the list of successors contains k.
  pub successors-has : (o : Option S) (s : S) (j k : ℕ)
      → o ≡ Some s
      → IsFlowSuccessor language o j k
      → Contains (successors language s j) k
  successors-has o s j k e f = successor_list-has _ (falls_through (language.operation_of s)) j k (rw e at f)

  -- If the list of the successors of s at j contains k, then k is a flow successor of it.
  pub successors-only : (o : Option S) (s : S) (j k : ℕ)
      → o ≡ Some s
      → Contains (successors language s j) k
      → IsFlowSuccessor language o j k
  successors-only o s j k e is_member =
      rw e (successor_list-only _ _ j k (falls_through-no_target (language.operation_of s)) is_member)

  -- If jumps go forward, a successor is later in the code, at most at its end.
  pub IsFlowSuccessor-in_range : (code : List S) (j k : ℕ)
      → JumpsForward language code
      → IsFlowSuccessor language (slice_get code j) j k
      → (j < k) × (k ≤ length code)
  IsFlowSuccessor-in_range code j k forward f = in_range-by_statement (slice_get code j) refl f
    where
      -- By the statement: its successors are the next one, and its target.
      in_range-by_statement : (o : Option S) → slice_get code j ≡ o → IsFlowSuccessor language o j k → (j < k) × (k ≤ length code)
      in_range-by_statement None e f = absurd f
      in_range-by_statement (Some s) e (inl (goes, at)) =
          let in_range : j < length code = slice_get_within code j s e in (omega (arith, at), omega (arith, at, in_range))
      in_range-by_statement (Some s) e (inr to) = forward j s e k to

  -- Each listed successor is later in the code, at most at its end.
  pub successors-in_range : (code : List S) (j k : ℕ) (s : S)
      → JumpsForward language code
      → slice_get code j ≡ Some s
      → Contains (successors language s j) k
      → (j < k) × (k ≤ length code)
  successors-in_range code j k s forward found_at is_member =
      IsFlowSuccessor-in_range code j k forward (successors-only (slice_get code j) s j k found_at is_member)
