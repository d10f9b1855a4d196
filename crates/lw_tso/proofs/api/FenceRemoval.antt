-- A code is obtained from the code without its marked MFENCEs by inserting these. So the laws about inserted
-- fences apply to a program from which fences were removed.
use Rattle.lw_tso.proofs.Common.{◌≡◌, ℕ, zero, suc, ◌+◌, ◌≤◌, Bool, true, false, List, [], ◌∷◌, ◌++◌, length}
use Rattle.lw_tso.proofs.Common.{map, take, cond, Some, ◌⊎◌, inl, inr, refl, sym, ap, ◌∙◌, subst, arith}
use Rattle.lw_tso.proofs.Common.{slice_get, same_Some, sum_by-cons, Instr, Mfence, retarget_to_blocks}
use Rattle.lw_tso.proofs.Common.{HasInsertedFencesInCode, unmarked_count_before, unmarked_instructions}
use Rattle.lw_tso.proofs.Common.{code_without, MarksAreFences, not}

-- No instruction is before index 0, so no unmarked one is.
pub unmarked_count_before-zero : (marks : List Bool) → unmarked_count_before marks 0 ≡ 0
unmarked_count_before-zero [] = refl
unmarked_count_before-zero (mark ∷ marks) = refl

-- The number of unmarked instructions before a later index: one for the first instruction if it is not marked, and that of the others
-- before the index less one.
pub unmarked_count_before-cons : (mark : Bool) (marks : List Bool) (index : ℕ)
    → unmarked_count_before (mark ∷ marks) (suc index) ≡ cond (not mark) 1 0 + unmarked_count_before marks index
unmarked_count_before-cons mark marks index = sum_by-cons (λ (m : Bool). cond (not m) 1 0) mark (take index marks)

-- If only MFENCEs of `code` are marked, the unmarked instructions of a concatenation are those of its parts, concatenated.
pub unmarked_instructions-append : (marks others : List Bool) (code more : List Instr)
    → MarksAreFences marks code
    → unmarked_instructions (marks ++ others) (code ++ more)
    ≡ unmarked_instructions marks code ++ unmarked_instructions others more
unmarked_instructions-append [] others [] more fences = refl
unmarked_instructions-append (true ∷ marks) others (i ∷ code) more fences =
    unmarked_instructions-append marks others code more fences.1
unmarked_instructions-append (false ∷ marks) others (i ∷ code) more fences =
    ap (λ (is : List Instr). i ∷ is) (unmarked_instructions-append marks others code more fences)
unmarked_instructions-append _ others _ more fences = absurd fences

-- If only MFENCEs are marked in two codes, so are they in the concatenation.
pub MarksAreFences-append : (marks others : List Bool) (code more : List Instr)
    → MarksAreFences marks code
    → MarksAreFences others more
    → MarksAreFences (marks ++ others) (code ++ more)
MarksAreFences-append [] others [] more fences rest = rest
MarksAreFences-append (true ∷ marks) others (i ∷ code) more fences rest =
    (fences.0, MarksAreFences-append marks others code more fences.1 rest)
MarksAreFences-append (false ∷ marks) others (i ∷ code) more fences rest =
    MarksAreFences-append marks others code more fences rest
MarksAreFences-append _ others _ more fences rest = absurd fences

module _ (lead : Instr → Instr) where
  -- The instruction i at this index is an MFENCE, and no unmarked instruction is counted there; or it is, retargeted, the
  -- unmarked instruction whose number is the count before the index, and is counted there.
  abbrev IsEither : List Bool → List Instr → ℕ → Instr → Type 0
  IsEither marks code index i =
      ((i ≡ Mfence) × (unmarked_count_before marks (index + 1) ≡ unmarked_count_before marks index))
      ⊎ ((slice_get (map lead (unmarked_instructions marks code)) (unmarked_count_before marks index) ≡ Some (lead i))
      × (unmarked_count_before marks (index + 1) ≡ unmarked_count_before marks index + 1))

  -- If the claim holds of a code at an index, it holds at the next index after a marked instruction is put before the code.
  IsEither-cons_marked : (marks : List Bool) (code : List Instr) (j i : Instr) (index : ℕ)
      → IsEither marks code index i
      → IsEither (true ∷ marks) (j ∷ code) (suc index) i
  IsEither-cons_marked marks code j i index = go
    where
      -- The number of unmarked instructions before the index after the next is that before the next one in the shorter code.
      count_after_next : unmarked_count_before (true ∷ marks) (suc index + 1) ≡ unmarked_count_before marks (index + 1)
      count_after_next =
          let further : suc index + 1 ≡ suc (index + 1) = omega arith in
          ap (unmarked_count_before (true ∷ marks)) further ∙ unmarked_count_before-cons true marks (index + 1) ∙ omega arith

      -- The number of unmarked instructions before the next index is that before the index in the shorter code.
      count_here : unmarked_count_before (true ∷ marks) (suc index) ≡ unmarked_count_before marks index
      count_here = unmarked_count_before-cons true marks index ∙ omega arith

      -- By whether the instruction at the index is marked.
      go : IsEither marks code index i → IsEither (true ∷ marks) (j ∷ code) (suc index) i
      go (inl out) = inl (out.0, count_after_next ∙ out.1 ∙ sym count_here)
      go (inr stays) = inr (
        subst (λ k. slice_get (map lead (unmarked_instructions marks code)) k ≡ Some (lead i)) (sym count_here) stays.0,
        omega (arith, count_after_next, count_here, stays.1),
      )

  -- If the claim holds of a code at an index, it holds at the next index after an unmarked instruction is put before the code.
  IsEither-cons_kept : (marks : List Bool) (code : List Instr) (j i : Instr) (index : ℕ)
      → IsEither marks code index i
      → IsEither (false ∷ marks) (j ∷ code) (suc index) i
  IsEither-cons_kept marks code j i index = go
    where
      -- The number of unmarked instructions before the index after the next is one more than that before the next one in the
      -- shorter code.
      count_after_next : unmarked_count_before (false ∷ marks) (suc index + 1) ≡ suc (unmarked_count_before marks (index + 1))
      count_after_next =
          let further : suc index + 1 ≡ suc (index + 1) = omega arith in
          ap (unmarked_count_before (false ∷ marks)) further ∙ unmarked_count_before-cons false marks (index + 1) ∙ omega arith

      -- The number of unmarked instructions before the next index is one more than that before the index in the shorter code.
      count_here : unmarked_count_before (false ∷ marks) (suc index) ≡ suc (unmarked_count_before marks index)
      count_here = unmarked_count_before-cons false marks index ∙ omega arith

      -- By whether the instruction at the index is marked.
      go : IsEither marks code index i → IsEither (false ∷ marks) (j ∷ code) (suc index) i
      go (inl out) = inl (out.0, count_after_next ∙ ap suc out.1 ∙ sym count_here)
      go (inr stays) = inr (
        subst (λ k. slice_get (lead j ∷ map lead (unmarked_instructions marks code)) k ≡ Some (lead i)) (sym count_here) stays.0,
        omega (arith, count_after_next, count_here, stays.1),
      )

  -- If only MFENCEs are marked, the claim holds at each index of the code.
  IsEither-at_each : (marks : List Bool) (code : List Instr)
      → MarksAreFences marks code
      → (index : ℕ) (i : Instr)
      → slice_get code index ≡ Some i
      → IsEither marks code index i
  IsEither-at_each [] [] fences index i at = absurd cc
  IsEither-at_each (true ∷ marks) (j ∷ code) fences zero i at = inl (
    same_Some i j (sym at) ∙ fences.0,
    omega (arith, unmarked_count_before-cons true marks 0, unmarked_count_before-zero marks),
  )
  IsEither-at_each (true ∷ marks) (j ∷ code) fences (suc index) i at =
      IsEither-cons_marked marks code j i index (IsEither-at_each marks code fences.1 index i at)
  IsEither-at_each (false ∷ marks) (j ∷ code) fences zero i at = inr (
    ap (λ (k : Instr). Some (lead k)) (same_Some j i at),
    omega (arith, unmarked_count_before-cons false marks 0, unmarked_count_before-zero marks),
  )
  IsEither-at_each (false ∷ marks) (j ∷ code) fences (suc index) i at =
      IsEither-cons_kept marks code j i index (IsEither-at_each marks code fences index i at)
  IsEither-at_each _ _ fences index i at = absurd fences

  -- If only MFENCEs are marked, and an index is past the end of the code, the number of unmarked instructions before it is that
  -- of all.
  unmarked_count_before-end : (marks : List Bool) (code : List Instr)
      → MarksAreFences marks code
      → (index : ℕ)
      → length code ≤ index
      → unmarked_count_before marks index ≡ length (map lead (unmarked_instructions marks code))
  unmarked_count_before-end [] [] fences zero past = refl
  unmarked_count_before-end [] [] fences (suc index) past = refl
  unmarked_count_before-end (true ∷ marks) (j ∷ code) fences zero past = absurd (omega arith)
  unmarked_count_before-end (true ∷ marks) (j ∷ code) fences (suc index) past = omega (
    arith,
    unmarked_count_before-cons true marks index,
    unmarked_count_before-end marks code fences.1 index (omega (arith, past)),
  )
  unmarked_count_before-end (false ∷ marks) (j ∷ code) fences zero past = absurd (omega arith)
  unmarked_count_before-end (false ∷ marks) (j ∷ code) fences (suc index) past = omega (
    arith,
    unmarked_count_before-cons false marks index,
    unmarked_count_before-end marks code fences index (omega (arith, past)),
  )
  unmarked_count_before-end _ _ fences index past = absurd fences

-- If only MFENCEs of a code are marked, the code is what is left without them, with these MFENCEs inserted.
pub HasInsertedFencesInCode-code_without : (marks : List Bool) (code : List Instr)
    → MarksAreFences marks code
    → HasInsertedFencesInCode (code_without marks code) code
HasInsertedFencesInCode-code_without marks code fences = record {
  block = unmarked_count_before marks;
  first = unmarked_count_before-zero marks;
  each = IsEither-at_each (retarget_to_blocks (unmarked_count_before marks)) marks code fences;
  last = unmarked_count_before-end (retarget_to_blocks (unmarked_count_before marks)) marks code fences;
}
