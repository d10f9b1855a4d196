-- If no statement needs a fence, the compiled program is the one without fences. So such a source has exactly
-- its own outcomes when it is translated without any fence.
use Rattle.lw_fence.proofs.Common.{◌≡◌, ◌↔◌, ℕ, zero, suc, ◌+◌, List, [], ◌∷◌, ◌++◌, length, replicate, Some}
use Rattle.lw_fence.proofs.Common.{Bool, true, false, sym, refl, ap, ◌∙◌, subst, length-replicate, slice_get}
use Rattle.lw_fence.proofs.Common.{get_or_from_slice_get, Stmt, Instr, SourceTest, X86Test, lowered}
use Rattle.lw_fence.proofs.Common.{instrs_of, lowered_code, starts_from, IsCompiledThread, IsCompiled}
use Rattle.lw_fence.proofs.Common.{IsThreadWith, NeedsFence, IsCompiledWithoutFences, NeedsNoFence}

-- No flag is set: there is no fence before any statement.
abbrev AreAllUnset : List Bool → Type 0
AreAllUnset fences = (j : ℕ) → slice_get fences j ≡ Some true → ⊥

-- In the list of n unset flags no flag is set.
AreAllUnset-replicate : (n : ℕ) → AreAllUnset (replicate n false)
AreAllUnset-replicate zero j at = absurd cc
AreAllUnset-replicate (suc n) zero at = absurd cc
AreAllUnset-replicate (suc n) (suc j) at = AreAllUnset-replicate n j at

-- If no flag is set, the instructions are those without fences.
lowered_code-no_fences : (starts : List ℕ) (fences : List Bool) (code : List Stmt)
    → AreAllUnset fences
    → lowered_code starts fences code ≡ lowered_code starts [] code
lowered_code-no_fences starts fences [] none = refl
lowered_code-no_fences starts [] (x ∷ code) none = refl
lowered_code-no_fences starts (true ∷ fences) (x ∷ code) none = absurd (none 0 refl)
lowered_code-no_fences starts (false ∷ fences) (x ∷ code) none =
    ap (λ (is : List Instr). instrs_of (lowered starts false x) ++ is)
    (lowered_code-no_fences starts fences code (λ j at. none (suc j) at))

-- If no flag is set, the starts are those without fences.
starts_from-no_fences : (n : ℕ) (fences : List Bool) (code : List Stmt)
    → AreAllUnset fences
    → starts_from n fences code ≡ starts_from n [] code
starts_from-no_fences n fences [] none = refl
starts_from-no_fences n [] (x ∷ code) none = refl
starts_from-no_fences n (true ∷ fences) (x ∷ code) none = absurd (none 0 refl)
starts_from-no_fences n (false ∷ fences) (x ∷ code) none =
    let next = n + length (instrs_of (lowered [] false x)) in
    ap (λ (starts : List ℕ). n ∷ starts) (starts_from-no_fences next fences code (λ j at. none (suc j) at))

module _ (code : List Stmt) (needless : (j : ℕ) → NeedsFence code j → ⊥) {instrs : List Instr} {starts : List ℕ} where
  -- If no statement needs a fence, a thread lowered without fences is a compiled thread.
  IsCompiledThread-without_fences : IsThreadWith [] code instrs starts → IsCompiledThread code instrs starts
  IsCompiledThread-without_fences c =
      let fences = replicate (length code) false in
      let none = AreAllUnset-replicate (length code) in
      record {
        fences = fences;
        as_many = length-replicate (length code) false;
        needed = λ j. ((λ at. absurd (none j at)), (λ needs. absurd (needless j needs)));
        starts_are = c.starts_are ∙ sym (starts_from-no_fences 0 fences code none);
        instrs_are = c.instrs_are ∙ sym (lowered_code-no_fences starts fences code none);
      }

  -- If no statement needs a fence, a compiled thread is one lowered without fences.
  IsThreadWith-no_fences : IsCompiledThread code instrs starts → IsThreadWith [] code instrs starts
  IsThreadWith-no_fences c =
      let none = λ (j : ℕ) (at : slice_get c.fences j ≡ Some true). needless j ((c.needed j).0 at) in
      record {
        starts_are = c.starts_are ∙ starts_from-no_fences 0 c.fences code none;
        instrs_are = c.instrs_are ∙ lowered_code-no_fences starts c.fences code none;
      }

module _ (source : SourceTest) (program : X86Test) (starts : List (List ℕ)) (needless : NeedsNoFence source) where
  -- If no statement of the source needs a fence, none of any thread does.
  not-NeedsFence-at : (t : ℕ) (code : List Stmt) → slice_get source.threads t ≡ Some code → (j : ℕ) → NeedsFence code j → ⊥
  not-NeedsFence-at t code thread_at =
      subst (λ (c : List Stmt). (j : ℕ) → NeedsFence c j → ⊥) (get_or_from_slice_get source.threads t code [] thread_at)
      (needless t)

  -- If no statement needs a fence, a program is compiled from the source if and only if it is compiled without fences.
  pub IsCompiled-iff_without_fences : IsCompiled source program starts ↔ IsCompiledWithoutFences source program starts
  IsCompiled-iff_without_fences = (
    (λ c. record {
      head = c.head;
      as_many = c.as_many;
      as_many_starts = c.as_many_starts;
      threads = λ t code instrs begins at and_at there.
          IsThreadWith-no_fences code (not-NeedsFence-at t code at) (c.threads t code instrs begins at and_at there);
    }),
    (λ c. record {
      head = c.head;
      as_many = c.as_many;
      as_many_starts = c.as_many_starts;
      threads = λ t code instrs begins at and_at there.
          IsCompiledThread-without_fences code (not-NeedsFence-at t code at) (c.threads t code instrs begins at and_at there);
    }),
  )
