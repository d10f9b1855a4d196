-- A source in x86 with more fences is the one with fewer, with MFENCEs inserted. So the law that fences only
-- remove outcomes compares compilations with different fences.
use Rattle.lw_fence.proofs.Common.{◌≡◌, ℕ, zero, suc, ◌+◌, ◌<◌, ◌≤◌, ◌==◌, List, [], ◌∷◌, ◌++◌, length, map}
use Rattle.lw_fence.proofs.Common.{drop, get_or, replicate, Some, Bool, true, false, not, subst₂, TestHead}
use Rattle.lw_fence.proofs.Common.{⊎_elim, sym, refl, ap, ap₂, ◌∙◌, subst, arith, slice_get, slice_index}
use Rattle.lw_fence.proofs.Common.{length-append, append_assoc, length-replicate, map-append, cases_lt}
use Rattle.lw_fence.proofs.Common.{get_or_past, false≢true, slice_get-get_or, get_or_from_slice_get}
use Rattle.lw_fence.proofs.Common.{thread_code, at_index, Register, Number, Stmt, Store, Load, Swap, FetchAdd}
use Rattle.lw_fence.proofs.Common.{Set, Sum, IfEq, IfNe, Goto, SourceTest, X86Test, Instr, One, Two, lowered}
use Rattle.lw_fence.proofs.Common.{with_move_if, instrs_of, lowered_code, starts_from, IsThreadWith}
use Rattle.lw_fence.proofs.Common.{IsCompiledWith, AreSubset, unmarked_count_before-zero}
use Rattle.lw_fence.proofs.Common.{unmarked_count_before-cons, unmarked_instructions-append}
use Rattle.lw_fence.proofs.Common.{MarksAreFences-append, HasInsertedFencesInCode-code_without}
use Rattle.lw_fence.proofs.Common.{retarget_to_blocks, HasInsertedFencesInCode, HasInsertedFences}
use Rattle.lw_fence.proofs.Common.{unmarked_count_before, unmarked_instructions, MarksAreFences, cond}
use Rattle.lw_fence.proofs.Common.{sum_by-append, sum_by-cons, count_by}
use Rattle.lw_fence.proofs.CodeLayout.{both_cases-selected, start_after_first, lowered_code-cons}
use Rattle.lw_fence.proofs.CodeLayout.{starts_from-cons, get_or-drop_one, starts_from-first}
use Rattle.lw_litmus.specs.declared.instr.Instr.TheVariants as instr

-- The marks of a lowering's instructions: the fence that is present by the second flag, and absent by the first.
abbrev lowered_marks : Stmt → Bool → Bool → List Bool
lowered_marks (Load d x) false true = true ∷ false ∷ []
lowered_marks x f g = replicate (length (instrs_of (lowered [] f x))) false

-- The marks of a thread's instructions: each fence that the second flags have and the first have not.
abbrev fence_marks : List Bool → List Bool → List Stmt → List Bool
fence_marks fs gs [] = []
fence_marks fs gs (x ∷ code) = lowered_marks x (get_or fs 0 false) (get_or gs 0 false) ++ fence_marks (drop 1 fs) (drop 1 gs) code

-- Each flag that is set in fs is set in gs.
abbrev AreFlagsAmong : List Bool → List Bool → Type 0
AreFlagsAmong fs gs = (j : ℕ) → get_or fs j false ≡ true → get_or gs j false ≡ true

-- If each flag that is set in fs is set in gs, so it is of the flags after the first.
AreFlagsAmong-tail : (fs gs : List Bool) → AreFlagsAmong fs gs → AreFlagsAmong (drop 1 fs) (drop 1 gs)
AreFlagsAmong-tail fs gs among j set = get_or-drop_one gs j ∙ among (suc j) (sym (get_or-drop_one fs j) ∙ set)

-- ---- a lowering

-- If no instruction is marked, each marked one is an MFENCE.
MarksAreFences-none_marked : (is : List Instr) → MarksAreFences (replicate (length is) false) is
MarksAreFences-none_marked [] = tt
MarksAreFences-none_marked (i ∷ is) = MarksAreFences-none_marked is

-- If no instruction is marked, all are unmarked instructions.
unmarked_instructions-none_marked : (is : List Instr) → unmarked_instructions (replicate (length is) false) is ≡ is
unmarked_instructions-none_marked [] = refl
unmarked_instructions-none_marked (i ∷ is) = ap (λ (js : List Instr). i ∷ js) (unmarked_instructions-none_marked is)

-- Of n unset marks, n are unset.
count_by_not-replicate : (n : ℕ) → count_by not (replicate n false) ≡ n
count_by_not-replicate zero = refl
count_by_not-replicate (suc n) =
    sum_by-cons (λ (m : Bool). cond (not m) 1 0) false (replicate n false) ∙ omega (arith, count_by_not-replicate n)

-- A lowering's marks, by a flag f for fewer fences and g for more, have as many unset as the lowering by f has instructions.
count_by_not-lowered_marks : (x : Stmt) (f g : Bool) → count_by not (lowered_marks x f g) ≡ length (instrs_of (lowered [] f x))
count_by_not-lowered_marks (Load d x) false true = refl
count_by_not-lowered_marks x f g = count_by_not-replicate (length (instrs_of (lowered [] f x)))

-- If the flag f implies g, there is a mark for each instruction of the lowering by g.
length-lowered_marks : (x : Stmt) (f g : Bool)
    → (f ≡ true → g ≡ true)
    → length (lowered_marks x f g) ≡ length (instrs_of (lowered [] g x))
length-lowered_marks (Load d x) false true among = refl
length-lowered_marks (Load d x) false false among = refl
length-lowered_marks (Load d x) true true among = refl
length-lowered_marks (Load d x) true false among = absurd (false≢true (among refl))
length-lowered_marks x f g among = length-replicate (length (instrs_of (lowered [] f x))) false

module _ (starts begins : List ℕ) (block : ℕ → ℕ) (leads : (to : ℕ) → block (slice_index begins to) ≡ slice_index starts to) where
  -- The instructions, with their jumps retargeted by `block`.
  abbrev retargeted : List Instr → List Instr
  retargeted is = map (retarget_to_blocks block) is

  -- A lowering without a jump and without marks is unchanged.
  retargeted-none_marked : (is : List Instr)
      → retargeted is ≡ is
      → retargeted (unmarked_instructions (replicate (length is) false) is) ≡ is
  retargeted-none_marked is same = ap retargeted (unmarked_instructions-none_marked is) ∙ same

  -- A lowering without a jump is unchanged, with or without a move before its last instruction.
  retargeted-with_move : (d a : ℕ) (last : Instr)
      → retarget_to_blocks block last ≡ last
      → retargeted (instrs_of (with_move_if d a last)) ≡ instrs_of (with_move_if d a last)
  retargeted-with_move d a last same =
      both_cases-selected (λ r. retargeted (instrs_of r) ≡ instrs_of r) (d == a) (One last) (Two (instr.Set d (Register a)) last)
      (λ is. ap (λ (i : Instr). i ∷ []) same) (λ is. ap (λ (i : Instr). instr.Set d (Register a) ∷ i ∷ []) same)

  -- If f implies g, and `block` takes the starts with more fences to those with fewer, then the lowering by g, without its
  -- marked instructions and retargeted, is the lowering by f.
  retargeted-lowered : (x : Stmt) (f g : Bool)
      → (f ≡ true → g ≡ true)
      → retargeted (unmarked_instructions (lowered_marks x f g) (instrs_of (lowered begins g x))) ≡ instrs_of (lowered starts f x)
  retargeted-lowered (Store x v) f g among = refl
  retargeted-lowered (Load d x) false true among = refl
  retargeted-lowered (Load d x) false false among = refl
  retargeted-lowered (Load d x) true true among = refl
  retargeted-lowered (Load d x) true false among = absurd (false≢true (among refl))
  retargeted-lowered (Swap d x a) f g among =
      retargeted-none_marked (instrs_of (with_move_if d a (instr.Xchg x d))) (retargeted-with_move d a (instr.Xchg x d) refl)
  retargeted-lowered (FetchAdd d x a) f g among =
      retargeted-none_marked (instrs_of (with_move_if d a (instr.Xadd x d))) (retargeted-with_move d a (instr.Xadd x d) refl)
  retargeted-lowered (Set d v) f g among = refl
  retargeted-lowered (Sum d a (Number n)) f g among =
      retargeted-none_marked (instrs_of (with_move_if d a (instr.Add d (Number n))))
      (retargeted-with_move d a (instr.Add d (Number n)) refl)
  retargeted-lowered (Sum d a (Register b)) f g among =
      retargeted-none_marked _
      (both_cases-selected (λ r. retargeted (instrs_of r) ≡ instrs_of r) (d == b) (One (instr.Add d (Register a)))
      (with_move_if d a (instr.Add d (Register b))) (λ is. refl) (λ is. retargeted-with_move d a (instr.Add d (Register b)) refl))
  retargeted-lowered (IfEq a n to) f g among = ap (λ (index : ℕ). instr.Cmp a (Number n) ∷ instr.Je index ∷ []) (leads to)
  retargeted-lowered (IfNe a n to) f g among = ap (λ (index : ℕ). instr.Cmp a (Number n) ∷ instr.Jne index ∷ []) (leads to)
  retargeted-lowered (Goto to) f g among = ap (λ (index : ℕ). instr.Jmp index ∷ []) (leads to)

-- If f implies g, each marked instruction of the lowering by g is an MFENCE.
MarksAreFences-lowered : (begins : List ℕ) (x : Stmt) (f g : Bool)
    → (f ≡ true → g ≡ true)
    → MarksAreFences (lowered_marks x f g) (instrs_of (lowered begins g x))
MarksAreFences-lowered begins (Load d x) false true among = (refl, tt)
MarksAreFences-lowered begins (Load d x) false false among = tt
MarksAreFences-lowered begins (Load d x) true true among = tt
MarksAreFences-lowered begins (Load d x) true false among = absurd (false≢true (among refl))
MarksAreFences-lowered begins (Store x v) f g among = tt
MarksAreFences-lowered begins (Set d v) f g among = tt
MarksAreFences-lowered begins (IfEq a n to) f g among = tt
MarksAreFences-lowered begins (IfNe a n to) f g among = tt
MarksAreFences-lowered begins (Goto to) f g among = tt
MarksAreFences-lowered begins x f g among = MarksAreFences-none_marked (instrs_of (lowered [] f x))

-- ---- a thread

-- If each flag that is set in fs is set in gs, each marked instruction of a thread lowered by gs is an MFENCE.
MarksAreFences-thread : (fs gs : List Bool) (code : List Stmt) (begins : List ℕ)
    → AreFlagsAmong fs gs
    → MarksAreFences (fence_marks fs gs code) (lowered_code begins gs code)
MarksAreFences-thread fs gs [] begins among = tt
MarksAreFences-thread fs gs (x ∷ code) begins among =
    let f = get_or fs 0 false in
    let g = get_or gs 0 false in
    let own = lowered_marks x f g in
    let others = fence_marks (drop 1 fs) (drop 1 gs) code in
    let rest = MarksAreFences-thread (drop 1 fs) (drop 1 gs) code begins (AreFlagsAmong-tail fs gs among) in
    let both =
    MarksAreFences-append own others (instrs_of (lowered begins g x)) (lowered_code begins (drop 1 gs) code)
    (MarksAreFences-lowered begins x f g (among 0)) rest in
    subst (λ (is : List Instr). MarksAreFences (own ++ others) is) (sym (lowered_code-cons begins gs x code)) both

-- The instructions with more fences, without the marked ones and with jumps retargeted by `block`, are those with fewer.
retargeted-lowered_code : (fs gs : List Bool) (code : List Stmt) (starts begins : List ℕ) (block : ℕ → ℕ)
    → ((to : ℕ) → block (slice_index begins to) ≡ slice_index starts to)
    → AreFlagsAmong fs gs
    → map (retarget_to_blocks block) (unmarked_instructions (fence_marks fs gs code) (lowered_code begins gs code))
    ≡ lowered_code starts fs code
retargeted-lowered_code fs gs [] starts begins block leads among = refl
retargeted-lowered_code fs gs (x ∷ code) starts begins block leads among =
    let f = get_or fs 0 false in
    let g = get_or gs 0 false in
    let others = fence_marks (drop 1 fs) (drop 1 gs) code in
    let own = instrs_of (lowered begins g x) in
    let more = lowered_code begins (drop 1 gs) code in
    ap (λ (is : List Instr). map (retarget_to_blocks block) (unmarked_instructions (lowered_marks x f g ++ others) is))
    (lowered_code-cons begins gs x code)
    ∙ ap (map (retarget_to_blocks block))
    (unmarked_instructions-append (lowered_marks x f g) others own more (MarksAreFences-lowered begins x f g (among 0)))
    ∙ map-append (retarget_to_blocks block) (unmarked_instructions (lowered_marks x f g) own) (unmarked_instructions others more)
    ∙ ap₂ (λ (is js : List Instr). is ++ js) (retargeted-lowered starts begins block leads x f g (among 0))
    (retargeted-lowered_code (drop 1 fs) (drop 1 gs) code starts begins block leads (AreFlagsAmong-tail fs gs among))
    ∙ sym (lowered_code-cons starts fs x code)

-- Before the first instruction after the marks `pre`, the number of unmarked instructions is that of unset marks in `pre`.
unmarked_count_before-prefix : (pre rest : List Bool) → unmarked_count_before (pre ++ rest) (length pre) ≡ count_by not pre
unmarked_count_before-prefix [] rest = unmarked_count_before-zero rest
unmarked_count_before-prefix (mark ∷ pre) rest =
    unmarked_count_before-cons mark (pre ++ rest) (length pre)
    ∙ ap (λ (n : ℕ). cond (not mark) 1 0 + n) (unmarked_count_before-prefix pre rest)
    ∙ sym (sum_by-cons (λ (m : Bool). cond (not m) 1 0) mark pre)

-- If each flag that is set in fs is set in gs, then before the start of a statement with the fences gs, after instructions with
-- the marks `pre`, the number of unmarked instructions is the statement's start with the fences fs.
unmarked_count_before-start : (fs gs : List Bool) (code : List Stmt) (pre : List Bool)
    → AreFlagsAmong fs gs
    → (to : ℕ)
    → unmarked_count_before (pre ++ fence_marks fs gs code) (slice_index (starts_from (length pre) gs code) to)
    ≡ slice_index (starts_from (count_by not pre) fs code) to
unmarked_count_before-start fs gs [] pre among zero = unmarked_count_before-prefix pre []
unmarked_count_before-start fs gs [] pre among (suc to) = unmarked_count_before-zero (pre ++ [])
unmarked_count_before-start fs gs (x ∷ code) pre among zero =
    ap (unmarked_count_before (pre ++ fence_marks fs gs (x ∷ code))) (starts_from-first (length pre) gs (x ∷ code))
    ∙ unmarked_count_before-prefix pre (fence_marks fs gs (x ∷ code))
    ∙ sym (starts_from-first (count_by not pre) fs (x ∷ code))
unmarked_count_before-start fs gs (x ∷ code) pre among (suc to) =
    let f = get_or fs 0 false in
    let g = get_or gs 0 false in
    let own = lowered_marks x f g in
    let others = fence_marks (drop 1 fs) (drop 1 gs) code in
    let long : length (pre ++ own) ≡ start_after_first (length pre) gs x =
    length-append pre own ∙ ap (λ (n : ℕ). length pre + n) (length-lowered_marks x f g (among 0)) in
    let out : count_by not (pre ++ own) ≡ start_after_first (count_by not pre) fs x =
    sum_by-append (λ (m : Bool). cond (not m) 1 0) pre own
    ∙ ap (λ (n : ℕ). count_by not pre + n) (count_by_not-lowered_marks x f g) in
    let assoc = sym (append_assoc pre own others) in
    let rest = unmarked_count_before-start (drop 1 fs) (drop 1 gs) code (pre ++ own) (AreFlagsAmong-tail fs gs among) to in
    ap₂ (λ (ms : List Bool) (starts : List ℕ). unmarked_count_before ms (slice_index starts (suc to))) assoc
    (starts_from-cons (length pre) gs x code)
    ∙ ap (λ (n : ℕ). unmarked_count_before ((pre ++ own) ++ others) (slice_index (starts_from n (drop 1 gs) code) to)) (sym long)
    ∙ rest
    ∙ ap (λ (n : ℕ). slice_index (starts_from n (drop 1 fs) code) to) out
    ∙ ap (λ (starts : List ℕ). slice_index starts (suc to)) (sym (starts_from-cons (count_by not pre) fs x code))

-- If each flag that is set in fs is set in gs, the thread with the fences gs is the one with the fences fs, with MFENCEs
-- inserted.
HasInsertedFencesInCode-more_fences : (fs gs : List Bool) {code : List Stmt} {instrs others : List Instr} {starts begins : List ℕ}
    → AreFlagsAmong fs gs
    → IsThreadWith fs code instrs starts
    → IsThreadWith gs code others begins
    → HasInsertedFencesInCode instrs others
HasInsertedFencesInCode-more_fences fs gs {code = code} {instrs = instrs} {others = others} among one other =
    let leads = λ (to : ℕ). unmarked_count_before-start fs gs code [] among to in
    let first = starts_from 0 fs code in
    let second = starts_from 0 gs code in
    let fences = MarksAreFences-thread fs gs code second among in
    let same = retargeted-lowered_code fs gs code first second (unmarked_count_before (fence_marks fs gs code)) leads among in
    let here : instrs ≡ lowered_code first fs code =
    one.instrs_are ∙ ap (λ (s : List ℕ). lowered_code s fs code) one.starts_are in
    let there : others ≡ lowered_code second gs code =
    other.instrs_are ∙ ap (λ (s : List ℕ). lowered_code s gs code) other.starts_are in
    subst₂ HasInsertedFencesInCode (same ∙ sym here) (sym there)
    (HasInsertedFencesInCode-code_without (fence_marks fs gs code) (lowered_code second gs code) fences)

-- ---- a test

-- If each flag set in one list is set in the other, so it is past their ends.
AreFlagsAmong-of_set : (fs gs : List Bool)
    → ((j : ℕ) → slice_get fs j ≡ Some true → slice_get gs j ≡ Some true)
    → AreFlagsAmong fs gs
AreFlagsAmong-of_set fs gs each j set = ⊎_elim set_in_range set_past_end (cases_lt j (length fs))
  where
    -- Within the first list the flag is set in the second.
    set_in_range : j < length fs → get_or gs j false ≡ true
    set_in_range in_range = get_or_from_slice_get gs j true false (each j (slice_get-get_or fs j false in_range ∙ ap Some set))

    -- Past the end of the first list no flag is set.
    set_past_end : length fs ≤ j → get_or gs j false ≡ true
    set_past_end beyond = absurd (false≢true (sym (get_or_past fs j false beyond) ∙ set))

module _ (fences others : List (List Bool)) (s : SourceTest) (p q : X86Test) (starts begins : List (List ℕ)) where
  -- If each fence of `fences` is one of `others`, the program with `others` is the one with `fences`, with MFENCEs inserted.
  pub HasInsertedFences-more_fences : AreSubset fences others
      → IsCompiledWith fences s p starts
      → IsCompiledWith others s q begins
      → HasInsertedFences p q
  HasInsertedFences-more_fences among c d = record {
    head = ap (λ (h : TestHead). record h { name = q.head.name }) (d.head ∙ sym c.head);
    as_many = d.as_many ∙ sym c.as_many;
    threads = λ t within.
        let code = at_index s.threads t [] (omega (arith, within, c.as_many)) in
        let c_starts = at_index starts t [] (omega (arith, within, c.as_many, c.as_many_starts)) in
        let d_starts = at_index begins t [] (omega (arith, within, c.as_many, d.as_many_starts)) in
        let d_code = at_index q.threads t [] (omega (arith, within, c.as_many, d.as_many)) in
        let one = c.threads t _ _ _ code (at_index p.threads t [] within) c_starts in
        let other = d.threads t _ _ _ code d_code d_starts in
        HasInsertedFencesInCode-more_fences (thread_code fences t) (thread_code others t) (AreFlagsAmong-of_set _ _ (among t)) one
        other;
  }

-- Each fence of no fences is one of any fences.
pub AreSubset-nil : (fences : List (List Bool)) → AreSubset [] fences
AreSubset-nil fences t j set = absurd cc
