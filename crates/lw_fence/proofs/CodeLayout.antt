-- The positions of a statement's instructions in the compiled code. Both directions of the compiler's theorem
-- read instructions by it: a statement's lowering is at its start, and the next start is after it.
use Rattle.lw_fence.proofs.Common.{◌≡◌, ◌↔◌, ℕ, zero, suc, ◌+◌, ◌*◌, ◌<◌, ◌≤◌, List, [], ◌∷◌, ◌++◌, length}
use Rattle.lw_fence.proofs.Common.{Some, Bool, true, false, if◌then◌else◌, sym, refl, ap, ◌∙◌, subst, subst₂}
use Rattle.lw_fence.proofs.Common.{arith, slice_get, slice_index, length-append, append_assoc, drop, get_or}
use Rattle.lw_fence.proofs.Common.{ap₂, add-one, drop-cons, get_or-append_seam, same_Some, none-some}
use Rattle.lw_fence.proofs.Common.{slice_get_within, slice_get-get_or, get_or_from_slice_get, thread_code}
use Rattle.lw_fence.proofs.Common.{X86, at_index, Stmt, IfEq, SourceTest, X86Test, Instr, Lowered, One, Two}
use Rattle.lw_fence.proofs.Common.{NeedsFence, lowered, instrs_of, lowered_code, starts_from}
use Rattle.lw_fence.proofs.Common.{IsCompiledThread, IsCompiled, IsThreadWith, IsCompiledWith}

-- If P holds of r when b is true, and of s when b is false, then it holds of the one that b selects.
pub both_cases-selected : (P : Lowered → Type 0) (b : Bool) (r s : Lowered)
    → (b ≡ true → P r)
    → (b ≡ false → P s)
    → P (if b then r else s)
both_cases-selected P true r s first second = first refl
both_cases-selected P false r s first second = second refl

-- The code has these instructions at this index.
abbrev pub ContainsAt : List Instr → ℕ → List Instr → Type 0
ContainsAt code pc [] = Unit {0}
ContainsAt code pc (i ∷ is) = (slice_get code pc ≡ Some i) × ContainsAt code (pc + 1) is

-- A code has its middle instructions at the number of those before them.
ContainsAt-middle : (is pre post : List Instr) → ContainsAt (pre ++ (is ++ post)) (length pre) is
ContainsAt-middle [] pre post = tt
ContainsAt-middle (i ∷ is) pre post =
    let in_range : length pre < length (pre ++ i ∷ (is ++ post)) = omega (arith, length-append pre (i ∷ (is ++ post))) in
    let here = slice_get-get_or _ (length pre) i in_range ∙ ap Some (get_or-append_seam pre i (is ++ post) i) in
    let next : length (pre ++ i ∷ []) ≡ length pre + 1 = omega (arith, length-append pre (i ∷ [])) in
    (here, subst₂ (λ l k. ContainsAt l k is) (append_assoc pre (i ∷ []) (is ++ post)) next (ContainsAt-middle is _ post))

-- The length of a lowering, with or without a fence (f), does not depend on its jumps' targets.
pub length-lowered_any_starts : (starts : List ℕ) (f : Bool) (x : Stmt)
    → length (instrs_of (lowered [] f x)) ≡ length (instrs_of (lowered starts f x))
length-lowered_any_starts starts f (IfEq r n to) = refl
length-lowered_any_starts starts f x = refl

-- The index after the first statement's lowering, which starts at n: the start of the next statement's.
abbrev pub start_after_first : ℕ → List Bool → Stmt → ℕ
start_after_first n fences x = n + length (instrs_of (lowered [] (get_or fences 0 false) x))

-- The instructions start with the first statement's lowering.
pub lowered_code-cons : (starts : List ℕ) (fences : List Bool) (x : Stmt) (code : List Stmt)
    → lowered_code starts fences (x ∷ code)
    ≡ instrs_of (lowered starts (get_or fences 0 false) x) ++ lowered_code starts (drop 1 fences) code
lowered_code-cons starts [] x code = refl
lowered_code-cons starts (f ∷ fences) x code = refl

-- The list of starts begins with the first statement's start n, followed by those after its lowering.
pub starts_from-cons : (n : ℕ) (fences : List Bool) (x : Stmt) (code : List Stmt)
    → starts_from n fences (x ∷ code) ≡ n ∷ starts_from (start_after_first n fences x) (drop 1 fences) code
starts_from-cons n [] x code = refl
starts_from-cons n (f ∷ fences) x code = refl

-- Without the first flag, each other flag is at the index before.
pub get_or-drop_one : (fences : List Bool) (j : ℕ) → get_or (drop 1 fences) j false ≡ get_or fences (suc j) false
get_or-drop_one [] j = refl
get_or-drop_one (f ∷ fences) j = refl

-- The length of all lowerings is the sum of that of the first and those of the others.
length-lowered_code-cons : (starts : List ℕ) (n : ℕ) (fences : List Bool) (x : Stmt) (code : List Stmt)
    → n + length (lowered_code starts fences (x ∷ code))
    ≡ start_after_first n fences x + length (lowered_code starts (drop 1 fences) code)
length-lowered_code-cons starts n fences x code = omega (
  arith,
  ap length (lowered_code-cons starts fences x code),
  length-lowered_any_starts starts (get_or fences 0 false) x,
  length-append (instrs_of (lowered starts (get_or fences 0 false) x)) (lowered_code starts (drop 1 fences) code),
)

-- The first of the starts from n on is n.
pub starts_from-first : (n : ℕ) (fences : List Bool) (code : List Stmt) → slice_index (starts_from n fences code) 0 ≡ n
starts_from-first n fences [] = refl
starts_from-first n fences (x ∷ code) = ap (λ l. slice_index l 0) (starts_from-cons n fences x code)

-- The last of the starts from n on is n and the number of all instructions.
starts_from-last : (starts : List ℕ) (n : ℕ) (fences : List Bool) (code : List Stmt)
    → slice_index (starts_from n fences code) (length code) ≡ n + length (lowered_code starts fences code)
starts_from-last starts n fences [] = omega arith
starts_from-last starts n fences (x ∷ code) =
    ap (λ l. slice_index l (suc (length code))) (starts_from-cons n fences x code)
    ∙ starts_from-last starts (start_after_first n fences x) (drop 1 fences) code
    ∙ sym (length-lowered_code-cons starts n fences x code)

-- The lowerings, split at that of statement j, which is x and has a fence if f is `true`; and the starts of that and of the
-- next one.
record LoweredCodeSplit (starts : List ℕ) (n : ℕ) (fences : List Bool) (code : List Stmt) (j : ℕ) (f : Bool)
    (x : Stmt) : Type 0 where
  before : List Instr
  rest : List Instr
  whole : lowered_code starts fences code ≡ before ++ (instrs_of (lowered starts f x) ++ rest)
  start_is : slice_index (starts_from n fences code) j ≡ n + length before
  next : slice_index (starts_from n fences code) (j + 1) ≡ n + (length before + length (instrs_of (lowered starts f x)))

-- The instructions can be split at any statement's lowering.
LoweredCodeSplit-at : (starts : List ℕ) (n : ℕ) (fences : List Bool) (code : List Stmt) (j : ℕ) (x : Stmt)
    → slice_get code j ≡ Some x
    → LoweredCodeSplit starts n fences code j (get_or fences j false) x
LoweredCodeSplit-at starts n fences [] j x found_at = absurd (none-some x found_at)
LoweredCodeSplit-at starts n fences (y ∷ code) zero x found_at =
    subst (LoweredCodeSplit starts n fences (y ∷ code) 0 (get_or fences 0 false)) (same_Some y x found_at) (record {
      before = [];
      rest = lowered_code starts (drop 1 fences) code;
      whole = lowered_code-cons starts fences y code;
      start_is = omega (arith, starts_from-first n fences (y ∷ code));
      next =
          ap (λ l. slice_index l 1) (starts_from-cons n fences y code)
          ∙ starts_from-first (start_after_first n fences y) (drop 1 fences) code
          ∙ omega (arith, length-lowered_any_starts starts (get_or fences 0 false) y);
    })
LoweredCodeSplit-at starts n fences (y ∷ code) (suc j) x found_at =
    let is = instrs_of (lowered starts (get_or fences 0 false) y) in
    let c =
    subst (λ f. LoweredCodeSplit starts (start_after_first n fences y) (drop 1 fences) code j f x) (get_or-drop_one fences j)
    (LoweredCodeSplit-at starts (start_after_first n fences y) (drop 1 fences) code j x found_at) in
    let long = length-append is c.before in
    let last : suc j + 1 ≡ suc (j + 1) = omega arith in
    let first = length-lowered_any_starts starts (get_or fences 0 false) y in
    record {
      before = is ++ c.before;
      rest = c.rest;
      whole =
          lowered_code-cons starts fences y code
          ∙ ap (λ l. is ++ l) c.whole
          ∙ sym (append_assoc is c.before (instrs_of (lowered starts (get_or fences (suc j) false) x) ++ c.rest));
      start_is = ap (λ l. slice_index l (suc j)) (starts_from-cons n fences y code) ∙ omega (arith, c.start_is, long, first);
      next =
          ap (λ l. slice_index l (suc j + 1)) (starts_from-cons n fences y code)
          ∙ ap (slice_index (n ∷ starts_from (start_after_first n fences y) (drop 1 fences) code)) last
          ∙ omega (arith, c.next, long, first);
    }

-- The lowering of statement j is at its start, with or without a fence, and the next start is after it.
pub record HasLowering (instrs : List Instr) (starts : List ℕ) (j : ℕ) (x : Stmt) : Type 0 where
  pub fence : Bool
  pub lowering_at_start : ContainsAt instrs (slice_index starts j) (instrs_of (lowered starts fence x))
  pub next : slice_index starts (j + 1) ≡ slice_index starts j + length (instrs_of (lowered starts fence x))

-- A thread laid out in x86, whatever its fences: each statement's lowering is at its start.
pub record IsLaidOut (code : List Stmt) (instrs : List Instr) (starts : List ℕ) : Type 0 where
  pub first : slice_index starts 0 ≡ 0
  pub last : slice_index starts (length code) ≡ length instrs
  pub short : length instrs ≤ 2 * length code
  pub at : (j : ℕ) (x : Stmt) → slice_get code j ≡ Some x → HasLowering instrs starts j x

-- A thread laid out in x86, with a fence before a statement exactly if it needs one.
pub record IsFencedAsNeeded (code : List Stmt) (instrs : List Instr) (starts : List ℕ) : Type 0 where
  pub laid : IsLaidOut code instrs starts
  pub needed : (j : ℕ) (x : Stmt) (at : slice_get code j ≡ Some x) → ((laid.at j x at).fence ≡ true) ↔ NeedsFence code j

-- A lowering has at most two instructions.
length-lowered_le : (r : Lowered) → length (instrs_of r) ≤ 2
length-lowered_le (One i) = omega arith
length-lowered_le (Two i j) = omega arith

-- There are at most two instructions for each statement.
length-lowered_code_le : (starts : List ℕ) (fences : List Bool) (code : List Stmt)
    → length (lowered_code starts fences code) ≤ 2 * length code
length-lowered_code_le starts fences [] = omega arith
length-lowered_code_le starts fences (x ∷ code) = omega (
  arith,
  length-lowered_code-cons starts 0 fences x code,
  length-lowered_any_starts starts (get_or fences 0 false) x,
  length-lowered_le (lowered starts (get_or fences 0 false) x),
  length-lowered_code_le starts (drop 1 fences) code,
)

-- In a thread with any fences each statement's lowering is at its start, and the next start is after it.
HasLowering-with_fences : {fences : List Bool} {code : List Stmt} {instrs : List Instr} {starts : List ℕ}
    → IsThreadWith fences code instrs starts
    → (j : ℕ) (x : Stmt)
    → slice_get code j ≡ Some x
    → HasLowering instrs starts j x
HasLowering-with_fences {fences} {code} {instrs} {starts} c j x found_at =
    let a = LoweredCodeSplit-at starts 0 fences code j x found_at in
    let is = instrs_of (lowered starts (get_or fences j false) x) in
    let here : length a.before ≡ slice_index starts j = omega (arith, ap (λ s. slice_index s j) c.starts_are, a.start_is) in
    record {
      fence = get_or fences j false;
      lowering_at_start =
          subst₂ (λ l k. ContainsAt l k is) (sym (c.instrs_are ∙ a.whole)) here (ContainsAt-middle is a.before a.rest);
      next = omega (arith, ap (λ s. slice_index s (j + 1)) c.starts_are, here, a.next);
    }

-- A thread lowered with any fences is laid out.
IsLaidOut-with_fences : {fences : List Bool} {code : List Stmt} {instrs : List Instr} {starts : List ℕ}
    → IsThreadWith fences code instrs starts
    → IsLaidOut code instrs starts
IsLaidOut-with_fences {fences} {code} {instrs} {starts} c = record {
  first = ap (λ s. slice_index s 0) c.starts_are ∙ starts_from-first 0 fences code;
  last =
      omega (
        arith,
        ap (λ s. slice_index s (length code)) c.starts_are,
        starts_from-last starts 0 fences code,
        ap length c.instrs_are,
      );
  short = omega (arith, length-lowered_code_le starts fences code, ap length c.instrs_are);
  at = HasLowering-with_fences c;
}

-- A compiled thread is laid out, with fences exactly before the loads that need them.
pub IsFencedAsNeeded-compiled : {code : List Stmt} {instrs : List Instr} {starts : List ℕ}
    → IsCompiledThread code instrs starts
    → IsFencedAsNeeded code instrs starts
unfolding IsLaidOut-with_fences HasLowering-with_fences
IsFencedAsNeeded-compiled {code} c = record {
  laid = IsLaidOut-with_fences (record { starts_are = c.starts_are; instrs_are = c.instrs_are });
  needed = λ j x e.
      let within = slice_get_within code j x e in (
        (λ h. (c.needed j).0 (slice_get-get_or c.fences j false (omega (arith, c.as_many, within)) ∙ ap Some h)),
        (λ h. get_or_from_slice_get c.fences j true false ((c.needed j).1 h)),
      );
}

-- Thread t of a compiled source is laid out, with fences exactly where they are needed.
pub IsFencedAsNeeded-at : (s : SourceTest) (p : X86Test) (starts : List (List ℕ))
    → IsCompiled s p starts
    → (t : ℕ)
    → t < length s.threads
    → IsFencedAsNeeded (thread_code s.threads t) (thread_code p.threads t) (thread_code starts t)
IsFencedAsNeeded-at s p starts compiled t in_range =
    let instrs = at_index p.threads t [] (omega (arith, compiled.as_many)) in
    let begins = at_index starts t [] (omega (arith, compiled.as_many_starts)) in
    IsFencedAsNeeded-compiled (compiled.threads t _ _ _ (at_index s.threads t [] in_range) instrs begins)

-- A source laid out in x86, whatever its fences: each of its threads is.
pub record LaidOut (s : SourceTest) (p : X86Test) (starts : List (List ℕ)) : Type 0 where
  -- The program's head is the source's, except for the language.
  pub head : p.head ≡ record s.head { arch = X86 }
  pub as_many : length p.threads ≡ length s.threads
  pub at : (t : ℕ) → t < length s.threads → IsLaidOut (thread_code s.threads t) (thread_code p.threads t) (thread_code starts t)

-- A compiled source is laid out.
pub LaidOut-compiled : (s : SourceTest) (p : X86Test) (starts : List (List ℕ)) → IsCompiled s p starts → LaidOut s p starts
LaidOut-compiled s p starts compiled = record {
  head = compiled.head;
  as_many = compiled.as_many;
  at = λ t within. (IsFencedAsNeeded-at s p starts compiled t within).laid;
}

-- A source in x86 with any fences is laid out.
pub LaidOut-with_fences : (fences : List (List Bool)) (s : SourceTest) (p : X86Test) (starts : List (List ℕ))
    → IsCompiledWith fences s p starts
    → LaidOut s p starts
LaidOut-with_fences fences s p starts compiled = record {
  head = compiled.head;
  as_many = compiled.as_many;
  at = λ t within.
      let instrs = at_index p.threads t [] (omega (arith, compiled.as_many)) in
      let begins = at_index starts t [] (omega (arith, compiled.as_many_starts)) in
      IsLaidOut-with_fences (compiled.threads t _ _ _ (at_index s.threads t [] within) instrs begins);
}

-- Statement x at index i, after those that were passed.
module _ (fences : List Bool) (code : List Stmt) (i : ℕ) (x : Stmt) (within : i < length code)
    (as_many : length fences ≡ length code) (is : x ≡ get_or code i x) where
  -- The statements that are left begin with this one.
  drop_code_cons : drop i code ≡ x ∷ drop (suc i) code
  drop_code_cons = drop-cons code i x within ∙ ap (λ (y : Stmt). y ∷ drop (suc i) code) (sym is)

  -- The flag of this statement: whether a fence is before it.
  abbrev fence : Bool
  fence = get_or fences i false

  -- The flags that are left begin with this statement's flag.
  drop_fences_cons : drop i fences ≡ fence ∷ drop (suc i) fences
  drop_fences_cons = drop-cons fences i false (omega (arith, within, as_many))

  -- If all instructions are those emitted so far and those of the statements from i on, then after those of statement i are
  -- emitted they are those emitted so far and those of the statements from i + 1 on.
  pub lowered_code-push : (starts : List ℕ) (out : List Instr) {new : List Instr}
      → lowered_code starts fences code ≡ out ++ lowered_code starts (drop i fences) (drop i code)
      → new ≡ out ++ instrs_of (lowered starts (get_or fences i false) x)
      → lowered_code starts fences code ≡ new ++ lowered_code starts (drop (i + 1) fences) (drop (i + 1) code)
  lowered_code-push starts out so_far more =
      let rest = lowered_code starts (drop (suc i) fences) (drop (suc i) code) in
      so_far
      ∙ ap₂ (λ a b. out ++ lowered_code starts a b) drop_fences_cons drop_code_cons
      ∙ sym (append_assoc out (instrs_of (lowered starts fence x)) rest)
      ∙ rw (more, add-one) refl

  -- If all starts are those listed so far and those of the statements from i on, the first of which starts at n, then after n
  -- is listed they are those listed so far and those of the statements from i + 1 on.
  pub starts_from-push : (k n : ℕ) (out new : List ℕ)
      → starts_from 0 fences code ≡ out ++ starts_from n (drop i fences) (drop i code)
      → k ≡ length (instrs_of (lowered [] (get_or fences i false) x))
      → new ≡ out ++ n ∷ []
      → starts_from 0 fences code ≡ new ++ starts_from (n + k) (drop (i + 1) fences) (drop (i + 1) code)
  starts_from-push k n out new so_far long more =
      let rest = starts_from (n + length (instrs_of (lowered [] fence x))) (drop (suc i) fences) (drop (suc i) code) in
      so_far
      ∙ ap₂ (λ a b. out ++ starts_from n a b) drop_fences_cons drop_code_cons
      ∙ sym (append_assoc out (n ∷ []) rest)
      ∙ rw (more, long, add-one) refl

-- There is a start for each statement, and one more for the end.
pub length-starts_from : (n : ℕ) (fences : List Bool) (code : List Stmt) → length (starts_from n fences code) ≡ length code + 1
length-starts_from n fences [] = refl
length-starts_from n fences (x ∷ code) =
    omega (
      arith,
      ap length (starts_from-cons n fences x code),
      length-starts_from (start_after_first n fences x) (drop 1 fences) code,
    )
