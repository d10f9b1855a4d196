-- What is made of a well-scoped source test is a well-scoped program, and what is made of a well-formed one a
-- well-formed program. In particular jumps lead forward, since starts increase with statements; `compile`
-- needs this for the invariant of its result.
use Rattle.lw_fence.proofs.Common.{IsWellScopedThread-well_formed, IsWellScopedThread, IsWellScopedSource}
use Rattle.lw_fence.proofs.Common.{IsWellScopedProgram, HasInitialWords, ◌≡◌, ℕ, zero, suc, ◌+◌, ◌-◌, ◌<◌}
use Rattle.lw_fence.proofs.Common.{◌≤◌, ◌==◌, List, [], ◌∷◌, length, Some, None, Bool, refl, sym, ap, ◌∙◌}
use Rattle.lw_fence.proofs.Common.{subst, subst₂, ⊎_elim, arith, slice_get, slice_index, All, slice_index_or}
use Rattle.lw_fence.proofs.Common.{ForSome, cases_eq, cases_lt, All-nil, All-cons, same_Some, none-some}
use Rattle.lw_fence.proofs.Common.{slice_get_within, get_or_from_slice_get, TestHead, thread_code}
use Rattle.lw_fence.proofs.Common.{IsWordNumber, IsRegisterIndex, IsWellFormedHead, X86, Operand, Register}
use Rattle.lw_fence.proofs.Common.{Number, IsWellFormedStatement, IsWellFormedThread, slice_get-in_range}
use Rattle.lw_fence.proofs.Common.{at_index, Stmt, Store, Load, Swap, FetchAdd, Set, Sum, IfEq, IfNe, Goto}
use Rattle.lw_fence.proofs.Common.{operand_registers, operand_numbers, branch_target, source_language}
use Rattle.lw_fence.proofs.Common.{source_operation, IsWellFormedSource, IsWellFormedProgram, SourceTest}
use Rattle.lw_fence.proofs.Common.{X86Test, Instr, x86_language, One, Two, with_move_if, lower_compare}
use Rattle.lw_fence.proofs.Common.{lowered, instrs_of, IsCompiledThread, IsCompiled}
use Rattle.lw_fence.proofs.CodeLayout.{both_cases-selected, ContainsAt, IsLaidOut, LaidOut, LaidOut-compiled}
use Rattle.lw_litmus.specs.declared.instr.Instr.TheVariants as instr
use Rattle.lw_litmus.specs.Programs as programs

-- P holds of each instruction of a list with its index, if the first one's index is k.
abbrev AllAt : (ℕ → Instr → Type 0) → ℕ → List Instr → Type 0
AllAt P k [] = Unit {0}
AllAt P k (i ∷ is) = P k i × AllAt P (k + 1) is

-- In the code a lowering begins at k, and at j, which is within it, is the instruction i.
record IsWithinLowering (instrs : List Instr) (k : ℕ) (is : List Instr) (j : ℕ) (i : Instr) : Type 0 where
  lowering : ContainsAt instrs k is
  from : k ≤ j
  before : j < k + length is
  instr_at : slice_get instrs j ≡ Some i

-- What holds of each instruction of a lowering, with its index in the code, holds of the one at j.
AllAt-within : (P : ℕ → Instr → Type 0) (instrs : List Instr) (k : ℕ) (is : List Instr) (j : ℕ) (i : Instr)
    → AllAt P k is
    → IsWithinLowering instrs k is j i
    → P j i
AllAt-within P instrs k [] j i all at = absurd (omega (arith, at.from, at.before))
AllAt-within P instrs k (y ∷ is) j i all at =
    ⊎_elim (λ same.
    subst₂ P same (same_Some y i (sym at.lowering.0 ∙ subst (λ n. slice_get instrs n ≡ Some i) (sym same) at.instr_at)) all.0)
    (λ ne. AllAt-within P instrs (k + 1) is j i all.1 (record {
      lowering = at.lowering.1;
      from = omega (arith, at.from);
      before = omega (arith, at.before);
      instr_at = at.instr_at;
    })) (cases_eq k j)

-- A code of l instructions on `locs` locations that results from n statements: `starts` has the index of each statement's first
-- instruction.
module _ (locs l n : ℕ) (starts : List ℕ) where
  -- The instruction at index k is well-formed, and a jump leads forward, at most to the end.
  abbrev IsWellFormedInstrAt : ℕ → Instr → Type 0
  IsWellFormedInstrAt k i =
      IsWellFormedStatement x86_language locs i × ForSome (branch_target (programs.x86_operation i)) (λ to. (k < to) × (to ≤ l))

  -- An instruction that is no jump is well-formed at each index if it is a well-formed statement.
  IsWellFormedInstrAt-falls_through : (i : Instr)
      → branch_target (programs.x86_operation i) ≡ None
      → IsWellFormedStatement x86_language locs i
      → (k : ℕ)
      → IsWellFormedInstrAt k i
  IsWellFormedInstrAt-falls_through i is_none well_formed k = (well_formed, λ to e. absurd (none-some to (sym is_none ∙ e)))

  -- An instruction without a location names no location out of range.
  no_location : ForSome None (λ x. x < locs)
  no_location x e = absurd (none-some x e)

  -- An operation without a location, a register and a number has nothing that could be out of range.
  no_operands_well_formed : ForSome None (λ x. x < locs) × All IsRegisterIndex [] × All IsWordNumber []
  no_operands_well_formed = (no_location, All-nil IsRegisterIndex, All-nil IsWordNumber)

  -- One register in range is a list of registers in range.
  one_register : (r : ℕ) → IsRegisterIndex r → All IsRegisterIndex (r ∷ [])
  one_register r there = All-cons IsRegisterIndex r [] there (All-nil IsRegisterIndex)

  -- Two registers in range are a list of registers in range.
  two_registers : (r s : ℕ) → IsRegisterIndex r → IsRegisterIndex s → All IsRegisterIndex (r ∷ s ∷ [])
  two_registers r s there and_there = All-cons IsRegisterIndex r (s ∷ []) there (one_register s and_there)

  -- Each statement after the one at index j starts at `end` or after it, and within the code.
  abbrev Reaches : ℕ → ℕ → Type 0
  Reaches j end = (to : ℕ) → j < to → to ≤ n → (end ≤ slice_index starts to) × (slice_index starts to ≤ l)

  -- An instruction that is well-formed at each index is so after `MOV d,a`, if that is needed, and so is the move.
  AllAt-with_move : (d a k : ℕ) (last : Instr)
      → IsRegisterIndex d
      → IsRegisterIndex a
      → ((m : ℕ) → IsWellFormedInstrAt m last)
      → AllAt IsWellFormedInstrAt k (instrs_of (with_move_if d a last))
  AllAt-with_move d a k last d_there a_there fits =
      let moves =
      IsWellFormedInstrAt-falls_through (instr.Set d (Register a)) refl
      (no_location, two_registers d a d_there a_there, All-nil _) in
      both_cases-selected (λ r. AllAt IsWellFormedInstrAt k (instrs_of r)) (d == a) (One last)
      (Two (instr.Set d (Register a)) last) (λ is. (fits k, tt)) (λ is. (moves k, (fits (k + 1), tt)))

  -- An `ADD` of a well-formed operand to d is well-formed.
  IsWellFormedInstrAt-add : (d : ℕ) (v : Operand)
      → IsRegisterIndex d
      → All IsRegisterIndex (operand_registers v)
      → All IsWordNumber (operand_numbers v)
      → (k : ℕ)
      → IsWellFormedInstrAt k (instr.Add d v)
  IsWellFormedInstrAt-add d v d_there regs words = IsWellFormedInstrAt-falls_through (instr.Add d v) refl (
    no_location,
    All-cons IsRegisterIndex d (d ∷ operand_registers v) d_there (All-cons IsRegisterIndex d (operand_registers v) d_there regs),
    words,
  )

  -- A jump to the start of the target of the statement at index j is well-formed.
  IsWellFormedInstrAt-jump : (i : Instr) (j k end to : ℕ)
      → IsWellFormedStatement x86_language locs i
      → branch_target (programs.x86_operation i) ≡ Some (slice_index starts to)
      → ForSome (Some to) (λ to. (j < to) × (to ≤ n))
      → Reaches j end
      → k < end
      → IsWellFormedInstrAt k i
  IsWellFormedInstrAt-jump i j k end to well_formed is forward reaches lt =
      let there = reaches to (forward to refl).0 (forward to refl).1 in
      (well_formed, λ u e. subst (λ u. (k < u) × (u ≤ l)) (same_Some _ u (sym is ∙ e)) (omega arith, there.1))

  -- The lowering, with or without a fence (f), of the statement x at index j, which starts at k, is well-formed.
  AllAt-lowered : (f : Bool) (x : Stmt) (j k : ℕ)
      → IsWellFormedStatement source_language locs x
      → ForSome (branch_target (source_operation x)) (λ to. (j < to) × (to ≤ n))
      → Reaches j (k + length (instrs_of (lowered starts f x)))
      → AllAt IsWellFormedInstrAt k (instrs_of (lowered starts f x))
  AllAt-lowered f (Store x v) j k well_formed forward reaches =
      (IsWellFormedInstrAt-falls_through (instr.Store x v) refl well_formed k, tt)
  AllAt-lowered f (Load d x) j k well_formed forward reaches =
      let load = IsWellFormedInstrAt-falls_through (instr.Load d x) refl well_formed in
      both_cases-selected (λ r. AllAt IsWellFormedInstrAt k (instrs_of r)) f (Two instr.Mfence (instr.Load d x))
      (One (instr.Load d x))
      (λ is. (IsWellFormedInstrAt-falls_through instr.Mfence refl no_operands_well_formed k, (load (k + 1), tt)))
      (λ is. (load k, tt))
  AllAt-lowered f (Swap d x a) j k well_formed forward reaches =
      let d_there : IsRegisterIndex d = well_formed.1 0 0 (omega arith) in
      AllAt-with_move d a k (instr.Xchg x d) d_there (well_formed.1 1 0 (omega arith))
      (IsWellFormedInstrAt-falls_through (instr.Xchg x d) refl (well_formed.0, two_registers d d d_there d_there, well_formed.2))
  AllAt-lowered f (FetchAdd d x a) j k well_formed forward reaches =
      let d_there : IsRegisterIndex d = well_formed.1 0 0 (omega arith) in
      AllAt-with_move d a k (instr.Xadd x d) d_there (well_formed.1 1 0 (omega arith))
      (IsWellFormedInstrAt-falls_through (instr.Xadd x d) refl (well_formed.0, two_registers d d d_there d_there, well_formed.2))
  AllAt-lowered f (Set d v) j k well_formed forward reaches =
      (IsWellFormedInstrAt-falls_through (instr.Set d v) refl well_formed k, tt)
  AllAt-lowered f (Sum d a (Number m)) j k well_formed forward reaches =
      let d_there : IsRegisterIndex d = well_formed.1 0 0 (omega arith) in
      AllAt-with_move d a k _ d_there (well_formed.1 1 0 (omega arith))
      (IsWellFormedInstrAt-add d (Number m) d_there (All-nil _) well_formed.2)
  AllAt-lowered f (Sum d a (Register b)) j k well_formed forward reaches =
      let d_there : IsRegisterIndex d = well_formed.1 0 0 (omega arith) in
      let a_there : IsRegisterIndex a = well_formed.1 1 0 (omega arith) in
      both_cases-selected (λ r. AllAt IsWellFormedInstrAt k (instrs_of r)) (d == b) (One (instr.Add d (Register a)))
      (with_move_if d a (instr.Add d (Register b)))
      (λ is. (IsWellFormedInstrAt-add d (Register a) d_there (one_register a a_there) well_formed.2 k, tt)) (λ is.
      AllAt-with_move d a k (instr.Add d (Register b)) d_there a_there
      (IsWellFormedInstrAt-add d (Register b) d_there (one_register b (well_formed.1 2 0 (omega arith))) well_formed.2))
  AllAt-lowered f (IfEq r m to) j k well_formed forward reaches = (
    IsWellFormedInstrAt-falls_through (lower_compare r m) refl well_formed k,
    (
      IsWellFormedInstrAt-jump (instr.Je (slice_index starts to)) j (k + 1) (k + 2) to no_operands_well_formed refl forward
          reaches (omega arith),
      tt,
    ),
  )
  AllAt-lowered f (IfNe r m to) j k well_formed forward reaches = (
    IsWellFormedInstrAt-falls_through (lower_compare r m) refl well_formed k,
    (
      IsWellFormedInstrAt-jump (instr.Jne (slice_index starts to)) j (k + 1) (k + 2) to no_operands_well_formed refl forward
          reaches (omega arith),
      tt,
    ),
  )
  AllAt-lowered f (Goto to) j k well_formed forward reaches = (
    IsWellFormedInstrAt-jump (instr.Jmp (slice_index starts to)) j k _ to no_operands_well_formed refl forward reaches
        (omega arith),
    tt,
  )

-- What holds of all items of a list holds of the one at index k.
All-at_index : {X : Type 0} (P : X → Type 0) (xs : List X) (k : ℕ) (x : X) → All P xs → slice_get xs k ≡ Some x → P x
All-at_index P xs k x all found_at =
    subst P (get_or_from_slice_get xs k x x found_at) (all k x (slice_get_within xs k x found_at))

-- A compiled thread.
module _ (locs : ℕ) (code : List Stmt) (instrs : List Instr) (starts : List ℕ)
    (well_scoped : IsWellScopedThread source_language locs code) (laid_out : IsLaidOut code instrs starts) where
  -- The start of a statement in the compiled code.
  abbrev start : ℕ → ℕ
  start k = slice_index starts k

  -- Starts increase with statements.
  start-mono : (a d : ℕ) → a + d ≤ length code → start a ≤ start (a + d)
  start-mono a zero le = let e : a + 0 ≡ a = omega arith in omega (arith, ap start e)
  start-mono a (suc d) le =
      let x = slice_get-in_range code (a + d) (omega arith) in
      let e : a + d + 1 ≡ a + suc d = omega arith in
      omega (arith, (laid_out.at (a + d) x.0 x.1).next, ap start e, start-mono a d (omega arith))

  -- Each statement after the one at index j starts at or after the next start, and within the code.
  Reaches-next_start : (j : ℕ) → Reaches locs (length instrs) (length code) starts j (start (j + 1))
  Reaches-next_start j to after within =
      let e : j + 1 + (to - (j + 1)) ≡ to = omega arith in
      let f : to + (length code - to) ≡ length code = omega arith in (
        subst (λ k. start (j + 1) ≤ start k) e (start-mono (j + 1) (to - (j + 1)) (omega arith)),
        subst (λ m. start to ≤ m) (ap start f ∙ laid_out.last) (start-mono to (length code - to) (omega arith)),
      )

  -- The instruction at index j of this thread is well-formed.
  abbrev IsWellFormedHere : ℕ → Instr → Type 0
  IsWellFormedHere j i = IsWellFormedInstrAt locs (length instrs) (length code) starts j i

  -- The instructions before the start of the statement at index k are well-formed.
  IsWellFormedHere-before_start : (k : ℕ)
      → k ≤ length code
      → (j : ℕ) (i : Instr)
      → j < start k
      → slice_get instrs j ≡ Some i
      → IsWellFormedHere j i
  IsWellFormedHere-before_start zero le j i lt found_at = absurd (omega (arith, laid_out.first))
  IsWellFormedHere-before_start (suc k) le j i lt found_at =
      ⊎_elim (λ early. IsWellFormedHere-before_start k (omega arith) j i early found_at)
      (λ late. IsWellFormedHere-in_lowering late (slice_get-in_range code k le)) (cases_lt j (start k))
    where
      -- From its start on the instruction is one of the lowering of statement k.
      IsWellFormedHere-in_lowering : start k ≤ j → (x : Stmt) × (slice_get code k ≡ Some x) → IsWellFormedHere j i
      IsWellFormedHere-in_lowering late x =
          let s = laid_out.at k x.0 x.1 in
          let next : suc k ≡ k + 1 = omega arith in
          let r = subst (λ b. Reaches locs (length instrs) (length code) starts k b) s.next (Reaches-next_start k) in
          let each =
          AllAt-lowered locs (length instrs) (length code) starts s.fence x.0 k (start k)
          (All-at_index (IsWellFormedStatement source_language locs) code k x.0 well_scoped.statements_formed x.1)
          (well_scoped.forward k x.0 x.1) r in
          AllAt-within IsWellFormedHere instrs (start k) (instrs_of (lowered starts s.fence x.0)) j i each (record {
            lowering = s.lowering_at_start;
            from = late;
            before = omega (arith, s.next, ap start next);
            instr_at = found_at;
          })

  -- Each instruction of the compiled code is well-formed.
  IsWellFormedHere-every_instr : (j : ℕ) (i : Instr) → slice_get instrs j ≡ Some i → IsWellFormedHere j i
  IsWellFormedHere-every_instr j i found_at =
      IsWellFormedHere-before_start (length code) (omega arith) j i
      (subst (λ n. j < n) (sym laid_out.last) (slice_get_within instrs j i found_at)) found_at

  -- The compiled code is a well-scoped thread.
  IsWellScopedThread-compiled : IsWellScopedThread x86_language locs instrs
  IsWellScopedThread-compiled = record {
    statements_formed = λ j d lt. (IsWellFormedHere-every_instr j _ (at_index instrs j d lt)).0;
    forward = λ j i e. (IsWellFormedHere-every_instr j i e).1;
  }

-- What is laid out of a well-formed code is a well-formed code.
IsWellFormedThread-laid_out : (locs : ℕ) (code : List Stmt) (instrs : List Instr) (starts : List ℕ)
    → IsWellFormedThread source_language locs code
    → IsLaidOut code instrs starts
    → IsWellFormedThread x86_language locs instrs
IsWellFormedThread-laid_out locs code instrs starts well_formed laid_out =
    let scoped =
    IsWellScopedThread-compiled locs code instrs starts (IsWellScopedThread-well_formed source_language well_formed) laid_out in
    record {
      short = omega (arith, laid_out.short, well_formed.short);
      statements_formed = scoped.statements_formed;
      forward = scoped.forward;
    }

-- If P of a code implies Q of each code that is laid out of it, on as many locations, and P holds of each thread of a source,
-- then Q holds of each thread of a program that is laid out of the source.
All-laid_out_threads : (P : ℕ → List Stmt → Type 0) (Q : ℕ → List Instr → Type 0)
    → ((locs : ℕ) (code : List Stmt) (instrs : List Instr) (starts : List ℕ)
    → P locs code
    → IsLaidOut code instrs starts
    → Q locs instrs)
    → (s : SourceTest) (p : X86Test) (starts : List (List ℕ))
    → LaidOut s p starts
    → All (P (length s.head.locs)) s.threads
    → All (Q (length p.head.locs)) p.threads
All-laid_out_threads P Q made s p starts laid all t d lt =
    subst (λ (h : TestHead). Q (length h.locs) (slice_index_or p.threads t d)) (sym laid.head)
    (holds_at_thread _ (at_index p.threads t d lt))
  where
    -- The property holds of the thread at this index.
    holds_at_thread : (instrs : List Instr) → slice_get p.threads t ≡ Some instrs → Q (length s.head.locs) instrs
    holds_at_thread instrs thread_at =
        let in_range : t < length s.threads = omega (arith, slice_get_within p.threads t instrs thread_at, laid.as_many) in
        let thread =
        made (length s.head.locs) (thread_code s.threads t) (thread_code p.threads t) (thread_code starts t) (all t [] in_range)
        (laid.at t in_range) in
        subst (Q (length s.head.locs)) (get_or_from_slice_get p.threads t instrs [] thread_at) thread

-- A well-formed head of the source language is a well-formed head of x86.
IsWellFormedHead-in_x86 : {h : TestHead} → IsWellFormedHead h → IsWellFormedHead (record h { arch = X86 })
IsWellFormedHead-in_x86 well_formed = record {
  name = well_formed.name;
  has_thread = well_formed.has_thread;
  bounded = well_formed.bounded;
  table = well_formed.table;
  regs = well_formed.regs;
  register_counts = well_formed.register_counts;
  register_words = well_formed.register_words;
  words = well_formed.words;
  location_words = well_formed.location_words;
  listed_in_range = well_formed.listed_in_range;
  ascending = well_formed.ascending;
  nodes_bounded = well_formed.nodes_bounded;
  condition = well_formed.condition;
}

-- If a source has as many threads as its head says, a program that is laid out of it has as many as its head says.
thread_count-laid_out : (s : SourceTest) (p : X86Test) (starts : List (List ℕ))
    → length s.threads ≡ s.head.threads
    → LaidOut s p starts
    → length p.threads ≡ p.head.threads
thread_count-laid_out s p starts many laid = laid.as_many ∙ many ∙ sym (ap (λ (h : TestHead). h.threads) laid.head)

-- What is laid out of a well-scoped source, whatever its fences, is a well-scoped program.
pub IsWellScopedProgram-laid_out : (s : SourceTest) (p : X86Test) (starts : List (List ℕ))
    → IsWellScopedSource s
    → LaidOut s p starts
    → IsWellScopedProgram p
IsWellScopedProgram-laid_out s p starts well_scoped laid = record {
  head =
      subst HasInitialWords (sym laid.head)
      (let words = well_scoped.head in
      record { regs = words.regs; register_counts = words.register_counts; words = words.words });
  arch = ap (λ (h : TestHead). h.arch) laid.head;
  as_many = thread_count-laid_out s p starts well_scoped.as_many laid;
  code =
      All-laid_out_threads (IsWellScopedThread source_language) (IsWellScopedThread x86_language) IsWellScopedThread-compiled s p
      starts laid well_scoped.code;
}

-- What is laid out of a well-formed source, whatever its fences, is a well-formed program.
pub IsWellFormedProgram-laid_out : (s : SourceTest) (p : X86Test) (starts : List (List ℕ))
    → IsWellFormedSource s
    → LaidOut s p starts
    → IsWellFormedProgram p
IsWellFormedProgram-laid_out s p starts well_formed laid = record {
  head = subst IsWellFormedHead (sym laid.head) (IsWellFormedHead-in_x86 well_formed.head);
  arch = ap (λ (h : TestHead). h.arch) laid.head;
  as_many = thread_count-laid_out s p starts well_formed.as_many laid;
  code =
      All-laid_out_threads (IsWellFormedThread source_language) (IsWellFormedThread x86_language) IsWellFormedThread-laid_out s p
      starts laid well_formed.code;
}

-- What a well-scoped source is compiled to is a well-scoped program.
pub IsWellScopedProgram-compiled : (s : SourceTest) (p : X86Test) (starts : List (List ℕ))
    → IsWellScopedSource s
    → IsCompiled s p starts
    → IsWellScopedProgram p
IsWellScopedProgram-compiled s p starts well_scoped compiled =
    IsWellScopedProgram-laid_out s p starts well_scoped (LaidOut-compiled s p starts compiled)

-- What a well-formed source is compiled to is a well-formed program.
pub IsWellFormedProgram-compiled : (s : SourceTest) (p : X86Test) (starts : List (List ℕ))
    → IsWellFormedSource s
    → IsCompiled s p starts
    → IsWellFormedProgram p
IsWellFormedProgram-compiled s p starts well_formed compiled =
    IsWellFormedProgram-laid_out s p starts well_formed (LaidOut-compiled s p starts compiled)

-- The program of a source's head, in x86, and of its compiled threads is the one to which the source is compiled.
pub IsCompiled-of_threads : {s : SourceTest} {head : TestHead} {threads : List (List Instr)} {starts : List (List ℕ)}
    → head ≡ s.head
    → length threads ≡ length s.threads
    → length starts ≡ length s.threads
    → ((t : ℕ) (code : List Stmt) (instrs : List Instr) (begins : List ℕ)
    → slice_get s.threads t ≡ Some code
    → slice_get threads t ≡ Some instrs
    → slice_get starts t ≡ Some begins
    → IsCompiledThread code instrs begins)
    → IsCompiled s (record { head = record head { arch = X86 }; threads = threads }) starts
IsCompiled-of_threads {head = head} {threads = threads} same as_many as_many_starts each = record {
  head = ap (λ (h : TestHead). record h { arch = X86 }) same;
  as_many = as_many;
  as_many_starts = as_many_starts;
  threads = each;
}
