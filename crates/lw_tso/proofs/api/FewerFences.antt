-- What is left of a well-scoped test without some of its MFENCEs is well-scoped, and what is left of a
-- well-formed one well-formed. Used where a law about fences is lifted to caches, which needs a well-scoped
-- test.
use Rattle.lw_tso.proofs.Common.{IsWellScopedThread-well_formed, IsWellScopedThread, IsWellScopedProgram}
use Rattle.lw_tso.proofs.Common.{HasInitialWords, ◌≡◌, ℕ, zero, suc, ◌+◌, ◌<◌, ◌≤◌, List, [], length, Some}
use Rattle.lw_tso.proofs.Common.{◌⊎◌, inl, inr, ⊎_elim, refl, sym, ap, ◌∙◌, subst, arith, All, cases_lt}
use Rattle.lw_tso.proofs.Common.{same_Some, slice_get, thread_code, slice_get_within, slice_get-get_or}
use Rattle.lw_tso.proofs.Common.{ForSome, Instr, IsWellFormedStatement, IsWellFormedThread}
use Rattle.lw_tso.proofs.Common.{IsWellFormedProgram, X86Test, x86_language, x86_operation}
use Rattle.lw_tso.proofs.Common.{retarget_to_blocks, IsInserted, EndsBlock, HasInsertedFencesInCode}
use Rattle.lw_tso.proofs.Common.{HasInsertedFences, slice_get-in_range, TestHead, IsTestName}
use Rattle.lw_tso.proofs.Common.{IsWellFormedHead, branch_target, Je, Jne, Jmp}

module _ (code fenced : List Instr) (f : HasInsertedFencesInCode code fenced) where
  -- From each index of the fenced code to the next one the block is the same, or the next block.
  block-advance : (index : ℕ)
      → index < length fenced
      → (f.block index ≤ f.block (index + 1)) × (f.block (index + 1) ≤ f.block index + 1)
  block-advance index within = let i = slice_get-in_range fenced index within in go (f.each index i.0 i.1)
    where
      -- By whether the instruction at the index was inserted.
      go : {i : Instr}
          → IsInserted f.block index i ⊎ EndsBlock f.block code index i
          → (f.block index ≤ f.block (index + 1)) × (f.block (index + 1) ≤ f.block index + 1)
      go (inl inserted) = (omega (arith, inserted.1), omega (arith, inserted.1))
      go (inr ends) = (omega (arith, ends.1), omega (arith, ends.1))

  -- Of two indices the later one is in the same block or in a later one.
  block-mono : (index n : ℕ) → index ≤ n → n ≤ length fenced → f.block index ≤ f.block n
  block-mono index zero before within = let same : index ≡ 0 = omega arith in omega (arith, ap f.block same)
  block-mono index (suc n) before within =
      let next : n + 1 ≡ suc n = omega arith in
      ⊎_elim (λ lt.
      omega (arith, block-mono index n (omega (arith, lt)) (omega arith), (block-advance n (omega arith)).0, ap f.block next))
      (λ le. let same : index ≡ suc n = omega (arith, before, le) in omega (arith, ap f.block same)) (cases_lt index (suc n))

  -- The block of an index is at most the index.
  block-le : (n : ℕ) → n ≤ length fenced → f.block n ≤ n
  block-le zero within = omega (arith, f.first)
  block-le (suc n) within =
      let next : n + 1 ≡ suc n = omega arith in
      omega (arith, block-le n (omega arith), (block-advance n (omega arith)).1, ap f.block next)

  -- An index of `fenced` at which the instruction of `code` with index k is: it ends block k there.
  record IsAt (k : ℕ) : Type 0 where
    index : ℕ
    i : Instr
    instr_at : slice_get fenced index ≡ Some i
    ends : EndsBlock f.block code index i
    block : f.block index ≡ k

  -- If k is below the block of some index of the fenced code, the instruction of number k ends a block there.
  IsAt-below : (k n : ℕ) → n ≤ length fenced → k < f.block n → IsAt k
  IsAt-below k zero within below = absurd (omega (arith, f.first))
  IsAt-below k (suc n) within below =
      let i = slice_get-in_range fenced n (omega arith) in
      go (λ lower. IsAt-below k n (omega arith) lower) i.0 i.1 (f.each n i.0 i.1)
    where
      -- The index n + 1 is the one after n.
      next : f.block (n + 1) ≡ f.block (suc n)
      next = let same : n + 1 ≡ suc n = omega arith in ap f.block same

      -- By whether the instruction at n was inserted.
      go : (k < f.block n → IsAt k)
          → (i : Instr)
          → slice_get fenced n ≡ Some i
          → IsInserted f.block n i ⊎ EndsBlock f.block code n i
          → IsAt k
      go earlier i there (inl inserted) = earlier (omega (arith, below, next, inserted.1))
      go earlier i there (inr ends) =
          ⊎_elim earlier (λ le. let same : f.block n ≡ k = omega (arith, below, next, ends.1, le) in found same)
          (cases_lt k (f.block n))
        where
          -- If n is in block k, the instruction at n is the one that ends it.
          found : f.block n ≡ k → IsAt k
          found same = record { index = n; i = i; instr_at = there; ends = ends; block = same }

  -- Each instruction of the code ends a block of the fenced code.
  IsAt-every : (k : ℕ) → k < length code → IsAt k
  IsAt-every k within = IsAt-below k (length fenced) (omega arith) (omega (arith, within, f.last (length fenced) (omega arith)))

  -- A code is no longer than with MFENCEs inserted.
  length_le-fenced : length code ≤ length fenced
  length_le-fenced = omega (arith, block-le (length fenced) (omega arith), f.last (length fenced) (omega arith))

  module _ (locs : ℕ) (ok : IsWellScopedThread x86_language locs fenced) where
    -- If an instruction is well-formed, it is so with its jump retargeted to blocks.
    IsWellFormedStatement-retarget : (i : Instr)
        → IsWellFormedStatement x86_language locs i
        → IsWellFormedStatement x86_language locs (retarget_to_blocks f.block i)
    IsWellFormedStatement-retarget (Je to) statement = statement
    IsWellFormedStatement-retarget (Jne to) statement = statement
    IsWellFormedStatement-retarget (Jmp to) statement = statement
    IsWellFormedStatement-retarget i statement = statement

    -- If a target is after the instruction's index in the fenced code, its block is after the instruction's number, and within the code.
    block-of_target : (k : ℕ) (here : IsAt k) (to : ℕ)
        → (here.index < to) × (to ≤ length fenced)
        → (k < f.block to) × (f.block to ≤ length code)
    block-of_target k here to there =
        let last = f.last (length fenced) (omega arith) in
        let before = block-mono (here.index + 1) to (omega (arith, there.0)) there.1 in
        (omega (arith, before, here.ends.1, here.block), omega (arith, block-mono to (length fenced) there.1 (omega arith), last))

    -- If a target in the fenced code is later than the index at which instruction k is, and a jump is retargeted to its block
    -- u, then u is later than k, and within the code.
    block-of_jump : (k : ℕ) (here : IsAt k) (to u : ℕ)
        → (here.index < to) × (to ≤ length fenced)
        → Some (f.block to) ≡ Some u
        → (k < u) × (u ≤ length code)
    block-of_jump k here to u there e =
        subst (λ v. (k < v) × (v ≤ length code)) (same_Some (f.block to) u e) (block-of_target k here to there)

    -- A branch that leads forward in the fenced code leads forward in the code, if it is retargeted to blocks.
    branch_target-retarget : (k : ℕ) (here : IsAt k) (i : Instr)
        → ForSome (branch_target (x86_operation i)) (λ to. (here.index < to) × (to ≤ length fenced))
        → ForSome (branch_target (x86_operation (retarget_to_blocks f.block i))) (λ to. (k < to) × (to ≤ length code))
    branch_target-retarget k here (Je to) goes u e = block-of_jump k here to u (goes to refl) e
    branch_target-retarget k here (Jne to) goes u e = block-of_jump k here to u (goes to refl) e
    branch_target-retarget k here (Jmp to) goes u e = block-of_jump k here to u (goes to refl) e
    branch_target-retarget k here i goes u e = absurd cc

    -- The code is well-scoped, since the fenced code is.
    IsWellScopedThread-without_fences : IsWellScopedThread x86_language locs code
    IsWellScopedThread-without_fences = record { statements_formed = statements_well_formed; forward = branch_target-forward }
      where
        -- The code has at k the instruction that ends block k, with its jump retargeted.
        code_has : (k : ℕ) (here : IsAt k) → slice_get code k ≡ Some (retarget_to_blocks f.block here.i)
        code_has k here = ap (slice_get code) (sym here.block) ∙ here.ends.0

        -- Each instruction of the code is well-formed.
        statements_well_formed : All (IsWellFormedStatement x86_language locs) code
        statements_well_formed k d within =
            let here = IsAt-every k within in
            let same = same_Some _ _ (sym (code_has k here) ∙ slice_get-get_or code k d within) in
            let lt = slice_get_within fenced here.index here.i here.instr_at in
            let it = same_Some _ _ (sym (slice_get-get_or fenced here.index d lt) ∙ here.instr_at) in
            subst (IsWellFormedStatement x86_language locs) same
            (IsWellFormedStatement-retarget here.i
            (subst (IsWellFormedStatement x86_language locs) it (ok.statements_formed here.index d lt)))

        -- Each branch of the code leads forward, at most to the end.
        branch_target-forward : (k : ℕ) (s : Instr)
            → slice_get code k ≡ Some s
            → ForSome (branch_target (x86_operation s)) (λ to. (k < to) × (to ≤ length code))
        branch_target-forward k s at =
            let here = IsAt-every k (slice_get_within code k s at) in
            let same = same_Some _ _ (sym (code_has k here) ∙ at) in
            subst (λ (i : Instr). ForSome (branch_target (x86_operation i)) (λ to. (k < to) × (to ≤ length code))) same
            (branch_target-retarget k here here.i (ok.forward here.index here.i here.instr_at))

-- A thread is well-formed if it is so with MFENCEs inserted.
IsWellFormedThread-without_fences : (code fenced : List Instr)
    → HasInsertedFencesInCode code fenced
    → (locs : ℕ)
    → IsWellFormedThread x86_language locs fenced
    → IsWellFormedThread x86_language locs code
IsWellFormedThread-without_fences code fenced f locs ok =
    let scoped = IsWellScopedThread-without_fences code fenced f locs (IsWellScopedThread-well_formed x86_language ok) in
    record {
      short = omega (arith, ok.short, length_le-fenced code fenced f);
      statements_formed = scoped.statements_formed;
      forward = scoped.forward;
    }

-- If P of a code with MFENCEs inserted implies P of the code, and P holds of each thread of a test with MFENCEs inserted, then
-- P holds of each thread of the test.
All-without_fences : (P : ℕ → List Instr → Type 0)
    → ((code fenced : List Instr) → HasInsertedFencesInCode code fenced → (locs : ℕ) → P locs fenced → P locs code)
    → (test fenced : X86Test)
    → HasInsertedFences test fenced
    → All (P (length fenced.head.locs)) fenced.threads
    → All (P (length test.head.locs)) test.threads
All-without_fences P left test fenced f all t d within =
    let locs = ap (λ (h : TestHead). length h.locs) f.head in
    let there = all t [] (omega (arith, within, f.as_many)) in
    let here =
    left (thread_code test.threads t) (thread_code fenced.threads t) (f.threads t within) (length fenced.head.locs) there in
    let same = same_Some _ _ (sym (slice_get-get_or test.threads t [] within) ∙ slice_get-get_or test.threads t d within) in
    subst (P (length test.head.locs)) same (subst (λ n. P n (thread_code test.threads t)) locs here)

-- A test is well-scoped if it is so with MFENCEs inserted.
pub IsWellScopedProgram-without_fences : (test fenced : X86Test)
    → IsWellScopedProgram fenced
    → HasInsertedFences test fenced
    → IsWellScopedProgram test
IsWellScopedProgram-without_fences test fenced ok f = record {
  head =
      let words = subst HasInitialWords f.head ok.head in
      record { regs = words.regs; register_counts = words.register_counts; words = words.words };
  arch = sym (ap (λ (h : TestHead). h.arch) f.head) ∙ ok.arch;
  as_many = sym f.as_many ∙ ok.as_many ∙ ap (λ (h : TestHead). h.threads) f.head;
  code =
      All-without_fences (IsWellScopedThread x86_language)
      (λ code longer g locs. IsWellScopedThread-without_fences code longer g locs) test fenced f ok.code;
}

-- If a head is well-formed with another name, and its own is a test's name, it is well-formed.
IsWellFormedHead-other_name : (h : TestHead) (name : List ℕ)
    → IsTestName h.name
    → IsWellFormedHead (record h { name = name })
    → IsWellFormedHead h
IsWellFormedHead-other_name h name named ok = record {
  name = named;
  has_thread = ok.has_thread;
  bounded = ok.bounded;
  table = ok.table;
  regs = ok.regs;
  register_counts = ok.register_counts;
  register_words = ok.register_words;
  words = ok.words;
  location_words = ok.location_words;
  listed_in_range = ok.listed_in_range;
  ascending = ok.ascending;
  nodes_bounded = ok.nodes_bounded;
  condition = ok.condition;
}

-- A test is well-formed, if it is so with MFENCEs inserted, and if its name is a test's name.
pub IsWellFormedProgram-without_fences : (test fenced : X86Test)
    → IsTestName test.head.name
    → IsWellFormedProgram fenced
    → HasInsertedFences test fenced
    → IsWellFormedProgram test
IsWellFormedProgram-without_fences test fenced named ok f = record {
  head = IsWellFormedHead-other_name test.head fenced.head.name named (subst IsWellFormedHead f.head ok.head);
  arch = sym (ap (λ (h : TestHead). h.arch) f.head) ∙ ok.arch;
  as_many = sym f.as_many ∙ ok.as_many ∙ ap (λ (h : TestHead). h.threads) f.head;
  code = All-without_fences (IsWellFormedThread x86_language) IsWellFormedThread-without_fences test fenced f ok.code;
}
