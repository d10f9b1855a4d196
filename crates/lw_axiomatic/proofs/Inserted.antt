-- Codes with MFENCEs inserted. The code with them is called the longer one here, the code without them the
-- shorter one. Each instruction of the shorter code has one index in the longer one, in the same order, and
-- has the same effect on its thread there. WithFences builds executions of the longer code on this.
use Rattle.lw_axiomatic.proofs.Common.{◌-◌, List, Instr, HasInsertedFencesInCode, ℕ, slice_get, ◌≡◌, Some}
use Rattle.lw_axiomatic.proofs.Common.{EndsBlock, ◌<◌, length, ◌⊎◌, slice_get-in_range, IsInserted, inl, ◌∙◌}
use Rattle.lw_axiomatic.proofs.Common.{ap, inr, arith, ◌≤◌, ◌+◌, zero, suc, cases_lt, cases_order}
use Rattle.lw_axiomatic.proofs.Common.{slice_get_within, retarget_to_blocks, Operation, Bool, Branch}
use Rattle.lw_axiomatic.proofs.Common.{x86_operation, refl, location_of, word_written, ThreadState}
use Rattle.lw_axiomatic.proofs.Common.{if◌then◌else◌, true, false, sym, state_after, guard_holds}
use Rattle.lw_axiomatic.proofs.Common.{IsInsertedAt, Guard, Zero, NotZero, Always, Je, Jmp, Jne, Mfence}

-- ---- indices

module _ {code fenced : List Instr} (fencing : HasInsertedFencesInCode code fenced) where
  -- The instruction at this index of the longer code is one of the inserted MFENCEs.
  pub record IsInsertedFence (index : ℕ) : Type 0 where
    pub fence : slice_get fenced index ≡ Some Mfence
    pub inserted : IsInsertedAt fencing index

  -- The instruction at this index of the longer code is one of the shorter code.
  pub record IsKeptAt (index : ℕ) : Type 0 where
    pub instr : Instr
    pub found : slice_get fenced index ≡ Some instr
    pub ends : EndsBlock fencing.block code index instr

  -- Each instruction of the longer code is an inserted MFENCE or one of the shorter code.
  pub IsInsertedFence-or_kept : (index : ℕ) → index < length fenced → IsInsertedFence index ⊎ IsKeptAt index
  IsInsertedFence-or_kept index in_range =
      let i = slice_get-in_range fenced index in_range in IsInsertedFence-or_kept_instruction i.0 i.1 (fencing.each index i.0 i.1)
    where
      -- An instruction of the longer code is an inserted fence, or ends a block.
      IsInsertedFence-or_kept_instruction : (i : Instr)
          → slice_get fenced index ≡ Some i
          → IsInserted fencing.block index i ⊎ EndsBlock fencing.block code index i
          → IsInsertedFence index ⊎ IsKeptAt index
      IsInsertedFence-or_kept_instruction i found (inl extra) =
          inl (record { fence = found ∙ ap Some extra.0; inserted = extra.1 })
      IsInsertedFence-or_kept_instruction i found (inr ends) = inr (record { instr = i; found = found; ends = ends })

  -- No instruction of the longer code is both kept and inserted.
  pub not-IsKeptAt-if_inserted : (index : ℕ) → IsInsertedAt fencing index → IsKeptAt index → ⊥
  not-IsKeptAt-if_inserted index inserted kept = omega (arith, inserted, kept.ends.1)

  -- From an index to the next one, the block does not decrease.
  block-next : (index : ℕ) → index < length fenced → fencing.block index ≤ fencing.block (index + 1)
  block-next index in_range = elim (IsInsertedFence-or_kept index in_range) [
    | inl extra ↦ omega (arith, extra.inserted)
    | inr kept ↦ omega (arith, kept.ends.1)
  ]

  -- From an index to a later one in the longer code, or its end, the block does not decrease.
  block-increasing : (index n : ℕ) → index + n ≤ length fenced → fencing.block index ≤ fencing.block (index + n)
  block-increasing index zero within = let same : index + zero ≡ index = omega arith in omega (arith, ap fencing.block same)
  block-increasing index (suc n) within =
      let next : (index + n) + 1 ≡ index + suc n = omega arith in
      omega (arith, block-increasing index n (omega arith), block-next (index + n) (omega arith), ap fencing.block next)

  -- Every index after an instruction of the shorter code is in a later block.
  pub block-later : (index n : ℕ) → IsKeptAt index → index < n → n ≤ length fenced → fencing.block index < fencing.block n
  block-later index n kept before within =
      let same : (index + 1) + (n - (index + 1)) ≡ n = omega arith in
      omega (arith, block-increasing (index + 1) (n - (index + 1)) (omega arith), ap fencing.block same, kept.ends.1)

  -- Two instructions of the shorter code in one block are at one index.
  pub index-unique : (index other : ℕ)
      → IsKeptAt index
      → IsKeptAt other
      → fencing.block index ≡ fencing.block other
      → index ≡ other
  index-unique index other kept also same = elim (cases_order index other) [
    | inl one ↦ one
    | inr (inl less) ↦ absurd (omega (
      arith,
      same,
      block-later index other kept less (omega (arith, slice_get_within fenced other also.instr also.found)),
    ))
    | inr (inr more) ↦ absurd (omega (
      arith,
      same,
      block-later other index also more (omega (arith, slice_get_within fenced index kept.instr kept.found)),
    ))
  ]

  -- An index of the longer code, at which the instruction of the shorter code at position k is.
  record KeptIndex (k : ℕ) : Type 0 where
    index : ℕ
    kept : IsKeptAt index
    number : fencing.block index ≡ k

  -- If the block of an index of the longer code is above k, the instruction at position k of the shorter code has an index in
  -- the longer one.
  KeptIndex-below : (k n : ℕ) → n ≤ length fenced → k < fencing.block n → KeptIndex k
  KeptIndex-below k zero within below = absurd (omega (arith, fencing.first))
  KeptIndex-below k (suc n) within below = elim (IsInsertedFence-or_kept n (omega arith)) [
    | inl extra ↦ KeptIndex-below k n (omega arith) (omega (arith, below, next, extra.inserted))
    | inr kept ↦ elim (cases_lt k (fencing.block n)) [
      | inl earlier ↦ KeptIndex-below k n (omega arith) earlier
      | inr le ↦ record { index = n; kept = kept; number = omega (arith, below, next, kept.ends.1, le) }
    ]
  ]
    where
      -- The block of the next index.
      next : fencing.block (n + 1) ≡ fencing.block (suc n)
      next = let same : n + 1 ≡ suc n = omega arith in ap fencing.block same

  -- Each instruction of the shorter code has an index in the longer one.
  KeptIndex-exists : (k : ℕ) → k < length code → KeptIndex k
  KeptIndex-exists k in_range =
      KeptIndex-below k (length fenced) (omega arith) (omega (arith, in_range, fencing.last (length fenced) (omega arith)))

  -- The index of a statement in the longer code, or the length of the longer code.
  abbrev kept_index_by : (k : ℕ) → (k < length code) ⊎ (length code ≤ k) → ℕ
  kept_index_by k (inl within) = (KeptIndex-exists k within).index
  kept_index_by k (inr past) = length fenced

  -- Returns the index in the longer code of the instruction at position k of the shorter one; the length, if there is none.
  pub kept_index : ℕ → ℕ
  kept_index k = kept_index_by k (cases_lt k (length code))

  -- The index that is found for a position k of the shorter code has an instruction of it, and its block is k.
  kept_index_by-kept : (k : ℕ) (d : (k < length code) ⊎ (length code ≤ k))
      → k < length code
      → IsKeptAt (kept_index_by k d) × (fencing.block (kept_index_by k d) ≡ k)
  kept_index_by-kept k (inl within) also = let here : KeptIndex k = KeptIndex-exists k within in (here.kept, here.number)
  kept_index_by-kept k (inr past) also = absurd (omega arith)

  -- An instruction of the shorter code is at that index, and its block is its position.
  pub kept_index-kept : (k : ℕ) → k < length code → IsKeptAt (kept_index k) × (fencing.block (kept_index k) ≡ k)
  unfolding kept_index
  kept_index-kept k in_range = kept_index_by-kept k (cases_lt k (length code)) in_range

  -- The block of an instruction of the shorter code is a position there.
  pub block-in_range : (index : ℕ) → IsKeptAt index → fencing.block index < length code
  block-in_range index kept =
      slice_get_within code (fencing.block index) (retarget_to_blocks fencing.block kept.instr) kept.ends.0

  -- The index of the block of an instruction of the shorter code is the instruction's own.
  pub kept_index-block : (index : ℕ) → IsKeptAt index → kept_index (fencing.block index) ≡ index
  kept_index-block index kept =
      let there = kept_index-kept (fencing.block index) (block-in_range index kept) in
      index-unique (kept_index (fencing.block index)) index there.0 kept there.1

-- ---- effects of instructions

module _ (block : ℕ → ℕ) where
  -- A test of operations that does not depend on the target of a branch has the same value on an instruction in both codes.
  pub kind-retarget_to_blocks : (kind : Operation → Bool)
      → ((c : Guard) (to other : ℕ) → kind (Branch c to) ≡ kind (Branch c other))
      → (i : Instr)
      → kind (x86_operation (retarget_to_blocks block i)) ≡ kind (x86_operation i)
  kind-retarget_to_blocks kind jumps (Je to) = jumps Zero (block to) to
  kind-retarget_to_blocks kind jumps (Jne to) = jumps NotZero (block to) to
  kind-retarget_to_blocks kind jumps (Jmp to) = jumps Always (block to) to
  kind-retarget_to_blocks kind jumps i = refl

  -- An instruction accesses the same location in both codes.
  pub location-retarget_to_blocks : (i : Instr)
      → location_of (x86_operation (retarget_to_blocks block i)) ≡ location_of (x86_operation i)
  location-retarget_to_blocks (Je to) = refl
  location-retarget_to_blocks (Jne to) = refl
  location-retarget_to_blocks (Jmp to) = refl
  location-retarget_to_blocks i = refl

  -- An instruction writes the same word in both codes.
  pub word_written-retarget_to_blocks : (i : Instr) (regs : List ℕ) (w : ℕ)
      → word_written (x86_operation (retarget_to_blocks block i)) regs w ≡ word_written (x86_operation i) regs w
  word_written-retarget_to_blocks (Je to) regs w = refl
  word_written-retarget_to_blocks (Jne to) regs w = refl
  word_written-retarget_to_blocks (Jmp to) regs w = refl
  word_written-retarget_to_blocks i regs w = refl

  -- Returns the state of the thread in the shorter code.
  abbrev pub state_at_block : ThreadState → ThreadState
  state_at_block s = record s { position = block s.position }

  -- A branch of the longer code targets an index in the block that it targets in the shorter one.
  target-retarget_to_blocks : (jumps : Bool) (to position : ℕ)
      → block (position + 1) ≡ block position + 1
      → (if jumps then block to else (block position + 1)) ≡ block (if jumps then to else (position + 1))
  target-retarget_to_blocks true to position next = refl
  target-retarget_to_blocks false to position next = sym next

  -- An instruction leaves the thread in the same state in both codes.
  pub state_after-retarget_to_blocks : (i : Instr) (s : ThreadState) (w : ℕ)
      → block (s.position + 1) ≡ block s.position + 1
      → state_after (x86_operation (retarget_to_blocks block i)) (state_at_block s) w
      ≡ state_at_block (state_after (x86_operation i) s w)
  state_after-retarget_to_blocks (Je to) s w next =
      ap (λ p. record s { position = p }) (target-retarget_to_blocks (guard_holds Zero s.regs s.zero_flag) to s.position next)
  state_after-retarget_to_blocks (Jne to) s w next =
      ap (λ p. record s { position = p }) (target-retarget_to_blocks (guard_holds NotZero s.regs s.zero_flag) to s.position next)
  state_after-retarget_to_blocks (Jmp to) s w next = refl
  state_after-retarget_to_blocks i s w next = ap (λ p. record (state_after (x86_operation i) s w) { position = p }) (sym next)
