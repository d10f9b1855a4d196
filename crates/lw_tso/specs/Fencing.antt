-- x86 tests with MFENCEs inserted. Such a code consists of blocks: each of its instructions after the MFENCEs that were inserted before it,
-- if any, and at the end the MFENCEs after all instructions, if any. A jump to an instruction becomes a jump to any index of that
-- instruction's block, to one of its MFENCEs or past them; a jump to the end becomes one to any index of the last block. So if an MFENCE is
-- removed, a jump to it targets what follows it, as in tools/fences.py. The law `fences_can_be_removed` states that any MFENCEs of any
-- code can be inserted ones.
use Rattle.std.specs.Prelude.{◌≡◌, ◌⊎◌, ℕ, ◌+◌, ◌<◌, ◌≤◌, Bool, true, false, not, Some, List, [], ◌∷◌, length, map}
use Rattle.std.specs.Prelude.{take, slice_get}
use Rattle.std.specs.List.{count_by}
use Rattle.lw_base.specs.Threads.{thread_code}
use Rattle.lw_litmus.specs.declared.instr.Instr.{Instr}
use Rattle.lw_litmus.specs.declared.instr.Instr.TheVariants.{Mfence, Je, Jne, Jmp}
use Rattle.lw_litmus.specs.Tests.{X86Test}

-- The instruction, with the block of the index in place of a jump's target.
abbrev pub retarget_to_blocks : (ℕ → ℕ) → Instr → Instr
retarget_to_blocks block (Je index) = Je (block index)
retarget_to_blocks block (Jne index) = Jne (block index)
retarget_to_blocks block (Jmp index) = Jmp (block index)
retarget_to_blocks block i = i

-- The instruction at this index was inserted: it is an MFENCE, and its block continues after it.
abbrev pub IsInserted : (ℕ → ℕ) → ℕ → Instr → Type 0
IsInserted block index i = (i ≡ Mfence) × (block (index + 1) ≡ block index)

-- The instruction at this index ends its block: with a jump retargeted, it is the instruction of the code that the block is for, and the
-- next block begins after it.
abbrev pub EndsBlock : (ℕ → ℕ) → List Instr → ℕ → Instr → Type 0
EndsBlock block code index i = (slice_get code (block index) ≡ Some (retarget_to_blocks block i)) × (block (index + 1) ≡ block index + 1)

-- `fenced` is `code` with MFENCEs inserted: its first index is in the first block, and its end is after the last.
pub record HasInsertedFencesInCode (code fenced : List Instr) : Type 0 where
  pub block : ℕ → ℕ  -- The block that an index of `fenced` is in, by the index of the block's instruction in `code`.
  pub first : block 0 ≡ 0
  pub each :
      (index : ℕ) (i : Instr) → slice_get fenced index ≡ Some i
      → IsInserted block index i ⊎ EndsBlock block code index i
  pub last : (index : ℕ) → length fenced ≤ index → block index ≡ length code

-- `fenced` is `test` with MFENCEs inserted: the heads are the same except for the name, and each thread is fenced.
pub record HasInsertedFences (test fenced : X86Test) : Type 0 where
  pub head : fenced.head ≡ record test.head { name = fenced.head.name }
  pub as_many : length fenced.threads ≡ length test.threads
  pub threads : (t : ℕ) → t < length test.threads → HasInsertedFencesInCode (thread_code test.threads t) (thread_code fenced.threads t)

-- ---- Removing fences.

-- The number of unmarked instructions before an index.
abbrev pub unmarked_count_before : List Bool → ℕ → ℕ
unmarked_count_before left_out index = count_by not (take index left_out)

-- The unmarked instructions.
abbrev pub unmarked_instructions : List Bool → List Instr → List Instr
unmarked_instructions (true ∷ left_out) (i ∷ code) = unmarked_instructions left_out code
unmarked_instructions (false ∷ left_out) (i ∷ code) = i ∷ unmarked_instructions left_out code
unmarked_instructions left_out code = []

-- The code without the marked instructions, with jumps retargeted.
abbrev pub code_without : List Bool → List Instr → List Instr
code_without left_out code = map (retarget_to_blocks (unmarked_count_before left_out)) (unmarked_instructions left_out code)

-- There are as many marks as instructions, and each marked instruction is an MFENCE.
abbrev pub MarksAreFences : List Bool → List Instr → Type 0
MarksAreFences [] [] = Unit {0}
MarksAreFences (true ∷ left_out) (i ∷ code) = (i ≡ Mfence) × MarksAreFences left_out code
MarksAreFences (false ∷ left_out) (i ∷ code) = MarksAreFences left_out code
MarksAreFences left_out code = ⊥
