-- MFENCEs that can be removed from a test, one by one or together, without a new outcome. lw_tso's Fencing defines the removal of MFENCEs.
use Rattle.std.specs.Prelude.{◌≡◌, ℕ, ◌+◌, ◌<◌, ◌⊎◌, List, Contains, length}
use Rattle.lw_base.specs.Threads.{thread_code}
use Rattle.lw_litmus.specs.declared.instr.Instr.{Instr}
use Rattle.lw_litmus.specs.Tests.{X86Test}
use Rattle.lw_tso.specs.Fencing.{HasInsertedFencesInCode, HasInsertedFences}
use Rattle.lw_axiomatic.specs.Fenced.{AreOnPath, HasFenceOnPath, IsLocationOnlyWrittenBy}

module _ {code fenced : List Instr} (inserted : HasInsertedFencesInCode code fenced) where
  -- The instruction of `fenced` at this index is one of the MFENCEs that `code` does not have.
  abbrev pub IsInsertedAt : ℕ → Type 0
  IsInsertedAt index = inserted.block (index + 1) ≡ inserted.block index

  -- Between the indices i and j of the path there is an instruction that needs an empty store buffer, and that `code` has too.
  abbrev pub HasOtherFence : List ℕ → ℕ → ℕ → Type 0
  HasOtherFence path i j = (f : HasFenceOnPath fenced path i j) × (IsInsertedAt f.fence_index → ⊥)

-- The MFENCEs of `fenced` that `test` does not have are spare. On each path, between a store and a later load that such an MFENCE
-- separates, there is another fence or a locked instruction, which `test` has too, or no instruction of another thread writes the location
-- of the load.
abbrev pub AreSpare : (test fenced : X86Test) → HasInsertedFences test fenced → Type 0
AreSpare test fenced inserted =
    (t : ℕ) (within : t < length test.threads) (path : List ℕ) (i index j : ℕ) (load : Instr)
    → AreOnPath (thread_code fenced.threads t) path i j load → Contains path index → i < index → index < j
    → IsInsertedAt (inserted.threads t within) index
    → HasOtherFence (inserted.threads t within) path i j ⊎ IsLocationOnlyWrittenBy fenced t load
