-- The control flow of a thread, in either language: the successors of each statement, and whole paths.
use Rattle.std.specs.Prelude.{◌≡◌, ℕ, Option, Some, None, List, [], ◌∷◌, length, slice_get}
use Rattle.lw_litmus.specs.Languages.{Language}
use Rattle.lw_litmus.specs.Operations.{IsSuccessor}

module _ {Stmt : Type 0} (language : Language Stmt) where
  -- Position k is a successor of position j, which has this statement; a position without a statement has no successor.
  abbrev pub IsFlowSuccessor : Option Stmt → ℕ → ℕ → Type 0
  IsFlowSuccessor None j k = ⊥
  IsFlowSuccessor (Some s) j k = IsSuccessor (language.operation_of s) j k

  -- The path is a whole flow path from a position: each position is a successor of the one before, up to the end of the code.
  abbrev pub IsFlowPathFrom : List Stmt → ℕ → List ℕ → Type 0
  IsFlowPathFrom code at [] = at ≡ length code
  IsFlowPathFrom code at (j ∷ path) = (j ≡ at) × (next : ℕ) × IsFlowSuccessor (slice_get code at) at next × IsFlowPathFrom code next path
