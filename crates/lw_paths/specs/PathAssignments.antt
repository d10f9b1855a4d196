-- Path assignments: one whole flow path for each thread, in either language.
use Rattle.std.specs.Prelude.{◌≡◌, ◌<◌, ◌≤◌, ℕ, Some, List, [], ◌∷◌, length, slice_get}
use Rattle.std.specs.Option.{ForSome}
use Rattle.lw_litmus.specs.Flow.{IsFlowPathFrom}
use Rattle.lw_litmus.specs.Languages.{Language}
use Rattle.lw_litmus.specs.Operations.{branch_target}

module _ {S : Type 0} (language : Language S) where
  -- Every jump leads forward, at most to the end.
  abbrev pub JumpsForward : List S → Type 0
  JumpsForward code = (j : ℕ) (s : S) → slice_get code j ≡ Some s → ForSome (branch_target (language.operation_of s)) (λ to. (j < to) × (to ≤ length code))

  -- The paths are a path assignment of the program: a whole flow path for each of its threads.
  abbrev pub IsPathAssignment : List (List S) → List (List ℕ) → Type 0
  IsPathAssignment [] [] = Unit {0}
  IsPathAssignment [] (path ∷ paths) = ⊥
  IsPathAssignment (code ∷ program) [] = ⊥
  IsPathAssignment (code ∷ program) (path ∷ paths) = IsFlowPathFrom language code 0 path × IsPathAssignment program paths
