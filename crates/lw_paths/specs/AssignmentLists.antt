-- The path assignments of a program as a list, in the order in which the code visits them. The law `path_assignments_are_complete` states that it
-- has each path assignment once, and nothing else.
use Rattle.std.specs.Prelude.{◌+◌, ◌==◌, ℕ, zero, suc, Bool, true, false, if◌then◌else◌, Option, Some, None, List, [], ◌∷◌, length, map}
use Rattle.std.specs.Prelude.{slice_get}
use Rattle.std.specs.List.{flat_map}
use Rattle.lw_litmus.specs.Languages.{Language}
use Rattle.lw_litmus.specs.Operations.{branch_target, falls_through}

-- The list of the next position and a jump's target, which has it once if they are equal.
abbrev pub next_and_target : ℕ → ℕ → List ℕ
next_and_target next to = if next == to then next ∷ [] else next ∷ to ∷ []

-- The successors of position j, from the statement's target and whether control can pass to the next, the lowest first. (A jump leads
-- forward.)
abbrev pub successor_list : Option ℕ → Bool → ℕ → List ℕ
successor_list None goes j = (j + 1) ∷ []
successor_list (Some to) true j = next_and_target (j + 1) to
successor_list (Some to) false j = to ∷ []

module _ {S : Type 0} (language : Language S) where
  -- The successors of the statement at position j, as `IsFlowSuccessor` of lw_litmus has them.
  abbrev pub successors : S → ℕ → List ℕ
  successors s j = successor_list (branch_target (language.operation_of s)) (falls_through (language.operation_of s)) j

  -- The paths from position j, which has this statement: j, followed by a path of `rest` from a successor; at the end just the empty path.
  abbrev pub paths_through : (ℕ → List (List ℕ)) → Option S → ℕ → List (List ℕ)
  paths_through rest None j = [] ∷ []
  paths_through rest (Some s) j = map (λ path. j ∷ path) (flat_map rest (successors s j))

  -- The whole paths of at most n statements from a position, in lexicographic order.
  abbrev pub paths_from : ℕ → List S → ℕ → List (List ℕ)
  paths_from zero code j = paths_through (λ k. []) (slice_get code j) j
  paths_from (suc n) code j = paths_through (λ k. paths_from n code k) (slice_get code j) j

  -- The whole flow paths of a thread's code.
  abbrev pub paths_of : List S → List (List ℕ)
  paths_of code = paths_from (length code) code 0

  -- All path assignments, the first thread's path changing slowest.
  abbrev pub path_assignments : List (List S) → List (List (List ℕ))
  path_assignments [] = [] ∷ []
  path_assignments (code ∷ program) = flat_map (λ path. map (λ paths. path ∷ paths) (path_assignments program)) (paths_of code)
