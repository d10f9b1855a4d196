-- Visits of all path assignments in sequence.
use Rattle.std.specs.Prelude.{◌≡◌, ℕ, suc, ◌-◌, ◌<◌, ◌≤◌, All, ◌++◌, List, [], ◌∷◌, length, map, drop, ◌⊎◌}
use Rattle.std.specs.List.{flat_map}
use Rattle.lw_base.specs.Limits.{most_threads}
use Rattle.lw_base.specs.Threads.{thread_code}
use Rattle.lw_litmus.specs.Limits.{most_instructions}
use Rattle.lw_litmus.specs.Languages.{Language}
use Rattle.lw_paths.specs.AssignmentLists.{paths_from, path_assignments}
use Rattle.lw_paths.specs.PathAssignments.{JumpsForward}

-- The visitor changes from v to w by a visit of each path assignment, once, in their order.
abbrev pub VisitsAll : {V : Type 0} → (V → List (List ℕ) → V → Type 0) → List (List (List ℕ)) → V → V → Type 0
VisitsAll visits [] v w = w ≡ v
VisitsAll visits (c ∷ cs) v w = (mid : _) × visits v c mid × VisitsAll visits cs mid w

-- The visit of one of the path assignments failed with the cause e, after those before it were visited.
abbrev pub VisitFails : {V E : Type 0} → (V → List (List ℕ) → V → Type 0) → (V → List (List ℕ) → E → Type 0) → List (List (List ℕ)) → V → E → Type 0
VisitFails visits refuses [] v e = ⊥
VisitFails visits refuses (c ∷ cs) v e = refuses v c e ⊎ ((mid : _) × visits v c mid × VisitFails visits refuses cs mid e)

module _ {S : Type 0} (language : Language S) where
  -- The program's path assignments have room: it has no more threads, and no longer ones, than a test can have, and jumps lead forward, at
  -- most to the end.
  pub record IsVisitable (program : List (List S)) : Type 0 where
    pub bounded : length program ≤ most_threads
    pub short : All (λ code. length code ≤ most_instructions) program
    pub forward : All (JumpsForward language) program

  -- The whole paths from a position of a thread.
  abbrev pub paths_at : List S → ℕ → List (List ℕ)
  paths_at code at = paths_from language (length code - at) code at

  -- The path assignments that begin with the paths in `assignment`, and whose next path begins with `path` and continues at the position `at`.
  abbrev pub assignments_along : List (List S) → List (List ℕ) → List ℕ → ℕ → List (List (List ℕ))
  assignments_along program assignment path at =
      flat_map (λ rest. map (λ later. assignment ++ (path ++ rest) ∷ later) (path_assignments language (drop (suc (length assignment)) program)))
      (paths_at (thread_code program (length assignment)) at)

  -- Such path assignments can be visited: the paths are of the program's first threads, and the position is one of the next.
  pub record CanExtendPath (program : List (List S)) (assignment : List (List ℕ)) (path : List ℕ) (at : ℕ) : Type 0 where
    pub visitable : IsVisitable program
    pub thread : length assignment < length program
    pub begun : length path ≤ at
    pub within : at ≤ length (thread_code program (length assignment))
    pub within_room : at ≤ most_instructions
