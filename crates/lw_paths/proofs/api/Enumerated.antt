-- The lists of paths and of path assignments contain exactly these, if jumps go forward: the list is computed with a bound on the steps.
-- The law that the list of path assignments is complete, and the count of their orders, use this.
use Rattle.lw_paths.proofs.Common.{◌≡◌, ℕ, zero, suc, ◌+◌, ◌<◌, ◌≤◌, List, [], ◌∷◌, map, length, Option, Some}
use Rattle.lw_paths.proofs.Common.{None, refl, inl, inr, slice_get, arith, Contains, All, ◌↔◌, flat_map}
use Rattle.lw_paths.proofs.Common.{cases_lt, slice_get_past, All-head, All-tail, slice_get-in_range, Language}
use Rattle.lw_paths.proofs.Common.{IsFlowSuccessor, IsFlowPathFrom, JumpsForward, IsPathAssignment}
use Rattle.lw_paths.proofs.Common.{successors, paths_through, paths_from, paths_of, path_assignments}
use Rattle.lw_paths.proofs.api.Members.{not-Contains-nil, Contains-head, Contains-cons, Contains-map}
use Rattle.lw_paths.proofs.api.Members.{Contains-map_inv, Contains-flat_map, Contains-flat_map_inv}
use Rattle.lw_paths.proofs.api.Successors.{successors-has, successors-only, successors-in_range}

module _ {S : Type 0} (language : Language S) where
  module _ (code : List S) (forward : JumpsForward language code) where
    -- If the lists from later positions contain each path from there, the list through a statement contains each path from it.
    paths_through-has : (rest : ℕ → List (List ℕ)) (j : ℕ) (path : List ℕ)
        → IsFlowPathFrom language code j path
        → ((k : ℕ) (p : List ℕ) → j < k → k ≤ length code → IsFlowPathFrom language code k p → Contains (rest k) p)
        → Contains (paths_through language rest (slice_get code j) j) path
    paths_through-has rest j [] e more = rw (slice_get_past code j (omega (arith, e))) (Contains-head [] [] [] refl)
    paths_through-has rest j (i ∷ path) (same, next, f, goes) more = has-at_statement (slice_get code j) refl f
      where
        -- By the statement at the position, which has this successor.
        has-at_statement : (o : Option S)
            → slice_get code j ≡ o
            → IsFlowSuccessor language o j next
            → Contains (paths_through language rest o j) (i ∷ path)
        has-at_statement None e f = absurd f
        has-at_statement (Some s) e f =
            let c = successors-has language (Some s) s j next refl f in
            let (up, within) = successors-in_range language code j next s forward e c in
            rw same (Contains-map _ _ _ (Contains-flat_map _ _ next path c (more next path up within goes)))

    -- If the lists from later positions contain only paths from there, the list through a statement contains only paths from it.
    paths_through-only : (rest : ℕ → List (List ℕ)) (j : ℕ) (path : List ℕ)
        → j ≤ length code
        → ((k : ℕ) (p : List ℕ) → j < k → k ≤ length code → Contains (rest k) p → IsFlowPathFrom language code k p)
        → Contains (paths_through language rest (slice_get code j) j) path
        → IsFlowPathFrom language code j path
    paths_through-only rest j path l more on_path = only-at_statement (slice_get code j) refl on_path
      where
        -- A position without a statement is the end of the code.
        position_is_end : slice_get code j ≡ None → j ≡ length code
        position_is_end is_none = elim (cases_lt j (length code)) [
          | inl h ↦ (let (y, forward) = slice_get-in_range code j h in cc (is_none, forward))
          | inr h ↦ omega arith
        ]

        -- By the statement at the position: a path in the list goes to one of its successors.
        only-at_statement : (o : Option S)
            → slice_get code j ≡ o
            → Contains (paths_through language rest o j) path
            → IsFlowPathFrom language code j path
        only-at_statement None e on_path = elim (Contains-cons [] path [] on_path) [
          | inl is_head ↦ rw (← is_head) (position_is_end e)
          | inr in_tail ↦ absurd (not-Contains-nil path in_tail)
        ]
        only-at_statement (Some s) e on_path =
            let (p, there, is_path) = Contains-map_inv (λ p. j ∷ p) (flat_map rest (successors language s j)) path on_path in
            let (k, leads, goes) = Contains-flat_map_inv rest (successors language s j) p there in
            let (up, within) = successors-in_range language code j k s forward e leads in
            rw (← is_path) (refl, k, successors-only language _ s j k e leads, more k p up within goes)

    -- If n steps are enough to reach the end of the code, the list contains each flow path from j.
    pub paths-has : (n j : ℕ) (path : List ℕ)
        → length code ≤ j + n
        → IsFlowPathFrom language code j path
        → Contains (paths_from language n code j) path
    paths-has zero j path l flows = paths_through-has (λ k. []) j path flows (λ k p a b g. absurd (omega arith))
    paths-has (suc n) j path l flows = paths_through-has _ j path flows (λ k p a b g. paths-has n k p (omega arith) g)

    -- If j is within the code, each path in the list is a flow path from j.
    pub paths-only : (n j : ℕ) (path : List ℕ)
        → j ≤ length code
        → Contains (paths_from language n code j) path
        → IsFlowPathFrom language code j path
    paths-only zero j path l on_path = paths_through-only (λ k. []) j path l (λ k p a b g. absurd (not-Contains-nil p g)) on_path
    paths-only (suc n) j path l on_path = paths_through-only _ j path l (λ k p a b g. paths-only n k p b g) on_path

  -- If jumps go forward, the list contains each path assignment.
  assignments-has : (program : List (List S))
      → All (JumpsForward language) program
      → (paths : List (List ℕ))
      → IsPathAssignment language program paths
      → Contains (path_assignments language program) paths
  assignments-has [] all [] assignment = Contains-head [] [] [] refl
  assignments-has (code ∷ program) all (p ∷ paths) (one, rest) =
      Contains-flat_map (λ path. map (λ paths. path ∷ paths) (path_assignments language program)) (paths_of language code) p
      (p ∷ paths) (paths-has code (All-head (JumpsForward language) code program all) (length code) 0 p (omega arith) one)
      (Contains-map (λ paths. p ∷ paths) (path_assignments language program) paths
      (assignments-has program (All-tail (JumpsForward language) code program all) paths rest))
  assignments-has _ all _ assignment = absurd assignment

  -- If jumps go forward, each element of the list is a path assignment.
  assignments-only : (program : List (List S))
      → All (JumpsForward language) program
      → (paths : List (List ℕ))
      → Contains (path_assignments language program) paths
      → IsPathAssignment language program paths
  assignments-only [] all paths is_member = elim (Contains-cons [] paths [] is_member) [
    | inl is_head ↦ rw (← is_head) tt
    | inr in_tail ↦ absurd (not-Contains-nil paths in_tail)
  ]
  assignments-only (code ∷ program) all paths is_member =
      let (path, one, there) = Contains-flat_map_inv _ (paths_of language code) paths is_member in
      let (others, rest, is) = Contains-map_inv (λ paths. path ∷ paths) (path_assignments language program) paths there in
      rw (← is) (
        paths-only code (All-head (JumpsForward language) code program all) _ 0 path (omega arith) one,
        assignments-only program (All-tail (JumpsForward language) code program all) others rest,
      )

  -- If jumps go forward, the list contains `paths` if and only if they are a path assignment of the program.
  pub Contains-path_assignments : (program : List (List S)) (paths : List (List ℕ))
      → All (JumpsForward language) program
      → Contains (path_assignments language program) paths ↔ IsPathAssignment language program paths
  Contains-path_assignments program paths all = (assignments-only program all paths, assignments-has program all paths)
