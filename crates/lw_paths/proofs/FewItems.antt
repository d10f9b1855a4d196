-- No path assignment of a source test has too many items: its threads are short, and none of its stores has a
-- drain. For the law that source tests never exceed this limit.
use Rattle.lw_paths.proofs.Common.{◌≡◌, ℕ, suc, ◌+◌, ◌*◌, ◌≤◌, false, true, Option, Some, None, List, [], ◌∷◌}
use Rattle.lw_paths.proofs.Common.{length, slice_get, refl, arith, length-append, All, option_map_or}
use Rattle.lw_paths.proofs.Common.{All-head, All-tail, IsFlowPathFrom, Language, most_statements}
use Rattle.lw_paths.proofs.Common.{source_language, IsWellFormedSource, SourceTest, IsWellFormedThread}
use Rattle.lw_paths.proofs.Common.{JumpsForward, IsPathAssignment, HasTooManyItems, items_at, path_items}
use Rattle.lw_paths.proofs.Common.{items_from, drained_location}
use Rattle.lw_paths.proofs.api.Successors.{IsFlowSuccessor-in_range}
use Rattle.lw_paths.proofs.api.Numbering.{item}

module _ {S : Type 0} (language : Language S) (undrained : (s : S) → drained_location language s ≡ None) where
  -- If no store is drained, a position has at most one item.
  length-items_at_le : (t j : ℕ) (o : Option S) → length (items_at language t j o) ≤ 1
  length-items_at_le t j None = omega arith
  length-items_at_le t j (Some s) = at_most_one-without_drain (drained_location language s) (undrained s)
    where
      -- Since the statement is not drained, it has one item.
      at_most_one-without_drain : (o : Option ℕ)
          → o ≡ None
          → length (item t j false ∷ option_map_or (λ x. item t j true ∷ []) o []) ≤ 1
      at_most_one-without_drain None is_none = omega arith
      at_most_one-without_drain (Some x) is_none = absurd (cc)

  -- If jumps go forward and no store is drained, a flow path from position `at` has at most one item for each position from
  -- there on.
  length-path_items_le : (t : ℕ) (code : List S) (at : ℕ) (path : List ℕ)
      → JumpsForward language code
      → IsFlowPathFrom language code at path
      → length (path_items language t code path) + at ≤ length code
  length-path_items_le t code at [] forward h = omega (arith, h)
  length-path_items_le t code at (j ∷ path) forward (same, next, f, goes) = omega (
    arith,
    length-append (items_at language t j (slice_get code j)) (path_items language t code path),
    length-items_at_le t j (slice_get code j),
    IsFlowSuccessor-in_range language code at next forward f,
    length-path_items_le t code next path forward goes,
  )

  module _ (locs : ℕ) (short : language.most ≤ most_statements) where
    -- Path assignments of well-formed threads have at most as many items for each thread as a thread may have statements.
    length-items_from_le : (t : ℕ) (program : List (List S)) (paths : List (List ℕ))
        → All (IsWellFormedThread language locs) program
        → IsPathAssignment language program paths
        → length (items_from language t program paths) ≤ most_statements * length program
    length-items_from_le t [] paths all c = omega arith
    length-items_from_le t (code ∷ program) [] all c = absurd c
    length-items_from_le t (code ∷ program) (path ∷ paths) all c =
        let well_formed : IsWellFormedThread language locs code = All-head (IsWellFormedThread language locs) code program all in
        omega (
          arith,
          length-append (path_items language t code path) (items_from language (suc t) program paths),
          length-path_items_le t code 0 path well_formed.forward c.0,
          well_formed.short,
          short,
          length-items_from_le (suc t) program paths (All-tail (IsWellFormedThread language locs) code program all) c.1,
        )

-- No path assignment of a well-formed source test has too many items.
pub not-HasTooManyItems-source : (s : SourceTest) → IsWellFormedSource s → HasTooManyItems source_language s.threads → ⊥
not-HasTooManyItems-source s well_formed (paths, assignment, many) = omega (
  arith,
  length-items_from_le source_language (λ s. refl) (length s.head.locs) (omega arith) 0 s.threads paths well_formed.code
      assignment,
  many,
  well_formed.head.bounded,
  well_formed.as_many,
)
