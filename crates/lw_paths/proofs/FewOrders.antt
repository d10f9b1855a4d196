-- If no statement accesses a location, each path assignment has one order, and each branch at most doubles
-- the number of path assignments. For the quick test of `few_orders.rt`, which spares the count.
use Rattle.lw_paths.proofs.Common.{◌≡◌, inl, inr, ℕ, zero, suc, ◌+◌, ◌*◌, ◌^◌, ◌<◌, ◌≤◌, ◌==◌, ◌&&◌, ◌||◌}
use Rattle.lw_paths.proofs.Common.{Bool, true, false, cond, Option, Some, None, List, [], ◌∷◌, ◌++◌, length}
use Rattle.lw_paths.proofs.Common.{map, drop, refl, ap, ◌∙◌, slice_get, length-append, arith, All, filter}
use Rattle.lw_paths.proofs.Common.{if◌then◌else◌, is_some, is_none, count_by, sum_by, flat_map, suc-mul}
use Rattle.lw_paths.proofs.Common.{mul-le-mul, pow_mono, pow-add, one-le-pow, cases_lt, cond_both, drop_more}
use Rattle.lw_paths.proofs.Common.{length-map, get_or_past, sum_by-cons, AllPass-from_list_all, drop-nil}
use Rattle.lw_paths.proofs.Common.{All-head, All-tail, slice_get_within, get_or_from_slice_get, thread_code}
use Rattle.lw_paths.proofs.Common.{is_same_location, Language, branch_target, falls_through, location_of}
use Rattle.lw_paths.proofs.Common.{most_unordered, most_orders, Item, JumpsForward, successor_list}
use Rattle.lw_paths.proofs.Common.{successors, paths_through, paths_from, paths_of, path_assignments}
use Rattle.lw_paths.proofs.Common.{orders_of_assignment, orders_of, total_of, is_drained, location_by}
use Rattle.lw_paths.proofs.Common.{writes_by, conflict_by, items_conflict, statement_of, items_of, item_at}
use Rattle.lw_paths.proofs.Common.{pairs_from, constraints_of, branches, code_has_no_access, has_no_access}

-- If f of each element has at most m elements, the concatenation has at most m for each element of the list.
length-flat_map_le : {X Y : Type 0} (f : X → List Y) (m : ℕ) (xs : List X)
    → ((x : X) → length (f x) ≤ m)
    → length (flat_map f xs) ≤ length xs * m
length-flat_map_le f m [] few = omega arith
length-flat_map_le f m (x ∷ xs) few =
    omega (arith, length-flat_map_le f m xs few, few x, length-append (f x) (flat_map f xs), suc-mul (length xs) m)

-- If j ≤ k, at most as many elements pass a test from k on as from j on.
count_by-drop_le : {X : Type 0} (p : X → Bool) (xs : List X) (j k : ℕ) → j ≤ k → count_by p (drop k xs) ≤ count_by p (drop j xs)
count_by-drop_le p [] j k l = rw (drop-nil k, drop-nil j) (omega arith)
count_by-drop_le p (x ∷ xs) zero zero l = omega arith
count_by-drop_le p (x ∷ xs) zero (suc k) l =
    omega (arith, count_by-drop_le p xs zero k (omega arith), sum_by-cons (λ y. cond (p y) 1 0) x xs)
count_by-drop_le p (x ∷ xs) (suc j) zero l = absurd (omega arith)
count_by-drop_le p (x ∷ xs) (suc j) (suc k) l = count_by-drop_le p xs j k (omega arith)

-- If no element passes a test, the filtered list is empty.
filter-none_pass : {X : Type 0} (p : X → Bool) (xs : List X) → ((x : X) → p x ≡ false) → filter p xs ≡ []
filter-none_pass p [] none = refl
filter-none_pass p (x ∷ xs) none = rw (none x) (filter-none_pass p xs none)

module _ {S : Type 0} (language : Language S) where
  -- The number of branches from a position on.
  abbrev branches_from : List S → ℕ → ℕ
  branches_from code j = branches language (drop j code)

  -- ---- paths

  module _ (code : List S) (forward : JumpsForward language code) (j : ℕ) (s : S) (statement_at : slice_get code j ≡ Some s)
      (rest : ℕ → List (List ℕ)) (few : (k : ℕ) → j < k → length (rest k) ≤ 2 ^ branches_from code k) where
    -- The code from position j on begins with its statement there.
    drop_code-cons : drop j code ≡ s ∷ drop (j + 1) code
    drop_code-cons =
        drop_more code j s (slice_get_within code j s statement_at)
        ∙ ap (λ y. y ∷ drop (j + 1) code) (get_or_from_slice_get code j s s statement_at)

    -- If j ≤ k, 2 to the number of branches from k on is at most that from j on.
    branches_from-antitone : (k : ℕ) → j ≤ k → 2 ^ branches_from code k ≤ 2 ^ branches_from code j
    branches_from-antitone k l = pow_mono (count_by-drop_le (λ s. is_some (branch_target (language.operation_of s))) code j k l)

    -- If there is one successor, the paths through it are within the bound.
    length_paths-one_successor : (k : ℕ) → j < k → length (flat_map rest (k ∷ [])) ≤ 2 ^ branches_from code j
    length_paths-one_successor k later =
        omega (arith, few k later, length-append (rest k) [], branches_from-antitone k (omega arith))

    -- If the statement is a branch to a later position, the paths through both successors are at most 2 to the number of
    -- branches from j on, which counts this one.
    length_paths-two_successors : (to : ℕ)
        → branch_target (language.operation_of s) ≡ Some to
        → j < to
        → length (flat_map rest ((j + 1) ∷ to ∷ [])) ≤ 2 ^ branches_from code j
    length_paths-two_successors to is later =
        let more : branches_from code j ≡ 1 + branches_from code (j + 1) =
        ap (branches language) drop_code-cons
        ∙ (sum_by-cons (λ y. cond (is_some (branch_target (language.operation_of y))) 1 0) s (drop (j + 1) code)
        ∙ ap (λ o. cond (is_some o) 1 0 + branches_from code (j + 1)) is) in
        let mono : 2 ^ branches_from code to ≤ 2 ^ branches_from code (j + 1) =
        pow_mono (count_by-drop_le _ code (j + 1) to (omega arith)) in
        omega (
          arith,
          few (j + 1) (omega arith),
          few to later,
          length-append (rest to) [],
          length-append (rest (j + 1)) (rest to ++ []),
          mono,
          ap (λ n. 2 ^ n) more,
          pow-add 2 1 (branches_from code (j + 1)),
        )

    -- Whatever successors a statement has, the paths through them are within the bound.
    length_paths-by_successors : (o : Option ℕ) (goes : Bool)
        → branch_target (language.operation_of s) ≡ o
        → length (flat_map rest (successor_list o goes j)) ≤ 2 ^ branches_from code j
    length_paths-by_successors None goes is = length_paths-one_successor (j + 1) (omega arith)
    length_paths-by_successors (Some to) false is = length_paths-one_successor to (forward j s statement_at to is).0
    length_paths-by_successors (Some to) true is = by_second_successor (j + 1 == to)
      where
        -- By whether the target is the next statement too.
        by_second_successor : (b : Bool)
            → length (flat_map rest (if b then (j + 1) ∷ [] else (j + 1) ∷ to ∷ [])) ≤ 2 ^ branches_from code j
        by_second_successor true = length_paths-one_successor (j + 1) (omega arith)
        by_second_successor false = length_paths-two_successors to is (forward j s statement_at to is).0

  -- If the number of paths from each later position is at most 2 to the number of branches from there, so is that through a statement.
  length-paths_through_le : (code : List S)
      → JumpsForward language code
      → (j : ℕ) (rest : ℕ → List (List ℕ))
      → ((k : ℕ) → j < k → length (rest k) ≤ 2 ^ branches_from code k)
      → (o : Option S)
      → slice_get code j ≡ o
      → length (paths_through language rest o j) ≤ 2 ^ branches_from code j
  length-paths_through_le code forward j rest few None at = one-le-pow (branches_from code j) 2 (omega arith)
  length-paths_through_le code forward j rest few (Some s) at = omega (
    arith,
    length_paths-by_successors code forward j s at rest few (branch_target (language.operation_of s))
        (falls_through (language.operation_of s)) refl,
    length-map (flat_map rest (successors language s j)) (λ path. j ∷ path),
  )

  -- If jumps go forward, the paths from a position are at most 2 to the number of branches from there.
  length-paths_from_le : (n : ℕ) (code : List S)
      → JumpsForward language code
      → (j : ℕ)
      → length (paths_from language n code j) ≤ 2 ^ branches_from code j
  length-paths_from_le zero code forward j =
      length-paths_through_le code forward j (λ k. []) (λ k l. omega arith) (slice_get code j) refl
  length-paths_from_le (suc n) code forward j =
      length-paths_through_le _ forward j (paths_from language n code) (λ k l. length-paths_from_le n _ forward k)
      (slice_get code j) refl

  -- If jumps go forward, the path assignments are at most 2 to the number of all branches.
  length-path_assignments_le : (program : List (List S))
      → All (JumpsForward language) program
      → length (path_assignments language program) ≤ 2 ^ sum_by (branches language) program
  length-path_assignments_le [] forward = omega arith
  length-path_assignments_le (code ∷ program) forward =
      let paths = length-paths_from_le (length code) code (All-head (JumpsForward language) code program forward) 0 in
      let later = length-path_assignments_le program (All-tail (JumpsForward language) code program forward) in
      let all =
      length-flat_map_le (λ path. map (λ assignment. path ∷ assignment) (path_assignments language program))
      (length (path_assignments language program)) (paths_of language code)
      (λ path. omega (arith, length-map (path_assignments language program) (λ assignment. path ∷ assignment))) in
      let product : length (paths_of language code) * length (path_assignments language program)
      ≤ 2 ^ branches language code * 2 ^ sum_by (branches language) program = mul-le-mul paths later in
      omega (
        arith,
        all,
        product,
        pow-add 2 (branches language code) (sum_by (branches language) program),
        ap (λ n. 2 ^ n) (sum_by-cons (branches language) code program),
      )

  -- ---- orders

  -- A statement whose operation accesses no location has no access, drained (d is `true`) or executed.
  location_by-none : (d : Bool) (s : S) → location_of (language.operation_of s) ≡ None → location_by language d s ≡ None
  location_by-none true s is_none = cond_both (is_drained language s) _ _ (λ o. o ≡ None) (λ _. is_none) (λ _. refl)
  location_by-none false s is_none = cond_both (is_drained language s) _ _ (λ o. o ≡ None) (λ _. refl) (λ _. is_none)

  -- If the first item's statement accesses no location, the two items, drains if d and e say so, do not conflict.
  conflict_by-none : (d e : Bool) (o q : Option S)
      → ((s : S) → o ≡ Some s → location_of (language.operation_of s) ≡ None)
      → conflict_by language d e o q ≡ false
  conflict_by-none d e (Some a) (Some b) silent =
      ap (λ x. is_same_location x (location_by language e b) && (writes_by language d a || writes_by language e b))
      (location_by-none d a (silent a refl))
  conflict_by-none d e _ _ silent = refl

  -- An option for which `is_none` is true is `None`.
  is_none-sound : (o : Option ℕ) → is_none o ≡ true → o ≡ None
  is_none-sound None e = refl
  is_none-sound (Some x) e = cc

  module _ (program : List (List S)) (silent : has_no_access language program ≡ true) where
    -- Each thread accesses no location.
    no_access-at_thread : (t : ℕ) → code_has_no_access language (thread_code program t) ≡ true
    no_access-at_thread t = elim (cases_lt t (length program)) [
      | inl within ↦ AllPass-from_list_all (code_has_no_access language) program silent t [] within
      | inr past ↦ rw (get_or_past program t [] past) refl
    ]

    -- Each statement of a thread that accesses no location accesses none.
    location_of-none_in_silent_code : (code : List S) (j : ℕ) (s : S)
        → code_has_no_access language code ≡ true
        → slice_get code j ≡ Some s
        → location_of (language.operation_of s) ≡ None
    location_of-none_in_silent_code code j s all found_at =
        is_none-sound _
        (rw (get_or_from_slice_get code j s s found_at) at
        (AllPass-from_list_all _ code all j s (slice_get_within code j s found_at)))

    -- If no statement accesses a location, no two items conflict.
    pub conflicts-none : (items : List Item) → (constraints_of language program items).conflicts ≡ []
    conflicts-none items =
        filter-none_pass (λ (p : ℕ × ℕ). items_conflict language program (item_at items p.0) (item_at items p.1))
        (pairs_from 0 (length items))
        (λ p.
        conflict_by-none (item_at items p.0).is_drain (item_at items p.1).is_drain
        (statement_of language program (item_at items p.0)) (statement_of language program (item_at items p.1)) (λ s at.
        location_of-none_in_silent_code (thread_code program (item_at items p.0).thread) (item_at items p.0).position s
        (no_access-at_thread (item_at items p.0).thread) at))

    -- If no statement accesses a location, a path assignment has one order.
    orders_of_assignment-one : (paths : List (List ℕ)) → orders_of_assignment language program paths ≡ 1
    orders_of_assignment-one paths = rw (conflicts-none (items_of language program paths)) refl

    -- If no statement accesses a location, the number of orders is that of the path assignments.
    orders_of-no_conflicts : (assignments : List (List (List ℕ))) → orders_of language program assignments ≡ length assignments
    orders_of-no_conflicts [] = refl
    orders_of-no_conflicts (paths ∷ assignments) =
        omega (arith, orders_of_assignment-one paths, orders_of-no_conflicts assignments)

    -- If no statement accesses a location, and there are few branches, the total is within the limit of orders.
    pub total_of-le_most_orders : All (JumpsForward language) program
        → sum_by (branches language) program ≤ most_unordered
        → total_of language program ≤ most_orders
    total_of-le_most_orders forward few = omega (
      arith,
      orders_of-no_conflicts (path_assignments language program),
      length-path_assignments_le program forward,
      (pow_mono few),
    )
