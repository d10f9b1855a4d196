-- The maximum number of items of paths and of path assignments, as the code computes it: with a table of
-- maxima for each position, filled from the end of the code. Lemmas for `size.rt`.
use Rattle.lw_paths.proofs.Common.{◌≡◌, ◌⊎◌, inl, inr, ℕ, suc, ◌+◌, ◌<◌, ◌≤◌, Option, Some, None, List, []}
use Rattle.lw_paths.proofs.Common.{◌∷◌, length, refl, sym, ap, ap₂, ◌∙◌, slice_get, length-append, arith}
use Rattle.lw_paths.proofs.Common.{Contains, slice_index, slice_set, length-set, get_or-set_same}
use Rattle.lw_paths.proofs.Common.{get_or-set_other, option_to_list, cases_eq, slice_get_within}
use Rattle.lw_paths.proofs.Common.{slice_get_past, most_instructions, Language, IsFlowPathFrom, JumpsForward}
use Rattle.lw_paths.proofs.Common.{IsPathAssignment, successors, items_of_assignment, items_at, path_items}
use Rattle.lw_paths.proofs.Common.{items_from, IsMost, statement_size, path_size, IsVisitable}
use Rattle.lw_paths.proofs.api.Successors.{successors-has, successors-only, successors-in_range}
use Rattle.lw_paths.proofs.api.Members.{Contains-singleton, Contains-head, Contains-tail, Contains-cons}

-- ---- the maximum over one or two successors

-- If xs is the list of a and b, and m is f of one of them and at least f of both, then m is the maximum of f over xs.
pub IsMost-two : (f : ℕ → ℕ) (xs : List ℕ) (a b m : ℕ)
    → xs ≡ a ∷ b ∷ []
    → f a ≤ m
    → f b ≤ m
    → (m ≡ f a) ⊎ (m ≡ f b)
    → IsMost (Contains xs) f m
IsMost-two f xs a b m are first second reached =
    let more : (x : ℕ) → Contains (a ∷ b ∷ []) x → f x ≤ m = λ x c. elim (Contains-cons a x (b ∷ []) c) [
      | inl is_head ↦ omega (arith, ap f is_head, first)
      | inr in_tail ↦ omega (arith, ap f (Contains-singleton b x in_tail), second)
    ] in
    rw are (elim reached [
      | inl e ↦ record { none_more = more; element = a; is_element = Contains-head a a (b ∷ []) refl; reached = sym e }
      | inr e ↦ record {
        none_more = more;
        element = b;
        is_element = Contains-tail a b (b ∷ []) (Contains-head b b [] refl);
        reached = sym e;
      }
    ])

-- If xs is the position a and an optional second one, it contains a.
pub Contains-first_successor : {xs : List ℕ} {a : ℕ} (o : Option ℕ) → (a ∷ option_to_list o) ≡ xs → Contains xs a
Contains-first_successor {a = a} o are = rw (← are) (Contains-head a a (option_to_list o) refl)

-- If xs is a first position and the optional second one b, it contains b.
pub Contains-second_successor : {xs : List ℕ} {a b : ℕ} {o : Option ℕ} → (a ∷ option_to_list o) ≡ xs → o ≡ Some b → Contains xs b
Contains-second_successor {a = a} {b = b} are is = rw (← are, is) (Contains-tail a b (b ∷ []) (Contains-head b b [] refl))

-- ---- paths
module _ {S : Type 0} (language : Language S) where
  -- The number of a statement's items is its size.
  length-items_of_statement : (t j : ℕ) (s : S) → length (items_at language t j (Some s)) ≡ statement_size language s
  length-items_of_statement t j s = grind arith

  -- A statement has at most two items: itself, and a drain.
  statement_size-le_two : (s : S) → statement_size language s ≤ 2
  statement_size-le_two s = grind arith

  -- If a path begins with a position that has the statement s, its items are those of s and those of the rest of the path.
  path_size-cons : (code : List S) (j : ℕ) (path : List ℕ) (s : S)
      → slice_get code j ≡ Some s
      → path_size language code (j ∷ path) ≡ statement_size language s + path_size language code path
  path_size-cons code j path s found_at =
      length-append (items_at language 0 j (slice_get code j)) (path_items language 0 code path)
      ∙ ap (λ n. n + path_size language code path)
      (ap (λ o. length (items_at language 0 j o)) found_at ∙ length-items_of_statement 0 j s)

-- `most` is the maximum number of items of a path from position j, and is at most two for each position from there on.
pub record IsKnown {S : Type 0} (language : Language S) (code : List S) (j most : ℕ) : Type 0 where
  pub is_most : IsMost (IsFlowPathFrom language code j) (path_size language code) most
  pub at_most_two_each : most + (j + j) ≤ length code + length code

module _ {S : Type 0} {language : Language S} {code : List S} where
  -- At the end of the code the maximum number of items of a path is 0.
  IsKnown-end : IsKnown language code (length code) 0
  IsKnown-end = record {
    is_most = record { none_more = size-at_end; element = []; is_element = refl; reached = refl };
    at_most_two_each = omega arith;
  }
    where
      -- At the end of the code a path has no statement.
      size-at_end : (path : List ℕ) → IsFlowPathFrom language code (length code) path → path_size language code path ≤ 0
      size-at_end [] flows = omega arith
      size-at_end (j ∷ path) (same, next, follows, rest) =
          absurd (rw (slice_get_past code (length code) (omega arith)) at follows)

  -- At a position, given the maximum over its successors.
  module _ {at rest_size : ℕ} {s : S} (most : ℕ → ℕ) (statement_at : slice_get code at ≡ Some s)
      (forward : JumpsForward language code) (later : (k : ℕ) → at < k → k ≤ length code → IsKnown language code k (most k))
      (largest : IsMost (Contains (successors language s at)) most rest_size) where
    -- The maximum is known for each successor of the statement.
    IsKnown-successor : (k : ℕ) → Contains (successors language s at) k → IsKnown language code k (most k)
    IsKnown-successor k is_member =
        let (up, within) = successors-in_range language code at k s forward statement_at is_member in later k up within

    -- The maximum at the statement is its size plus the largest maximum of its successors.
    IsKnown-statement : IsKnown language code at (statement_size language s + rest_size)
    IsKnown-statement =
        let rest = (IsKnown-successor largest.element largest.is_element).is_most in
        record {
          is_most = record {
            none_more = size-at_statement;
            element = at ∷ rest.element;
            is_element = (
              refl,
              largest.element,
              successors-only language _ s at largest.element statement_at largest.is_element,
              rest.is_element,
            );
            reached =
                path_size-cons language code at rest.element s statement_at
                ∙ ap (λ n. statement_size language s + n) (rest.reached ∙ largest.reached);
          };
          at_most_two_each = omega (
            arith,
            (IsKnown-successor largest.element largest.is_element).at_most_two_each,
            largest.reached,
            statement_size-le_two language s,
            (successors-in_range language code at largest.element s forward statement_at largest.is_element).0,
          );
        }
      where
        -- A path has the statement, and then a path from one of its successors.
        size-at_statement : (path : List ℕ)
            → IsFlowPathFrom language code at path
            → path_size language code path ≤ statement_size language s + rest_size
        size-at_statement [] ends = absurd (omega (arith, slice_get_within code at s statement_at, ends))
        size-at_statement (j ∷ path) (same, next, follows, further) =
            let c = successors-has language (slice_get code at) s at next statement_at follows in
            omega (
              arith,
              path_size-cons language code j path s (ap (slice_get code) same ∙ statement_at),
              (IsKnown-successor next c).is_most.none_more path further,
              largest.none_more next c,
            )

-- For each position from k to the end of the code, the table `most` has the maximum number of items of a path from there.
pub record AreKnownFrom {S : Type 0} (language : Language S) (code : List S) (k : ℕ) (most : List ℕ) : Type 0 where
  pub room : length most ≡ suc most_instructions
  pub each : (j : ℕ) → k ≤ j → j ≤ length code → IsKnown language code j (slice_index most j)

module _ {S : Type 0} {language : Language S} {code : List S} {most : List ℕ} where
  -- Before the loop the table is right at the end of the code, from where paths have no items.
  pub AreKnownFrom-end : (k : ℕ)
      → length most ≡ suc most_instructions
      → k ≡ length code
      → slice_index most (length code) ≡ 0
      → AreKnownFrom language code k most
  AreKnownFrom-end k room end none = record {
    room = room;
    each = λ j after within. let at : j ≡ length code = omega (arith, end, after, within) in rw (at, none) IsKnown-end;
  }

  module _ {k at rest_size : ℕ} {s : S} (known : AreKnownFrom language code k most) (next : k ≡ suc at)
      (statement_at : slice_get code at ≡ Some s) (forward : JumpsForward language code) (short : length code ≤ 32)
      (largest : IsMost (Contains (successors language s at)) (λ n. slice_index most n) rest_size) where
    -- The maximum at the statement is its size plus the largest maximum of its successors in the table.
    IsKnown-by_table : IsKnown language code at (statement_size language s + rest_size)
    IsKnown-by_table =
        IsKnown-statement (λ n. slice_index most n) statement_at forward
        (λ n up within. known.each n (omega (arith, up, next)) within) largest

    -- The sum of the statement's items and the maximum over its successors does not overflow.
    pub size_sum_small : statement_size language s + rest_size ≤ 66
    size_sum_small = omega (arith, IsKnown-by_table.at_most_two_each, short)

    -- If the statement's maximum v is set in the table, the table is right from this position on.
    pub AreKnownFrom-set : (v : ℕ)
        → v ≡ statement_size language s + rest_size
        → AreKnownFrom language code at (slice_set most at v)
    AreKnownFrom-set v sum = record {
      room = length-set most at v ∙ known.room;
      each = λ j after within. elim (cases_eq j at) [
        | inl e ↦
            rw (e, get_or-set_same most at v 0 (omega (arith, slice_get_within code at s statement_at, short, known.room)), sum)
            IsKnown-by_table
        | inr ne ↦ rw (get_or-set_other most at j v 0 ne) (known.each j (omega (arith, next)) within)
      ];
    }

-- ---- path assignments
module _ {S : Type 0} (language : Language S) where
  -- The number of a path's items does not depend on the thread's index.
  length-path_items_any_thread : (t u : ℕ) (code : List S) (path : List ℕ)
      → length (path_items language t code path) ≡ length (path_items language u code path)
  length-path_items_any_thread t u code [] = refl
  length-path_items_any_thread t u code (j ∷ path) =
      length-append (items_at language t j (slice_get code j)) (path_items language t code path)
      ∙ ap₂ (λ m n. m + n) (length-items_at_any_thread (slice_get code j)) (length-path_items_any_thread t u code path)
      ∙ sym (length-append (items_at language u j (slice_get code j)) (path_items language u code path))
    where
      -- A statement has as many items in each thread.
      length-items_at_any_thread : (o : Option S) → length (items_at language t j o) ≡ length (items_at language u j o)
      length-items_at_any_thread None = refl
      length-items_at_any_thread (Some s) =
          length-items_of_statement language t j s ∙ sym (length-items_of_statement language u j s)

  -- The number of items of paths does not depend on the index of the first thread.
  length-items_from_any_thread : (t u : ℕ) (program : List (List S)) (paths : List (List ℕ))
      → length (items_from language t program paths) ≡ length (items_from language u program paths)
  length-items_from_any_thread t u (code ∷ program) (path ∷ paths) =
      length-append (path_items language t code path) (items_from language (suc t) program paths)
      ∙ ap₂ (λ m n. m + n) (length-path_items_any_thread t u code path)
      (length-items_from_any_thread (suc t) (suc u) program paths)
      ∙ sym (length-append (path_items language u code path) (items_from language (suc u) program paths))
  length-items_from_any_thread t u _ _ = refl

  -- The items of a path assignment are those of the first thread's path, and those of the others'.
  items_of_assignment-cons : (code : List S) (program : List (List S)) (path : List ℕ) (paths : List (List ℕ))
      → items_of_assignment language (code ∷ program) (path ∷ paths)
      ≡ path_size language code path + items_of_assignment language program paths
  items_of_assignment-cons code program path paths =
      length-append (path_items language 0 code path) (items_from language 1 program paths)
      ∙ ap (λ n. path_size language code path + n) (length-items_from_any_thread 1 0 program paths)

  -- If m is the maximum of the first thread's paths, and n that of the other threads' path assignments, m + n is that of the
  -- program's path assignments.
  pub IsMost-more_threads : (program : List (List S)) (code : List S) (others : List (List S)) (m n : ℕ)
      → program ≡ code ∷ others
      → IsMost (IsFlowPathFrom language code 0) (path_size language code) m
      → IsMost (IsPathAssignment language others) (items_of_assignment language others) n
      → IsMost (IsPathAssignment language program) (items_of_assignment language program) (m + n)
  IsMost-more_threads program code others m n are first rest = rw are (record {
    none_more = size-of_assignment;
    element = first.element ∷ rest.element;
    is_element = (first.is_element, rest.is_element);
    reached = items_of_assignment-cons code others first.element rest.element ∙ ap₂ (λ a b. a + b) first.reached rest.reached;
  })
    where
      -- A path assignment has a path of the first thread, and an assignment of the others.
      size-of_assignment : (paths : List (List ℕ))
          → IsPathAssignment language (code ∷ others) paths
          → items_of_assignment language (code ∷ others) paths ≤ m + n
      size-of_assignment [] assignment = absurd assignment
      size-of_assignment (path ∷ paths) assignment = omega (
        arith,
        items_of_assignment-cons code others path paths,
        first.none_more path assignment.0,
        rest.none_more paths assignment.1,
      )

  -- If a program has no threads, the maximum number of items of its path assignments is 0.
  pub IsMost-no_threads : (program : List (List S))
      → length program ≡ 0
      → IsMost (IsPathAssignment language program) (items_of_assignment language program) 0
  IsMost-no_threads [] none = record { none_more = items_of_assignment-no_threads; element = []; is_element = tt; reached = refl }
    where
      -- A path assignment for no threads has no item.
      items_of_assignment-no_threads : (paths : List (List ℕ))
          → IsPathAssignment language [] paths
          → items_of_assignment language [] paths ≤ 0
      items_of_assignment-no_threads [] assignment = omega arith
      items_of_assignment-no_threads (path ∷ paths) assignment = absurd assignment
  IsMost-no_threads (code ∷ others) none = absurd (omega (arith, none))

  module _ (program : List (List S)) (code : List S) (others : List (List S)) (are : program ≡ code ∷ others)
      (visitable : IsVisitable language program) where
    -- The first thread can be visited.
    pub visitable_first : (length code ≤ most_instructions) × JumpsForward language code
    visitable_first = let all = rw are at visitable in (all.short 0 [] (omega arith), all.forward 0 [] (omega arith))

    -- The threads after the first can be visited.
    pub visitable_rest : IsVisitable language others × (length others < length program)
    visitable_rest =
        let all = rw are at visitable in (
          record {
            bounded = omega (arith, all.bounded);
            short = λ k d lt. all.short (suc k) d (omega (arith, lt));
            forward = λ k d lt. all.forward (suc k) d (omega (arith, lt));
          },
          omega (arith, ap length are),
        )
