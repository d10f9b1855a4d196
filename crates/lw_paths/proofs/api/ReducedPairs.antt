-- The reduced preserved pairs of items, in either language, item by item: each is ascending, within a thread. And items with these pairs and
-- their conflicts are well-formed. Reduced proves from this that the orders are those of all preserved pairs.
use Rattle.lw_paths.proofs.Common.{◌≡◌, Bool, true, false, ℕ, zero, suc, ◌+◌, ◌<◌, ◌≤◌, ◌==◌, ◌⊎◌, List, []}
use Rattle.lw_paths.proofs.Common.{◌++◌, length, drop, drop-cons, flat_map, Option, Some, None, refl, ap, ◌∙◌}
use Rattle.lw_paths.proofs.Common.{subst, inl, inr, arith, All, eq-eqb, ne_eqb, cases_eq, cond-true}
use Rattle.lw_paths.proofs.Common.{cond-false, drop_all, All-nil, All-cons, All-append, AreAscending}
use Rattle.lw_paths.proofs.Common.{most_items, indices, All-parts, Item, LastItems, Language, item_at}
use Rattle.lw_paths.proofs.Common.{none_before, edge_from, reduced_at, record_last, last_of_thread}
use Rattle.lw_paths.proofs.Common.{needs_earlier_drains, reduced_from, constraints_of, reduced_constraints_of}
use Rattle.lw_paths.proofs.Common.{IsWellFormed}
use Rattle.lw_paths.proofs.api.PreservedPairs.{IsWellFormed-constraints}

-- If the item before is of the same thread t, its last items are the thread's.
pub last_of_thread-same : (t u : ℕ) (last : LastItems) → t ≡ u → last_of_thread t u last ≡ last
last_of_thread-same t u last e = cond-true (t == u) last none_before (eq-eqb t u e)

-- If the item before is of another thread, this thread has no last items yet.
pub last_of_thread-other : (t u : ℕ) (last : LastItems) → (t ≡ u → ⊥) → last_of_thread t u last ≡ none_before
last_of_thread-other t u last ne = cond-false (t == u) last none_before (ne_eqb t u ne)

-- Of a thread's last items, the statement (false) or the drain (true).
abbrev pub last_by : Bool → LastItems → Option ℕ
last_by true last = last.drain
last_by false last = last.statement

module _ (Q : ℕ × ℕ → Type 0) (n : ℕ) where
  -- If Q holds of the pair of the optional item with n, if there is one, it holds of all pairs of the list `edge_from`.
  All-edge_from : (o : Option ℕ) → ((m : ℕ) → o ≡ Some m → Q (m, n)) → All Q (edge_from o n)
  All-edge_from None each = All-nil Q
  All-edge_from (Some m) each = All-cons Q (m, n) [] (each m refl) (All-nil Q)

  -- If Q holds of item n's pair with the last statement and, if n is a drain or waits for drains, of that with the last drain,
  -- it holds of all its reduced pairs.
  pub All-reduced_at : (is_drain waits : Bool) (last : LastItems)
      → ((m : ℕ) → last.statement ≡ Some m → Q (m, n))
      → ((is_drain ≡ true) ⊎ (waits ≡ true) → (m : ℕ) → last.drain ≡ Some m → Q (m, n))
      → All Q (reduced_at is_drain waits last n)
  All-reduced_at true waits last of_statement of_drain =
      All-append Q _ _ (All-edge_from _ of_statement) (All-edge_from last.drain (of_drain (inl refl)))
  All-reduced_at false true last of_statement of_drain =
      All-append Q _ _ (All-edge_from _ of_statement) (All-edge_from last.drain (of_drain (inr refl)))
  All-reduced_at false false last of_statement of_drain = All-edge_from last.statement of_statement

module _ (Q : ℕ × ℕ → Type 0) (f : ℕ → List (ℕ × ℕ)) where
  -- If Q holds of all pairs of each index in a range, it holds of the concatenation.
  All-numbered : (k n : ℕ) → ((i : ℕ) → k ≤ i → i < k + n → All Q (f i)) → All Q (flat_map f (indices k n))
  All-numbered k zero each = All-nil Q
  All-numbered k (suc n) each =
      All-append Q (f k) (flat_map f (indices (suc k) n)) (each k (omega arith) (omega arith))
      (All-numbered (suc k) n (λ i a b. each i (omega arith) (omega arith)))

  -- If Q holds of the concatenation, it holds of all pairs of each index in the range.
  All-index : (k n : ℕ) → All Q (flat_map f (indices k n)) → (i : ℕ) → k ≤ i → i < k + n → All Q (f i)
  All-index k zero all i a b = absurd (omega arith)
  All-index k (suc n) all i a b =
      (let (here, rest) = All-parts Q (f k) _ all in
      elim (cases_eq k i) [
        | inl e ↦ subst (λ j. All Q (f j)) e here
        | inr ne ↦ All-index (suc k) n rest i (omega arith) (omega arith)
      ])

module _ (all : List Item) where
  -- The item at an index.
  abbrev it : ℕ → Item
  it i = item_at all i

  -- The thread of the item before index n.
  abbrev pub thread_upto : ℕ → ℕ
  thread_upto zero = 0
  thread_upto (suc n) = (it n).thread

  -- The last statement and the last drain before index n, of the thread of the item before n.
  abbrev pub last_upto : ℕ → LastItems
  last_upto zero = none_before
  last_upto (suc n) = record_last (it n).is_drain (last_of_thread (thread_upto n) (it n).thread (last_upto n)) n

  -- The last items of the thread of item n.
  abbrev pub last_at : ℕ → LastItems
  last_at n = last_of_thread (thread_upto n) (it n).thread (last_upto n)

  -- Each last item is before n, of the thread, and a statement or a drain as its field says.
  abbrev AreEarlier : ℕ → ℕ → LastItems → Type 0
  AreEarlier n t last = (b : Bool) (m : ℕ) → last_by b last ≡ Some m → (m < n) × ((it m).thread ≡ t) × ((it m).is_drain ≡ b)

  -- The claim holds if there are no last items.
  AreEarlier-none : (n t : ℕ) → AreEarlier n t none_before
  AreEarlier-none n t true m e = cc
  AreEarlier-none n t false m e = cc

  -- If the claim holds of the last items of thread t, it holds of them as those of thread u: the same if u is t, and otherwise
  -- none.
  AreEarlier-of_thread : (n t u : ℕ) (last : LastItems) → AreEarlier n t last → AreEarlier n u (last_of_thread t u last)
  AreEarlier-of_thread n t u last h = elim (cases_eq t u) [
    | inl same_thread ↦ rw (last_of_thread-same t u last same_thread, ← same_thread) h
    | inr threads_differ ↦ rw (last_of_thread-other t u last threads_differ) (AreEarlier-none n u)
  ]

  -- If the claim holds of a thread's last items before n, which is of this thread, it holds before the next index after n is
  -- recorded as the last drain (d is `true`) or the last statement.
  AreEarlier-next : (d : Bool) (n t : ℕ) (last : LastItems)
      → (it n).is_drain ≡ d
      → (it n).thread ≡ t
      → AreEarlier n t last
      → AreEarlier (suc n) t (record_last d last n)
  AreEarlier-next true n t last is on h true m e = (let same : n ≡ m = cc in rw (← same) (omega arith, on, is))
  AreEarlier-next true n t last is on h false m e = (let (less, there, kind) = h false m e in (omega (arith, less), there, kind))
  AreEarlier-next false n t last is on h true m e = (let (less, there, kind) = h true m e in (omega (arith, less), there, kind))
  AreEarlier-next false n t last is on h false m e = (let same : n ≡ m = cc in rw (← same) (omega arith, on, is))

  -- Before each index n the claim holds of the last items of the thread of the item before n.
  AreEarlier-upto : (n : ℕ) → AreEarlier n (thread_upto n) (last_upto n)
  AreEarlier-upto zero = AreEarlier-none 0 0
  AreEarlier-upto (suc n) =
      AreEarlier-next (it n).is_drain n (it n).thread (last_at n) refl refl
      (AreEarlier-of_thread n (thread_upto n) (it n).thread (last_upto n) (AreEarlier-upto n))

  module _ {S : Type 0} (language : Language S) (program : List (List S)) where
    -- The reduced pairs of item n with its predecessors.
    abbrev preserved_of : ℕ → List (ℕ × ℕ)
    preserved_of n = reduced_at (it n).is_drain (needs_earlier_drains language program (it n)) (last_at n) n

    -- The reduced pairs of the items from index n on are those of the item at each of these indices.
    reduced_from-by_index : (d n : ℕ)
        → n + d ≡ length all
        → reduced_from language program n (thread_upto n) (last_upto n) (drop n all) ≡ flat_map preserved_of (indices n d)
    reduced_from-by_index zero n e =
        ap (reduced_from language program n (thread_upto n) (last_upto n)) (drop_all n all (omega arith))
    reduced_from-by_index (suc d) n e =
        ap (reduced_from language program n (thread_upto n) (last_upto n)) (drop-cons all n _ (omega arith))
        ∙ ap (λ ps. preserved_of n ++ ps) (reduced_from-by_index d (suc n) (omega arith))

    -- All reduced pairs are those of the item at each index.
    reduced_pairs-by_index : (reduced_constraints_of language program all).preserved
        ≡ flat_map preserved_of (indices 0 (length all))
    reduced_pairs-by_index = reduced_from-by_index (length all) 0 (omega arith)

    -- If Q holds of all reduced pairs, it holds of those of each item n.
    pub reduced-at : (Q : ℕ × ℕ → Type 0)
        → All Q (reduced_constraints_of language program all).preserved
        → (n : ℕ)
        → n < length all
        → All Q (preserved_of n)
    reduced-at Q each n in_range = All-index Q preserved_of 0 _ (rw reduced_pairs-by_index at each) n (omega arith) (omega arith)

    -- If Q holds of each pair of items of one thread in ascending order, of which the first is a drain (b is `true`) only if
    -- the second is a drain or waits for drains, it holds of all reduced pairs.
    pub All-reduced_pairs : (Q : ℕ × ℕ → Type 0)
        → ((b : Bool) (m n : ℕ)
        → m < n
        → n < length all
        → (it m).thread ≡ (it n).thread
        → (it m).is_drain ≡ b
        → (b ≡ true → ((it n).is_drain ≡ true) ⊎ (needs_earlier_drains language program (it n) ≡ true))
        → Q (m, n))
        → All Q (reduced_constraints_of language program all).preserved
    All-reduced_pairs Q each = rw reduced_pairs-by_index (All-numbered Q preserved_of 0 (length all) (λ n a l.
        (let last = AreEarlier-of_thread n (thread_upto n) (it n).thread (last_upto n) (AreEarlier-upto n) in
        All-reduced_at Q n (it n).is_drain (needs_earlier_drains language program (it n)) (last_at n)
        (λ m e. (let (less, same, is) = last false m e in each false m n less (omega (arith, l)) same is (λ bad. cc (bad))))
        (λ ordered m e. (let (less, same, is) = last true m e in each true m n less (omega (arith, l)) same is (λ _. ordered))))))

module _ {S : Type 0} (language : Language S) (program : List (List S)) where
  -- Each reduced pair is ascending.
  pub AreAscending-reduced : (items : List Item)
      → AreAscending (length items) (reduced_constraints_of language program items).preserved
  AreAscending-reduced items =
      All-reduced_pairs items language program (λ p. (p.0 < p.1) × (p.1 < length items))
      (λ b m n less l same is ordered. (less, l))

  -- If items are within the limit, they are well-formed with their reduced pairs and their conflicts.
  pub IsWellFormed-reduced_pairs : (items : List Item)
      → length items ≤ most_items
      → IsWellFormed (reduced_constraints_of language program items)
  IsWellFormed-reduced_pairs items few =
      let well_formed : IsWellFormed (constraints_of language program items) =
      IsWellFormed-constraints language program items few in
      record {
        bounded = few;
        preserved_up = AreAscending-reduced items;
        conflicts_up = well_formed.conflicts_up;
        sorted = well_formed.sorted;
      }

  -- If items are within the limit, and `preserved` and `conflicts` are their reduced pairs and their conflicts, they are
  -- well-formed with these.
  pub IsWellFormed-with_reduced_pairs : (items : List Item) (preserved conflicts : List (ℕ × ℕ))
      → length items ≤ most_items
      → preserved ≡ reduced_from language program 0 0 none_before items
      → conflicts ≡ (constraints_of language program items).conflicts
      → IsWellFormed (record { len = length items; preserved = preserved; conflicts = conflicts })
  IsWellFormed-with_reduced_pairs items preserved conflicts few f c = rw (f, c) (IsWellFormed-reduced_pairs items few)
