-- The items of a path assignment: the statements on its paths and the drains of their stores, thread by thread; and how their indices
-- increase along the paths. Proofs of lw_finals and of lw_axiomatic find items by their positions with this.
use Rattle.lw_paths.proofs.Common.{◌≡◌, ℕ, zero, suc, ◌+◌, ◌<◌, ◌≤◌, ◌⊎◌, inl, inr, List, [], ◌∷◌, ◌++◌}
use Rattle.lw_paths.proofs.Common.{length, Option, Some, None, Bool, true, false, refl, sym, ap, ◌∙◌, subst}
use Rattle.lw_paths.proofs.Common.{arith, slice_get, All, Contains, true≢false, option_map_or, cases_eq}
use Rattle.lw_paths.proofs.Common.{cases_order, get_or_default, All-nil, All-cons, All-append, All-head}
use Rattle.lw_paths.proofs.Common.{All-tail, All-weaker, All-get_or, Contains-append_left}
use Rattle.lw_paths.proofs.Common.{Contains-append_right, thread_code, IsFlowPathFrom, Language, JumpsForward}
use Rattle.lw_paths.proofs.Common.{IsPathAssignment, Item, item_at, items_at, path_items, items_from}
use Rattle.lw_paths.proofs.Common.{items_of, drained_location}
use Rattle.lw_paths.proofs.api.Successors.{IsFlowSuccessor-in_range}
use Rattle.lw_paths.proofs.api.Members.{Contains-head, Contains-tail}

-- A number is in a list.
abbrev pub IsMember : ℕ → List ℕ → Type 0
IsMember x [] = ⊥
IsMember x (y ∷ ys) = (y ≡ x) ⊎ IsMember x ys

-- Each item is related to all after it.
abbrev pub Pairwise : (Item → Item → Type 0) → List Item → Type 0
Pairwise R [] = Unit {0}
Pairwise R (a ∷ items) = All (R a) items × Pairwise R items

-- If R holds pairwise in xs and in ys, and of each item of xs with each of ys, it holds pairwise in the concatenation.
Pairwise-append : (R : Item → Item → Type 0) (xs ys : List Item)
    → Pairwise R xs
    → Pairwise R ys
    → All (λ x. All (R x) ys) xs
    → Pairwise R (xs ++ ys)
Pairwise-append R [] ys h g a = g
Pairwise-append R (x ∷ xs) ys h g a =
    (All-append (R x) xs ys h.0 (a 0 x (omega arith)), Pairwise-append R xs ys h.1 g (λ k d l. a (suc k) d (omega arith)))

-- If R holds of any two items with P, it holds pairwise in a list of items with P.
Pairwise-of_All : (R : Item → Item → Type 0) (P : Item → Type 0)
    → ((a b : Item) → P a → P b → R a b)
    → (xs : List Item)
    → All P xs
    → Pairwise R xs
Pairwise-of_All R P f [] h = tt
Pairwise-of_All R P f (x ∷ xs) h =
    let rest : All P xs = All-tail P x xs h in
    (All-weaker P (R x) (λ b. f x b (All-head P x xs h)) xs rest, Pairwise-of_All R P f xs rest)

-- If R holds pairwise in a list, it holds of the items at two ascending indices.
Pairwise-at : (R : Item → Item → Type 0) (xs : List Item) (i j : ℕ)
    → Pairwise R xs
    → i < j
    → j < length xs
    → R (item_at xs i) (item_at xs j)
Pairwise-at R (x ∷ xs) zero (suc j) h less in_range = All-get_or (R x) xs j _ (omega arith) h.0
Pairwise-at R (x ∷ xs) (suc i) (suc j) h less in_range = Pairwise-at R xs i j h.1 (omega arith) (omega arith)
Pairwise-at R _ i _ h less in_range = absurd (omega arith)

-- The item has an index in the list.
abbrev pub HasItem : List Item → Item → Type 0
HasItem items a = (i : ℕ) × (i < length items) × (item_at items i ≡ a)

-- The item of thread t at position j: the statement there (false), or the drain of the store there (true).
abbrev pub item : ℕ → ℕ → Bool → Item
item t j b = record { thread = t; position = j; is_drain = b }

-- A number that increases along a thread's items: twice the position, plus one for a drain.
abbrev pub item_slot : Bool → ℕ → ℕ
item_slot false j = j + j
item_slot true j = suc (j + j)

-- The rank of an item among those of its thread; it is not its index in the list, since there are gaps.
abbrev pub thread_rank : Item → ℕ
thread_rank a = item_slot a.is_drain a.position

-- If two items are of the same thread, the first has the lower `thread_rank`.
abbrev IsLower : Item → Item → Type 0
IsLower a b = a.thread ≡ b.thread → thread_rank a < thread_rank b

-- The thread of the first item is not after that of the second.
abbrev IsNoLater : Item → Item → Type 0
IsNoLater a b = a.thread ≤ b.thread

-- An item of an earlier position has the lower number, whether either is a drain (b and c) or not.
pub item_slot-increasing : (b c : Bool) (j k : ℕ) → j < k → item_slot b j < item_slot c k
item_slot-increasing b c j k l = grind arith

-- At one position the store (b is `false`) has a lower number than its drain (c is `true`).
pub item_slot-store_before_drain : (b c : Bool) (j k : ℕ) → b ≡ false → c ≡ true → j ≡ k → item_slot b j < item_slot c k
item_slot-store_before_drain b c j k e f g = rw (e, f) (omega arith)

-- The numbers are at least `low`, and strictly ascending.
abbrev pub IsAscendingFrom : ℕ → List ℕ → Type 0
IsAscendingFrom low [] = Unit {0}
IsAscendingFrom low (k ∷ path) = (low ≤ k) × IsAscendingFrom (suc k) path

-- If numbers are ascending from `low`, each of them is at least `low`.
pub IsAscendingFrom-lower_bound : (low j : ℕ) (path : List ℕ) → IsAscendingFrom low path → IsMember j path → low ≤ j
IsAscendingFrom-lower_bound low j [] u is_member = absurd is_member
IsAscendingFrom-lower_bound low j (k ∷ path) u (inl e) = omega (arith, u.0)
IsAscendingFrom-lower_bound low j (k ∷ path) u (inr h) = omega (arith, u.0, IsAscendingFrom-lower_bound (suc k) j path u.1 h)

-- If numbers are ascending from `low`, they are ascending from every lower bound l.
IsAscendingFrom-mono : (low l : ℕ) (path : List ℕ) → l ≤ low → IsAscendingFrom low path → IsAscendingFrom l path
IsAscendingFrom-mono low l [] le u = tt
IsAscendingFrom-mono low l (k ∷ path) le u = (omega (arith, u.0), u.1)

module _ {S : Type 0} (language : Language S) where
  -- The statement is a store into the store buffer, so its entry is drained.
  abbrev pub IsStoring : S → Type 0
  IsStoring s = (x : ℕ) × (drained_location language s ≡ Some x)

  -- P holds of each statement on a path, and of the drain of each store there.
  abbrev OnPath : (Item → Type 0) → ℕ → List S → List ℕ → Type 0
  OnPath P t code path =
      (j : ℕ) (s : S) (b : Bool) → IsMember j path → slice_get code j ≡ Some s → (b ≡ true → IsStoring s) → P (item t j b)

  -- If P holds of the statement at a position (b is `false`), and of its drain (b is `true`) if it is a store into the buffer,
  -- it holds of the items there.
  All-items_at : (P : Item → Type 0) (t j : ℕ) (o : Option S)
      → ((s : S) (b : Bool) → o ≡ Some s → (b ≡ true → IsStoring s) → P (item t j b))
      → All P (items_at language t j o)
  All-items_at P t j None f = All-nil P
  All-items_at P t j (Some s) f =
      All-cons P (item t j false) _ (f s false refl (λ d. absurd (true≢false (sym d))))
      (All-drain (drained_location language s) refl)
    where
      -- By whether the statement is drained.
      All-drain : (d : Option ℕ) → drained_location language s ≡ d → All P (option_map_or (λ x. item t j true ∷ []) d [])
      All-drain None e = All-nil P
      All-drain (Some x) e = All-cons P (item t j true) [] (f s true refl (λ d. (x, e))) (All-nil P)

  -- If P holds of the statements and drains on a path, it holds of the path's items.
  All-path_items : (P : Item → Type 0) (t : ℕ) (code : List S) (path : List ℕ)
      → OnPath P t code path
      → All P (path_items language t code path)
  All-path_items P t code [] f = All-nil P
  All-path_items P t code (j ∷ path) f =
      All-append P _ (path_items language t code path) (All-items_at P t j (slice_get code j) (λ s b. f j s b (inl refl)))
      (All-path_items P t code path (λ k s b h. f k s b (inr h)))

  -- If P holds of the statements and drains on each thread's path, it holds of all items.
  All-items_from : (P : Item → Type 0) (t : ℕ) (program : List (List S)) (paths : List (List ℕ))
      → ((k u : ℕ) → u ≡ t + k → k < length program → OnPath P u (thread_code program k) (thread_code paths k))
      → All P (items_from language t program paths)
  All-items_from P t (code ∷ program) (path ∷ paths) f =
      All-append P (path_items language t code path) _ (All-path_items P t code path (f 0 t (omega arith) (omega arith)))
      (All-items_from P (suc t) program paths (λ k u e l. f (suc k) u (omega arith) (omega arith)))
  All-items_from P t _ _ f = All-nil P

  -- The items of a statement contain it (b is `false`) and, if it is a store into the buffer, its drain (b is `true`).
  Contains-items_at : (t j : ℕ) (s : S) (b : Bool)
      → (b ≡ true → IsStoring s)
      → Contains (items_at language t j (Some s)) (item t j b)
  Contains-items_at t j s false store = Contains-head (item t j false) (item t j false) _ refl
  Contains-items_at t j s true store =
      Contains-tail _ _ _
      (subst (λ (o : Option ℕ). Contains (option_map_or (λ x. item t j true ∷ []) o []) (item t j true)) (sym (store refl).1)
      (Contains-head (item t j true) (item t j true) [] refl))

  -- If j is on a thread's path, the path's items contain those of j.
  Contains-path_items : (t : ℕ) (code : List S) (path : List ℕ) (j : ℕ) (a : Item)
      → IsMember j path
      → Contains (items_at language t j (slice_get code j)) a
      → Contains (path_items language t code path) a
  Contains-path_items t code [] j a is_member g = absurd is_member
  Contains-path_items t code (k ∷ path) j a (inl same) is_member =
      Contains-append_left (items_at language t k (slice_get code k)) (path_items language t code path) a
      (subst (λ (n : ℕ). Contains (items_at language t n (slice_get code n)) a) (sym same) is_member)
  Contains-path_items t code (k ∷ path) j a (inr h) is_member =
      Contains-append_right _ _ a (Contains-path_items t code path j a h is_member)

  -- An item of a position on the path of thread k is an item of the path assignment.
  Contains-items_from : (t : ℕ) (program : List (List S)) (paths : List (List ℕ)) (k u j : ℕ) (a : Item)
      → u ≡ t + k
      → length paths ≡ length program
      → k < length program
      → IsMember j (thread_code paths k)
      → Contains (items_at language u j (slice_get (thread_code program k) j)) a
      → Contains (items_from language t program paths) a
  Contains-items_from t (code ∷ program) (path ∷ paths) zero u j a e len in_range is_member on_path =
      let same : t ≡ u = omega arith in
      Contains-append_left (path_items language t code path) _ a (Contains-path_items t code path j a is_member (rw same on_path))
  Contains-items_from t (code ∷ program) (path ∷ paths) (suc k) u j a e len in_range is_member on_path =
      Contains-append_right (path_items language t code path) (items_from language (suc t) program paths) a
      (Contains-items_from (suc t) program paths k u j a (omega arith) (omega arith) (omega arith) is_member on_path)
  Contains-items_from t _ _ k u j a e len in_range is_member on_path = absurd (omega arith)

  -- Of the items at a position, the store has a lower rank than its drain.
  Pairwise-items_at : (t j : ℕ) (o : Option S) → Pairwise IsLower (items_at language t j o)
  Pairwise-items_at t j None = tt
  Pairwise-items_at t j (Some s) = Pairwise-store_and_drain (drained_location language s)
    where
      -- By whether the statement is drained.
      Pairwise-store_and_drain : (d : Option ℕ) → Pairwise IsLower (item t j false ∷ option_map_or (λ x. item t j true ∷ []) d [])
      Pairwise-store_and_drain None = (All-nil (IsLower (item t j false)), tt)
      Pairwise-store_and_drain (Some x) = (
        All-cons _ (item t j true) [] (λ same. omega arith) (All-nil (IsLower (item t j false))),
        (All-nil (IsLower (item t j true)), tt),
      )

  -- If a path is ascending, the ranks of its items increase.
  Pairwise-ascending_path : (t low : ℕ) (code : List S) (path : List ℕ)
      → IsAscendingFrom low path
      → Pairwise IsLower (path_items language t code path)
  Pairwise-ascending_path t low code [] u = tt
  Pairwise-ascending_path t low code (j ∷ path) u =
      Pairwise-append IsLower (items_at language t j (slice_get code j)) (path_items language t code path)
      (Pairwise-items_at t j (slice_get code j)) (Pairwise-ascending_path t (suc j) code path u.1)
      (All-items_at (λ (a : Item). All (IsLower a) (path_items language t code path)) t j (slice_get code j)
      (λ s b e store.
      All-path_items (IsLower (item t j b)) t code path
      (λ k z c h f g same. item_slot-increasing b c j k (IsAscendingFrom-lower_bound (suc j) k path u.1 h))))

  -- If R holds pairwise along each path with Q, and between items of different threads, and each path has Q, then R holds
  -- pairwise of all items.
  Pairwise-items_from : (R : Item → Item → Type 0) (Q : List ℕ → Type 0)
      → ((t : ℕ) (code : List S) (path : List ℕ) → Q path → Pairwise R (path_items language t code path))
      → ((a b : Item) → a.thread < b.thread → R a b)
      → (t : ℕ) (program : List (List S)) (paths : List (List ℕ))
      → ((k : ℕ) → k < length program → Q (thread_code paths k))
      → Pairwise R (items_from language t program paths)
  Pairwise-items_from R Q own across t (code ∷ program) (path ∷ paths) q =
      Pairwise-append R _ _ (own t code path (q 0 (omega arith)))
      (Pairwise-items_from R Q own across (suc t) program paths (λ k l. q (suc k) (omega arith)))
      (All-path_items (λ a. All (R a) (items_from language (suc t) program paths)) t code path
      (λ j s b h e store.
      All-items_from (R (item t j b)) (suc t) program paths
      (λ k u e l i z c g f store. across (item t j b) (item u i c) (omega arith))))
  Pairwise-items_from R Q own across t _ _ q = tt

  -- The items of a path are of one thread, so none is of a later thread than another.
  Pairwise-path_items : (t : ℕ) (code : List S) (path : List ℕ) → Pairwise IsNoLater (path_items language t code path)
  Pairwise-path_items t code path =
      Pairwise-of_All IsNoLater (λ a. a.thread ≡ t) (λ a b e f. omega (arith, e, f)) _
      (All-path_items (λ a. a.thread ≡ t) t code path (λ j s b h e store. refl))

  -- If jumps go forward, the positions of a flow path from j are ascending from j.
  pub IsAscendingFrom-flow_path : (code : List S) (j : ℕ) (path : List ℕ)
      → JumpsForward language code
      → IsFlowPathFrom language code j path
      → IsAscendingFrom j path
  IsAscendingFrom-flow_path code j [] forward f = tt
  IsAscendingFrom-flow_path code j (k ∷ path) forward (same, next, follows, rest) =
      let w : (j < next) × (next ≤ length code) = IsFlowSuccessor-in_range language code j next forward follows in (
        omega arith,
        IsAscendingFrom-mono next (suc k) path (omega (arith, w.0)) (IsAscendingFrom-flow_path code next path forward rest),
      )

  -- A path assignment has a path for each thread.
  pub length-path_assignment : (program : List (List S)) (paths : List (List ℕ))
      → IsPathAssignment language program paths
      → length paths ≡ length program
  length-path_assignment [] [] c = refl
  length-path_assignment (code ∷ program) (path ∷ paths) c = ap suc (length-path_assignment program paths c.1)
  length-path_assignment _ _ c = absurd c

  -- Each path of a path assignment is a flow path of its thread, from the first position.
  IsFlowPathFrom-path_assignment : (program : List (List S)) (paths : List (List ℕ))
      → IsPathAssignment language program paths
      → (t : ℕ)
      → t < length program
      → IsFlowPathFrom language (thread_code program t) 0 (thread_code paths t)
  IsFlowPathFrom-path_assignment (code ∷ program) (path ∷ paths) c zero in_range = c.0
  IsFlowPathFrom-path_assignment (code ∷ program) (path ∷ paths) c (suc t) in_range =
      IsFlowPathFrom-path_assignment program paths c.1 t (omega arith)
  IsFlowPathFrom-path_assignment [] paths c t in_range = absurd (omega arith)
  IsFlowPathFrom-path_assignment (code ∷ program) [] c t in_range = absurd c

  module _ (program : List (List S)) (paths : List (List ℕ)) where
    -- The items of the path assignment.
    abbrev items : List Item
    items = items_of language program paths

    -- The item at an index.
    abbrev at : ℕ → Item
    at i = item_at items i

    -- A statement on a thread's path is an item (b is `false`), and so is its drain (b is `true`), if it is a store into the
    -- store buffer.
    pub HasItem-on_path : (t j : ℕ) (s : S) (b : Bool)
        → length paths ≡ length program
        → t < length program
        → IsMember j (thread_code paths t)
        → slice_get (thread_code program t) j ≡ Some s
        → (b ≡ true → IsStoring s)
        → HasItem items (item t j b)
    HasItem-on_path t j s b len in_range is_member found_at store =
        let on_path : Contains (items_at language t j (slice_get (thread_code program t) j)) (item t j b) =
        rw found_at (Contains-items_at t j s b store) in
        let (i, li, is) = Contains-items_from 0 program paths t t j (item t j b) (omega arith) len in_range is_member on_path in
        (i, li, get_or_default items i _ (item t j b) li ∙ is)

    -- The item is on its thread's path: its statement, or the drain of a store.
    pub record IsItemOnPath (a : Item) : Type 0 where
      pub statement : S
      pub thread_in_range : a.thread < length program
      pub on_path : IsMember a.position (thread_code paths a.thread)
      pub at : slice_get (thread_code program a.thread) a.position ≡ Some statement
      pub store : a.is_drain ≡ true → IsStoring statement

    -- Each item of the list is on its thread's path.
    IsItemOnPath-all : All IsItemOnPath items
    IsItemOnPath-all = All-items_from IsItemOnPath 0 _ paths (λ k u at_u l j s b h e store.
        let same : u ≡ k = omega arith in
        rw same (record { statement = s; thread_in_range = l; on_path = h; at = e; store = store }))

    -- Each item of a path assignment is on its paths.
    pub IsItemOnPath-of_member : (i : ℕ) → i < length items → IsItemOnPath (at i)
    IsItemOnPath-of_member i in_range = All-get_or IsItemOnPath items i _ in_range IsItemOnPath-all

    -- Of two items the one with the lower index is not of a later thread.
    pub thread_le-index : (i j : ℕ) → i ≤ j → j < length items → (at i).thread ≤ (at j).thread
    thread_le-index i j le in_range = elim (cases_eq i j) [
      | inl e ↦ rw e (omega arith)
      | inr ne ↦
          Pairwise-at IsNoLater items i j
          (Pairwise-items_from IsNoLater (λ _. Unit {0}) (λ t code path q. Pairwise-path_items t code path)
          (λ a b less. omega (arith, less)) 0 _ paths (λ k l. tt)) (omega arith) in_range
    ]

    module _ (forward : (t : ℕ) → JumpsForward language (thread_code program t))
        (assignment : IsPathAssignment language program paths) where
      -- Within a thread the `thread_rank`s increase with the indices.
      pub thread_rank-increasing : (i j : ℕ)
          → i < j
          → j < length items
          → (at i).thread ≡ (at j).thread
          → thread_rank (at i) < thread_rank (at j)
      thread_rank-increasing i j less in_range same =
          Pairwise-at IsLower items i j
          (Pairwise-items_from IsLower (IsAscendingFrom 0) (λ t code path up. Pairwise-ascending_path t 0 code path up)
          (λ a b less same. absurd (omega (arith, less, same))) 0 program paths (λ t l.
          IsAscendingFrom-flow_path (thread_code program t) 0 (thread_code paths t) (forward t)
          (IsFlowPathFrom-path_assignment program paths assignment t l))) less in_range same

      -- If an item in range has a lower `thread_rank` than one of the same thread, its index is lower.
      pub index_lt-if_rank_lt : (i j : ℕ)
          → i < length items
          → (at i).thread ≡ (at j).thread
          → thread_rank (at i) < thread_rank (at j)
          → i < j
      index_lt-if_rank_lt i j li same less = elim (cases_order i j) [
        | inl e ↦ absurd (omega (arith, less, ap (λ k. thread_rank (at k)) e))
        | inr (inl l) ↦ l
        | inr (inr g) ↦ absurd (omega (arith, less, thread_rank-increasing j i g li (sym same)))
      ]

      -- If two items in range have the same thread, position and kind, their indices are the same.
      pub item_index-unique : (i j : ℕ)
          → i < length items
          → j < length items
          → (at i).thread ≡ (at j).thread
          → (at i).position ≡ (at j).position
          → (at i).is_drain ≡ (at j).is_drain
          → i ≡ j
      item_index-unique i j li lj same index_in kind =
          let e = ap (λ b. item_slot b (at i).position) kind ∙ ap (λ k. item_slot (at j).is_drain k) index_in in
          elim (cases_order i j) [
            | inl is ↦ is
            | inr (inl l) ↦ absurd (omega (arith, thread_rank-increasing i j l lj same))
            | inr (inr g) ↦ absurd (omega (arith, thread_rank-increasing j i g li (sym same)))
          ]

      -- The statement at an item's position is an item (b is `false`), and so is the drain (b is `true`), if it is a store into
      -- the store buffer.
      pub HasItem-same_position : (i : ℕ) (b : Bool) (l : i < length items)
          → (b ≡ true → IsStoring (IsItemOnPath-of_member i l).statement)
          → HasItem items (item (at i).thread (at i).position b)
      HasItem-same_position i b l store =
          let r : IsItemOnPath (at i) = IsItemOnPath-of_member i l in
          HasItem-on_path (at i).thread (at i).position r.statement b (length-path_assignment _ _ assignment) r.thread_in_range
          r.on_path r.at store
