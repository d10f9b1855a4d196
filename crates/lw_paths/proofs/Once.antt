-- The lists of paths and of path assignments have no duplicates. With `api/Enumerated` the list has each path
-- assignment exactly once.
use Rattle.lw_paths.proofs.Common.{◌≡◌, ℕ, zero, suc, ◌<◌, ◌≤◌, List, [], ◌∷◌, ◌++◌, map, length, Option}
use Rattle.lw_paths.proofs.Common.{Some, None, refl, sym, ◌∙◌, subst, inl, inr, slice_get, Contains, All}
use Rattle.lw_paths.proofs.Common.{flat_map, All-head, All-tail, Contains-append_cases, IsDuplicateFree}
use Rattle.lw_paths.proofs.Common.{Language, IsFlowPathFrom, JumpsForward, paths_through, paths_from}
use Rattle.lw_paths.proofs.Common.{paths_of, path_assignments, successors, cons-head_eq}
use Rattle.lw_paths.proofs.api.Members.{not-Contains-nil, Contains-head, Contains-tail, Contains-map_inv}
use Rattle.lw_paths.proofs.api.Members.{Contains-flat_map_inv}
use Rattle.lw_paths.proofs.api.Successors.{successors-in_range, IsDuplicateFree-successor_list}
use Rattle.lw_paths.proofs.api.Enumerated.{paths-only}

-- If f is injective, and a list has no duplicates, neither has the list of images.
IsDuplicateFree-map : {X Y : Type 0} (f : X → Y) (xs : List X)
    → ((x y : X) → f x ≡ f y → x ≡ y)
    → IsDuplicateFree xs
    → IsDuplicateFree (map f xs)
IsDuplicateFree-map f [] inj o = tt
IsDuplicateFree-map f (x ∷ xs) inj o = (
  λ c. (let m = Contains-map_inv f xs (f x) c in o.0 (subst (λ y. Contains xs y) (inj m.0 x m.2) m.1)),
  IsDuplicateFree-map f xs inj o.1,
)

-- If two lists have no duplicates, and no common element, their concatenation has no duplicates.
IsDuplicateFree-append : {X : Type 0} (xs ys : List X)
    → IsDuplicateFree xs
    → IsDuplicateFree ys
    → ((x : X) → Contains xs x → Contains ys x → ⊥)
    → IsDuplicateFree (xs ++ ys)
IsDuplicateFree-append [] ys a b apart = b
IsDuplicateFree-append (x ∷ xs) ys a b apart = (
  λ c. elim (Contains-append_cases _ _ x c) [ inl h ↦ a.0 h | inr h ↦ apart x (Contains-head x x xs refl) h ],
  IsDuplicateFree-append xs ys a.1 b (λ y c. apart y (Contains-tail x y xs c)),
)

-- A `flat_map` has no duplicates if the list has none, no element's list has any, and different elements' lists are disjoint.
IsDuplicateFree-flat_map : {X Y : Type 0} (f : X → List Y) (xs : List X)
    → IsDuplicateFree xs
    → ((x : X) → Contains xs x → IsDuplicateFree (f x))
    → ((x y : X) (z : Y) → Contains xs x → Contains xs y → Contains (f x) z → Contains (f y) z → x ≡ y)
    → IsDuplicateFree (flat_map f xs)
IsDuplicateFree-flat_map f [] o each apart = tt
IsDuplicateFree-flat_map f (x ∷ xs) o each apart =
    IsDuplicateFree-append (f x) (flat_map f xs) (each x (Contains-head x x xs refl))
    (IsDuplicateFree-flat_map f xs o.1 (λ y c. each y (Contains-tail x y xs c))
    (λ y z w a b. apart y z w (Contains-tail x y xs a) (Contains-tail x z xs b))) (λ z c d.
    (let g = Contains-flat_map_inv f xs z d in
    o.0 (subst (λ w. Contains xs w) (sym (apart x g.0 z (Contains-head x x xs refl) (Contains-tail x g.0 xs g.1) c g.2)) g.1)))

-- If two lists are equal with x at their fronts, they are equal.
cons-injective_tail : {X : Type 0} (x : X) (xs ys : List X) → x ∷ xs ≡ x ∷ ys → xs ≡ ys
cons-injective_tail x xs ys e = cc

module _ {S : Type 0} (language : Language S) where
  -- If a path is a flow path from j and from k, then j is k.
  flow_path_start-unique : (code : List S) (j k : ℕ) (path : List ℕ)
      → IsFlowPathFrom language code j path
      → IsFlowPathFrom language code k path
      → j ≡ k
  flow_path_start-unique code j k [] a b = a ∙ sym b
  flow_path_start-unique code j k (i ∷ path) a b = sym a.0 ∙ b.0

  module _ (code : List S) (forward : JumpsForward language code) where
    -- If the lists of paths from later positions have no duplicates, neither has the list from this one.
    IsDuplicateFree-paths_through : (rest : ℕ → List (List ℕ)) (j : ℕ)
        → ((k : ℕ) → j < k → k ≤ length code → IsDuplicateFree (rest k))
        → ((k : ℕ) (p : List ℕ) → k ≤ length code → Contains (rest k) p → IsFlowPathFrom language code k p)
        → IsDuplicateFree (paths_through language rest (slice_get code j) j)
    IsDuplicateFree-paths_through rest j each only = duplicate_free-at_statement (slice_get code j) refl
      where
        -- By the statement at the position: the paths from different successors differ.
        duplicate_free-at_statement : (o : Option S) → slice_get code j ≡ o → IsDuplicateFree (paths_through language rest o j)
        duplicate_free-at_statement None e = (not-Contains-nil [], tt)
        duplicate_free-at_statement (Some s) e =
            let in_code : (k : ℕ) → Contains (successors language s j) k → (j < k) × (k ≤ length code) =
            λ k c. successors-in_range language code j k s forward e c in
            IsDuplicateFree-map _ _ (λ p q h. cons-injective_tail j p q h)
            (IsDuplicateFree-flat_map rest (successors language s j) (IsDuplicateFree-successor_list _ _ j)
            (λ k c. each k (in_code k c).0 (in_code k c).1)
            (λ k m p a b c d. flow_path_start-unique code k m p (only k p (in_code k a).1 c) (only m p (in_code m b).1 d)))

    -- If jumps go forward, the list of paths from a position has no duplicates.
    pub paths-once : (n j : ℕ) → IsDuplicateFree (paths_from language n code j)
    paths-once zero j = IsDuplicateFree-paths_through (λ k. []) j (λ k a b. tt) (λ k p l c. absurd (not-Contains-nil p c))
    paths-once (suc n) j =
        IsDuplicateFree-paths_through (λ k. paths_from language n code k) j (λ k a b. paths-once n k)
        (λ k p l c. paths-only language code forward n k p l c)

  -- If jumps go forward, the list of a program's path assignments has no duplicates.
  pub IsDuplicateFree-path_assignments : (program : List (List S))
      → All (JumpsForward language) program
      → IsDuplicateFree (path_assignments language program)
  IsDuplicateFree-path_assignments [] all = (not-Contains-nil [], tt)
  IsDuplicateFree-path_assignments (code ∷ program) all =
      let tails = path_assignments language program in
      IsDuplicateFree-flat_map (λ (path : List ℕ). map (λ (paths : List (List ℕ)). path ∷ paths) tails) (paths_of language code)
      (paths-once code (All-head (JumpsForward language) code program all) (length code) 0) (λ path c.
      IsDuplicateFree-map (λ (paths : List (List ℕ)). path ∷ paths) tails (λ a b h. cons-injective_tail path a b h)
      (IsDuplicateFree-path_assignments program (All-tail (JumpsForward language) code program all))) (λ p q z a b c d.
      (let m = Contains-map_inv (λ (paths : List (List ℕ)). p ∷ paths) tails z c in
      let n = Contains-map_inv (λ (paths : List (List ℕ)). q ∷ paths) tails z d in
      cons-head_eq p q m.0 n.0 (m.2 ∙ sym n.2)))
