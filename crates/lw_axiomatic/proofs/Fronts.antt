-- The front of a path, its positions up to the first that fails a test, and its tail, the rest; and those of
-- all paths, thread by thread. RaceFree walks such fronts, up to the end of a race.
use Rattle.lw_axiomatic.proofs.Common.{◌≡◌, ℕ, zero, suc, ◌+◌, ◌<◌, inl, inr, Bool, true, false}
use Rattle.lw_axiomatic.proofs.Common.{if◌then◌else◌, List, [], ◌∷◌, ◌++◌, length, refl, sym, ap, ap₂, ◌∙◌}
use Rattle.lw_axiomatic.proofs.Common.{subst, arith, Contains, cases_Bool, get_or_past, thread_code}
use Rattle.lw_axiomatic.proofs.Common.{not-Contains-nil, Contains-head, Contains-tail, Contains-cons}
use Rattle.lw_axiomatic.proofs.Common.{IsAscendingFrom, IsAscendingFrom-lower_bound}
use Rattle.lw_axiomatic.proofs.Indices.{in_list}

-- ---- one path

module _ (passes : ℕ → Bool) where
  -- The positions of a path up to the first that fails.
  abbrev pub front : List ℕ → List ℕ
  front [] = []
  front (j ∷ path) = if passes j then j ∷ front path else []

  -- The positions of a path from the first that fails.
  abbrev pub tail : List ℕ → List ℕ
  tail [] = []
  tail (j ∷ path) = if passes j then tail path else j ∷ path

  -- A path is its front followed by its tail.
  front_append_tail : (path : List ℕ) → path ≡ front path ++ tail path
  front_append_tail [] = refl
  front_append_tail (j ∷ path) = elim (cases_Bool (passes j)) [
    | inl p ↦ rw p (ap (λ (rest : List ℕ). j ∷ rest) (front_append_tail path))
    | inr f ↦ rw f refl
  ]

  -- A position in the front is on the path, and passes.
  Contains-of_front : (path : List ℕ) (j : ℕ) → Contains (front path) j → Contains path j × (passes j ≡ true)
  Contains-of_front [] j on_path = absurd (not-Contains-nil j on_path)
  Contains-of_front (h ∷ path) j on_path = elim (cases_Bool (passes h)) [
    | inl p ↦ elim (Contains-cons h j (front path) (rw p at on_path)) [
      | inl is_head ↦ (Contains-head h j path is_head, ap passes (sym is_head) ∙ p)
      | inr in_tail ↦ (let rest = Contains-of_front path j in_tail in (Contains-tail h j path rest.0, rest.1))
    ]
    | inr f ↦ absurd (not-Contains-nil j (rw f at on_path))
  ]

  -- If every position before one that passes does so too, each position that passes is in the front.
  Contains-front : (low : ℕ) (path : List ℕ) (j : ℕ)
      → IsAscendingFrom low path
      → ((h k : ℕ) → Contains path h → Contains path k → h < k → passes k ≡ true → passes h ≡ true)
      → Contains path j
      → passes j ≡ true
      → Contains (front path) j
  Contains-front low [] j up down on_path p = absurd (not-Contains-nil j on_path)
  Contains-front low (h ∷ path) j up down on_path p = elim (Contains-cons h j path on_path) [
    | inl is_head ↦ (let here : passes h ≡ true = ap passes is_head ∙ p in rw here (Contains-head h j (front path) is_head))
    | inr in_tail ↦
        (let less : h < j = IsAscendingFrom-lower_bound (suc h) j path up.1 (in_list path j in_tail) in
        let here : passes h ≡ true = down h j (Contains-head h h path refl) on_path less p in
        rw here
        (Contains-tail h j (front path)
        (Contains-front (suc h) path j up.1 (λ i k ci ck. down i k (Contains-tail h i path ci) (Contains-tail h k path ck))
        in_tail p)))
  ]

  -- The first position that fails is the head of the tail.
  tail-head : (low : ℕ) (path : List ℕ) (j : ℕ)
      → IsAscendingFrom low path
      → Contains path j
      → passes j ≡ false
      → ((h : ℕ) → Contains path h → h < j → passes h ≡ true)
      → (more : List ℕ) × (tail path ≡ j ∷ more)
  tail-head low [] j up on_path f before = absurd (not-Contains-nil j on_path)
  tail-head low (h ∷ path) j up on_path f before = elim (Contains-cons h j path on_path) [
    | inl is_head ↦ (let here : passes h ≡ false = ap passes is_head ∙ f in (path, rw here (ap (λ (k : ℕ). k ∷ path) is_head)))
    | inr in_tail ↦
        (let less : h < j = IsAscendingFrom-lower_bound (suc h) j path up.1 (in_list path j in_tail) in
        let here : passes h ≡ true = before h (Contains-head h h path refl) less in
        let rest = tail-head (suc h) path j up.1 in_tail f (λ i ci. before i (Contains-tail h i path ci)) in
        (rest.0, rw here rest.1))
  ]

-- ---- all paths, thread by thread

module _ (passes : ℕ → ℕ → Bool) where
  -- The fronts of paths, of which the first is thread t's.
  abbrev pub fronts : ℕ → List (List ℕ) → List (List ℕ)
  fronts t [] = []
  fronts t (path ∷ paths) = front (passes t) path ∷ fronts (suc t) paths

  -- The tails of paths, of which the first is thread t's.
  abbrev pub tails : ℕ → List (List ℕ) → List (List ℕ)
  tails t [] = []
  tails t (path ∷ paths) = tail (passes t) path ∷ tails (suc t) paths

  -- The number of fronts is that of paths.
  pub length-fronts : (t : ℕ) (paths : List (List ℕ)) → length (fronts t paths) ≡ length paths
  length-fronts t [] = refl
  length-fronts t (path ∷ paths) = ap suc (length-fronts (suc t) paths)

  -- The empty list of paths.
  abbrev no_paths : List (List ℕ)
  no_paths = []

  -- The empty list of paths has the empty path for each thread.
  no_paths-if_empty : (k : ℕ) → thread_code no_paths k ≡ []
  no_paths-if_empty k = get_or_past no_paths k [] (omega arith)

  -- If the first path is thread t's, and u is `t + k`, the front at k is that of the path at k by the test of thread u.
  pub fronts-get : (t k u : ℕ) (paths : List (List ℕ))
      → u ≡ t + k
      → thread_code (fronts t paths) k ≡ front (passes u) (thread_code paths k)
  fronts-get t k u [] e = no_paths-if_empty k ∙ sym (ap (front (passes u)) (no_paths-if_empty k))
  fronts-get t zero u (path ∷ paths) e = let same : t ≡ u = omega (arith, e) in ap (λ n. front (passes n) path) same
  fronts-get t (suc k) u (path ∷ paths) e = fronts-get (suc t) k u paths (omega (arith, e))

  -- If the first path is thread t's, and u is `t + k`, the tail at k is that of the path at k by the test of thread u.
  pub tails-get : (t k u : ℕ) (paths : List (List ℕ))
      → u ≡ t + k
      → thread_code (tails t paths) k ≡ tail (passes u) (thread_code paths k)
  tails-get t k u [] e = no_paths-if_empty k ∙ sym (ap (tail (passes u)) (no_paths-if_empty k))
  tails-get t zero u (path ∷ paths) e = let same : t ≡ u = omega (arith, e) in ap (λ n. tail (passes n) path) same
  tails-get t (suc k) u (path ∷ paths) e = tails-get (suc t) k u paths (omega (arith, e))

  -- A thread's path is its front followed by its tail.
  pub fronts_append_tails : (t : ℕ) (paths : List (List ℕ))
      → thread_code paths t ≡ thread_code (fronts 0 paths) t ++ thread_code (tails 0 paths) t
  fronts_append_tails t paths =
      front_append_tail (passes t) (thread_code paths t)
      ∙ ap₂ (λ (a b : List ℕ). a ++ b) (sym (fronts-get 0 t t paths (omega arith))) (sym (tails-get 0 t t paths (omega arith)))

  -- A position in a front is on its path, and passes.
  pub Contains-of_fronts : (t j : ℕ) (paths : List (List ℕ))
      → Contains (thread_code (fronts 0 paths) t) j
      → Contains (thread_code paths t) j × (passes t j ≡ true)
  Contains-of_fronts t j paths on_path =
      Contains-of_front (passes t) (thread_code paths t) j
      (subst (λ (path : List ℕ). Contains path j) (fronts-get 0 t t paths (omega arith)) on_path)

  -- If every position before one that passes does so too, each of a thread's positions that pass is in its front.
  pub Contains-fronts : (t j : ℕ) (paths : List (List ℕ))
      → IsAscendingFrom 0 (thread_code paths t)
      → ((h k : ℕ)
      → Contains (thread_code paths t) h
      → Contains (thread_code paths t) k
      → h < k
      → passes t k ≡ true
      → passes t h ≡ true)
      → Contains (thread_code paths t) j
      → passes t j ≡ true
      → Contains (thread_code (fronts 0 paths) t) j
  Contains-fronts t j paths up down on_path p =
      subst (λ (path : List ℕ). Contains path j) (sym (fronts-get 0 t t paths (omega arith)))
      (Contains-front (passes t) 0 (thread_code paths t) j up down on_path p)

  -- The first position of a path that fails is the head of its tail.
  pub tails-head : (t j : ℕ) (paths : List (List ℕ))
      → IsAscendingFrom 0 (thread_code paths t)
      → Contains (thread_code paths t) j
      → passes t j ≡ false
      → ((h : ℕ) → Contains (thread_code paths t) h → h < j → passes t h ≡ true)
      → (more : List ℕ) × (thread_code (tails 0 paths) t ≡ j ∷ more)
  tails-head t j paths up on_path f before =
      let b = tail-head (passes t) 0 (thread_code paths t) j up on_path f before in
      (b.0, tails-get 0 t t paths (omega arith) ∙ b.1)
