-- The path assignments in the order in which they are visited: which remain after a path has been followed up
-- to a position. One lemma for each case of `visit_from`, which is recursive as the definition is.
use Rattle.lw_paths.proofs.Common.{◌≡◌, ℕ, zero, suc, ◌+◌, ◌-◌, ◌<◌, ◌≤◌, ◌==◌, true, false, List, [], ◌∷◌}
use Rattle.lw_paths.proofs.Common.{◌++◌, map, length, drop, Option, Some, None, refl, sym, ap, ◌∙◌, subst}
use Rattle.lw_paths.proofs.Common.{inl, inr, slice_get, arith, append_assoc, append-nil, length-append}
use Rattle.lw_paths.proofs.Common.{drop-cons, get_or, Contains, eqb-true, flat_map, Result, Ok, Err, OnOk}
use Rattle.lw_paths.proofs.Common.{IfErr, flat_map-map, map-map, slice_get_within, slice_get_read}
use Rattle.lw_paths.proofs.Common.{get_or_from_slice_get, thread_code, Language, JumpsForward, paths_through}
use Rattle.lw_paths.proofs.Common.{paths_from, paths_of, path_assignments, successors, VisitsAll, VisitFails}
use Rattle.lw_paths.proofs.Common.{CanExtendPath, paths_at, assignments_along, VisitResult, drop-past_end}
use Rattle.lw_paths.proofs.api.Successors.{successors-in_range}
use Rattle.lw_paths.proofs.FlatMaps.{flat_map-same, flat_map-of_flat_map, map-flat_map}

-- ---- visits of path assignments in sequence
module _ {V E : Type 0} (R : V → List (List ℕ) → V → Type 0) (F : V → List (List ℕ) → E → Type 0) where
  -- If the first path assignments cs are visited, a visit of ds from there has the result of a visit of cs and then ds.
  VisitResult-append : (cs ds : List (List (List ℕ))) (v m w : V) (r : Result (Unit {0}) E)
      → VisitsAll R cs v m
      → VisitResult R F ds m r w
      → VisitResult R F (cs ++ ds) v r w
  VisitResult-append [] ds v m w r a d = subst (λ x. VisitResult R F ds x r w) a d
  VisitResult-append (c ∷ cs) ds v m w (Ok u) (n, one, a) d = (n, one, VisitResult-append cs ds n m w (Ok u) a d)
  VisitResult-append (c ∷ cs) ds v m w (Err e) (n, one, a) d = inr (n, one, VisitResult-append cs ds n m w (Err e) a d)

  -- If a visit of cs fails with a cause, so does a visit of cs and then ds.
  VisitFails-append : (cs ds : List (List (List ℕ))) (v : V) (e : E) → VisitFails R F cs v e → VisitFails R F (cs ++ ds) v e
  VisitFails-append [] ds v e r = absurd r
  VisitFails-append (c ∷ cs) ds v e (inl h) = inl h
  VisitFails-append (c ∷ cs) ds v e (inr (m, one, h)) = inr (m, one, VisitFails-append cs ds m e h)

  -- If a visit of path assignments succeeds, each of them was visited.
  pub VisitsAll-if_ok : (cs : List (List (List ℕ))) (v w : V) (r : Result (Unit {0}) E)
      → VisitResult R F cs v r w
      → OnOk r (VisitsAll R cs v w)
  VisitsAll-if_ok cs v w (Ok u) d = d
  VisitsAll-if_ok cs v w (Err e) d = tt

  -- If a visit of path assignments fails with a cause, the visit of one of them failed with it.
  pub VisitFails-if_err : (cs : List (List (List ℕ))) (v w : V) (r : Result (Unit {0}) E)
      → VisitResult R F cs v r w
      → IfErr r (VisitFails R F cs v)
  VisitFails-if_err cs v w (Ok u) d = tt
  VisitFails-if_err cs v w (Err e) d = d

  -- If the visit of one path assignment reaches w, or fails for a true cause, this is the result of visiting the list of just
  -- this one.
  VisitResult-one : (c : List (List ℕ)) (v w : V) (r : Result (Unit {0}) E)
      → OnOk r (R v c w)
      → IfErr r (F v c)
      → VisitResult R F (c ∷ []) v r w
  VisitResult-one c v w (Ok u) ok err = (w, ok, refl)
  VisitResult-one c v w (Err e) ok err = inl err

module _ {S : Type 0} (language : Language S) where
  module _ (code : List S) (forward : JumpsForward language code) where
    -- If f and g agree on all later positions of the code, the paths through the statement at j are the same by f and by g.
    paths_through-same : (f g : ℕ → List (List ℕ)) (j : ℕ)
        → ((k : ℕ) → j < k → k ≤ length code → f k ≡ g k)
        → paths_through language f (slice_get code j) j ≡ paths_through language g (slice_get code j) j
    paths_through-same f g j h = same-at_statement (slice_get code j) refl
      where
        -- By the statement at the position: its successors are later.
        same-at_statement : (o : Option S) → slice_get code j ≡ o → paths_through language f o j ≡ paths_through language g o j
        same-at_statement None e = refl
        same-at_statement (Some s) e = ap (map (λ p. j ∷ p)) (flat_map-same f g (successors language s j)
            (λ k c. (let (up, within) = successors-in_range language code j k s forward e c in h k up within)))

    -- If n and m are both enough steps to reach the end of the code, the paths from j with either bound are the same.
    paths_from-any_bound : (n m j : ℕ)
        → length code ≤ j + n
        → length code ≤ j + m
        → paths_from language n code j ≡ paths_from language m code j
    paths_from-any_bound zero zero j a b = refl
    paths_from-any_bound zero (suc m) j a b =
        paths_through-same (λ k. []) (λ k. paths_from language m code k) j (λ k l h. absurd (omega arith))
    paths_from-any_bound (suc n) zero j a b =
        paths_through-same (λ k. paths_from language n code k) (λ k. []) j (λ k l h. absurd (omega arith))
    paths_from-any_bound (suc n) (suc m) j a b =
        paths_through-same (λ k. paths_from language n code k) (λ k. paths_from language m code k) j
        (λ k l h. paths_from-any_bound n m k (omega arith) (omega arith))

    -- If a code has the statement s at a position, the paths from there are this position, followed by the paths from the
    -- successors of s.
    paths-step : (at : ℕ) (s : S)
        → slice_get code at ≡ Some s
        → paths_at language code at ≡ map (λ p. at ∷ p) (flat_map (paths_at language code) (successors language s at))
    paths-step at s found_at =
        ap (λ n. paths_from language n code at)
        (let n : length code - at ≡ suc (length code - at - 1) = omega (arith, slice_get_within code at s found_at) in n)
        ∙ (paths_through-same (λ k. paths_from language (length code - at - 1) code k) (paths_at language code) at
        (λ k a b. paths_from-any_bound (length code - at - 1) (length code - k) k (omega arith) (omega arith))
        ∙ ap (λ o. paths_through language (paths_at language code) o at) found_at)

  -- If a code has no statement at a position, exactly the empty path leads from there.
  paths-end : (code : List S) (n at : ℕ) → slice_get code at ≡ None → paths_from language n code at ≡ [] ∷ []
  paths-end code zero at is_none = ap (λ o. paths_through language (λ k. []) o at) is_none
  paths-end code (suc n) at is_none = ap (λ o. paths_through language (λ k. paths_from language n code k) o at) is_none

  -- If a program has threads, the path assignments that remain at the first position of its first thread are all of them.
  pub assignments_along-start : (program : List (List S)) (assignment : List (List ℕ)) (path : List ℕ)
      → false ≡ (length program == 0)
      → assignment ≡ []
      → path ≡ []
      → assignments_along language program assignment path 0 ≡ path_assignments language program
  assignments_along-start [] assignment path some no_assignment no_path = absurd cc
  assignments_along-start (code ∷ program) assignment path some no_assignment no_path =
      rw (no_assignment, no_path)
      (ap (λ n. flat_map (λ p. map (λ paths. p ∷ paths) (path_assignments language program)) (paths_from language n code 0))
      (omega arith))

  -- If a program has no threads, its only path assignment is the empty one.
  pub path_assignments-no_threads : (program : List (List S)) (assignment : List (List ℕ))
      → true ≡ (length program == 0)
      → assignment ≡ []
      → assignment ∷ [] ≡ path_assignments language program
  path_assignments-no_threads [] assignment none no_assignment = ap (λ c. c ∷ []) no_assignment
  path_assignments-no_threads (code ∷ program) assignment none no_assignment =
      absurd (omega (arith, eqb-true (length (code ∷ program)) 0 (sym none)))

module _ {S : Type 0} {language : Language S} {program : List (List S)} {assignment : List (List ℕ)} {path : List ℕ}
    {position : ℕ} (can : CanExtendPath language program assignment path position) where
  -- The code of the thread whose path is being extended.
  abbrev code_of_thread : List S
  code_of_thread = thread_code program (length assignment)

  -- Jumps of this code lead forward.
  own : JumpsForward language code_of_thread
  own = can.visitable.forward (length assignment) [] can.thread

  -- This code has at most 32 statements.
  own_short : length code_of_thread ≤ 32
  own_short = can.visitable.short (length assignment) [] can.thread

  -- If `code` was read for the thread whose path is being extended, and o is its statement at the position, then o is the
  -- statement there in the thread's code.
  pub statement_at_position : {code : List S} {n : ℕ} {o : Option S}
      → code ≡ get_or program n code
      → n ≡ length assignment
      → o ≡ slice_get code position
      → slice_get code_of_thread position ≡ o
  statement_at_position {code = code} {n = n} is len e =
      let found_at : slice_get program n ≡ Some code =
      slice_get_read program (length program) n code refl (omega (arith, len, can.thread)) is in
      rw (← len, get_or_from_slice_get program n code [] found_at) (sym e)

  -- If there is a statement at the position, the path has room for it: a thread has at most 32 statements.
  pub path_within_limits : {s : S} → slice_get code_of_thread position ≡ Some s → (position < 32) × (length path < 32)
  path_within_limits {s = s} found_at =
      let in_range : position < length code_of_thread = slice_get_within code_of_thread position s found_at in
      (omega (arith, in_range, own_short), omega (arith, in_range, own_short, can.begun))

  -- The path assignment with one more path has paths of one more thread.
  length_of_more : {more : List (List ℕ)} → more ≡ assignment ++ path ∷ [] → length more ≡ suc (length assignment)
  length_of_more grown = omega (arith, ap length grown, length-append assignment (path ∷ []))

  -- After a complete path the walk continues at the first position of the next thread.
  pub CanExtendPath-next_thread : {more : List (List ℕ)} {none : List ℕ}
      → more ≡ assignment ++ path ∷ []
      → none ≡ []
      → (length more ≡ length program → ⊥)
      → CanExtendPath language program more none 0 × (length more ≡ suc (length assignment))
  CanExtendPath-next_thread grown empty ne = (
    record {
      visitable = can.visitable;
      thread = omega (arith, can.thread, length_of_more grown, ne);
      begun = omega (arith, ap length empty);
      within = omega arith;
      within_room = omega arith;
    },
    length_of_more grown,
  )

  -- If k is a successor of the statement at the position, the path with this position can be extended at k, which is later in
  -- the code.
  pub CanExtendPath-successor : {s : S} {longer : List ℕ} (k : ℕ)
      → slice_get code_of_thread position ≡ Some s
      → longer ≡ path ++ position ∷ []
      → Contains (successors language s position) k
      → CanExtendPath language program assignment longer k × (position < k) × (k ≤ 32)
  CanExtendPath-successor {s = s} k found_at grown is_member =
      let (up, within) = successors-in_range language code_of_thread position k s own found_at is_member in (
        record {
          visitable = can.visitable;
          thread = can.thread;
          begun = omega (arith, can.begun, up, ap length grown, length-append path (position ∷ []));
          within = within;
          within_room = omega (arith, own_short, within);
        },
        up,
        omega (arith, own_short, within),
      )

  module _ {V E : Type 0} (R : V → List (List ℕ) → V → Type 0) (F : V → List (List ℕ) → E → Type 0) (v w : V) where
    -- At a statement the path assignments through its first successor come first, and then those through the second, if there is one.
    module _ {s : S} {longer : List ℕ} (e : slice_get code_of_thread position ≡ Some s) (grown : longer ≡ path ++ position ∷ [])
        (first : ℕ) where
      -- The path assignments from a statement on are those through its first successor, followed by those through the others.
      assignments_along-successors : (others : List ℕ)
          → (first ∷ others) ≡ successors language s position
          → assignments_along language program assignment path position
          ≡ assignments_along language program assignment longer first
          ++ flat_map (λ k. assignments_along language program assignment longer k) others
      assignments_along-successors others led_is =
          rw (paths-step language code_of_thread own position s e, ← led_is, grown)
          (simp (flat_map-map, flat_map-of_flat_map, append_assoc))

      -- If the statement has one successor, visiting all path assignments through it visits all from the statement on.
      pub VisitsAll-one_successor : (first ∷ []) ≡ successors language s position
          → VisitsAll R (assignments_along language program assignment longer first) v w
          → VisitsAll R (assignments_along language program assignment path position) v w
      VisitsAll-one_successor led_is a = rw (assignments_along-successors [] led_is, append-nil) a

      -- If the statement has two successors, and the path assignments through the first are visited, the visit of those through the second
      -- has the result of the whole visit.
      pub VisitResult-two_successors : (to : ℕ) (m : V) (r : Result (Unit {0}) E)
          → (first ∷ to ∷ []) ≡ successors language s position
          → VisitsAll R (assignments_along language program assignment longer first) v m
          → VisitResult R F (assignments_along language program assignment longer to) m r w
          → VisitResult R F (assignments_along language program assignment path position) v r w
      VisitResult-two_successors to m r led_is a d =
          subst (λ cs. VisitResult R F cs v r w)
          (sym (assignments_along-successors (to ∷ []) led_is
          ∙ ap (λ cs. assignments_along language program assignment longer first ++ cs)
          (append-nil (assignments_along language program assignment longer to))))
          (VisitResult-append R F (assignments_along language program assignment longer first)
          (assignments_along language program assignment longer to) v m w r a d)

      -- If a visit of the path assignments through the first successor fails, the whole visit does.
      pub VisitFails-first_successor : (others : List ℕ) (f : E)
          → (first ∷ others) ≡ successors language s position
          → VisitFails R F (assignments_along language program assignment longer first) v f
          → VisitFails R F (assignments_along language program assignment path position) v f
      VisitFails-first_successor others f led_is h =
          rw (assignments_along-successors others led_is)
          (VisitFails-append R F (assignments_along language program assignment longer first) _ v f h)

    -- At the end of the code the path is complete.
    assignments_along-end : slice_get code_of_thread position ≡ None
        → assignments_along language program assignment path position
        ≡ map (λ later. assignment ++ path ∷ later) (path_assignments language (drop (suc (length assignment)) program))
    assignments_along-end end =
        rw (paths-end language code_of_thread (length code_of_thread - position) position end) (simp append-nil)

    -- At the end of the last thread, the only path assignment is visited.
    pub VisitResult-last_thread : (more : List (List ℕ)) (r : Result (Unit {0}) E)
        → slice_get code_of_thread position ≡ None
        → more ≡ assignment ++ path ∷ []
        → length more ≡ length program
        → OnOk r (R v more w)
        → IfErr r (F v more)
        → VisitResult R F (assignments_along language program assignment path position) v r w
    VisitResult-last_thread more r end grown all ok err =
        let is : assignments_along language program assignment path position ≡ more ∷ [] =
        assignments_along-end end
        ∙ rw (drop-past_end program (suc (length assignment)) (omega (arith, length_of_more grown, all)), grown) refl in
        subst (λ cs. VisitResult R F cs v r w) (sym is) (VisitResult-one R F more v w r ok err)

    -- At the end of an earlier thread, the path assignments along the next thread are visited.
    pub VisitResult-next_thread : (more : List (List ℕ)) (none : List ℕ) (r : Result (Unit {0}) E)
        → slice_get code_of_thread position ≡ None
        → more ≡ assignment ++ path ∷ []
        → none ≡ []
        → (length more ≡ length program → ⊥)
        → VisitResult R F (assignments_along language program more none 0) v r w
        → VisitResult R F (assignments_along language program assignment path position) v r w
    VisitResult-next_thread more none r end grown empty ne d =
        let n = suc (length assignment) in
        let next : thread_code program n ∷ drop (suc n) program ≡ drop n program =
        sym (drop-cons program n [] (omega (arith, can.thread, length_of_more grown, ne))) in
        let whole : paths_at language (thread_code program n) 0 ≡ paths_of language (thread_code program n) =
        ap (λ k. paths_from language k (thread_code program n) 0) (omega arith) in
        subst (λ cs. VisitResult R F cs v r w)
        (sym (assignments_along-end end
        ∙ rw (← next, length_of_more grown, empty, whole, grown) (simp (map-flat_map, map-map, append_assoc)))) d
