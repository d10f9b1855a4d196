-- A sequentially consistent execution is a run by interleaving, in either language: its paths are walked to
-- their ends. The direction from sequential consistency to interleaving; the walk itself is in Walks.
use Rattle.lw_axiomatic.proofs.Common.{IsWellScoped, ◌≡◌, ℕ, inl, inr, List, [], ◌∷◌, ◌++◌, length, map, Some}
use Rattle.lw_axiomatic.proofs.Common.{refl, sym, ap, ap₂, ◌∙◌, subst, arith, slice_get, Contains, ext_get_or}
use Rattle.lw_axiomatic.proofs.Common.{append-nil, slice_index, slice_index_or, option_map, get_or_past}
use Rattle.lw_axiomatic.proofs.Common.{length-map, get_or_from_slice_get, slice_get-map, slice_get-in_range}
use Rattle.lw_axiomatic.proofs.Common.{FinalState, thread_code, Contains-head, Language, Test, ThreadExecutes}
use Rattle.lw_axiomatic.proofs.Common.{IsLast, IsCandidate, MemoryEvent, Execution, Interleaved, IsEnd, start}
use Rattle.lw_axiomatic.proofs.Common.{InterleavingOutcome, IsSequentiallyConsistent, ThreadState}
use Rattle.lw_axiomatic.proofs.EventLists.{event}
use Rattle.lw_axiomatic.proofs.FromInterleaving.{outcome_of}
use Rattle.lw_axiomatic.proofs.Walks.{AreFronts, IsAt, LastDone, CompleteWalk, CompleteWalk-from_start}
use Rattle.lw_axiomatic.proofs.Walks.{InterleavedRunsTo-RanBy}

-- The tails of the paths that are walked to their ends: none.
abbrev no_tails : List (List ℕ)
no_tails = []

-- If paths are walked to their ends, a thread's tail is empty.
no_tail : (t : ℕ) → thread_code no_tails t ≡ []
no_tail t = get_or_past no_tails t [] (omega arith)

module _ {S : Type 0} {language : Language S} {test : Test S} (well_scoped : IsWellScoped language test) {x : Execution}
    {o : FinalState} (candidate : IsCandidate language test x o) (sequential : IsSequentiallyConsistent language test x) where
  -- The whole paths can be walked: nothing in front depends on what follows.
  AreFronts-whole_paths : AreFronts language test x sequential.rank x.paths no_tails
  AreFronts-whole_paths = record {
    path_count = candidate.as_many;
    parted = λ t. sym (append-nil (thread_code x.paths t)) ∙ ap (λ path. thread_code x.paths t ++ path) (sym (no_tail t));
    increases = λ a b ia ib r. sequential.increases a b r;
    closed = λ w r there rf. rf.write.is_event;
  }

  -- The walk of the whole paths has come to this state.
  abbrev IsHere : List (List ℕ) → Interleaved → Type 0
  IsHere = IsAt well_scoped candidate AreFronts-whole_paths

  -- ---- at the end

  module _ (rest : List (List ℕ)) (s : Interleaved) (at_state : IsHere rest s)
      (none : (e : MemoryEvent) → Contains (thread_code rest e.thread) e.position → ⊥) where
    -- At the end of the walk no path has a position ahead.
    no_path_left : (t : ℕ) (path : List ℕ) → thread_code rest t ≡ path → path ≡ []
    no_path_left t [] same = refl
    no_path_left t (h ∷ more) same =
        absurd (none (event t h) (subst (λ (path : List ℕ). Contains path h) (sym same) (Contains-head h h more refl)))

    -- At the end of the walk each thread is at its end, with the outcome's registers.
    thread_at_end : (t : ℕ) (th : ThreadState)
        → slice_get s.threads t ≡ Some th
        → (th.position ≡ length (thread_code test.threads t)) × (slice_index_or o.regs t [] ≡ th.regs)
    thread_at_end t th thread_at =
        let now = at_state.threads t th thread_at in
        let executes : ThreadExecutes language x t (thread_code test.threads t) [] th now.end =
        subst (λ (path : List ℕ). ThreadExecutes language x t (thread_code test.threads t) path th now.end)
        (ap₂ (λ (p q : List ℕ). p ++ q) (no_path_left t (thread_code rest t) refl) (no_tail t)) now.executes in
        (executes.0, now.regs_are ∙ ap (λ (z : ThreadState). z.regs) executes.1)

    -- The state at the end of the walk is final.
    IsEnd-of_walk : IsEnd language test.threads s
    IsEnd-of_walk t th at = omega (arith, (thread_at_end t th at).0)

    -- A thread's registers are in the list of registers.
    regs_got : (t : ℕ) (th : ThreadState)
        → slice_get s.threads t ≡ Some th
        → slice_get (map (λ (z : ThreadState). z.regs) s.threads) t ≡ Some th.regs
    regs_got t th thread_at = slice_get-map _ s.threads t ∙ ap (option_map (λ (z : ThreadState). z.regs)) thread_at

    -- The registers at the end of the walk are those of the outcome.
    regs_of_outcome : o.regs ≡ map (λ (z : ThreadState). z.regs) s.threads
    regs_of_outcome =
        ext_get_or [] o.regs (map (λ (z : ThreadState). z.regs) s.threads)
        (candidate.of_test.regs_of ∙ (sym at_state.good.thread_count ∙ sym (length-map s.threads (λ (z : ThreadState). z.regs))))
        (λ t l.
        (let found = slice_get-in_range s.threads t (omega (arith, l, candidate.of_test.regs_of, at_state.good.thread_count)) in
        (thread_at_end t found.0 found.1).1
        ∙ sym (get_or_from_slice_get (map (λ (z : ThreadState). z.regs) s.threads) t found.0.regs []
        (regs_got t found.0 found.1))))

    -- The last word that was done is the execution's last word.
    last_word-unique : (l v w : ℕ)
        → IsLast language test x l v
        → LastDone well_scoped candidate AreFronts-whole_paths rest l w
        → v ≡ w
    last_word-unique l v w (inl (never, a)) (inl (none_done, b)) = a ∙ sym b
    last_word-unique l v w (inl (never, a)) (inr (f, writing, done, most, b)) = absurd (never f writing)
    last_word-unique l v w (inr (e, writing, most, a)) (inl (never, b)) = absurd (never e writing (writing.is_event, none e))
    last_word-unique l v w (inr (e, we, most, a)) (inr (f, wf, done, last, b)) =
        a ∙ (ap x.written (candidate.co e f l we wf (omega (arith, most f wf, last e we (we.is_event, none e)))) ∙ sym b)

    -- The words at the end of the walk are those of the outcome.
    words_of_outcome : o.words ≡ s.words
    words_of_outcome = ext_get_or 0 o.words s.words (candidate.of_test.words_of ∙ sym at_state.good.size) (λ l lt.
        last_word-unique l (slice_index o.words l) (slice_index s.words l)
        (candidate.words l (omega (arith, lt, candidate.of_test.words_of))) (at_state.memory l))

    -- The outcome at the end of the walk is the execution's.
    outcome_of_walk : o ≡ outcome_of well_scoped s
    outcome_of_walk = ap₂ (λ r w. record { regs = r; words = w }) regs_of_outcome words_of_outcome

  -- The outcome of a sequentially consistent execution is one of a run by interleaving.
  pub InterleavingOutcome-IsScOutcome : InterleavingOutcome language test o
  InterleavingOutcome-IsScOutcome =
      let w : CompleteWalk well_scoped candidate AreFronts-whole_paths x.paths (start language test) =
      CompleteWalk-from_start well_scoped candidate AreFronts-whole_paths in (
        map (λ (e : MemoryEvent). e.thread) w.events,
        record {
          end = w.end;
          ran = InterleavedRunsTo-RanBy well_scoped candidate AreFronts-whole_paths w.events (start language test) w.end w.ran;
          final = IsEnd-of_walk w.left w.end w.end_is_at w.none_ahead;
          outcome_is = outcome_of_walk w.left w.end w.end_is_at w.none_ahead;
        },
      )
