-- A run of a source test, as lw_interleaving has it, is a run by interleaving, and back: its threads have no
-- zero flag, and no statement of the source language asks for one. So what is proved for both languages at
-- once holds of lw_interleaving's definitions.
use Rattle.lw_axiomatic.proofs.Common.{IsWellScopedSource, ◌≡◌, ◌↔◌, ℕ, ◌<◌, List, [], ◌∷◌, length, map, Some}
use Rattle.lw_axiomatic.proofs.Common.{Ok, refl, sym, ap, ap₂, ◌∙◌, subst, arith, slice_get, IsTrue, nat_le}
use Rattle.lw_axiomatic.proofs.Common.{leb-true, le-leb, length-set, option_map, slice_set, map-set}
use Rattle.lw_axiomatic.proofs.Common.{length-map, slice_get-map, slice_get_within, slice_get-get_or}
use Rattle.lw_axiomatic.proofs.Common.{get_or_from_slice_get, slice_get-map_inv, list_all_zip-of_each}
use Rattle.lw_axiomatic.proofs.Common.{list_all_zip-at_index, FinalState, thread_code, Step, StepEffect}
use Rattle.lw_axiomatic.proofs.Common.{StepEffect-of_step, State, SourceRunsTo, SourceOutcome, initial_state}
use Rattle.lw_axiomatic.proofs.Common.{initial_thread, is_source_final, source_outcome, source_step}
use Rattle.lw_axiomatic.proofs.Common.{thread_step, state_after_step, thread_after, Thread, Stmt}
use Rattle.lw_axiomatic.proofs.Common.{source_language, source_operation, SourceTest, Interleaved, read_value}
use Rattle.lw_axiomatic.proofs.Common.{words_after, interleaved_after, IsStep, InterleavedRunsTo, IsEnd}
use Rattle.lw_axiomatic.proofs.Common.{start, InterleavingOutcome, ThreadState, first_state, state_after}
use Rattle.lw_interleaving.proofs.api.Commutation as source_steps
use Rattle.lw_interleaving.specs.Statements as statements
use Rattle.lw_litmus.specs.declared.stmt.Stmt.TheVariants as stmt

-- A thread without the zero flag, as lw_interleaving has it.
abbrev without_flag : ThreadState → Thread
without_flag th = record { position = th.position; regs = th.regs }

-- A state of a run by interleaving, its threads without zero flags.
abbrev without_flags : Interleaved → State
without_flags s = record { threads = map without_flag s.threads; words = s.words }

-- Without its zero flag, the thread after a statement is what the statement makes of the thread without one.
without_flag-state_after : (i : Stmt) (th : ThreadState) (m : List ℕ)
    → without_flag (state_after (source_operation i) th (read_value (source_operation i) m))
    ≡ thread_after (source_operation i) (without_flag th) m
without_flag-state_after (stmt.Store x v) th m = refl
without_flag-state_after (stmt.Load d x) th m = refl
without_flag-state_after (stmt.Swap d x a) th m = refl
without_flag-state_after (stmt.FetchAdd d x a) th m = refl
without_flag-state_after (stmt.Set d v) th m = refl
without_flag-state_after (stmt.Sum d a v) th m = refl
without_flag-state_after (stmt.IfEq a n to) th m = refl
without_flag-state_after (stmt.IfNe a n to) th m = refl
without_flag-state_after (stmt.Goto to) th m = refl

-- A statement leaves the same words in memory, whether or not threads have zero flags.
words_after-without_flag : (i : Stmt) (th : ThreadState) (m : List ℕ)
    → words_after (source_operation i) th.regs m ≡ statements.words_after (source_operation i) (without_flag th) m
words_after-without_flag i th m = refl

-- A step reaches the same state with zero flags and without.
without_flags-interleaved_after : (i : Stmt) (t : ℕ) (th : ThreadState) (s : Interleaved)
    → without_flags (interleaved_after t th (source_operation i) s)
    ≡ source_steps.state_after t (without_flag th) (source_operation i) (without_flags s)
without_flags-interleaved_after i t th s =
    ap₂ (λ threads words. record { threads = threads; words = words })
    (map-set without_flag s.threads t (state_after (source_operation i) th (read_value (source_operation i) s.words))
    ∙ ap (slice_set (map without_flag s.threads) t) (without_flag-state_after i th s.words))
    (words_after-without_flag i th s.words)

module _ (program : List (List Stmt)) where
  -- A step by interleaving is a step of the source's small-step semantics.
  source_step-IsStep : (t : ℕ) (s mid : Interleaved)
      → IsStep source_language program t s mid
      → source_step program t (without_flags s) ≡ Ok (without_flags mid)
  source_step-IsStep t s mid d =
      let thread_at : slice_get (map without_flag s.threads) t ≡ Some (without_flag d.thread) =
      slice_get-map without_flag s.threads t ∙ ap (option_map without_flag) d.thread_at in
      ap (thread_step program t (without_flags s)) thread_at
      ∙ (ap (state_after_step t (without_flag d.thread) (without_flags s)) d.statement_at
      ∙ ap Ok (sym (ap without_flags d.state_is ∙ without_flags-interleaved_after d.statement t d.thread s)))

  -- A step of the source's small-step semantics is a step by interleaving.
  IsStep-source_step : (t : ℕ) (s : Interleaved) (mid : State)
      → source_step program t (without_flags s) ≡ Ok mid
      → (next : Interleaved) × IsStep source_language program t s next × (without_flags next ≡ mid)
  IsStep-source_step t s mid e =
      let d : StepEffect program t (without_flags s) mid = StepEffect-of_step program t (without_flags s) mid e in
      let mapped = slice_get-map_inv without_flag s.threads t d.thread d.was in (
        interleaved_after t mapped.0 (source_operation d.stmt) s,
        record {
          thread = mapped.0;
          statement = d.stmt;
          thread_at = mapped.1;
          statement_at = ap (λ (th : Thread). slice_get (thread_code program t) th.position) (sym mapped.2) ∙ d.at;
          state_is = refl;
        },
        without_flags-interleaved_after d.stmt t mapped.0 s
            ∙ (ap (λ th. source_steps.state_after t th (source_operation d.stmt) (without_flags s)) (sym mapped.2)
            ∙ sym d.state_is),
      )

  -- A run by interleaving is a run of the source's small-step semantics.
  SourceRunsTo-InterleavedRunsTo : (order : List ℕ) (s end : Interleaved)
      → InterleavedRunsTo source_language program order s end
      → SourceRunsTo program (map Step order) (without_flags s) (without_flags end)
  SourceRunsTo-InterleavedRunsTo [] s end ran = ap without_flags ran
  SourceRunsTo-InterleavedRunsTo (t ∷ order) s end (mid, step, ran) =
      (without_flags mid, source_step-IsStep t s mid step, SourceRunsTo-InterleavedRunsTo order mid end ran)

  -- A run of the source's small-step semantics is a run by interleaving.
  InterleavedRunsTo-SourceRunsTo : (order : List ℕ) (s : Interleaved) (end : State)
      → SourceRunsTo program (map Step order) (without_flags s) end
      → (last : Interleaved) × InterleavedRunsTo source_language program order s last × (without_flags last ≡ end)
  InterleavedRunsTo-SourceRunsTo [] s end ran = (s, refl, sym ran)
  InterleavedRunsTo-SourceRunsTo (t ∷ order) s end (mid, step, ran) =
      let one = IsStep-source_step t s mid step in
      let rest =
      InterleavedRunsTo-SourceRunsTo order one.0 end (subst (λ z. SourceRunsTo program (map Step order) z end) (sym one.2) ran) in
      (rest.0, (one.0, one.1, rest.1), rest.2)

  -- A run preserves the number of threads.
  thread_count_unchanged : (order : List ℕ) (s end : Interleaved)
      → InterleavedRunsTo source_language program order s end
      → length end.threads ≡ length s.threads
  thread_count_unchanged [] s end ran = ap (λ (z : Interleaved). length z.threads) ran
  thread_count_unchanged (t ∷ order) s end (mid, d, ran) =
      thread_count_unchanged order mid end ran
      ∙ (ap (λ (z : Interleaved). length z.threads) d.state_is ∙ length-set s.threads t _)

  -- A state at the end of a run by interleaving is final in the source's semantics.
  is_source_final-IsEnd : (s : Interleaved) → IsEnd source_language program s → IsTrue (is_source_final program (without_flags s))
  is_source_final-IsEnd s final =
      list_all_zip-of_each (λ p. nat_le (length p.0) p.1.position) program (map without_flag s.threads) (λ t code th at_t at.
      (let mapped = slice_get-map_inv without_flag s.threads t th at in
      let same : thread_code program t ≡ code = get_or_from_slice_get program t code [] at_t in
      le-leb (length code) th.position
      (omega (arith, final t mapped.0 mapped.1, ap length same, ap (λ (z : Thread). z.position) mapped.2))))

  -- A state that is final in the source's semantics is at the end of a run by interleaving.
  IsEnd-is_source_final : (s : Interleaved)
      → length s.threads ≡ length program
      → IsTrue (is_source_final program (without_flags s))
      → IsEnd source_language program s
  IsEnd-is_source_final s many final t th at =
      let in_range : t < length program = omega (arith, slice_get_within s.threads t th at, many) in
      leb-true (length (thread_code program t)) th.position
      (list_all_zip-at_index (λ p. nat_le (length p.0) p.1.position) program (map without_flag s.threads) t
      (thread_code program t) (without_flag th) final (slice_get-get_or program t [] in_range)
      (slice_get-map without_flag s.threads t ∙ ap (option_map without_flag) at))

-- Leaving out the zero flags leaves all registers unchanged.
regs-without_flag : (ths : List ThreadState)
    → map (λ (th : Thread). th.regs) (map without_flag ths) ≡ map (λ (th : ThreadState). th.regs) ths
regs-without_flag [] = refl
regs-without_flag (th ∷ ths) = ap (λ rows. th.regs ∷ rows) (regs-without_flag ths)

-- Threads without zero flags have the same start.
initial_thread-without_flag : (rows : List (List ℕ)) → map without_flag (map first_state rows) ≡ map initial_thread rows
initial_thread-without_flag [] = refl
initial_thread-without_flag (row ∷ rows) = ap (λ ths. initial_thread row ∷ ths) (initial_thread-without_flag rows)

-- The outcomes of a source test, as lw_interleaving defines them, are its outcomes by interleaving, as they are defined here.
pub SourceOutcome-iff_InterleavingOutcome : (test : SourceTest) (o : FinalState)
    → IsWellScopedSource test
    → SourceOutcome test o ↔ InterleavingOutcome source_language test o
SourceOutcome-iff_InterleavingOutcome test o well_scoped = (
  λ run.
      (let last =
      InterleavedRunsTo-SourceRunsTo test.threads run.0 (start source_language test) run.1.end
      (subst (λ z. SourceRunsTo test.threads (map Step run.0) z run.1.end) (sym without_flags-start) run.1.ran) in
      let many : length last.0.threads ≡ length test.threads =
      thread_count_unchanged test.threads run.0 (start source_language test) last.0 last.1
      ∙ (length-map test.head.init_regs first_state ∙ (well_scoped.head.regs ∙ sym well_scoped.as_many)) in (
        run.0,
        record {
          end = last.0;
          ran = last.1;
          final =
              IsEnd-is_source_final test.threads last.0 many
              (subst (λ z. IsTrue (is_source_final test.threads z)) (sym last.2) run.1.final);
          outcome_is = run.1.outcome_is ∙ (ap source_outcome (sym last.2) ∙ source_outcome-without_flags last.0);
        },
      )),
  λ run. (
    run.0,
    record {
      end = without_flags run.1.end;
      ran =
          subst (λ z. SourceRunsTo test.threads (map Step run.0) z (without_flags run.1.end)) without_flags-start
          (SourceRunsTo-InterleavedRunsTo test.threads run.0 (start source_language test) run.1.end run.1.ran);
      final = is_source_final-IsEnd test.threads run.1.end run.1.final;
      outcome_is = run.1.outcome_is ∙ sym (source_outcome-without_flags run.1.end);
    },
  ),
)
  where
    -- Both semantics start in the same state.
    without_flags-start : without_flags (start source_language test) ≡ initial_state test
    without_flags-start =
        ap (λ ths. record { threads = ths; words = test.head.init_words }) (initial_thread-without_flag test.head.init_regs)

    -- Both semantics have the same outcome at a state.
    source_outcome-without_flags : (s : Interleaved)
        → source_outcome (without_flags s) ≡ record { regs = map (λ (th : ThreadState). th.regs) s.threads; words = s.words }
    source_outcome-without_flags s = ap (λ rows. record { regs = rows; words = s.words }) (regs-without_flag s.threads)
