-- From source to machine: the schedule of a source run replays on the compiled program, to the same outcome. One direction of the
-- compiler's theorem; MachineToSource has the other.
use Rattle.lw_fence.proofs.Common.{IsWellScopedSource, ◌≡◌, ℕ, ◌+◌, ◌-◌, ◌<◌, ◌≤◌, ◌==◌, List, [], ◌∷◌, ◌++◌}
use Rattle.lw_fence.proofs.Common.{length, map, Some, Bool, true, false, refl, sym, ap, ◌∙◌, subst, subst₂}
use Rattle.lw_fence.proofs.Common.{arith, IsTrue, slice_get, slice_set, slice_index, le-leb, leb-true}
use Rattle.lw_fence.proofs.Common.{and_from, slice_get_within, get_or_from_slice_get, FinalState, thread_code}
use Rattle.lw_fence.proofs.Common.{Event, Step, slice_get-in_range, list_all_zip-of_each}
use Rattle.lw_fence.proofs.Common.{list_all_zip-at_index, flat_memory, Stmt, Instr, source_operation}
use Rattle.lw_fence.proofs.Common.{SourceTest, X86Test, Thread, thread_after, words_after, State}
use Rattle.lw_fence.proofs.Common.{SourceRunsTo, InterleavesTo, initial_state, StepEffect, StepEffect-of_step}
use Rattle.lw_fence.proofs.Common.{Processor, MachineState, MachineRunsTo, ReplaysTo, has_terminated}
use Rattle.lw_fence.proofs.Common.{is_final, state, lowered, instrs_of, IsCompiled, statement_events}
use Rattle.lw_fence.proofs.Common.{thread_events, after_step, compiled_schedule}
use Rattle.lw_interleaving.specs.Runs.{is_source_final as is_over}
use Rattle.lw_fence.proofs.Beside.{ThreadsCorrespond, ThreadsCorrespond-thread, ThreadsCorrespond-processor}
use Rattle.lw_fence.proofs.Beside.{ThreadsCorrespond-set, ThreadsCorrespond-outcome, ThreadsCorrespond-start}
use Rattle.lw_fence.proofs.Beside.{compiled_start, initial_machine_state-compiled}
use Rattle.lw_fence.proofs.Moves.{MachineRunsTo-append}
use Rattle.lw_fence.proofs.CodeLayout.{HasLowering, LaidOut, LaidOut-compiled}
use Rattle.lw_fence.proofs.Statements.{processor_at_statement, events_for, StatementTurn-of_statement}
use Rattle.lw_fence.proofs.Steps.{IsThreadInBounds, IsAllowedStatement-in_source, IsThreadInBounds-step}

module _ (source : SourceTest) (program : X86Test) (starts : List (List ℕ)) (well_scoped : IsWellScopedSource source)
    (laid : LaidOut source program starts) where
  -- The processor is where the thread is, with an empty buffer.
  abbrev IsAtStartOfStatement : ℕ → Thread → Processor → Type 0
  IsAtStartOfStatement t th c =
      (z : Bool)
      × IsThreadInBounds (thread_code source.threads t) th
      × (c ≡ processor_at_statement (slice_index (thread_code starts t) th.position) th z)

  -- Each thread of the source is at the start of a statement, beside its processor, over the machine's memory.
  abbrev InStep : State → MachineState (List ℕ) → Type 0
  InStep ss ms = ThreadsCorrespond source IsAtStartOfStatement ss ms

  -- These events lead the machine to a state that is in step with the source's state `after`.
  record MachineFollowsBy (es : List Event) (ms : MachineState (List ℕ)) (after : State) : Type 0 where
    end : MachineState (List ℕ)
    ran : MachineRunsTo flat_memory program.threads es ms end
    in_step : InStep after end

  -- The events of a thread's turn are those of the lowering of its statement.
  thread_events-of_statement : (t : ℕ) (ss : State) (th : Thread) (x : Stmt)
      (st : HasLowering (thread_code program.threads t) (thread_code starts t) th.position x)
      → slice_get ss.threads t ≡ Some th
      → slice_get (thread_code source.threads t) th.position ≡ Some x
      → thread_events source.threads starts t (slice_get ss.threads t)
      ≡ events_for t (length (instrs_of (lowered (thread_code starts t) st.fence x))) x
  thread_events-of_statement t ss th x st thread_at found_at =
      let begins = thread_code starts t in
      let n : slice_index begins (th.position + 1) - slice_index begins th.position
      ≡ length (instrs_of (lowered begins st.fence x)) = omega (arith, st.next) in
      ap (thread_events source.threads starts t) thread_at
      ∙ ap (statement_events t begins th.position) found_at
      ∙ ap (λ k. events_for t k x) n

  -- If the two states are in step, the machine follows a step of thread t by the events of its turn.
  MachineFollowsBy-step : (t : ℕ) (ss mid : State) (ms : MachineState (List ℕ))
      → InStep ss ms
      → StepEffect source.threads t ss mid
      → MachineFollowsBy (thread_events source.threads starts t (slice_get ss.threads t)) ms mid
  MachineFollowsBy-step t ss mid ms i st =
      let in_range : t < length source.threads = omega (arith, slice_get_within ss.threads t st.thread st.was, i.as_many) in
      let c = ThreadsCorrespond-processor source IsAtStartOfStatement ss ms i t in_range in
      let z = i.at t st.thread c.0 st.was c.1 in
      let stands = (laid.at t in_range).at st.thread.position st.stmt st.at in
      let allowed = IsAllowedStatement-in_source source well_scoped t st.thread.position st.stmt st.at in
      let turned =
      StatementTurn-of_statement program.threads t (thread_code starts t) st.thread z.0 ss.words st.stmt allowed
      z.1.register_count stands in
      let next = thread_after (source_operation st.stmt) st.thread ss.words in
      let q = processor_at_statement (slice_index (thread_code starts t) next.position) next turned.flag in
      let end = state (slice_set ms.processors t q) (words_after (source_operation st.stmt) st.thread ss.words) in
      record {
        end = end;
        ran =
            subst₂ (λ es w. MachineRunsTo flat_memory program.threads es (state ms.processors w) end)
            (sym (thread_events-of_statement t ss st.thread st.stmt stands st.was st.at)) (sym i.words)
            (turned.moves.on ms.processors (c.1 ∙ ap Some z.2));
        in_step =
            subst (λ a. InStep a end) (sym st.state_is)
            (ThreadsCorrespond-set source IsAtStartOfStatement ss ms i t st.thread next c.0 q _ st.was c.1
            (turned.flag, (IsThreadInBounds-step st.thread ss.words st.stmt allowed st.at z.1), refl));
      }

  -- If the two states are in step, the machine follows a run of the source by the compiled schedule.
  MachineFollowsBy-run : (order : List ℕ) {ss : State} (after : State) (ms : MachineState (List ℕ))
      → InStep ss ms
      → SourceRunsTo source.threads (map Step order) ss after
      → MachineFollowsBy (compiled_schedule source.threads starts order ss) ms after
  MachineFollowsBy-run [] after ms i r = record { end = ms; ran = refl; in_step = subst (λ a. InStep a ms) (sym r) i }
  MachineFollowsBy-run (t ∷ order) {ss = ss} after ms i r =
      let now = thread_events source.threads starts t (slice_get ss.threads t) in
      let a = MachineFollowsBy-step t ss r.0 ms i (StepEffect-of_step source.threads t ss r.0 r.1) in
      let b = MachineFollowsBy-run order after a.end a.in_step r.2 in
      record {
        end = b.end;
        ran =
            subst (λ o.
            MachineRunsTo flat_memory program.threads (now ++ after_step o (compiled_schedule source.threads starts order)) ms
            b.end) (sym r.1) (MachineRunsTo-append flat_memory program.threads now _ ms a.end b.end a.ran b.ran);
        in_step = b.in_step;
      }

  -- The initial states of the source and of the machine are in step.
  InStep-start : InStep (initial_state source) (compiled_start source)
  InStep-start = ThreadsCorrespond-start source IsAtStartOfStatement well_scoped (λ t regs lt six.
      let begin = (laid.at t lt).first in (
        false,
        record { register_count = six; position_in_range = omega arith },
        ap (λ (k : ℕ). record { position = k; regs = regs; zero_flag = false; buffer = [] }) (sym begin),
      ))

  -- If the source has ended, so has the machine that is in step with it.
  is_final-if_over : (ss : State) (ms : MachineState (List ℕ))
      → InStep ss ms
      → IsTrue (is_over source.threads ss)
      → IsTrue (is_final program.threads ms)
  is_final-if_over ss ms i over = list_all_zip-of_each _ program.threads ms.processors each_terminated
    where
      -- Each processor is at its end, with an empty buffer.
      each_terminated : (t : ℕ) (instrs : List Instr) (c : Processor)
          → slice_get program.threads t ≡ Some instrs
          → slice_get ms.processors t ≡ Some c
          → has_terminated instrs c ≡ true
      each_terminated t instrs c thread_at processor_at =
          let in_range : t < length source.threads =
          omega (arith, slice_get_within program.threads t instrs thread_at, laid.as_many) in
          let th = ThreadsCorrespond-thread source IsAtStartOfStatement ss ms i t in_range in
          let code = slice_get-in_range source.threads t in_range in
          let z = i.at t th.0 c th.1 processor_at in
          let done = list_all_zip-at_index _ source.threads ss.threads t code.0 th.0 over code.1 th.1 in
          let past : length code.0 ≤ th.0.position = leb-true (length code.0) th.0.position done in
          let here : th.0.position ≡ length (thread_code source.threads t) =
          omega (arith, past, ap length (get_or_from_slice_get source.threads t code.0 [] code.1), z.1.position_in_range) in
          let at : c.position ≡ length instrs =
          ap (λ (x : Processor). x.position) z.2
          ∙ ap (slice_index (thread_code starts t)) here
          ∙ (laid.at t in_range).last
          ∙ ap length (get_or_from_slice_get program.threads t instrs [] thread_at) in
          and_from _ _ (le-leb _ c.position (omega (arith, at))) (ap (λ x. length x.buffer == 0) z.2)

-- The schedule of a source run reaches the run's outcome, with any fences.
pub ReplaysTo-laid_out : (s : SourceTest) (p : X86Test) (starts : List (List ℕ)) (order : List ℕ) {o : FinalState}
    → IsWellScopedSource s
    → LaidOut s p starts
    → InterleavesTo s order o
    → ReplaysTo flat_memory p p.head.init_words (compiled_schedule s.threads starts order (initial_state s)) o
ReplaysTo-laid_out s p starts order well_scoped laid run =
    let f =
    MachineFollowsBy-run s p starts well_scoped laid order run.end (compiled_start s) (InStep-start s p starts well_scoped laid)
    run.ran in
    record {
      end = f.end;
      ran =
          subst (λ b. MachineRunsTo flat_memory p.threads (compiled_schedule s.threads starts order (initial_state s)) b f.end)
          (sym (initial_machine_state-compiled s p laid.head)) f.ran;
      final = is_final-if_over s p starts well_scoped laid run.end f.end f.in_step run.final;
      outcome_is =
          run.outcome_is
          ∙ ThreadsCorrespond-outcome s (IsAtStartOfStatement s p starts well_scoped laid) run.end f.end f.in_step
          (λ t th c e g. sym (ap (λ (x : Processor). x.regs) (f.in_step.at t th c e g).2));
    }

-- The schedule that is made of a source run replays on the compiled program, to that run's outcome.
pub schedule_replays : {s : SourceTest} (p : X86Test) {starts : List (List ℕ)} (order : List ℕ) (o : FinalState)
    → IsWellScopedSource s
    → IsCompiled s p starts
    → InterleavesTo s order o
    → ReplaysTo flat_memory p p.head.init_words (compiled_schedule s.threads starts order (initial_state s)) o
schedule_replays {s = s} p {starts = starts} order o well_scoped compiled run =
    ReplaysTo-laid_out s p starts order well_scoped (LaidOut-compiled s p starts compiled) run
