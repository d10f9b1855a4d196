-- At the end of a run of the machine each thread of the source catches up, and is then at its end with the
-- registers of its processor. This is the last step of the direction from machine to source, after
-- `Simulation`.
use Rattle.lw_fence.proofs.Common.{IsWellScopedSource, ◌≡◌, ℕ, zero, suc, ◌<◌, ◌≤◌, ◌==◌, nat_le, List, []}
use Rattle.lw_fence.proofs.Common.{length, Some, true, refl, sym, ap, ◌∙◌, subst, ⊎_elim, arith, slice_get}
use Rattle.lw_fence.proofs.Common.{slice_set, slice_index, eqb-true, IsTrue, leb-true, le-leb, cases_lt}
use Rattle.lw_fence.proofs.Common.{and_parts, nil_from_length, slice_get_within, get_or_from_slice_get}
use Rattle.lw_fence.proofs.Common.{thread_code, OfFellows-set_both, slice_get-in_range, at_index}
use Rattle.lw_fence.proofs.Common.{set-get_same, Stmt, Thread, SourceTest, X86Test, State, InterleavesTo}
use Rattle.lw_fence.proofs.Common.{SourceOutcome, initial_state, state_of, Instr, Processor, MachineState}
use Rattle.lw_fence.proofs.Common.{has_terminated, is_final, MachineRunsTo, IsMachineOutcome, Lowered, One}
use Rattle.lw_fence.proofs.Common.{Two, lowered, instrs_of, IsCompiled, list_all_zip-at_index}
use Rattle.lw_fence.proofs.Common.{list_all_zip-of_each, state, FinalState, flat_memory}
use Rattle.lw_interleaving.specs.Runs.{initial_thread as thread_starting, is_source_final as is_over}
use Rattle.lw_fence.proofs.Simulation.{LagAt, SimulationRelation, SimulatedToEnd, SimulatedToEnd-followed}
use Rattle.lw_fence.proofs.Simulation.{SimulatedToEnd-trans, SimulatedToEnd-refl, SimulatedToEnd-run}
use Rattle.lw_fence.proofs.Beside.{ThreadsCorrespond-thread, ThreadsCorrespond-processor}
use Rattle.lw_fence.proofs.Beside.{ThreadsCorrespond-outcome, ThreadsCorrespond-start, compiled_start}
use Rattle.lw_fence.proofs.Beside.{initial_machine_state-compiled}
use Rattle.lw_fence.proofs.ThreadSimulation.{Stage, whole, midway}
use Rattle.lw_fence.proofs.PendingStores.{HasPendingStores, nothing, ThreadMoves-pending_statements}
use Rattle.lw_fence.proofs.CodeLayout.{IsFencedAsNeeded, ContainsAt, IsFencedAsNeeded-at}

-- If the code has a lowering, which is not empty, at k, then k is within the code.
position_in_range-of_lowering : (instrs : List Instr) (k : ℕ) (r : Lowered)
    → ContainsAt instrs k (instrs_of r)
    → k < length instrs
position_in_range-of_lowering instrs k (One i) has = slice_get_within instrs k i has.0
position_in_range-of_lowering instrs k (Two i j) has = slice_get_within instrs k i has.0

-- The thread is at its end, with the registers of its processor.
abbrev pub HasEnded : List Stmt → Thread → Processor → Type 0
HasEnded code th c = (length code ≤ th.position) × (th.regs ≡ c.regs)

-- If the processor is past its end, and at the stage of the thread v of a code fenced as needed, then v is at its end, with the
-- processor's registers.
HasEnded-of_stage : {code : List Stmt} (instrs : List Instr) (starts : List ℕ) (v : Thread) (c : Processor)
    → IsFencedAsNeeded code instrs starts
    → Stage code instrs starts v c
    → length instrs ≤ c.position
    → HasEnded code v c
HasEnded-of_stage {code = code} instrs starts v c placed (whole position regs) past =
    (⊎_elim past_end-if_ended (λ ge. ge) (cases_lt v.position (length code)), sym regs)
  where
    -- If v were before its end, a lowering that its processor has not passed would be ahead: so v is at its end.
    past_end-if_ended : v.position < length code → length code ≤ v.position
    past_end-if_ended in_range =
        let s = slice_get-in_range code v.position in_range in
        let stands = placed.laid.at v.position s.0 s.1 in
        absurd (omega (
          arith,
          position_in_range-of_lowering instrs (slice_index starts v.position) (lowered starts stands.fence s.0)
              stands.lowering_at_start,
          past,
          position,
        ))
HasEnded-of_stage instrs starts v c placed (midway s i at stands ends) past =
    absurd (omega (arith, slice_get_within instrs c.position i stands, past))

-- If a processor has terminated, it is at the end of its code, with an empty store buffer.
has_terminated-inv : (code : List Instr) (c : Processor)
    → has_terminated code c ≡ true
    → (length code ≤ c.position) × (c.buffer ≡ [])
has_terminated-inv code c done =
    let both = and_parts (nat_le (length code) c.position) (length c.buffer == 0) done in
    (leb-true (length code) c.position both.0, nil_from_length c.buffer (eqb-true (length c.buffer) 0 both.1))

module _ (source : SourceTest) (program : X86Test) (starts : List (List ℕ)) (compiled : IsCompiled source program starts)
    (ms : MachineState (List ℕ)) (final : IsTrue (is_final program.threads ms)) where
  -- The first n threads are at their ends, with their processors' registers.
  abbrev pub AreFirstOver : State → ℕ → Type 0
  AreFirstOver ss n =
      (t : ℕ) (th : Thread) (c : Processor)
      → slice_get ss.threads t ≡ Some th
      → slice_get ms.processors t ≡ Some c
      → t < n
      → HasEnded (thread_code source.threads t) th c

  -- Some steps of the source lead to a state whose first n threads are at their ends, with their processors' registers.
  pub record CaughtUp (ss : State) (n : ℕ) : Type 0 where
    pub end : State
    pub simulated_to_end : SimulatedToEnd source program starts ss end ms
    pub first_ended : AreFirstOver end n

  -- If the source lags behind the machine, which has ended, and its first n threads are at their ends, then after some steps
  -- its first n + 1 are.
  CaughtUp-one_thread : (n : ℕ) (ss : State) (th : Thread) (c : Processor)
      → SimulationRelation source program starts ss ms
      → AreFirstOver ss n
      → n < length source.threads
      → slice_get ss.threads n ≡ Some th
      → slice_get ms.processors n ≡ Some c
      → CaughtUp ss (suc n)
  CaughtUp-one_thread n ss th c b first_ended in_range was processor_at = record {
    end = state_of (slice_set ss.threads n lag_of_thread.ahead) ms.memory;
    simulated_to_end =
        SimulatedToEnd-followed source program starts n ss ms ms th c c ms.memory b was processor_at (record {
          now = lag_of_thread.ahead;
          moves =
              ThreadMoves-pending_statements source.threads n th lag_of_thread.ahead c.buffer ms.memory
              lag_of_thread.pending_stores processor_has_ended.1;
          simulated = lag_of_caught_up;
        }) (ap (λ l. state l ms.memory) (sym processors_same));
    first_ended = λ t x d e f.
        OfFellows-set_both (λ u y z. u < suc n → HasEnded (thread_code source.threads u) y z) ss.threads ms.processors n
        lag_of_thread.ahead c (record { left = was; right = processor_at })
        (λ u y z g h ne below. first_ended u y z g h (omega (arith, below, ne))) (λ below. thread_has_ended) t x d e
        (ap (λ l. slice_get l t) processors_same ∙ f);
  }
    where
      -- The processors stay as they are.
      processors_same : slice_set ms.processors n c ≡ ms.processors
      processors_same = set-get_same ms.processors n c processor_at

      -- How far the thread lags behind its processor.
      lag_of_thread : LagAt source program starts n th c
      lag_of_thread = b.at n th c was processor_at

      -- The processor is at its end, and its buffer is empty.
      processor_has_ended : (length (thread_code program.threads n) ≤ c.position) × (c.buffer ≡ [])
      processor_has_ended =
          has_terminated-inv (thread_code program.threads n) c
          (list_all_zip-at_index (λ x. has_terminated x.0 x.1) program.threads ms.processors n (thread_code program.threads n) c
          final (at_index program.threads n [] (omega (arith, in_range, compiled.as_many))) processor_at)

      -- The thread that has caught up lags by nothing.
      lag_of_caught_up : LagAt source program starts n lag_of_thread.ahead c
      lag_of_caught_up = record {
        ahead = lag_of_thread.ahead;
        pending_stores =
            subst (λ l. HasPendingStores (thread_code source.threads n) lag_of_thread.ahead l lag_of_thread.ahead)
            (sym processor_has_ended.1) nothing;
        stage = lag_of_thread.stage;
        in_bounds = lag_of_thread.in_bounds;
      }

      -- The thread that has caught up has ended.
      thread_has_ended : HasEnded (thread_code source.threads n) lag_of_thread.ahead c
      thread_has_ended =
          HasEnded-of_stage (thread_code program.threads n) (thread_code starts n) lag_of_thread.ahead c
          (IsFencedAsNeeded-at source program starts compiled n in_range) lag_of_thread.stage processor_has_ended.0

  -- If the source lags behind the machine, which has ended, then after some steps its first n threads are at their ends.
  pub CaughtUp-first_threads : (n : ℕ) (ss : State)
      → n ≤ length source.threads
      → SimulationRelation source program starts ss ms
      → CaughtUp ss n
  CaughtUp-first_threads zero ss le b = record {
    end = ss;
    simulated_to_end = SimulatedToEnd-refl source program starts b;
    first_ended = λ t th c e f lt. absurd (omega arith);
  }
  CaughtUp-first_threads (suc n) ss le b = CaughtUp-next (CaughtUp-first_threads n ss (omega arith) b)
    where
      -- If the first n threads can catch up, so can the first n + 1.
      CaughtUp-next : CaughtUp ss n → CaughtUp ss (suc n)
      CaughtUp-next d =
          let th = ThreadsCorrespond-thread source (LagAt source program starts) d.end ms d.simulated_to_end.related n le in
          let c = ThreadsCorrespond-processor source (LagAt source program starts) d.end ms d.simulated_to_end.related n le in
          let a = CaughtUp-one_thread n d.end th.0 c.0 d.simulated_to_end.related d.first_ended le th.1 c.1 in
          record {
            end = a.end;
            simulated_to_end = SimulatedToEnd-trans source program starts d.end a.end d.simulated_to_end a.simulated_to_end;
            first_ended = a.first_ended;
          }

module _ (source : SourceTest) (program : X86Test) (starts : List (List ℕ)) (well_scoped : IsWellScopedSource source)
    (compiled : IsCompiled source program starts) where
  -- At the start each thread of the source lags behind its processor, by nothing.
  SimulationRelation-start : SimulationRelation source program starts (initial_state source) (compiled_start source)
  SimulationRelation-start = ThreadsCorrespond-start source (LagAt source program starts) well_scoped (λ t regs lt six. record {
    ahead = thread_starting regs;
    pending_stores = nothing;
    stage = whole (sym (IsFencedAsNeeded-at source program starts compiled t lt).laid.first) refl;
    in_bounds = record { register_count = six; position_in_range = omega arith };
  })

  -- If the source lags behind the machine, which has ended, and all its threads are at their ends, then the source has ended.
  is_over-all_threads : (ss : State) (ms : MachineState (List ℕ)) (final : IsTrue (is_final program.threads ms))
      → SimulationRelation source program starts ss ms
      → AreFirstOver source program starts compiled ms final ss (length source.threads)
      → IsTrue (is_over source.threads ss)
  is_over-all_threads ss ms final related first_ended = list_all_zip-of_each _ source.threads ss.threads each_past_end
    where
      -- Each thread is at the end of its code.
      each_past_end : (t : ℕ) (code : List Stmt) (th : Thread)
          → slice_get source.threads t ≡ Some code
          → slice_get ss.threads t ≡ Some th
          → nat_le (length code) th.position ≡ true
      each_past_end t code th thread_at f =
          let within = slice_get_within source.threads t code thread_at in
          let c = ThreadsCorrespond-processor source (LagAt source program starts) ss ms related t within in
          let own : thread_code source.threads t ≡ code = get_or_from_slice_get source.threads t code [] thread_at in
          le-leb (length code) th.position (omega (arith, (first_ended t th c.0 f c.1 within).0, ap length own))

-- Each outcome over flat memory of a program compiled from a well-scoped source is an outcome of the source.
pub SourceOutcome-of_machine : (s : SourceTest) (p : X86Test) (starts : List (List ℕ)) (o : FinalState)
    → IsWellScopedSource s
    → IsCompiled s p starts
    → IsMachineOutcome flat_memory p p.head.init_words o
    → SourceOutcome s o
SourceOutcome-of_machine s p starts o well_scoped compiled (events, r) =
    let ran =
    subst (λ b. MachineRunsTo flat_memory p.threads events b r.end) (initial_machine_state-compiled s p compiled.head) r.ran in
    let a =
    SimulatedToEnd-run s p starts well_scoped compiled events (initial_state s) r.end
    (SimulationRelation-start s p starts well_scoped compiled) ran in
    let d = CaughtUp-first_threads s p starts compiled r.end r.final (length s.threads) a.0 (omega arith) a.1.related in
    let c = SimulatedToEnd-trans s p starts a.0 d.end a.1 d.simulated_to_end in
    let within = λ (t : ℕ) (th : Thread) (e : slice_get d.end.threads t ≡ Some th). slice_get_within d.end.threads t th e in
    let run : InterleavesTo s c.order o = record {
      end = d.end;
      ran = c.ran;
      final = is_over-all_threads s p starts well_scoped compiled d.end r.end r.final c.related d.first_ended;
      outcome_is =
          r.outcome_is
          ∙ sym (ThreadsCorrespond-outcome s (LagAt s p starts) d.end r.end c.related
          (λ t th x e f. (d.first_ended t th x e f (omega (arith, within t th e, c.related.as_many))).1));
    } in
    (c.order, run)
