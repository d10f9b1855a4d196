-- The events of one processor over flat memory, and the steps of one source thread, within any whole state.
-- So the proofs about a single thread do not mention the list of threads.
use Rattle.lw_fence.proofs.Common.{◌≡◌, ℕ, List, [], ◌∷◌, ◌++◌, map, Some, refl, sym, ap, ◌∙◌, subst}
use Rattle.lw_fence.proofs.Common.{slice_get, slice_set, set-set, map-append, RunsTo-append, thread_code}
use Rattle.lw_fence.proofs.Common.{Event, Step, Drain, flat_memory, Memory, slice_get-slice_set_same}
use Rattle.lw_fence.proofs.Common.{set-get_same, Stmt, source_operation, Thread, thread_after, words_after}
use Rattle.lw_fence.proofs.Common.{State, SourceRunsTo, state_after_step, thread_step, state_of, state_after}
use Rattle.lw_fence.proofs.Common.{Instr, Processor, step_effect, drain_effect, MachineState}
use Rattle.lw_fence.proofs.Common.{MachineTransition, MachineRunsTo, EffectLeadsTo, state}
use Rattle.lw_fence.proofs.Common.{MachineTransition-of_effect}
use Rattle.lw_interleaving.specs.Runs.{SourceTransition as SourceDone}

-- If es lead the machine from s to mid, and fs from mid to `end`, then es and then fs lead from s to `end`.
pub MachineRunsTo-append : {M : Type 0} (mem : Memory M) (program : List (List Instr)) (es fs : List Event)
    (s mid end : MachineState M)
    → MachineRunsTo mem program es s mid
    → MachineRunsTo mem program fs mid end
    → MachineRunsTo mem program (es ++ fs) s end
MachineRunsTo-append mem program es fs s mid end r q = RunsTo-append (MachineTransition mem program) es fs s mid end r q

-- If steps of the threads ts lead the source from s to mid, and of us from mid to `end`, then those of ts and then us lead from
-- s to `end`.
pub SourceRunsTo-append : (program : List (List Stmt)) (ts us : List ℕ) (s mid end : State)
    → SourceRunsTo program (map Step ts) s mid
    → SourceRunsTo program (map Step us) mid end
    → SourceRunsTo program (map Step (ts ++ us)) s end
SourceRunsTo-append program ts us s mid end r q =
    subst (λ (es : List Event). SourceRunsTo program es s end) (sym (map-append Step ts us))
    (RunsTo-append (SourceDone program) (map Step ts) (map Step us) s mid end r q)

-- These events lead processor t from p to q, and memory from m to n, whatever the other processors.
pub record ProcessorMoves (program : List (List Instr)) (t : ℕ) (p : Processor) (m : List ℕ) (es : List Event) (q : Processor)
    (n : List ℕ) : Type 0 where
  pub on : (processors : List Processor)
      → slice_get processors t ≡ Some p
      → MachineRunsTo flat_memory program es (state processors m) (state (slice_set processors t q) n)

-- Some steps of thread t lead it from th to `end`, and memory from m to n, whatever the other threads.
pub record ThreadMoves (program : List (List Stmt)) (t : ℕ) (th : Thread) (m : List ℕ) (end : Thread) (n : List ℕ) : Type 0 where
  pub order : List ℕ
  pub on : (threads : List Thread)
      → slice_get threads t ≡ Some th
      → SourceRunsTo program (map Step order) (state_of threads m) (state_of (slice_set threads t end) n)

module _ (program : List (List Instr)) (t : ℕ) where
  -- If es lead processor t from p to q, and fs from q to r, then es and then fs lead it from p to r.
  pub ProcessorMoves-append : (p : Processor) {q : Processor} (r : Processor) {m n k : List ℕ} (es : List Event) {fs : List Event}
      → ProcessorMoves program t p m es q n
      → ProcessorMoves program t q n fs r k
      → ProcessorMoves program t p m (es ++ fs) r k
  ProcessorMoves-append p {q = q} r es {fs = fs} a b = record {
    on = λ processors was.
        let second = b.on (slice_set processors t q) (slice_get-slice_set_same processors t q p was) in
        MachineRunsTo-append flat_memory program es fs _ _ _ (a.on processors was) (rw (set-set processors t q r) at second);
  }

  -- If the effect of the next instruction of p leads to q, the step of t leads it from p to q, whatever the other processors.
  pub ProcessorMoves-step : (p q : Processor) (m n : List ℕ) {i : Instr}
      → slice_get (thread_code program t) p.position ≡ Some i
      → EffectLeadsTo m (step_effect (Some i) p) q n
      → ProcessorMoves program t p m (Step t ∷ []) q n
  ProcessorMoves-step p q m n next d = record {
    on = λ processors was. (
      state (slice_set processors t q) n,
      MachineTransition-of_effect program (Step t) _ p q m n was
          (subst (λ o. EffectLeadsTo m (step_effect o p) q n) (sym next) d),
      refl,
    );
  }

  -- If the effect of draining the oldest entry of p leads to q, the drain of t leads it from p to q, whatever the other
  -- processors.
  pub ProcessorMoves-drain : {p : Processor} (q : Processor) (m n : List ℕ)
      → EffectLeadsTo m (drain_effect p.buffer p) q n
      → ProcessorMoves program t p m (Drain t ∷ []) q n
  ProcessorMoves-drain {p = p} q m n d = record {
    on = λ processors was.
        (state (slice_set processors t q) n, MachineTransition-of_effect program (Drain t) processors p q m n was d, refl);
  }

module _ (program : List (List Stmt)) (t : ℕ) where
  -- No steps lead a thread from its state, over any memory, to the same.
  pub ThreadMoves-refl : (th : Thread) (m : List ℕ) → ThreadMoves program t th m th m
  ThreadMoves-refl th m = record { order = []; on = λ threads was. ap (λ l. state_of l m) (set-get_same _ t th was) }

  -- If some steps lead a thread from th to mid, and some from mid to `end`, some steps lead it from th to `end`.
  pub ThreadMoves-trans : (th : Thread) {mid : Thread} (end : Thread) (m n : List ℕ) {k : List ℕ}
      → ThreadMoves program t th m mid n
      → ThreadMoves program t mid n end k
      → ThreadMoves program t th m end k
  ThreadMoves-trans th {mid = mid} end m n {k = k} a b = record {
    order = a.order ++ b.order;
    on = λ threads was.
        let after = slice_set threads t mid in
        let second = b.on after (slice_get-slice_set_same threads t mid th was) in
        SourceRunsTo-append program a.order b.order (state_of threads m) (state_of after n) _ (a.on threads was)
        (subst (λ c. SourceRunsTo program (map Step b.order) (state_of after n) (state_of c k)) (set-set threads t mid end)
        second);
  }

  -- If a thread has a next statement, one step leads the thread and memory to what they are after this statement.
  pub ThreadMoves-statement : (th : Thread) (m : List ℕ) (x : Stmt)
      → slice_get (thread_code program t) th.position ≡ Some x
      → ThreadMoves program t th m (thread_after (source_operation x) th m) (words_after (source_operation x) th m)
  ThreadMoves-statement th m x next = record {
    order = t ∷ [];
    on = λ threads was.
        let s = state_of threads m in
        (state_after t th (source_operation x) s, ap (thread_step program t s) was ∙ ap (state_after_step t th s) next, refl);
  }
