-- A processor runs ahead of its source thread: pending are the local statements that the processor has executed and the stores that are
-- still in the store buffer, and the processor may be in the middle of a statement. Simulation lifts this to whole runs, in the direction
-- from machine to source.
use Rattle.lw_fence.proofs.Common.{◌≡◌, ◌≢◌, ℕ, List, [], ◌∷◌, Some, sym, ◌∙◌, subst, subst₂, slice_get}
use Rattle.lw_fence.proofs.Common.{slice_index, ◌↔◌, ◌+◌, length, Option, None, Bool, true, false, refl, ap}
use Rattle.lw_fence.proofs.Common.{⊎_elim, arith, append-nil, thread_code, Stmt, Instr, Thread, Processor}
use Rattle.lw_fence.proofs.Common.{drain_effect, EventEffect, step_effect, EffectLeadsTo, cases_lt}
use Rattle.lw_fence.proofs.Common.{false≢true, none-some, slice_get_past, slice_get-in_range, is_load}
use Rattle.lw_fence.proofs.Common.{source_operation, thread_after, thread_after-no_location, Lowered, One}
use Rattle.lw_fence.proofs.Common.{Two, lowered, instrs_of, HasKind, NeedsFence}
use Rattle.lw_fence.proofs.Carried.{EffectExecutesStatement, BuffersStatement, unlocated, buffered, at_once}
use Rattle.lw_fence.proofs.Carried.{ExecutesStatement, AdvancesToLast, ExecutesLowering}
use Rattle.lw_fence.proofs.Carried.{ExecutesLowering-lowered}
use Rattle.lw_fence.proofs.Moves.{ThreadMoves, ThreadMoves-refl, ThreadMoves-trans, ThreadMoves-statement}
use Rattle.lw_fence.proofs.PendingStores.{HasPendingStores, ExecutesOldestStore-pending, nothing, local}
use Rattle.lw_fence.proofs.PendingStores.{store, HasPendingStores-append, ThreadMoves-pending_statements}
use Rattle.lw_fence.proofs.PendingStores.{IsReachableFromStore-pending_store}
use Rattle.lw_fence.proofs.Steps.{IsThreadInBounds, IsAllowedStatement, IsThreadInBounds-step}
use Rattle.lw_fence.proofs.CodeLayout.{IsFencedAsNeeded, ContainsAt}

-- The processor is at the start of v's next statement, with v's registers, or at an instruction whose effect executes this statement.
pub data Stage (code : List Stmt) (instrs : List Instr) (starts : List ℕ) (v : Thread) (p : Processor) : Type 0 where
  whole : p.position ≡ slice_index starts v.position → p.regs ≡ v.regs → Stage code instrs starts v p
  midway : (s : Stmt) (i : Instr)
      → slice_get code v.position ≡ Some s
      → slice_get instrs p.position ≡ Some i
      → EffectExecutesStatement starts v s p i
      → Stage code instrs starts v p

-- How far the processor p is ahead of the thread th: by the pending statements that lead th to `ahead`, at whose statement the processor
-- is.
pub record ThreadSimulation (code : List Stmt) (instrs : List Instr) (starts : List ℕ) (th : Thread)
    (p : Processor) : Type 0 where
  pub ahead : Thread
  pub pending_stores : HasPendingStores code th p.buffer ahead
  pub stage : Stage code instrs starts ahead p
  pub in_bounds : IsThreadInBounds code ahead

-- The source follows an event of processor t that leads to q and the memory n: thread t takes some steps, and is simulated again.
pub record SourceFollows (program : List (List Stmt)) (t : ℕ) (instrs : List Instr) (starts : List ℕ) (th : Thread) (m : List ℕ)
    (q : Processor) (n : List ℕ) : Type 0 where
  pub now : Thread
  pub moves : ThreadMoves program t th m now n
  pub simulated : ThreadSimulation (thread_code program t) instrs starts now q

-- If the buffer of p has an entry, then p with the newer entries is at the same stage.
Stage-drain : {code : List Stmt} {instrs : List Instr} {starts : List ℕ} {v : Thread} {p : Processor} (newer : List (ℕ × ℕ))
    → p.buffer ≢ []
    → Stage code instrs starts v p
    → Stage code instrs starts v (record p { buffer = newer })
Stage-drain newer full (whole position regs) = whole position regs
Stage-drain newer full (midway s i at here ends) =
    midway s i at here (record { empty = λ load. absurd (full (ends.empty load)); carries = ends.carries })

-- If a thread lags behind its processor, and a drain of this leads to q and n, then the source follows: the thread executes up
-- to the store that was drained.
pub SourceFollows-drain : (program : List (List Stmt)) (t : ℕ) {instrs : List Instr} {starts : List ℕ} {th : Thread}
    {p : Processor} (m : List ℕ) (q : Processor) (n : List ℕ)
    → ThreadSimulation (thread_code program t) instrs starts th p
    → EffectLeadsTo m (drain_effect p.buffer p) q n
    → SourceFollows program t instrs starts th m q n
SourceFollows-drain program t {instrs = instrs} {starts = starts} {th = th} {p = p} m q n simulated =
    SourceFollows-by_buffer p.buffer refl
  where
    -- By the buffer, whose oldest entry is drained.
    SourceFollows-by_buffer : (b : List (ℕ × ℕ))
        → p.buffer ≡ b
        → EffectLeadsTo m (drain_effect b p) q n
        → SourceFollows program t instrs starts th m q n
    SourceFollows-by_buffer [] is d = absurd d
    SourceFollows-by_buffer (oldest ∷ newer) is d =
        let a = ExecutesOldestStore-pending program t th simulated.ahead m oldest newer simulated.pending_stores is in
        let full : p.buffer ≢ [] = λ none. let is_nil : oldest ∷ newer ≡ [] = sym is ∙ none in cc in
        let left : SourceFollows program t instrs starts th m (record p { buffer = newer }) _ = record {
          now = a.mid;
          moves = a.moves;
          simulated = record {
            ahead = simulated.ahead;
            pending_stores = a.pending_stores;
            stage = Stage-drain newer full simulated.stage;
            in_bounds = simulated.in_bounds;
          };
        } in
        subst₂ (λ c l. SourceFollows program t instrs starts th m c l) (sym d.0) (sym d.1) left

-- Thread th has pending statements that lead it to v, at whose statement its processor p is, over the memory m.
module _ (program : List (List Stmt)) (t : ℕ) (instrs : List Instr) (starts : List ℕ)
    (allowed : (j : ℕ) (s : Stmt) → slice_get (thread_code program t) j ≡ Some s → IsAllowedStatement (thread_code program t) j s)
    (placed : IsFencedAsNeeded (thread_code program t) instrs starts) (th : Thread) (p : Processor) (m : List ℕ) (v : Thread)
    (pending_stores : HasPendingStores (thread_code program t) th p.buffer v)
    (in_bounds : IsThreadInBounds (thread_code program t) v) where
  -- The code of thread t in the source.
  abbrev code : List Stmt
  code = thread_code program t

  -- The source follows when the processor reaches q and the memory n.
  abbrev Goal : Processor → List ℕ → Type 0
  Goal q n = SourceFollows program t instrs starts th m q n

  -- If the effect leads to some q and n, the source follows.
  abbrev After : EventEffect → Type 0
  After act = (q : Processor) (n : List ℕ) → EffectLeadsTo m act q n → Goal q n

  -- If i is the instruction at the position of p, and the source follows whatever i does, it follows whatever the next
  -- instruction of p does.
  SourceFollows-at_instruction : (i : Instr)
      → slice_get instrs p.position ≡ Some i
      → After (step_effect (Some i) p)
      → After (step_effect (slice_get instrs p.position) p)
  SourceFollows-at_instruction i found_at after = subst (λ o. After (step_effect o p)) (sym found_at) after

  -- If an instruction executes the statement s, which is at v's position, and leads to q and n, the source follows: the
  -- statement becomes pending too, or the thread catches up and executes it.
  SourceFollows-last_instruction : (s : Stmt)
      → slice_get code v.position ≡ Some s
      → (q : Processor) (n : List ℕ)
      → ExecutesStatement starts s v p.buffer m q n
      → Goal q n
  SourceFollows-last_instruction s found_at q n c = Goal-by_statement c.stored
    where
      -- The thread after the statement.
      thread_after_statement : Thread
      thread_after_statement = thread_after (source_operation s) v m

      -- The thread after the statement is in the bounds of its code.
      next_in_bounds : IsThreadInBounds code thread_after_statement
      next_in_bounds = IsThreadInBounds-step v m s (allowed v.position s found_at) found_at in_bounds

      -- If the statement becomes pending, the source takes no step.
      Goal-of_pending : HasPendingStores code th q.buffer thread_after_statement → n ≡ m → Goal q n
      Goal-of_pending o same = record {
        now = th;
        moves = subst (λ k. ThreadMoves program t th m th k) (sym same) (ThreadMoves-refl program t th m);
        simulated = record {
          ahead = thread_after_statement;
          pending_stores = o;
          stage = whole c.position c.regs;
          in_bounds = next_in_bounds;
        };
      }

      -- By what the statement does: it is apart from memory, buffered, or executed at once.
      Goal-by_statement : BuffersStatement s v p.buffer m q.buffer n → Goal q n
      Goal-by_statement (unlocated l still same) =
          Goal-of_pending
          (subst₂ (λ b w. HasPendingStores code th b w) (append-nil p.buffer ∙ sym still)
          (thread_after-no_location (source_operation s) v [] m l)
          (HasPendingStores-append v pending_stores (local s found_at l nothing))) same
      Goal-by_statement (buffered x w is more same) =
          Goal-of_pending
          (subst₂ (λ b w. HasPendingStores code th b w) (sym more) (ap (λ z. thread_after (source_operation z) v m) (sym is))
          (HasPendingStores-append v pending_stores (store x w (found_at ∙ ap Some is) nothing))) same
      Goal-by_statement (at_once none empty still left) = record {
        now = thread_after_statement;
        moves =
            subst (λ k. ThreadMoves program t th m thread_after_statement k) (sym left)
            (ThreadMoves-trans program t th thread_after_statement m m
            (ThreadMoves-pending_statements _ t th v _ m pending_stores empty) (ThreadMoves-statement _ t v m s found_at));
        simulated = record {
          ahead = thread_after_statement;
          pending_stores = subst (λ b. HasPendingStores code thread_after_statement b thread_after_statement) (sym still) nothing;
          stage = whole c.position c.regs;
          in_bounds = next_in_bounds;
        };
      }

  -- If p is at a lowering that executes the statement s, which is at v's position, the source follows the first instruction of
  -- the lowering.
  SourceFollows-lowering : (s : Stmt)
      → slice_get code v.position ≡ Some s
      → (r : Lowered)
      → ContainsAt instrs p.position (instrs_of r)
      → ExecutesLowering starts v s p r
      → After (step_effect (slice_get instrs p.position) p)
  SourceFollows-lowering s found_at (One i) has ends =
      SourceFollows-at_instruction i has.0
      (λ q n d. SourceFollows-last_instruction s found_at q n (ends.carries p.buffer m ends.empty q n d))
  SourceFollows-lowering s found_at (Two i j) has leads =
      SourceFollows-at_instruction i has.0 (λ q n d. Goal-of_first_instruction q n (leads m q n d))
    where
      -- After the first of two instructions the processor is in the middle of the statement.
      Goal-of_first_instruction : (q : Processor) (n : List ℕ) → AdvancesToLast starts v s p j q × (n ≡ m) → Goal q n
      Goal-of_first_instruction q n (led, same) = record {
        now = th;
        moves = subst (λ k. ThreadMoves program t th m th k) (sym same) (ThreadMoves-refl program t th m);
        simulated = record {
          ahead = v;
          pending_stores = subst (λ b. HasPendingStores code th b v) (sym led.buffer) pending_stores;
          stage = midway s j found_at (ap (λ k. slice_get instrs k) led.position ∙ has.1.0) led.ends;
          in_bounds = in_bounds;
        };
      }

  -- If v's next statement is a load without a fence, which it would have if it needed one, then the buffer of p is empty.
  buffer_empty-if_unfenced : {s : Stmt}
      → slice_get code v.position ≡ Some s
      → (fence : Bool)
      → ((fence ≡ true) ↔ NeedsFence code v.position)
      → is_load (source_operation s) ≡ true
      → fence ≡ false
      → p.buffer ≡ []
  buffer_empty-if_unfenced found_at fence needs load none = empty-by_buffer p.buffer refl
    where
      -- By the buffer: an entry would be of a store from which the load is reachable.
      empty-by_buffer : (b : List (ℕ × ℕ)) → p.buffer ≡ b → b ≡ []
      empty-by_buffer [] empty = refl
      empty-by_buffer (entry ∷ newer) full =
          let reachable = IsReachableFromStore-pending_store code th v pending_stores (λ e. let f = sym full ∙ e in cc) in
          absurd (false≢true (sym none ∙ needs.1 (subst (HasKind is_load) (sym found_at) load, reachable)))

  -- At the start of a statement, or at the end of the code, the source follows the processor's next instruction.
  SourceFollows-at_start : (o : Option Stmt)
      → slice_get code v.position ≡ o
      → p.position ≡ slice_index starts v.position
      → p.regs ≡ v.regs
      → After (step_effect (slice_get instrs p.position) p)
  SourceFollows-at_start None e position regs =
      λ q n done. absurd (subst (λ o. EffectLeadsTo m (step_effect o p) q n) no_instruction_at_end done)
    where
      -- The thread is at the end of its code.
      thread_at_end : v.position ≡ length code
      thread_at_end =
          ⊎_elim (λ lt. let a = slice_get-in_range code v.position lt in absurd (none-some a.0 (sym e ∙ a.1)))
          (λ ge. omega (arith, ge, in_bounds.position_in_range)) (cases_lt v.position (length code))

      -- If the thread is at the end of its code, the processor has no next instruction.
      no_instruction_at_end : slice_get instrs p.position ≡ None
      no_instruction_at_end =
          slice_get_past instrs p.position
          (omega (arith, position, ap (λ k. slice_index starts k) thread_at_end, placed.laid.last))
  SourceFollows-at_start (Some s) at position regs =
      let stands = placed.laid.at v.position s at in
      let has =
      subst (λ k. ContainsAt instrs k (instrs_of (lowered starts stands.fence s))) (sym position) stands.lowering_at_start in
      let next : slice_index starts (v.position + 1) ≡ p.position + length (instrs_of (lowered starts stands.fence s)) =
      omega (arith, stands.next, position) in
      SourceFollows-lowering s at (lowered starts stands.fence s) has
      (ExecutesLowering-lowered starts v p regs s in_bounds.register_count (allowed v.position s at).registers
      (buffer_empty-if_unfenced at stands.fence (placed.needed v.position s at)) next)

  -- Whatever the processor's next instruction does, the source follows.
  pub SourceFollows-step : Stage code instrs starts v p → After (step_effect (slice_get instrs p.position) p)
  SourceFollows-step (whole position regs) = SourceFollows-at_start (slice_get code v.position) refl position regs
  SourceFollows-step (midway s i at stands ends) =
      SourceFollows-at_instruction i stands
      (λ q n d. SourceFollows-last_instruction s at q n (ends.carries p.buffer m ends.empty q n d))
