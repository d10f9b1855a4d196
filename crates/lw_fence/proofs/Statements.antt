-- A processor with an empty buffer executes a statement by its lowering, followed by a drain if it is a
-- store. This is one step of the direction from source to machine (`SourceToMachine`).
use Rattle.lw_fence.proofs.Common.{registers, ◌≡◌, ℕ, List, [], ◌∷◌, ◌++◌, length, replicate, Some, Bool}
use Rattle.lw_fence.proofs.Common.{false, refl, sym, ap, ◌∙◌, subst, subst₂, if◌then◌else◌, slice_get}
use Rattle.lw_fence.proofs.Common.{slice_set, slice_index, append-nil, thread_code, operand_value, Event}
use Rattle.lw_fence.proofs.Common.{Step, Drain, Instr, Stmt, is_store, source_operation, Thread, thread_after}
use Rattle.lw_fence.proofs.Common.{words_after, words_after-no_location, Processor, Lowered, One, Two}
use Rattle.lw_fence.proofs.Common.{lowered, instrs_of, IsEnabledEffect-operation}
use Rattle.lw_fence.proofs.Carried.{BuffersStatement, unlocated, buffered, at_once, ExecutesStatement}
use Rattle.lw_fence.proofs.Carried.{ExecutesLowering, no_store_no_load-if_unlocated, ExecutesLowering-lowered}
use Rattle.lw_fence.proofs.Moves.{ProcessorMoves, ProcessorMoves-append, ProcessorMoves-step}
use Rattle.lw_fence.proofs.Moves.{ProcessorMoves-drain}
use Rattle.lw_fence.proofs.CodeLayout.{ContainsAt, HasLowering}
use Rattle.lw_fence.proofs.Steps.{IsAllowedStatement}
use Rattle.lw_litmus.specs.Programs as programs

-- A processor is determined by its position, its registers, its zero flag and its store buffer.
Processor-eq : (q : Processor) {k : ℕ} (regs : List ℕ) {b : List (ℕ × ℕ)}
    → q.position ≡ k
    → q.regs ≡ regs
    → q.buffer ≡ b
    → q ≡ record { position = k; regs = regs; zero_flag = q.zero_flag; buffer = b }
Processor-eq q regs e f g = λ i. record { position = e i; regs = f i; zero_flag = q.zero_flag; buffer = g i }

-- A processor at this instruction, with a thread's registers and an empty buffer.
abbrev pub processor_at_statement : ℕ → Thread → Bool → Processor
processor_at_statement k th z = record { position = k; regs = th.regs; zero_flag = z; buffer = [] }

-- A drain of the thread, if the statement is a store.
abbrev drain_if_store : ℕ → Bool → List Event
drain_if_store t store = if store then Drain t ∷ [] else []

-- The events that execute a statement: n steps, and a drain if it is a store.
abbrev pub events_for : ℕ → ℕ → Stmt → List Event
events_for t n x = replicate n (Step t) ++ drain_if_store t (is_store (source_operation x))

-- Processor t, whose zero flag is z, executes the statement x by the events es, from the statement's start to the next one's.
pub record StatementTurn (program : List (List Instr)) (t : ℕ) (starts : List ℕ) (th : Thread) (z : Bool) (m : List ℕ) (x : Stmt)
    (es : List Event) : Type 0 where
  pub flag : Bool
  pub moves : let next = thread_after (source_operation x) th m in
      ProcessorMoves program t (processor_at_statement (slice_index starts th.position) th z) m es
      (processor_at_statement (slice_index starts next.position) next flag) (words_after (source_operation x) th m)

module _ (program : List (List Instr)) (t : ℕ) (starts : List ℕ) (th : Thread) (z : Bool) (m : List ℕ) (x : Stmt) where
  -- The processor at the start of the statement.
  abbrev begin : Processor
  begin = processor_at_statement (slice_index starts th.position) th z

  -- If events lead the processor from the start of the statement to a q that has executed it, then these events and, after a
  -- store, a drain are the statement's turn.
  StatementTurn-drain_remains : {es : List Event} (q : Processor) (n : List ℕ)
      → ProcessorMoves program t begin m es q n
      → ExecutesStatement starts x th [] m q n
      → StatementTurn program t starts th z m x (es ++ drain_if_store t (is_store (source_operation x)))
  StatementTurn-drain_remains {es = es} q n moves c = record { flag = q.zero_flag; moves = moves-by_statement c.stored }
    where
      -- The thread after the statement.
      thread_after_statement : Thread
      thread_after_statement = thread_after (source_operation x) th m

      -- The processor at the next statement, with this buffer.
      processor_with_buffer : List (ℕ × ℕ) → Processor
      processor_with_buffer b = record {
        position = slice_index starts thread_after_statement.position;
        regs = thread_after_statement.regs;
        zero_flag = q.zero_flag;
        buffer = b;
      }

      -- The events lead the processor to the next statement, with the buffer b that the statement leaves.
      moves_with_buffer : (b : List (ℕ × ℕ)) → q.buffer ≡ b → ProcessorMoves program t begin m es (processor_with_buffer b) n
      moves_with_buffer b same =
          subst (λ r. ProcessorMoves program t begin m es r n) (Processor-eq q thread_after_statement.regs c.position c.regs same)
          moves

      -- A statement that buffers nothing needs no drain.
      moves_without_drain : is_store (source_operation x) ≡ false
          → q.buffer ≡ []
          → n ≡ words_after (source_operation x) th m
          → ProcessorMoves program t begin m (es ++ drain_if_store t (is_store (source_operation x))) (processor_with_buffer [])
          (words_after (source_operation x) th m)
      moves_without_drain none empty words =
          subst₂ (λ l k. ProcessorMoves program t begin m l (processor_with_buffer []) k)
          (sym (ap (λ b. es ++ drain_if_store t b) none ∙ append-nil es)) words (moves_with_buffer [] empty)

      -- By what the statement does: it is apart from memory, executed at once, or buffered.
      moves-by_statement : BuffersStatement x th [] m q.buffer n
          → ProcessorMoves program t begin m (es ++ drain_if_store t (is_store (source_operation x))) (processor_with_buffer [])
          (words_after (source_operation x) th m)
      moves-by_statement (unlocated l still same) =
          moves_without_drain (no_store_no_load-if_unlocated (source_operation x) l).0 still
          (same ∙ sym (words_after-no_location (source_operation x) th m l))
      moves-by_statement (at_once none empty still words) = moves_without_drain none still words
      moves-by_statement (buffered y w is more same) =
          subst₂ (λ l k. ProcessorMoves program t begin m l (processor_with_buffer []) k)
          (sym (ap (λ s. es ++ drain_if_store t (is_store (source_operation s))) is))
          (ap (λ k. slice_set k y (operand_value w th.regs)) same ∙ sym (ap (λ s. words_after (source_operation s) th m) is))
          (ProcessorMoves-append _ t _ (processor_with_buffer []) es (moves_with_buffer _ more)
          (ProcessorMoves-drain _ t (processor_with_buffer []) n _ (refl, refl)))

  -- If the lowering at the statement's start executes the statement, the processor executes it by these instructions.
  StatementTurn-of_lowering : (r : Lowered)
      → ContainsAt (thread_code program t) (slice_index starts th.position) (instrs_of r)
      → ExecutesLowering starts th x begin r
      → StatementTurn program t starts th z m x (events_for t (length (instrs_of r)) x)
  StatementTurn-of_lowering (One i) has ends =
      let a = IsEnabledEffect-operation (programs.x86_operation i) begin m (λ waits. refl) in
      StatementTurn-drain_remains a.0 a.1 (ProcessorMoves-step program t _ a.0 m a.1 has.0 a.2)
      (ends.carries [] m (λ e. refl) a.0 a.1 a.2)
  StatementTurn-of_lowering (Two i j) has leads =
      let a = IsEnabledEffect-operation (programs.x86_operation i) begin m (λ waits. refl) in
      let l = leads m a.0 a.1 a.2 in
      let b = IsEnabledEffect-operation (programs.x86_operation j) a.0 m (λ waits. l.0.buffer) in
      let first =
      subst (λ k. ProcessorMoves program t begin m (Step t ∷ []) a.0 k) l.1
      (ProcessorMoves-step program t begin a.0 m a.1 has.0 a.2) in
      let at = subst (λ k. slice_get (thread_code program t) k ≡ Some j) (sym l.0.position) has.1.0 in
      StatementTurn-drain_remains b.0 b.1
      (ProcessorMoves-append program t begin b.0 (Step t ∷ []) first (ProcessorMoves-step program t a.0 b.0 m b.1 at b.2))
      (rw l.0.buffer at (l.0.ends.carries a.0.buffer m (λ e. l.0.buffer) b.0 b.1 b.2))

  -- Processor t executes the statement x at its thread's position: the steps of the lowering, and a drain if it is a store.
  pub StatementTurn-of_statement : {code : List Stmt}
      → IsAllowedStatement code th.position x
      → length th.regs ≡ registers
      → (s : HasLowering (thread_code program t) starts th.position x)
      → StatementTurn program t starts th z m x (events_for t (length (instrs_of (lowered starts s.fence x))) x)
  StatementTurn-of_statement ok six s =
      StatementTurn-of_lowering (lowered starts s.fence x) s.lowering_at_start
      (ExecutesLowering-lowered starts th begin refl x six ok.registers (λ load none. refl) s.next)
