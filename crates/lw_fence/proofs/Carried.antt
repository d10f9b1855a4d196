-- The instructions of a lowering execute its statement: the last one does to its processor and to memory what the statement does to its
-- thread, and an instruction before it leaves memory and the store buffer unchanged. Both directions of the compiler's theorem use this, by
-- Statements and by ThreadSimulation.
use Rattle.lw_fence.proofs.Common.{registers, ◌≡◌, ℕ, ◌+◌, ◌<◌, ◌==◌, ◌%◌, ◌^◌, add_comm, Bool, true, false}
use Rattle.lw_fence.proofs.Common.{not, true≢false, None, Some, List, [], ◌∷◌, ◌++◌, length, if◌then◌else◌}
use Rattle.lw_fence.proofs.Common.{refl, sym, ap, ap₂, ◌∙◌, subst, subst₂, arith, slice_set, slice_index}
use Rattle.lw_fence.proofs.Common.{eqb-true, All, set-set, get_or-set_same, get_or-set_other, eqb-false}
use Rattle.lw_fence.proofs.Common.{set-get_or, wrapping_sum, operand_value, IsRegisterIndex, Operand}
use Rattle.lw_fence.proofs.Common.{Register, Number, SwapWaits, FenceWaits, Operation, Stmt, Store, Load}
use Rattle.lw_fence.proofs.Common.{Swap, FetchAdd, Set, Sum, IfEq, IfNe, Goto, Instr, location_of, is_store}
use Rattle.lw_fence.proofs.Common.{is_load, registers_of, source_operation, Thread, thread_after, words_after}
use Rattle.lw_fence.proofs.Common.{thread_after-no_location, Processor, newest_buffered, advance_processor}
use Rattle.lw_fence.proofs.Common.{set_register, jump_or_advance_processor, LocalStep, load_effect}
use Rattle.lw_fence.proofs.Common.{step_effect, EffectLeadsTo, Lowered, One, Two, with_move_if, lower_compare}
use Rattle.lw_fence.proofs.Common.{lowered, instrs_of, EffectLeadsTo-if_buffer_empty}
use Rattle.lw_fence.proofs.PendingStores.{IsLocal}
use Rattle.lw_fence.proofs.CodeLayout.{both_cases-selected}
use Rattle.lw_litmus.specs.declared.operation.Operation.TheVariants as operation
use Rattle.lw_litmus.specs.declared.instr.Instr.TheVariants as x86

-- A store buffer: locations with words, the oldest entry first.
abbrev pub Buffer : Type 0
Buffer = List (ℕ × ℕ)

-- How a statement of the thread v changes a store buffer b and a memory m, to c and n.
pub data BuffersStatement (s : Stmt) (v : Thread) (b : Buffer) (m : List ℕ) (c : Buffer) (n : List ℕ) : Type 0 where
  -- Not at all, if it has no location.
  unlocated : IsLocal s → c ≡ b → n ≡ m → BuffersStatement s v b m c n
  -- A store becomes the newest entry.
  buffered : (x : ℕ) (w : Operand)
      → s ≡ Store x w
      → c ≡ b ++ (x, operand_value w v.regs) ∷ []
      → n ≡ m
      → BuffersStatement s v b m c n
  -- Any other statement takes effect at once, if the buffer is empty.
  at_once : is_store (source_operation s) ≡ false
      → b ≡ []
      → c ≡ []
      → n ≡ words_after (source_operation s) v m
      → BuffersStatement s v b m c n

-- The statement s of the thread v, executed over the buffer b and the memory m, gives the processor q its position, registers and buffer,
-- and leaves the memory n.
pub record ExecutesStatement (starts : List ℕ) (s : Stmt) (v : Thread) (b : Buffer) (m : List ℕ) (q : Processor)
    (n : List ℕ) : Type 0 where
  pub position : q.position ≡ slice_index starts (thread_after (source_operation s) v m).position
  pub regs : q.regs ≡ (thread_after (source_operation s) v m).regs
  pub stored : BuffersStatement s v b m q.buffer n

-- If the instruction i has an effect on the processor p, whatever its buffer holds, this effect executes the statement s of the thread v.
-- A load is executed only over an empty buffer, and p has one.
pub record EffectExecutesStatement (starts : List ℕ) (v : Thread) (s : Stmt) (p : Processor) (i : Instr) : Type 0 where
  pub empty : is_load (source_operation s) ≡ true → p.buffer ≡ []
  pub carries : (b : Buffer) (m : List ℕ)
      → (is_load (source_operation s) ≡ true → b ≡ [])
      → (q : Processor) (n : List ℕ)
      → EffectLeadsTo m (step_effect (Some i) (record p { buffer = b })) q n
      → ExecutesStatement starts s v b m q n

-- The processor q is one position after p, with the same buffer, and an effect of the instruction i on q executes the statement s of v.
pub record AdvancesToLast (starts : List ℕ) (v : Thread) (s : Stmt) (p : Processor) (i : Instr) (q : Processor) : Type 0 where
  pub position : q.position ≡ p.position + 1
  pub buffer : q.buffer ≡ p.buffer
  pub ends : EffectExecutesStatement starts v s q i

-- A lowering executes the statement s of the thread v on the processor p, which is at the lowering's first instruction.
abbrev pub ExecutesLowering : List ℕ → Thread → Stmt → Processor → Lowered → Type 0
ExecutesLowering starts v s p (One i) = EffectExecutesStatement starts v s p i
ExecutesLowering starts v s p (Two i j) =
    (m : List ℕ) (q : Processor) (n : List ℕ)
    → EffectLeadsTo m (step_effect (Some i) p) q n
    → AdvancesToLast starts v s p j q × (n ≡ m)

-- An operation without a location is no store and no load.
pub no_store_no_load-if_unlocated : (o : Operation) → location_of o ≡ None → (is_store o ≡ false) × (is_load o ≡ false)
no_store_no_load-if_unlocated (operation.Store x w) is_none = absurd cc
no_store_no_load-if_unlocated (operation.Load d x) is_none = absurd cc
no_store_no_load-if_unlocated o is_none = (refl, refl)

module _ (starts : List ℕ) (v : Thread) where
  -- The state after an instruction is that of its effect.
  ExecutesStatement-of_effect : (s : Stmt) (b : Buffer) (m k n : List ℕ) (r q : Processor)
      → r.position ≡ slice_index starts (thread_after (source_operation s) v m).position
      → r.regs ≡ (thread_after (source_operation s) v m).regs
      → BuffersStatement s v b m r.buffer k
      → (q ≡ r) × (n ≡ k)
      → ExecutesStatement starts s v b m q n
  ExecutesStatement-of_effect s b m k n r q position regs stored d =
      subst₂ (λ c l. ExecutesStatement starts s v b m c l) (sym d.0) (sym d.1)
      (record { position = position; regs = regs; stored = stored })

  -- An instruction executes a statement without a location, whatever the memory and the buffer.
  EffectExecutesStatement-local : {s : Stmt} {p : Processor} {i : Instr} {k : ℕ} {regs : List ℕ} {flag : Bool}
      → IsLocal s
      → ((b : Buffer)
      → step_effect (Some i) (record p { buffer = b })
      ≡ LocalStep (record { position = k; regs = regs; zero_flag = flag; buffer = b }))
      → k ≡ slice_index starts (thread_after (source_operation s) v []).position
      → regs ≡ (thread_after (source_operation s) v []).regs
      → EffectExecutesStatement starts v s p i
  EffectExecutesStatement-local {s = s} l goes position same = record {
    empty = λ load. absurd (true≢false (sym load ∙ (no_store_no_load-if_unlocated (source_operation s) l).1));
    carries = λ b m load q n done.
        let next = thread_after-no_location (source_operation s) v [] m l in
        ExecutesStatement-of_effect s b m m n _ q (position ∙ ap (λ (t : Thread). slice_index starts t.position) next)
        (same ∙ ap (λ t. t.regs) next) (unlocated l refl refl) (subst (λ act. EffectLeadsTo m act q n) (goes b) done);
  }

  -- Wrapping addition is commutative, here with the destination as an operand.
  wrapping_sum-comm_destination : (d a b : ℕ)
      → (d == b) ≡ true
      → wrapping_sum (slice_index v.regs d) (slice_index v.regs a) ≡ wrapping_sum (slice_index v.regs a) (slice_index v.regs b)
  wrapping_sum-comm_destination d a b is =
      ap (λ k. k % 2 ^ 32) (add_comm (slice_index v.regs d) (slice_index v.regs a))
      ∙ ap (λ k. wrapping_sum (slice_index v.regs a) (slice_index v.regs k)) (eqb-true d b is)

  -- The last instruction of a lowering.
  module _ (p : Processor) (next : slice_index starts (v.position + 1) ≡ p.position + 1) where
    -- `MOV [x],w` executes the store of w at x.
    EffectExecutesStatement-store : (x : ℕ) (w : Operand)
        → p.regs ≡ v.regs
        → EffectExecutesStatement starts v (Store x w) p (x86.Store x w)
    EffectExecutesStatement-store x w regs = record {
      empty = λ load. absurd cc;
      carries = λ b m load q n done.
          ExecutesStatement-of_effect (Store x w) b m m n _ q (sym next) regs
          (buffered x w refl (ap (λ r. b ++ (x, operand_value w r) ∷ []) regs) refl) done;
    }

    -- `MOV d,[x]` executes the load of x into d, if the buffer is empty.
    EffectExecutesStatement-load : (d x : ℕ)
        → p.regs ≡ v.regs
        → p.buffer ≡ []
        → EffectExecutesStatement starts v (Load d x) p (x86.Load d x)
    EffectExecutesStatement-load d x regs empty = record {
      empty = λ load. empty;
      carries = λ b m load q n done.
          ExecutesStatement-of_effect (Load d x) b m m n _ q (sym next) (ap (λ r. slice_set r d (slice_index m x)) regs)
          (at_once refl (load refl) (load refl) refl)
          (subst (λ c.
          EffectLeadsTo m
          (load_effect (newest_buffered c x) x (λ w. advance_processor (set_register (record p { buffer = b }) d w))) q n)
          (load refl) done);
    }

    -- The word of register a was moved to d.
    module _ (d a : ℕ) (d_in_range : d < length v.regs)
        (regs_after_move : p.regs ≡ slice_set v.regs d (slice_index v.regs a)) where
      -- In the processor, register d has the word of register a in the thread.
      word : slice_index p.regs d ≡ slice_index v.regs a
      word = ap (λ r. slice_index r d) regs_after_move ∙ get_or-set_same v.regs d (slice_index v.regs a) 0 d_in_range

      -- Setting register d gives the same registers in the processor and in the thread, since the move changed only d.
      set : (u : ℕ) → slice_set p.regs d u ≡ slice_set v.regs d u
      set u = ap (λ r. slice_set r d u) regs_after_move ∙ set-set v.regs d (slice_index v.regs a) u

      -- After the move of a to d, `XCHG` of x and d executes the exchange of x and a into d.
      EffectExecutesStatement-swap : (x : ℕ) → EffectExecutesStatement starts v (Swap d x a) p (x86.Xchg x d)
      EffectExecutesStatement-swap x = record {
        empty = λ load. absurd cc;
        carries = λ b m load q n done.
            let once = EffectLeadsTo-if_buffer_empty b SwapWaits _ m n q done in
            ExecutesStatement-of_effect (Swap d x a) b m _ n _ q (sym next) (set (slice_index m x))
            (at_once refl once.0 once.0 (ap (λ w. slice_set m x w) word)) once.1;
      }

      -- After the move of a to d, `LOCK XADD` of x and d executes the fetch-and-add of a to x.
      EffectExecutesStatement-fetch_add : (x : ℕ) → EffectExecutesStatement starts v (FetchAdd d x a) p (x86.Xadd x d)
      EffectExecutesStatement-fetch_add x = record {
        empty = λ load. absurd cc;
        carries = λ b m load q n done.
            let once = EffectLeadsTo-if_buffer_empty b SwapWaits _ m n q done in
            ExecutesStatement-of_effect (FetchAdd d x a) b m _ n _ q (sym next) (set (slice_index m x))
            (at_once refl once.0 once.0 (ap (λ w. slice_set m x (wrapping_sum (slice_index m x) w)) word)) once.1;
      }

      -- After the move of a to d, `ADD` of w to d executes the sum of a and w into d, if the move does not change the value of w.
      EffectExecutesStatement-add : (w : Operand)
          → operand_value w p.regs ≡ operand_value w v.regs
          → EffectExecutesStatement starts v (Sum d a w) p (x86.Add d w)
      EffectExecutesStatement-add w right =
          EffectExecutesStatement-local refl (λ b. refl) (sym next)
          (ap (slice_set p.regs d) (ap₂ wrapping_sum word right) ∙ set _)

  -- The lowerings of a statement, with the processor p at the first instruction.
  module _ (p : Processor) (regs : p.regs ≡ v.regs) where
    -- The lowering executes the statement, if the start of the next statement follows its instructions.
    abbrev ExecutesFrom : Stmt → Lowered → Type 0
    ExecutesFrom s r = slice_index starts (v.position + 1) ≡ p.position + length (instrs_of r) → ExecutesLowering starts v s p r

    -- If an instruction leads p only to r, one position later with the same buffer, and i on r executes the statement s, then
    -- each state q to which it leads is r: it advances to the last instruction i, and the words are unchanged.
    AdvancesToLast-of_step : (s : Stmt) (r q : Processor) (i : Instr) (m n : List ℕ)
        → r.position ≡ p.position + 1
        → r.buffer ≡ p.buffer
        → EffectExecutesStatement starts v s r i
        → (q ≡ r) × (n ≡ m)
        → AdvancesToLast starts v s p i q × (n ≡ m)
    AdvancesToLast-of_step s r q i m n position buffer ends d =
        (subst (AdvancesToLast starts v s p i) (sym d.0) (record { position = position; buffer = buffer; ends = ends }), d.1)

    -- An `MFENCE` and the load after it execute the load.
    ExecutesLowering-fenced : (d x : ℕ) → ExecutesFrom (Load d x) (Two x86.Mfence (x86.Load d x))
    ExecutesLowering-fenced d x next m q n done =
        let once = EffectLeadsTo-if_buffer_empty p.buffer FenceWaits _ m n q done in
        AdvancesToLast-of_step (Load d x) _ q (x86.Load d x) m n refl refl
        (EffectExecutesStatement-load _ (omega arith) d x regs once.0) once.1

    -- If the last instruction executes the statement s once register a has been moved to d, then the lowering that moves a to d
    -- first, if they differ, executes s.
    ExecutesLowering-moved : (s : Stmt) (d a : ℕ) (last : Instr)
        → ((q : Processor)
        → slice_index starts (v.position + 1) ≡ q.position + 1
        → q.regs ≡ slice_set v.regs d (slice_index v.regs a)
        → EffectExecutesStatement starts v s q last)
        → ExecutesFrom s (with_move_if d a last)
    ExecutesLowering-moved s d a last ends =
        both_cases-selected (ExecutesFrom s) (d == a) (One last) (Two (x86.Set d (Register a)) last) (λ is next.
        ends p next (regs ∙ sym (set-get_or v.regs d 0) ∙ ap (λ k. slice_set v.regs d (slice_index v.regs k)) (eqb-true d a is)))
        (λ is next m q n done.
        let r = advance_processor (set_register p d (slice_index p.regs a)) in
        AdvancesToLast-of_step s r q last m n refl refl (ends r (omega arith) (ap (λ l. slice_set l d (slice_index l a)) regs))
        done)

    -- The start of a branch's next statement is that of its target if it jumps, and otherwise the next start.
    start-of_jump : (holds : Bool) (to : ℕ) {k : ℕ}
        → slice_index starts (v.position + 1) ≡ k
        → (if holds then slice_index starts to else k) ≡ slice_index starts (if holds then to else (v.position + 1))
    start-of_jump true to next = refl
    start-of_jump false to next = sym next

    -- If a statement without a location jumps by whether register a has the word k, a comparison of a with k and a jump by the
    -- flag that it sets execute the statement.
    ExecutesLowering-jump : {s : Stmt} (a k to : ℕ) {i : Instr} (guard_of_flag : Bool → Bool)
        → IsLocal s
        → ((q : Processor)
        → step_effect (Some i) q ≡ LocalStep (jump_or_advance_processor q (guard_of_flag q.zero_flag) (slice_index starts to)))
        → thread_after (source_operation s) v []
        ≡ record { position = if guard_of_flag (slice_index v.regs a == k) then to else (v.position + 1); regs = v.regs }
        → ExecutesFrom s (Two (lower_compare a k) i)
    ExecutesLowering-jump {s = s} a k to {i = i} guard_of_flag l goes after next m q n done =
        let after_jump = p.position + 1 + 1 in
        let r : Processor =
        record { position = p.position + 1; regs = p.regs; zero_flag = slice_index p.regs a == k; buffer = p.buffer } in
        let jump = start-of_jump (guard_of_flag (slice_index v.regs a == k)) to (omega arith) in
        AdvancesToLast-of_step s r q i m n refl refl
        (EffectExecutesStatement-local l (λ b. goes (record r { buffer = b }))
        (ap (λ l. if guard_of_flag (slice_index l a == k) then slice_index starts to else after_jump) regs
        ∙ jump
        ∙ ap (λ t. slice_index starts t.position) (sym after)) (regs ∙ ap (λ t. t.regs) (sym after))) done

    -- If the thread has six registers, the statement's registers exist, and a load without a fence finds an empty buffer, then
    -- the lowering of the statement s, with or without a fence, executes s.
    pub ExecutesLowering-lowered : (s : Stmt) {fence : Bool}
        → length v.regs ≡ registers
        → All IsRegisterIndex (registers_of (source_operation s))
        → (is_load (source_operation s) ≡ true → fence ≡ false → p.buffer ≡ [])
        → ExecutesFrom s (lowered starts fence s)
    ExecutesLowering-lowered (Store x w) count are_registers empty = λ next. EffectExecutesStatement-store p next x w regs
    ExecutesLowering-lowered (Load d x) {fence = fence} count are_registers empty =
        both_cases-selected (ExecutesFrom (Load d x)) fence (Two x86.Mfence (x86.Load d x)) (One (x86.Load d x))
        (λ is. ExecutesLowering-fenced d x) (λ is next. EffectExecutesStatement-load p next d x regs (empty refl is))
    ExecutesLowering-lowered (Swap d x a) count are_registers empty =
        ExecutesLowering-moved (Swap d x a) d a (x86.Xchg x d) (λ q next regs_after_move.
        EffectExecutesStatement-swap q next d a (omega (arith, are_registers 0 0 (omega arith))) regs_after_move x)
    ExecutesLowering-lowered (FetchAdd d x a) count are_registers empty =
        ExecutesLowering-moved (FetchAdd d x a) d a (x86.Xadd x d) (λ q next regs_after_move.
        EffectExecutesStatement-fetch_add q next d a (omega (arith, are_registers 0 0 (omega arith))) regs_after_move x)
    ExecutesLowering-lowered (Set d w) count are_registers empty =
        λ next. EffectExecutesStatement-local refl (λ b. refl) (sym next) (ap (λ r. slice_set r d (operand_value w r)) regs)
    ExecutesLowering-lowered (Sum d a (Number k)) count are_registers empty =
        ExecutesLowering-moved (Sum d a (Number k)) d a (x86.Add d (Number k)) (λ q next regs_after_move.
        EffectExecutesStatement-add q next d a (omega (arith, are_registers 0 0 (omega arith))) regs_after_move (Number k) refl)
    ExecutesLowering-lowered (Sum d a (Register b)) count are_registers empty =
        let in_range : d < length v.regs = omega (arith, are_registers 0 0 (omega arith)) in
        both_cases-selected (ExecutesFrom (Sum d a (Register b))) (d == b) (One (x86.Add d (Register a))) _ (λ is next.
        EffectExecutesStatement-local refl (λ c. refl) (sym next)
        (ap (λ r. slice_set r d (wrapping_sum (slice_index r d) (slice_index r a))) regs
        ∙ ap (slice_set v.regs d) (wrapping_sum-comm_destination d a b is)))
        (λ is.
        ExecutesLowering-moved (Sum d a (Register b)) d a _
        (λ q next regs_after_move.
        EffectExecutesStatement-add q next d a in_range regs_after_move (Register b)
        (ap (λ r. slice_index r b) regs_after_move
        ∙ get_or-set_other v.regs d b (slice_index v.regs a) 0 (λ e. eqb-false d b is (sym e)))))
    ExecutesLowering-lowered (IfEq a k to) count are_registers empty =
        ExecutesLowering-jump a k to (λ flag. flag) refl (λ q. refl) refl
    ExecutesLowering-lowered (IfNe a k to) count are_registers empty = ExecutesLowering-jump a k to not refl (λ q. refl) refl
    ExecutesLowering-lowered (Goto to) count are_registers empty =
        λ next. EffectExecutesStatement-local refl (λ b. refl) refl regs
