-- What the threads of a well-scoped source keep, step by step. Registers exist, and jumps lead forward; both
-- directions of the compiler's theorem need it.
use Rattle.lw_fence.proofs.Common.{IsWellScopedThread, IsWellScopedSource, ◌≡◌, ℕ, ◌<◌, ◌≤◌, List, [], length}
use Rattle.lw_fence.proofs.Common.{Some, refl, ap, ◌∙◌, subst, ⊎_elim, arith, length-set, All, slice_get}
use Rattle.lw_fence.proofs.Common.{slice_index_or, ForSome, cases_lt, get_or_past, slice_get_within}
use Rattle.lw_fence.proofs.Common.{get_or_from_slice_get, thread_code, IsRegisterIndex, IsWellFormedStatement}
use Rattle.lw_fence.proofs.Common.{registers_of, Stmt, Operation, Thread, branch_target, source_language}
use Rattle.lw_fence.proofs.Common.{source_operation, SourceTest, thread_after, IsSuccessor-thread_after}
use Rattle.lw_fence.proofs.Common.{length-set_word_if_some, Compare, Fence, Branch, registers}
use Rattle.lw_litmus.specs.declared.operation.Operation.TheVariants.{Store, FetchAdd}
use Rattle.lw_fence.proofs.Marks.{IsSuccessor-forward}

-- The statement at index j has only registers that exist, and a jump leads forward, at most to the end.
pub record IsAllowedStatement (code : List Stmt) (j : ℕ) (x : Stmt) : Type 0 where
  pub registers : All IsRegisterIndex (registers_of (source_operation x))
  pub target : ForSome (branch_target (source_operation x)) (λ to. (j < to) × (to ≤ length code))

-- Each statement of a well-scoped thread has registers in range, and jumps forward only.
IsAllowedStatement-in_thread : (locs : ℕ) (code : List Stmt) (j : ℕ) (x : Stmt)
    → IsWellScopedThread source_language locs code
    → slice_get code j ≡ Some x
    → IsAllowedStatement code j x
IsAllowedStatement-in_thread locs code j x thread found_at =
    let same : slice_index_or code j x ≡ x = get_or_from_slice_get code j x x found_at in
    let statement =
    subst (IsWellFormedStatement source_language locs) same (thread.statements_formed j x (slice_get_within code j x found_at)) in
    record { registers = statement.1; target = thread.forward j x found_at }

-- Each statement of a well-scoped source has registers in range, and jumps forward only.
pub IsAllowedStatement-in_source : (s : SourceTest)
    → IsWellScopedSource s
    → (t j : ℕ) (x : Stmt)
    → slice_get (thread_code s.threads t) j ≡ Some x
    → IsAllowedStatement (thread_code s.threads t) j x
IsAllowedStatement-in_source s well_scoped t j x found_at =
    ⊎_elim (λ within.
    IsAllowedStatement-in_thread (length s.head.locs) (thread_code s.threads t) j x (well_scoped.code t [] within) found_at)
    (λ past.
    absurd (omega (arith, slice_get_within (thread_code s.threads t) j x found_at, ap length (get_or_past s.threads t [] past))))
    (cases_lt t (length s.threads))

-- What always holds of a thread of a source: six registers, and at most at its end.
pub record IsThreadInBounds (code : List Stmt) (th : Thread) : Type 0 where
  pub register_count : length th.regs ≡ registers
  pub position_in_range : th.position ≤ length code

-- An operation preserves the number of a thread's registers.
length-regs_thread_after : (o : Operation) (th : Thread) (m : List ℕ) → length (thread_after o th m).regs ≡ length th.regs
length-regs_thread_after (Compare a v) th m = refl
length-regs_thread_after (Store x v) th m = refl
length-regs_thread_after (FetchAdd d x v) th m = length-set_word_if_some th.regs d _
length-regs_thread_after Fence th m = refl
length-regs_thread_after (Branch c to) th m = refl
length-regs_thread_after _ th m = length-set th.regs _ _

-- A step by a thread's next statement preserves what always holds of the thread.
pub IsThreadInBounds-step : {code : List Stmt} (th : Thread) (m : List ℕ) (x : Stmt)
    → IsAllowedStatement code th.position x
    → slice_get code th.position ≡ Some x
    → IsThreadInBounds code th
    → IsThreadInBounds code (thread_after (source_operation x) th m)
IsThreadInBounds-step {code = code} th m x ok found_at in_bounds =
    let o = source_operation x in
    record {
      register_count = length-regs_thread_after o th m ∙ in_bounds.register_count;
      position_in_range =
          (IsSuccessor-forward _ _ _ o ok.target (slice_get_within code th.position x found_at)
          (IsSuccessor-thread_after o th m)).1;
    }
