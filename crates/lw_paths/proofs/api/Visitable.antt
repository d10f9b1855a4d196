-- The path assignments of a well-formed test of either language can be visited, and the jumps of a well-scoped test go forward. The lists
-- of lw_finals use this.
use Rattle.lw_paths.proofs.Common.{IsWellScoped, IsWellScopedThread, ◌≡◌, ℕ, ◌≤◌, inl, inr, [], Some, length}
use Rattle.lw_paths.proofs.Common.{sym, subst, slice_get, arith, cases_lt, get_or_past, All-weaker}
use Rattle.lw_paths.proofs.Common.{All-get_or, thread_code, Language, Test, IsWellFormedThread, JumpsForward}
use Rattle.lw_paths.proofs.Common.{IsVisitable}
use Rattle.lw_litmus.specs.WellFormed.{IsWellFormed}

module _ {S : Type 0} (language : Language S) (test : Test S) (well_formed : IsWellFormed language test) where
  -- If a test is well-formed, and its language has at most 32 statements for a thread, its path assignments can be visited.
  pub IsVisitable-well_formed : language.most ≤ 32 → IsVisitable language test.threads
  IsVisitable-well_formed short = record {
    bounded = omega (arith, well_formed.as_many, well_formed.head.bounded);
    short =
        All-weaker (IsWellFormedThread language (length test.head.locs)) (λ code. length code ≤ 32)
        (λ code t. omega (arith, short, t.short)) test.threads well_formed.code;
    forward = All-weaker (IsWellFormedThread language (length test.head.locs)) _ (λ code t. t.forward) _ well_formed.code;
  }

module _ {S : Type 0} (language : Language S) (test : Test S) (well_scoped : IsWellScoped language test) where
  -- The jumps of each thread go forward, and so do those of the empty code past the last thread.
  pub JumpsForward-thread : (t : ℕ) → JumpsForward language (thread_code test.threads t)
  JumpsForward-thread t = elim (cases_lt t (length test.threads)) [
    | inl h ↦
        (let thread : IsWellScopedThread language (length test.head.locs) (thread_code test.threads t) =
        All-get_or (IsWellScopedThread language (length test.head.locs)) test.threads t [] h well_scoped.code in
        thread.forward)
    | inr h ↦ subst (JumpsForward language) (sym (get_or_past _ t [] h)) (λ k s e. absurd (slice_get-nil_absurd k s e))
  ]
    where
      -- The empty code has no statement.
      slice_get-nil_absurd : (k : ℕ) (s : S) → slice_get [] k ≡ Some s → ⊥
      slice_get-nil_absurd k s found_at = cc
