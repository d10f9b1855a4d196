-- A well-formed test is well-scoped: what holds of all well-scoped tests holds of what is read. The crates above cite it, since their laws
-- ask for well-scoped tests only.
use Rattle.lw_litmus.proofs.Common.{ℕ, List, Language, Test, IsWellFormed, IsWellFormedThread, IsWellScoped}
use Rattle.lw_litmus.proofs.Common.{IsWellScopedThread, HasInitialWords, TestHead, IsWellFormedHead}

-- A well-formed head has initial words.
pub HasInitialWords-well_formed : {head : TestHead} → IsWellFormedHead head → HasInitialWords head
HasInitialWords-well_formed formed = record { regs = formed.regs; register_counts = formed.register_counts; words = formed.words }

-- A well-formed code is well-scoped.
pub IsWellScopedThread-well_formed : {Stmt : Type 0} (language : Language Stmt) {locs : ℕ} {code : List Stmt}
    → IsWellFormedThread language locs code
    → IsWellScopedThread language locs code
IsWellScopedThread-well_formed language formed = record { statements_formed = formed.statements_formed; forward = formed.forward }

-- A well-formed test is well-scoped.
pub IsWellScoped-well_formed : {Stmt : Type 0} (language : Language Stmt) {test : Test Stmt}
    → IsWellFormed language test
    → IsWellScoped language test
IsWellScoped-well_formed language formed = record {
  head = HasInitialWords-well_formed formed.head;
  arch = formed.arch;
  as_many = formed.as_many;
  code = λ t d within. IsWellScopedThread-well_formed language (formed.code t d within);
}
