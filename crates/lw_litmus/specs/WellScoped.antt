-- What laws ask of a test: that it is well-scoped. All that it names exists, and its jumps lead forward. Nothing here limits how many
-- threads, locations or statements a test has: what the format limits is in WellFormed, and a well-formed test is well-scoped.
use Rattle.std.specs.Prelude.{◌≡◌, ℕ, ◌<◌, ◌≤◌, Some, List, length, slice_get, All}
use Rattle.std.specs.List.{AllByRecursion}
use Rattle.std.specs.Option.{ForSome}
use Rattle.lw_base.specs.Heads.{TestHead}
use Rattle.lw_base.specs.Limits.{registers}
use Rattle.lw_litmus.specs.Languages.{Language}
use Rattle.lw_litmus.specs.Operations.{branch_target}
use Rattle.lw_litmus.specs.Tests.{Test}
use Rattle.lw_litmus.specs.WellFormed.{IsWellFormedStatement}

-- A head has initial words: six for each thread, one for each of its registers, and one for each location.
pub record HasInitialWords (head : TestHead) : Type 0 where
  pub regs : length head.init_regs ≡ head.threads
  pub register_counts : AllByRecursion (λ row. length row ≡ registers) head.init_regs
  pub words : length head.init_words ≡ length head.locs

module _ {Stmt : Type 0} (language : Language Stmt) where
  -- A code is well-scoped, on `locs` locations: its statements are well-formed, and its jumps lead forward, at most to the end.
  pub record IsWellScopedThread (locs : ℕ) (code : List Stmt) : Type 0 where
    pub statements_formed : All (IsWellFormedStatement language locs) code
    pub forward :
        (k : ℕ) (s : Stmt) → slice_get code k ≡ Some s
        → ForSome (branch_target (language.operation_of s)) (λ to. (k < to) × (to ≤ length code))

  -- A test is well-scoped: its head has initial words and is of the language, and for each of its threads it has a well-scoped code.
  pub record IsWellScoped (test : Test Stmt) : Type 0 where
    pub head : HasInitialWords test.head
    pub arch : test.head.arch ≡ language.arch
    pub as_many : length test.threads ≡ test.head.threads
    pub code : All (IsWellScopedThread (length test.head.locs)) test.threads
