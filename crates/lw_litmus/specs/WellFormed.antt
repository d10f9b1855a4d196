-- Well-formed tests: what is true of every test.
use Rattle.std.specs.Prelude.{◌≡◌, ℕ, ◌<◌, ◌≤◌, Some, List, length, slice_get, All}
use Rattle.std.specs.Option.{ForSome}
use Rattle.lw_base.specs.WellFormed.{IsRegisterIndex, IsWordNumber, IsWellFormedHead}
use Rattle.lw_litmus.specs.declared.operation.Operation.{Operation}
use Rattle.lw_litmus.specs.Languages.{Language}
use Rattle.lw_litmus.specs.Operations.{location_of, branch_target, registers_of, numbers_of}
use Rattle.lw_litmus.specs.Tests.{Test}

-- The operation is well-formed: its location is below `locs`, its registers are registers of a thread, and its numbers are words.
abbrev pub IsWellFormedOperation : ℕ → Operation → Type 0
IsWellFormedOperation locs o =
    ForSome (location_of o) (λ x. x < locs) × All IsRegisterIndex (registers_of o) × All IsWordNumber (numbers_of o)

module _ {Stmt : Type 0} (language : Language Stmt) where
  -- The statement's operation is well-formed, on `locs` locations.
  abbrev pub IsWellFormedStatement : ℕ → Stmt → Type 0
  IsWellFormedStatement locs s = IsWellFormedOperation locs (language.operation_of s)

  -- The code is well-formed: not too long for the language, its statements on `locs` locations, and its jumps forward, at most to the end.
  pub record IsWellFormedThread (locs : ℕ) (code : List Stmt) : Type 0 where
    pub short : length code ≤ language.most
    pub statements_formed : All (IsWellFormedStatement locs) code
    pub forward :
        (k : ℕ) (s : Stmt) → slice_get code k ≡ Some s
        → ForSome (branch_target (language.operation_of s)) (λ to. (k < to) × (to ≤ length code))

  -- The test is well-formed: its head is, it is of the language, and each of its threads has a well-formed code.
  pub record IsWellFormed (test : Test Stmt) : Type 0 where
    pub head : IsWellFormedHead test.head
    pub arch : test.head.arch ≡ language.arch
    pub as_many : length test.threads ≡ test.head.threads
    pub code : All (IsWellFormedThread (length test.head.locs)) test.threads
