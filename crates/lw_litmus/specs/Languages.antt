-- A language of litmus tests: the maximum length of a thread, and the operation of each statement. An x86 instruction is a statement of its
-- language.
use Rattle.std.specs.Prelude.{ℕ, Bool}
use Rattle.lw_base.specs.declared.head.Arch.{Arch}
use Rattle.lw_litmus.specs.declared.operation.Operation.{Operation}

-- A language with statements of type Stmt.
pub record Language (Stmt : Type 0) : Type 0 where
  pub arch : Arch  -- The keyword of the language.
  pub most : ℕ  -- The maximum number of statements of a thread.
  pub is_buffered : Bool  -- Whether stores go to memory through a store buffer, from which they drain.
  pub operation_of : Stmt → Operation
