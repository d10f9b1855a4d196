-- Tests of a language.
use Rattle.std.specs.Prelude.{List}
use Rattle.lw_base.specs.declared.head.Head.{Head}
use Rattle.lw_base.specs.Heads.{TestHead, head_of}
use Rattle.lw_litmus.specs.declared.instr.Instr.{Instr}
use Rattle.lw_litmus.specs.declared.stmt.Stmt.{Stmt}

-- A head, and the statements of each thread.
pub record Test (Stmt : Type 0) : Type 0 where
  pub head : TestHead
  pub threads : List (List Stmt)

-- A test of the source language.
abbrev pub SourceTest : Type 0
SourceTest = Test Stmt

-- A test of the x86 language, whose statements are instructions.
abbrev pub X86Test : Type 0
X86Test = Test Instr

-- The test with a head in memory and these statements.
abbrev pub test_of : {A Stmt : Type 0} → Head A → List (List Stmt) → Test Stmt
test_of head threads = record { head = head_of head; threads = threads }
