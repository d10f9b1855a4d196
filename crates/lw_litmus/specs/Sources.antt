-- The source language: the operation of each statement.
use Rattle.std.specs.Prelude.{Some, false}
use Rattle.lw_base.specs.declared.head.Arch.TheVariants.{Source}
use Rattle.lw_base.specs.declared.operand.Operand.TheVariants.{Register}
use Rattle.lw_litmus.specs.declared.operation.Guard.TheVariants.{Always, Equal, NotEqual}
use Rattle.lw_litmus.specs.declared.operation.Operation.{Operation}
use Rattle.lw_litmus.specs.declared.operation.Operation.TheVariants as operation
use Rattle.lw_litmus.specs.declared.stmt.Stmt.{Stmt}
use Rattle.lw_litmus.specs.declared.stmt.Stmt.TheVariants.{Store, Load, Swap, FetchAdd, Set, Sum, IfEq, IfNe, Goto}
use Rattle.lw_litmus.specs.Limits.{most_statements}
use Rattle.lw_litmus.specs.Languages.{Language}

-- The operation of a statement.
abbrev pub source_operation : Stmt → Operation
source_operation (Store x v) = operation.Store x v
source_operation (Load d x) = operation.Load d x
source_operation (Swap d x a) = operation.Swap d x a
source_operation (FetchAdd d x a) = operation.FetchAdd (Some d) x (Register a)
source_operation (Set d v) = operation.Set d v
source_operation (Sum d a v) = operation.Sum d a v
source_operation (IfEq a n to) = operation.Branch (Equal a n) to
source_operation (IfNe a n to) = operation.Branch (NotEqual a n) to
source_operation (Goto to) = operation.Branch Always to

-- The source language.
abbrev pub source_language : Language Stmt
source_language = record { arch = Source; most = most_statements; is_buffered = false; operation_of = source_operation }
