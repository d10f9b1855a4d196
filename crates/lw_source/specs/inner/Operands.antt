-- The statement of a form with operands that may be missing.
use Rattle.std.specs.Prelude.{Option}
use Rattle.lw_litmus.specs.declared.stmt.Stmt.{Stmt}
use Rattle.lw_litmus.specs.declared.stmt.Stmt.TheVariants as stmt
use Rattle.lw_statements.specs.declared.draft.Operands.{Operands}
use Rattle.lw_statements.specs.Bindings.{map_some, map_some2, map_some3}
use Rattle.lw_source.specs.declared.language.SourceForm.{SourceForm}
use Rattle.lw_source.specs.declared.language.SourceForm.TheVariants.{Store, Load, Swap, FetchAdd, Set, Sum, IfEqual, IfNotEqual, Goto}

-- The statement of a form, or `None` if an operand that it needs is missing.
abbrev pub statement_of_operands : SourceForm → Operands → Option Stmt
statement_of_operands Store o = map_some2 stmt.Store o.loc o.val
statement_of_operands Load o = map_some2 stmt.Load o.reg o.loc
statement_of_operands Swap o = map_some3 stmt.Swap o.reg o.loc o.other
statement_of_operands FetchAdd o = map_some3 stmt.FetchAdd o.reg o.loc o.other
statement_of_operands Set o = map_some2 stmt.Set o.reg o.val
statement_of_operands Sum o = map_some3 stmt.Sum o.reg o.other o.val
statement_of_operands IfEqual o = map_some3 stmt.IfEq o.reg o.num o.to
statement_of_operands IfNotEqual o = map_some3 stmt.IfNe o.reg o.num o.to
statement_of_operands Goto o = map_some stmt.Goto o.to
