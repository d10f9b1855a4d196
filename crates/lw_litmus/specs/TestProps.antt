-- Well-formedness of a test is a proposition. A ghost field requires this of its fact; nothing else cites it.
use Rattle.std.proofs.Props.{props}
use Rattle.lw_base.specs.WellFormedProps.{IsWellFormedHead-prop}
use Rattle.lw_litmus.specs.Languages.{Language}
use Rattle.lw_litmus.specs.Tests.{Test}
use Rattle.lw_litmus.specs.WellFormed.{IsWellFormed}

-- `IsWellFormed` is a proposition.
pub IsWellFormed-prop : {Stmt : Type 0} (language : Language Stmt) (test : Test Stmt) → IsProp (IsWellFormed language test)
IsWellFormed-prop language test = hlevel (props, IsWellFormedHead-prop)
