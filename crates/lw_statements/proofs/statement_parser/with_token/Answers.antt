-- `with_token` promises the bindings with this token, or that its slot does not accept it. One goal for each
-- kind of slot, from what its callee ensures.
use Rattle.lw_statements.proofs.SlotTokens.{taken_name}
use Rattle.lw_statements.proofs.statement_parser.with_token.Goals as goal

pub returns-in-Location : goal.returns-in-Location
returns-in-Location g c = rw c.in-Location.is (taken_name _ _ c.with_name.result c.with_name.ensures)

pub returns-in-Label : goal.returns-in-Label
returns-in-Label g c = rw c.in-Label.is (taken_name _ _ c.with_label.result c.with_label.ensures)

pub returns-in-Register : goal.returns-in-Register
returns-in-Register g c = rw c.in-Register.is (rw c.arch.ensures at c.with_register.ensures)

pub returns-in-Value : goal.returns-in-Value
returns-in-Value g c = rw c.in-Value.is (rw c.arch-in-Value.ensures at c.with_value.ensures)

pub returns-in-Number : goal.returns-in-Number
returns-in-Number g c = rw c.in-Number.is c.with_number.ensures
