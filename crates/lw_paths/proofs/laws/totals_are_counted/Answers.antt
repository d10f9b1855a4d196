-- Proves the law that a program's total number of orders is unique and is the computed sum, so that no
-- program is both within the limits and beyond them. Each clause is a lemma.
use Rattle.lw_paths.proofs.api.Totals.{IsTotalOrderCount-total_of, IsTotalOrderCount-unique}
use Rattle.lw_paths.proofs.api.Totals.{not-LimitFaultIsTrue-if_within_limits}
use Rattle.lw_paths.proofs.laws.totals_are_counted.Goals as goal

pub returns-clause-counted : goal.returns-clause-counted
returns-clause-counted g c program forward = IsTotalOrderCount-total_of g.S.Statement.language program forward

pub returns-clause-unique : goal.returns-clause-unique
returns-clause-unique g c program n m = IsTotalOrderCount-unique g.S.Statement.language program n m

pub returns-clause-apart : goal.returns-clause-apart
returns-clause-apart g c program f told = not-LimitFaultIsTrue-if_within_limits g.S.Statement.language program f told
