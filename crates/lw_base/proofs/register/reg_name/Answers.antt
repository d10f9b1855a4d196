-- Proves `reg_name`, a table of a name for each register. Two rows by hand, since the definition has the same
-- rows; the search proves the others.
use Rattle.lw_base.proofs.Common.{rules}
use Rattle.lw_base.proofs.register.reg_name.Goals as goal

pub returns-in-X86-eq1 : goal.returns-in-X86-eq1
returns-in-X86-eq1 c = search rules

pub returns-in-X86-eq2 : goal.returns-in-X86-eq2
returns-in-X86-eq2 c = search rules
