-- Proves `prefix_of_kind`, which splits a text after its longest prefix of bytes of a kind. The two parts are
-- `take` and `drop` at the counted index; that the byte after the prefix is of another kind is what
-- `take_while` promises.
use Rattle.lw_base.proofs.Common.{sym, take-append-drop, common_steps, arith}
use Rattle.lw_base.proofs.byte_kinds.prefix_of_kind.Goals as goal

pub returns-clause-parts : goal.returns-clause-parts
returns-clause-parts c = rw (c.split_at.ensures.front, c.split_at.ensures.back) (sym (take-append-drop c.count-count.result _))

pub returns-clause-longest : goal.returns-clause-longest
returns-clause-longest c = grind (arith, common_steps)
