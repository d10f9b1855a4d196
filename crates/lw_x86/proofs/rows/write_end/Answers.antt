-- `write_end` promises the cell at a thread's end: its label if a jump targets it, and nothing otherwise.
-- Immediate from what `is_target` ensures.
use Rattle.lw_x86.proofs.Common.{◌∙◌, sym}
use Rattle.lw_x86.proofs.rows.write_end.Goals as goal

pub returns-then-is_target : goal.returns-then-is_target
returns-then-is_target g c = rw (sym c.is_target.ensures ∙ c.if-is_target.true) c.write.ensures.bytes
