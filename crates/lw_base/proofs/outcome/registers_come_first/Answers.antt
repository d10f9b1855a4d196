-- Proves the law that outcomes are compared by their registers first. Immediate: the derived comparison is
-- that of the two fields in sequence.
use Rattle.lw_base.proofs.Common.{refl}
use Rattle.lw_base.proofs.outcome.registers_come_first.Goals as goal

pub returns : goal.returns
returns g c left right = refl
