-- Proves `class_units`, which returns the number of units of a block of a class. Its bound: a class is at
-- most 59, and powers of two are monotone.
use Rattle.std.proofs.Common.{arith, pow_mono}
use Rattle.lw_arena.proofs.sizes.class_units.Goals as goal

pub returns-clause-bound : goal.returns-clause-bound
returns-clause-bound c = omega (arith, pow_mono {i = c.args.class} {j = 59} (omega arith))
