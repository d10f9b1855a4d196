-- Proves `size_class`, which returns the class of the block for a size. Its bound: a size is below 2 to the
-- 63, so its last unit has less than 60 binary digits (`FitsClass-of_size`).
use Rattle.std.proofs.Common.{ℕ, ◌-◌, ◌/◌, ◌<◌, subst, sym}
use Rattle.std.specs.Int.Count.{count_leading_zeros}
use Rattle.lw_arena.proofs.Classes.{FitsClass-of_size}
use Rattle.lw_arena.proofs.sizes.size_class.Goals as goal

pub returns-clause-bound : goal.returns-clause-bound
returns-clause-bound c =
    subst (λ (last : ℕ). 64 - count_leading_zeros 64 ((last - 1) / 16) < 60) (sym c.max.ensures)
    (FitsClass-of_size c.args.size c.requires).bounded
