-- The sizes of blocks. A unit is 16 bytes.
use Rattle.std.specs.Prelude.{ℕ, ◌-◌, ◌/◌, ◌^◌, max}
use Rattle.std.specs.Int.Count.{count_leading_zeros}

-- The class of the block for n bytes, or for one if n is 0: the number of binary digits of the index of the last byte's unit.
abbrev pub block_class : ℕ → ℕ
block_class n = 64 - count_leading_zeros 64 ((max n 1 - 1) / 16)

-- The number of units of the block for n bytes.
abbrev pub block_units : ℕ → ℕ
block_units n = 2 ^ block_class n
