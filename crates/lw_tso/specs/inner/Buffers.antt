-- What a contract sees of a store buffer in memory.
use Rattle.std.specs.Prelude.{ℕ, List}

-- Locations with words, the oldest entry first, and the capacity.
pub record Buffered : Type 0 where
  pub entries : List (ℕ × ℕ)
  pub room : ℕ
