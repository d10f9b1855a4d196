-- Conflicting statements: two that access one location, of which at least one writes it.
use Rattle.std.specs.Prelude.{ℕ, ◌==◌, Bool, false, ◌&&◌, ◌||◌, Option, Some, None}
use Rattle.lw_litmus.specs.Languages.{Language}
use Rattle.lw_litmus.specs.Operations.{location_of, writes}

-- Tests whether both locations are given and equal.
abbrev pub is_same_location : Option ℕ → Option ℕ → Bool
is_same_location None y = false
is_same_location (Some x) None = false
is_same_location (Some x) (Some y) = x == y

module _ {Stmt : Type 0} (language : Language Stmt) where
  -- The location that a statement reads or writes, if it accesses one.
  abbrev pub accessed_location : Stmt → Option ℕ
  accessed_location s = location_of (language.operation_of s)

  -- Tests whether a statement writes its location.
  abbrev pub is_written : Stmt → Bool
  is_written s = writes (language.operation_of s)

  -- Tests whether both statements are there, access one location, and at least one of them writes it.
  abbrev pub operations_conflict : Option Stmt → Option Stmt → Bool
  operations_conflict None b = false
  operations_conflict (Some a) None = false
  operations_conflict (Some a) (Some b) = is_same_location (accessed_location a) (accessed_location b) && (is_written a || is_written b)
