-- The bytes that are read and written.
use Rattle.std.specs.Prelude.{◌≡◌, ℕ, ◌+◌, ◌≤◌, ◌⊎◌, Option, Some, [], ◌++◌, length, drop}
use Rattle.std.specs.Option.{IfSome}
use Rattle.std.specs.Io.KnownBytes.{Consumes, IsAtEnd, Appends}
use Rattle.lw_base.specs.Types.{Bytes}
use Rattle.lw_bench.specs.Limits.{most_read_bytes}

-- These are the first bytes of the input, if it is known: all of it, or 65,537.
abbrev pub IsInput : Option Bytes → Bytes → Type 0
IsInput known bytes = IfSome known (λ input. (rest : Bytes) × (input ≡ bytes ++ rest) × ((rest ≡ []) ⊎ (length bytes ≡ most_read_bytes)))

-- If the input is known, all of it was consumed, or its first 65,537 bytes, and the rest remains.
abbrev pub TakesInput : Option Bytes → Option Bytes → Type 0
TakesInput before after = IfSome before (λ input. after ≡ Some (drop most_read_bytes input))

-- If the input is known, some of its first 65,537 bytes were consumed, and the rest remains.
abbrev pub TakesSome : Option Bytes → Option Bytes → Type 0
TakesSome before after = IfSome before (λ input. (count : ℕ) × (count ≤ most_read_bytes) × (after ≡ Some (drop count input)))

-- A reader returned `count` more bytes, which were appended to those read before. The reader returns none only at its end.
pub record ReadsMore (known left : Option Bytes) (before after : Bytes) (count : ℕ) : Type 0 where
  pub new_bytes : Bytes
  pub as_many : length new_bytes ≡ count
  pub added : after ≡ before ++ new_bytes
  pub limit : length after ≤ most_read_bytes
  pub consumed : Consumes known left new_bytes
  pub ended : count ≡ 0 → IsAtEnd left

-- Some bytes were consumed and lost. Together with those read before they are at most as many as may be read.
pub record LosesInput (known left : Option Bytes) (before : Bytes) : Type 0 where
  pub new_bytes : Bytes
  pub limit : length before + length new_bytes ≤ most_read_bytes
  pub consumed : Consumes known left new_bytes

-- A prefix of the bytes was written, and `rest` remains.
pub record WritesPrefix (before after : Option Bytes) (bytes rest : Bytes) : Type 0 where
  pub written : Bytes
  pub parts : bytes ≡ written ++ rest
  pub appended : Appends before after written
