-- The output of a run on the test of its input.
use Rattle.std.specs.Prelude.{Option}
use Rattle.std.specs.Option.{IfSome}
use Rattle.std.specs.Io.KnownBytes.{Appends}
use Rattle.lw_base.specs.Types.{Bytes}
use Rattle.lw_bench.specs.LitmusTests.{LitmusTest}
use Rattle.lw_bench.specs.TestTexts.{HasTest}

-- The text is a test, and these bytes are its output.
pub record IsOutputOf (IsMade : LitmusTest → Bytes → Type 0) (text made : Bytes) : Type 0 where
  pub test : LitmusTest
  pub has_test : HasTest text test
  pub is_made : IsMade test made

-- If the input and the writer's bytes are known, the test's output was written, and nothing else.
abbrev pub Writes : (LitmusTest → Bytes → Type 0) → Option Bytes → Option Bytes → Option Bytes → Type 0
Writes IsMade known before after =
    IfSome known (λ text. (made : Bytes) × IsOutputOf IsMade text made × Appends before after made)
