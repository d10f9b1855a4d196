-- Separators between the parts of a line.
use Rattle.std.specs.Prelude.{ℕ, if◌then◌else◌, ◌==◌, []}
use Rattle.lw_base.specs.Types.{Bytes}

-- The separator before the part at an index: empty before the first.
abbrev pub separator : ℕ → Bytes → Bytes
separator number between = if number == 0 then [] else between
