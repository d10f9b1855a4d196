-- The limit of the input.
use Rattle.std.specs.Prelude.{ℕ}

-- The number of bytes after which reading ends: one more than a text may have.
abbrev pub most_read_bytes : ℕ
most_read_bytes = 65537
