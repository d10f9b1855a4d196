-- The maximum lengths of threads. The code's constants are these numbers, as src/limits.rt proves.
use Rattle.std.specs.Prelude.{ℕ}

-- The maximum number of statements of a thread of a source test.
abbrev pub most_statements : ℕ
most_statements = 16

-- The maximum number of instructions of a thread of an x86 test.
abbrev pub most_instructions : ℕ
most_instructions = 32
