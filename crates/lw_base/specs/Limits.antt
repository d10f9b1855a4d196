-- The limits of a test. The code's constants are these numbers, as src/limits.rt proves.
use Rattle.std.specs.Prelude.{ℕ}

-- The maximum number of threads of a test, and the number of processors.
abbrev pub most_threads : ℕ
most_threads = 4

-- The maximum number of locations of a test.
abbrev pub most_locations : ℕ
most_locations = 8

-- The number of registers of a thread.
abbrev pub registers : ℕ
registers = 6

-- The maximum length of the name of a location or a label, in bytes.
abbrev pub most_name_bytes : ℕ
most_name_bytes = 32

-- The maximum length of the name of a test, in bytes.
abbrev pub most_test_name_bytes : ℕ
most_test_name_bytes = 128

-- The maximum length of the text of a test, in bytes.
abbrev pub most_text_bytes : ℕ
most_text_bytes = 65536

-- The maximum number of rows of cells of a test.
abbrev pub most_rows : ℕ
most_rows = 64

-- The maximum number of atoms and connectives of a condition.
abbrev pub most_nodes : ℕ
most_nodes = 256
