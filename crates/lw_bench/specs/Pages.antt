-- The page of a replay: the test's name, the number of events carried out, how it ended, and the state that it reached, by docs/FORMAT.md.
use Rattle.std.specs.Prelude.{ℕ, suc, List, [], ◌∷◌, ◌++◌, map, codes, slice_index, slice_index_or}
use Rattle.std.specs.List.{range_with_len}
use Rattle.std.specs.Fmt.{decimal}
use Rattle.lw_base.specs.Types.{Bytes, NameTable}
use Rattle.lw_base.specs.ConditionTexts.{assignment}
use Rattle.lw_base.specs.declared.head.Arch.{Arch}
use Rattle.lw_base.specs.Limits.{registers}
use Rattle.lw_base.specs.declared.stop.End.{End}
use Rattle.lw_base.specs.declared.stop.End.TheVariants.{Final, NotFinal, Stopped}
use Rattle.lw_base.specs.declared.stop.Replay.{Replay}
use Rattle.lw_base.specs.Heads.{TestHead}
use Rattle.lw_base.specs.Registers.{register_name}
use Rattle.lw_base.specs.Stops.{stop_code, stop_name}
use Rattle.lw_memory.specs.declared.system.LineState.{LineState}
use Rattle.lw_memory.specs.declared.system.LineState.TheVariants.{M, O, E, S, I}
use Rattle.lw_interleaving.specs.Runs.{State}
use Rattle.lw_tso.specs.Processors.{Processor}

-- The concatenated texts of a list's items, each by `text_of` from the item's index, counted from k, and the item.
abbrev pub numbered : {X : Type 0} → (ℕ → X → Bytes) → ℕ → List X → Bytes
numbered text_of k [] = []
numbered text_of k (x ∷ xs) = text_of k x ++ numbered text_of (suc k) xs

-- A space, a name, `=`, and the text of its index k.
abbrev pub named : (ℕ → Bytes) → ℕ → Bytes → Bytes
named text_of k name = codes " " ++ (name ++ (codes "=" ++ text_of k))

-- The word at an index, in decimal.
abbrev pub word_at : List ℕ → ℕ → Bytes
word_at words k = decimal (slice_index words k)

-- How a replay ended: `Final`, `NotFinal`, or `Stopped at k by c Name`.
abbrev pub end_text : ℕ → End → Bytes
end_text done Final = codes "Final"
end_text done NotFinal = codes "NotFinal"
end_text done (Stopped stop) =
    codes "Stopped at " ++ (decimal done ++ (codes " by " ++ (decimal (stop_code stop) ++ (codes " " ++ stop_name stop))))

-- The first lines of a page: the test's name, the number of events carried out and how the replay ended.
abbrev pub first_lines : TestHead → Replay → Bytes
first_lines head r =
    codes "Test " ++ (head.name
    ++ (codes "\nSteps " ++ (decimal r.done
    ++ (codes "\nEnd " ++ (end_text r.done r.end ++ codes "\n")))))

-- The names of a language's registers.
abbrev pub register_names : Arch → List Bytes
register_names arch = map (register_name arch) (range_with_len 0 registers)

-- A thread's line: its position, and its registers.
abbrev pub thread_line : Arch → ℕ → ℕ → List ℕ → Bytes
thread_line arch t position regs =
    codes "P" ++ (decimal t ++ (codes " at " ++ (decimal position
    ++ (numbered (named (word_at regs)) 0 (register_names arch) ++ codes "\n"))))

-- A title, and the text of each location's index.
abbrev pub location_line : Bytes → (ℕ → Bytes) → NameTable → Bytes
location_line title text_of names = title ++ (numbered (named text_of) 0 names ++ codes "\n")

-- A title, and a word for each location.
abbrev pub word_line : Bytes → NameTable → List ℕ → Bytes
word_line title names words = location_line title (word_at words) names

-- ---- Source tests.

-- The page of a source test: its threads, and the words in memory.
abbrev pub source_page : TestHead → Replay → State → Bytes
source_page head r s =
    first_lines head r
    ++ (numbered (λ t th. thread_line head.arch t th.position th.regs) 0 s.threads
    ++ word_line (codes "Memory") head.locs s.words)

-- ---- x86 tests.

-- `P`, the processor's index, and the rest of its line.
abbrev pub processor_title : ℕ → Bytes → Bytes
processor_title t rest = codes "P" ++ (decimal t ++ rest)

-- A space, and an entry of a store buffer.
abbrev pub entry_text : NameTable → ℕ → (ℕ × ℕ) → Bytes
entry_text names k entry = codes " " ++ assignment (slice_index_or names entry.0 []) entry.1

-- The line of a processor's store buffer.
abbrev pub buffer_line : NameTable → ℕ → List (ℕ × ℕ) → Bytes
buffer_line names t buffer =
    processor_title t (codes " buffer" ++ (numbered (entry_text names) 0 buffer ++ codes "\n"))

-- The letter of the state of a copy in a cache.
abbrev pub letter : LineState → Bytes
letter M = codes "M"
letter O = codes "O"
letter E = codes "E"
letter S = codes "S"
letter I = codes "I"

-- The line of a processor's cache, by the state of each location's copy there.
abbrev pub cache_states_line : NameTable → ℕ → (ℕ → LineState) → Bytes
cache_states_line names t held =
    processor_title t (codes " lines" ++ (numbered (named (λ x. letter (held x))) 0 names ++ codes "\n"))

-- The lines of a processor: its position and registers, its store buffer, and its cache.
abbrev pub processor_lines : TestHead → (ℕ → ℕ → LineState) → ℕ → Processor → Bytes
processor_lines head held t p =
    thread_line head.arch t p.position p.regs ++ (buffer_line head.locs t p.buffer ++ cache_states_line head.locs t (held t))

-- The page of an x86 test: its processors, the words in memory, and the coherent words.
abbrev pub machine_page : TestHead → Replay → List Processor → (ℕ → ℕ → LineState) → List ℕ → List ℕ → Bytes
machine_page head r processors held memory content =
    first_lines head r
    ++ (numbered (processor_lines head held) 0 processors
    ++ (word_line (codes "Memory") head.locs memory ++ word_line (codes "Content") head.locs content))
