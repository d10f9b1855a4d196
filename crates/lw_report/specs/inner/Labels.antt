-- The parts of lines: the label before each word of a state, and a schedule. Used only within the crate.
use Rattle.std.specs.Prelude.{ℕ, zero, suc, List, [], ◌∷◌, ◌++◌, map, codes, zip, slice_index_or}
use Rattle.std.specs.List.{flat_map}
use Rattle.std.specs.Fmt.{decimal}
use Rattle.lw_base.specs.Types.{Bytes, NameTable}
use Rattle.lw_base.specs.ConditionTexts.{site_text}
use Rattle.lw_base.specs.Heads.{TestHead}
use Rattle.lw_base.specs.Schedules.{schedule_text}
use Rattle.lw_base.specs.declared.event.Event.{Event}
use Rattle.lw_base.specs.declared.head.Seen.{Seen}

-- The text `name=`, after the prefix `before`.
abbrev pub label : TestHead → Bytes → Seen → Bytes
label head before s = before ++ (site_text head.arch head.locs s ++ codes "=")

-- The gap before the label at an index: a space, except before the first.
abbrev pub gap : ℕ → Bytes
gap zero = []
gap (suc k) = codes " "

-- The labels of names. All except the first begin with a space.
abbrev pub labels : TestHead → List Seen → List Bytes
labels head [] = []
labels head (s ∷ ss) = label head [] s ∷ map (label head (codes " ")) ss

-- A label, its word and `;`.
abbrev pub labelled_word : (Bytes × ℕ) → Bytes
labelled_word entry = entry.0 ++ (decimal entry.1 ++ codes ";")

-- The words, each after its label in `names`.
abbrev pub labelled_words : List Bytes → List ℕ → Bytes
labelled_words names words = flat_map labelled_word (zip names words)

-- A space and the line of the schedule at an index of a list of schedules.
abbrev pub schedule_line : NameTable → List (List Event) → ℕ → Bytes
schedule_line names schedules entry =
    codes " " ++ (schedule_text names (slice_index_or schedules entry []) ++ codes "\n")
