-- The text of a schedule: the texts of its events, separated by blanks.
use Rattle.std.specs.Prelude.{◌≡◌, ℕ, ◌<◌, true, false, if◌then◌else◌, ◌⊎◌, List, [], ◌∷◌, ◌++◌, length, map, filter, drop, codes, slice_index_or, Contains}
use Rattle.std.specs.List.{AllByRecursion}
use Rattle.lw_base.specs.Texts.{joined}
use Rattle.lw_base.specs.Types.{Bytes, NameTable}
use Rattle.lw_base.specs.Characters.{byte, digit, is_blank, first_byte_is}
use Rattle.lw_base.specs.Names.{IsNameShaped, are_digits}
use Rattle.lw_base.specs.Limits.{most_threads}
use Rattle.lw_base.specs.declared.event.Event.{Event}
use Rattle.lw_base.specs.declared.event.Event.TheVariants.{Step, Drain, Evict}
use Rattle.lw_base.specs.declared.fault.ScheduleCause.{ScheduleCause}
use Rattle.lw_base.specs.declared.fault.ScheduleCause.TheVariants.{Word, Cpu, Location, Memory}

-- The event is of an existing processor, and on a location of the table.
abbrev pub IsEvent : NameTable → Event → Type 0
IsEvent names (Step cpu) = cpu < most_threads
IsEvent names (Drain cpu) = cpu < most_threads
IsEvent names (Evict cpu loc) = (cpu < most_threads) × (loc < length names)

-- The text of an event: `P0`, `D0` or `E0:x`.
abbrev pub event_text : NameTable → Event → Bytes
event_text names (Step cpu) = byte "P" ∷ digit cpu ∷ []
event_text names (Drain cpu) = byte "D" ∷ digit cpu ∷ []
event_text names (Evict cpu loc) = byte "E" ∷ digit cpu ∷ byte ":" ∷ slice_index_or names loc []

-- The piece is the text of this event.
abbrev pub IsEventText : NameTable → Event → Bytes → Type 0
IsEventText names e w = IsEvent names e × (event_text names e ≡ w)

-- The pieces, with one more byte at the start of the first.
abbrev pub prepend_to_first : ℕ → List Bytes → List Bytes
prepend_to_first b [] = (b ∷ []) ∷ []
prepend_to_first b (w ∷ ws) = (b ∷ w) ∷ ws

-- The pieces of a text between its blanks, some of which may be empty.
abbrev pub split_blanks : Bytes → List Bytes
split_blanks [] = [] ∷ []
split_blanks (b ∷ text) = if is_blank b then [] ∷ split_blanks text else prepend_to_first b (split_blanks text)

-- The pieces of a text that are not empty, each of which should be the text of an event.
abbrev pub event_texts : Bytes → List Bytes
event_texts text = filter (first_byte_is (λ b. true)) (split_blanks text)

-- The texts of events, separated by single spaces.
abbrev pub schedule_text : NameTable → List Event → Bytes
schedule_text names events = joined (codes " ") (map (event_text names) events)

-- The text is a schedule of these events: its pieces are their texts.
abbrev pub IsSchedule : NameTable → Bytes → List Event → Type 0
IsSchedule names text events =
    AllByRecursion (IsEvent names) events × (event_texts text ≡ map (event_text names) events)

-- The text is that of an eviction: `E`, the digits ds, `:` and the name n.
abbrev pub IsEviction : Bytes → Bytes → Bytes → Type 0
IsEviction w ds n = w ≡ byte "E" ∷ ds ++ byte ":" ∷ n

-- The piece has the parts of an event: `P` or `D`, and then ds; or `E`, ds, `:` and a name of any length.
abbrev pub HasEventParts : Bytes → Bytes → Type 0
HasEventParts w ds =
    (w ≡ byte "P" ∷ ds)
    ⊎ ((w ≡ byte "D" ∷ ds) ⊎ ((n : Bytes) × IsNameShaped n × IsEviction w ds n))

-- The piece has the shape of an event: ds are digits, and the piece has the parts of an event with them.
abbrev pub HasEventShape : Bytes → Bytes → Type 0
HasEventShape w ds = (are_digits ds ≡ true) × HasEventParts w ds

-- The digits are one digit, the index of a processor.
abbrev pub IsCpu : Bytes → Type 0
IsCpu ds = (c : ℕ) × (c < most_threads) × (ds ≡ digit c ∷ [])

-- The piece is rejected for this cause: it does not have the shape of an event; or its digits are no processor's index; or they are, and
-- its name is not in the table.
abbrev pub IsFaultyPiece : NameTable → Bytes → ScheduleCause → Type 0
IsFaultyPiece names w Word = (ds : Bytes) → HasEventShape w ds → ⊥
IsFaultyPiece names w Cpu = (ds : Bytes) × HasEventShape w ds × (IsCpu ds → ⊥)
IsFaultyPiece names w Location =
    (ds n : Bytes) × IsCpu ds × IsNameShaped n × IsEviction w ds n × (Contains names n → ⊥)
IsFaultyPiece names w Memory = ⊥

-- The first faulty piece of a text begins at this byte and is rejected for this cause; the pieces before it are texts of events.
pub record IsFirstFault (names : NameTable) (text : Bytes) (at : ℕ) (cause : ScheduleCause) : Type 0
  where
    pub before : List Event
    pub piece : Bytes
    pub further : List Bytes
    pub events : AllByRecursion (IsEvent names) before
    pub place : event_texts (drop at text) ≡ piece ∷ further
    pub front : first_byte_is is_blank (drop at text) ≡ false
    pub whole : event_texts text ≡ map (event_text names) before ++ piece ∷ further
    pub fault : IsFaultyPiece names piece cause
