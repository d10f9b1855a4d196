-- The characters of texts and schedules.
use Prim.Native.String.{String}
use Rattle.std.specs.Prelude.{◌≡◌, ◌≢◌, ℕ, ◌+◌, ◌==◌, ◌||◌, Bool, false, [], ◌∷◌, ◌++◌, codes, slice_index_or}
use Rattle.std.specs.List.{list_any, AllByRecursion}
use Rattle.std.specs.Char.{is_ascii_alphanumeric}
use Rattle.lw_base.specs.Types.{Bytes}

-- The byte of a character, as in `byte "a"`; 0 if the text is empty.
abbrev pub byte : String → ℕ
byte s = slice_index_or (codes s) 0 0

-- The decimal digit of a number below 10.
abbrev pub digit : ℕ → ℕ
digit n = byte "0" + n

-- Tests whether a byte is blank: space, tab, line feed or carriage return.
abbrev pub is_blank : ℕ → Bool
is_blank b = list_any (λ c. c == b) (codes " \t\n\r")

-- Tests whether a byte is a letter, a digit or `_`.
abbrev pub is_name_byte : ℕ → Bool
is_name_byte b = is_ascii_alphanumeric b || b == byte "_"

-- Tests whether a byte may appear in a note's key: a letter, a digit, `_` or `-`.
abbrev pub is_key_byte : ℕ → Bool
is_key_byte b = is_name_byte b || b == byte "-"

-- Tests whether a byte is a space or a tab.
abbrev pub is_space : ℕ → Bool
is_space b = list_any (λ c. c == b) (codes " \t")

-- The text does not contain this byte.
abbrev pub DoesNotContain : ℕ → Bytes → Type 0
DoesNotContain b text = AllByRecursion (λ c. c ≢ b) text

-- The text is the first part, this byte and the second part, and the first part does not contain the byte.
abbrev pub IsSplitAtFirst : ℕ → Bytes → Bytes → Bytes → Type 0
IsSplitAtFirst b text front rest = (text ≡ front ++ b ∷ rest) × DoesNotContain b front

-- Tests whether a text has a first byte that passes a test.
abbrev pub first_byte_is : (ℕ → Bool) → Bytes → Bool
first_byte_is p [] = false
first_byte_is p (b ∷ text) = p b
