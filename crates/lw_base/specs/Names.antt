-- The names of locations and labels.
use Rattle.std.specs.Prelude.{◌≡◌, ◌<◌, ◌≤◌, ◌&&◌, ◌||◌, ◌==◌, not, Bool, true, false, List, [], ◌∷◌, length, map, codes}
use Rattle.std.specs.List.{list_any, list_all, AllByRecursion}
use Rattle.std.specs.Char.{is_ascii_digit, is_ascii_graphic, to_ascii_lowercase}
use Rattle.std.specs.Str.{bytes_eq}
use Rattle.lw_base.specs.Lists.{IsDuplicateFree}
use Rattle.lw_base.specs.Limits.{most_locations, most_name_bytes, most_test_name_bytes}
use Rattle.lw_base.specs.Types.{Bytes, NameTable}
use Rattle.lw_base.specs.Characters.{byte, is_name_byte, first_byte_is}

-- The text is a letter or `_`, followed by letters, digits and `_`.
pub record IsNameShaped (w : Bytes) : Type 0 where
  pub not_empty : 0 < length w
  pub are_name_bytes : AllByRecursion (λ b. is_name_byte b ≡ true) w
  pub front : first_byte_is is_ascii_digit w ≡ false

-- The text is a name: name-shaped, and at most 32 bytes long.
abbrev pub IsName : Bytes → Type 0
IsName w = IsNameShaped w × (length w ≤ most_name_bytes)

-- The reserved keywords of the test format and of the source language.
abbrev pub keywords : List Bytes
keywords =
    codes "if" ∷ codes "goto" ∷ codes "swap" ∷ codes "fetchadd" ∷ codes "exists" ∷ codes "forall"
    ∷ codes "locations" ∷ codes "filter" ∷ codes "true" ∷ codes "false" ∷ codes "not" ∷ []

-- The 32-bit registers of x86, in small letters.
abbrev pub x86_registers : List Bytes
x86_registers =
    codes "eax" ∷ codes "ebx" ∷ codes "ecx" ∷ codes "edx" ∷ codes "esi" ∷ codes "edi" ∷ codes "ebp"
    ∷ codes "esp" ∷ []

-- Tests whether all bytes are decimal digits, and there is at least one.
abbrev pub are_digits : Bytes → Bool
are_digits ds = not (length ds == 0) && list_all is_ascii_digit ds

-- Tests whether a text is `r` followed by digits.
abbrev pub is_numbered_register : Bytes → Bool
is_numbered_register [] = false
is_numbered_register (b ∷ ds) = (b == byte "r") && are_digits ds

-- Tests whether a text is reserved, so that it names no location and no label: a keyword, `r` with digits, or an x86 register in any case.
abbrev pub is_reserved : Bytes → Bool
is_reserved w =
    (is_numbered_register w || list_any (λ k. bytes_eq w k) keywords)
    || list_any (λ r. bytes_eq (map to_ascii_lowercase w) r) x86_registers

-- The text can name a location or a label: it is a name and not reserved.
abbrev pub IsUnreservedName : Bytes → Type 0
IsUnreservedName w = IsName w × (is_reserved w ≡ false)

-- The names are a table of locations: at most eight valid names, without duplicates.
pub record IsNameTable (names : NameTable) : Type 0 where
  pub bounded : length names ≤ most_locations
  pub are_unreserved : AllByRecursion IsUnreservedName names
  pub without_duplicates : IsDuplicateFree names

-- The text is a test's name: 1 to 128 printable ASCII bytes.
pub record IsTestName (name : Bytes) : Type 0 where
  pub not_empty : 0 < length name
  pub short : length name ≤ most_test_name_bytes
  pub are_graphic_bytes : AllByRecursion (λ b. is_ascii_graphic b ≡ true) name
