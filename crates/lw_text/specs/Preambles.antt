-- The text before a test's `{`: its language, its name, and notes.
use Rattle.std.specs.Prelude.{◌≡◌, ◌<◌, ◌⊎◌, ◌==◌, not, true, false, ◌∷◌, ◌++◌, length}
use Rattle.std.specs.List.{AllByRecursion}
use Rattle.lw_base.specs.Types.{Bytes}
use Rattle.lw_base.specs.declared.head.Arch.{Arch}
use Rattle.lw_base.specs.Languages.{arch_keyword}
use Rattle.lw_base.specs.Characters.{byte, is_blank, is_key_byte, is_space, first_byte_is}
use Rattle.lw_base.specs.Names.{IsTestName}
use Rattle.lw_text.specs.Tokens.{Trivia, IsFirstToken}

-- One or more blanks, the name, and rest, which is empty or begins with a blank.
pub record ParsesTestName (text name rest : Bytes) : Type 0 where
  pub blanks : Bytes
  pub parts : text ≡ blanks ++ (name ++ rest)
  pub blanks_not_empty : 0 < length blanks
  pub blank : AllByRecursion (λ b. is_blank b ≡ true) blanks
  pub is_name : IsTestName name
  pub longest : first_byte_is (λ b. not (is_blank b)) rest ≡ false

-- A quote, any bytes except quotes, a quote, and rest.
pub record Quoted (text rest : Bytes) : Type 0 where
  pub inside : Bytes
  pub parts : text ≡ byte "\"" ∷ inside ++ byte "\"" ∷ rest
  pub plain : AllByRecursion (λ b. (b == byte "\"") ≡ false) inside

-- A key, spaces and tabs, `=`, the rest of the line, and rest, which is empty or begins with the line's end.
pub record KeyLine (text rest : Bytes) : Type 0 where
  pub key : Bytes
  pub spaces : Bytes
  pub value : Bytes
  pub parts : text ≡ key ++ spaces ++ byte "=" ∷ value ++ rest
  pub not_empty : 0 < length key
  pub are_key_bytes : AllByRecursion (λ b. is_key_byte b ≡ true) key
  pub spaced : AllByRecursion (λ b. is_space b ≡ true) spaces
  pub one_line : AllByRecursion (λ b. (b == byte "\n") ≡ false) value
  pub longest : first_byte_is (λ b. not (b == byte "\n")) rest ≡ false

-- A quoted text or a `Key=value` line, and rest.
abbrev pub Note : Bytes → Bytes → Type 0
Note text rest = Quoted text rest ⊎ KeyLine text rest

-- Any number of notes, with trivia around them, up to a `{`.
pub data Notes : Bytes → Bytes → Type 0 where
  none : {text rest : Bytes} → Trivia text rest → first_byte_is (λ b. b == byte "{") rest ≡ true
      → Notes text rest
  note : {text mid after rest : Bytes} → Trivia text mid → Note mid after → Notes after rest
      → Notes text rest

-- The text is the keyword of a language, blanks and the name, notes, and rest.
abbrev pub Preamble : Bytes → Arch → Bytes → Bytes → Type 0
Preamble text arch name rest =
    (mid after : Bytes) × IsFirstToken text (arch_keyword arch) mid × ParsesTestName mid name after × Notes after rest
