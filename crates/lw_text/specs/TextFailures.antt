-- Where a text fails to be a frame's, and why. `FailsIn.. text rest cause` means: the bytes of text before rest begin such a phrase, and
-- rest does not continue it, for this cause. If rest is empty, the text ends too early.
use Rattle.std.specs.Prelude.{◌≡◌, ◌≢◌, ℕ, ◌+◌, ◌<◌, ◌⊎◌, ◌==◌, not, true, false, List, [], ◌∷◌, ◌++◌, length, map}
use Rattle.std.specs.Char.{is_ascii_digit}
use Rattle.std.specs.List.{AllByRecursion}
use Rattle.lw_base.specs.Types.{Bytes, TokenList}
use Rattle.lw_base.specs.declared.head.Arch.{Arch}
use Rattle.lw_base.specs.Languages.{arch_keyword}
use Rattle.lw_base.specs.Characters.{byte, is_blank, is_key_byte, is_name_byte, is_space, first_byte_is}
use Rattle.lw_base.specs.Formula.{Formula}
use Rattle.lw_base.specs.Names.{IsName, IsTestName}
use Rattle.lw_base.specs.NoParse.{ParsesNothing}
use Rattle.lw_text.specs.declared.fault.TextCause.{TextCause}
use Rattle.lw_text.specs.declared.fault.TextCause.TheVariants.{Unterminated, Unexpected, Number, Name}
use Rattle.lw_text.specs.Combinators.{ParsesMany}
use Rattle.lw_text.specs.Conditions.{resolved}
use Rattle.lw_text.specs.Failures.{FailsInTest}
use Rattle.lw_text.specs.Frames.{TestSyntax, ParsesTest, location_table}
use Rattle.lw_text.specs.PlacedTokens.{PlacedToken, IsPlacedToken, PlacedTokens, texts_of_tokens}
use Rattle.lw_text.specs.Preambles.{ParsesTestName, Note, Preamble}
use Rattle.lw_text.specs.Propositions.{IsProposition}
use Rattle.lw_text.specs.Tokens.{Trivia, IsFirstToken, IsNumber, IsSymbol, begins_trivia}

-- ---- Tokens.

-- The bytes are a longest sequence of letters, digits and `_`, and then rest.
pub record IsLongestRun (bytes w rest : Bytes) : Type 0 where
  pub parts : bytes ≡ w ++ rest
  pub bytes_pass : AllByRecursion (λ b. is_name_byte b ≡ true) w
  pub longest : first_byte_is is_name_byte rest ≡ false

-- No token begins at the first of the bytes: a run that begins with a digit and is no number; or another, that is no name; or no symbol.
pub data FailsInToken (bytes : Bytes) (cause : TextCause) : Type 0 where
  no_number_run : (w rest : Bytes) → IsLongestRun bytes w rest → first_byte_is is_ascii_digit bytes ≡ true → ((n : ℕ) → IsNumber w n → ⊥)
      → cause ≡ Number → FailsInToken bytes cause
  no_name_run : (w rest : Bytes) → IsLongestRun bytes w rest → first_byte_is is_name_byte bytes ≡ true → first_byte_is is_ascii_digit bytes ≡ false
      → (IsName w → ⊥) → cause ≡ Name → FailsInToken bytes cause
  no_symbol : 0 < length bytes → first_byte_is is_name_byte bytes ≡ false → ((t rest : Bytes) → bytes ≡ t ++ rest → IsSymbol t rest → ⊥)
      → cause ≡ Unexpected → FailsInToken bytes cause

-- The text has no end of its trivia: a comment is not closed.
abbrev pub HasOpenComment : Bytes → Type 0
HasOpenComment text = (start : Bytes) → begins_trivia start ≡ false → Trivia text start → ⊥

-- The first token fails: a comment before it is not closed, or no token begins where the trivia ends.
pub data FailsInFirstToken (text rest : Bytes) (cause : TextCause) : Type 0 where
  open_comment : HasOpenComment text → rest ≡ [] → cause ≡ Unterminated → FailsInFirstToken text rest cause
  in_token : Trivia text rest → begins_trivia rest ≡ false → FailsInToken rest cause → FailsInFirstToken text rest cause

-- ---- The preamble.

-- The test's name fails: the text ends before it, no blank precedes it, or it is none.
pub data FailsInTestName (text rest : Bytes) (cause : TextCause) : Type 0 where
  no_name : AllByRecursion (λ b. is_blank b ≡ true) text → rest ≡ [] → cause ≡ Unterminated → FailsInTestName text rest cause
  no_blank : 0 < length text → first_byte_is is_blank text ≡ false → rest ≡ text → cause ≡ Unexpected → FailsInTestName text rest cause
  bad_name : (blanks name after : Bytes) → text ≡ blanks ++ rest → rest ≡ name ++ after → 0 < length blanks
      → AllByRecursion (λ b. is_blank b ≡ true) blanks → AllByRecursion (λ b. is_blank b ≡ false) name → 0 < length name
      → first_byte_is (λ b. not (is_blank b)) after ≡ false → (IsTestName name → ⊥) → cause ≡ Name → FailsInTestName text rest cause

-- A `Key=value` line fails: it has no key, or no `=` after it and its spaces.
pub data FailsInKeyLine (text rest : Bytes) : Type 0 where
  no_key : first_byte_is is_key_byte text ≡ false → rest ≡ text → FailsInKeyLine text rest
  no_equals_sign : (key spaces : Bytes) → text ≡ key ++ (spaces ++ rest) → 0 < length key → AllByRecursion (λ b. is_key_byte b ≡ true) key
      → AllByRecursion (λ b. is_space b ≡ true) spaces → first_byte_is is_key_byte (spaces ++ rest) ≡ false → first_byte_is is_space rest ≡ false
      → first_byte_is (λ b. b == byte "=") rest ≡ false → FailsInKeyLine text rest

-- A note fails: a quoted text is not closed, or a `Key=value` line fails.
pub data FailsInNote (text rest : Bytes) : Type 0 where
  open_quote : (inside : Bytes) → text ≡ byte "\"" ∷ inside → AllByRecursion (λ b. (b == byte "\"") ≡ false) inside → rest ≡ []
      → FailsInNote text rest
  in_key_line : first_byte_is (λ b. b == byte "\"") text ≡ false → FailsInKeyLine text rest → FailsInNote text rest

-- The notes fail: a comment is not closed, a note fails, or the notes after one fail.
pub data FailsInNotes (rest : Bytes) : Bytes → Type 0 where
  open_comment_in_notes : {text : Bytes} → HasOpenComment text → rest ≡ [] → FailsInNotes rest text
  in_note : {text mid : Bytes} → Trivia text mid → begins_trivia mid ≡ false → first_byte_is (λ b. b == byte "{") mid ≡ false
      → FailsInNote mid rest → FailsInNotes rest text
  after_note : {text mid after : Bytes} → Trivia text mid → Note mid after → FailsInNotes rest after → FailsInNotes rest text

-- The cause of a failure in the notes: the text ends there, or goes on.
abbrev pub IsNoteCause : Bytes → TextCause → Type 0
IsNoteCause [] cause = cause ≡ Unterminated
IsNoteCause (b ∷ rest) cause = cause ≡ Unexpected

-- The preamble fails: its first token, or the text ends before it; another word than that of a language is first; the test's name; or the
-- notes.
pub data FailsInPreamble (text rest : Bytes) (cause : TextCause) : Type 0 where
  in_keyword : FailsInFirstToken text rest cause → FailsInPreamble text rest cause
  no_keyword : Trivia text [] → rest ≡ [] → cause ≡ Unterminated → FailsInPreamble text rest cause
  other_keyword : (t after : Bytes) → IsFirstToken text t after → rest ≡ t ++ after → ((arch : Arch) → arch_keyword arch ≡ t → ⊥)
      → cause ≡ Unexpected → FailsInPreamble text rest cause
  in_test_name : (arch : Arch) (after : Bytes) → IsFirstToken text (arch_keyword arch) after → FailsInTestName after rest cause
      → FailsInPreamble text rest cause
  in_notes : (arch : Arch) (mid name after : Bytes) → IsFirstToken text (arch_keyword arch) mid → ParsesTestName mid name after
      → FailsInNotes rest after → IsNoteCause rest cause → FailsInPreamble text rest cause

-- ---- The whole.

-- The rest of a text of this length is these tokens, and then an end at which no token follows.
abbrev pub HasTokens : ℕ → Bytes → List PlacedToken → Bytes → Type 0
HasTokens len text tokens end = ParsesMany (IsPlacedToken len) text tokens end × ParsesNothing (IsFirstToken end)

-- The tokens of a test's body fail, in the rest of a text of this length: at a token; or where the next fails, which the tokens before need
-- or the end of the text does not allow; or at the end of the text.
pub data FailsInBody (arch : Arch) (len : ℕ) (text : Bytes) (at : ℕ) (cause : TextCause) : Type 0 where
  at_token : (tokens later : List PlacedToken) (token : PlacedToken) (before : List PlacedToken) (end : Bytes)
      → HasTokens len text tokens end → tokens ≡ before ++ token ∷ later → at ≡ token.at
      → FailsInTest arch (texts_of_tokens tokens) (texts_of_tokens (token ∷ later)) cause → FailsInBody arch len text at cause
  in_next_token : (tokens : List PlacedToken) (end rest : Bytes) (c : TextCause)
      → ParsesMany (IsPlacedToken len) text tokens end → FailsInFirstToken end rest cause → at + length rest ≡ len
      → FailsInTest arch (texts_of_tokens tokens) [] c
      ⊎ ((s : TestSyntax) × (p : Formula) × ParsesTest arch (texts_of_tokens tokens) s × IsProposition (map (resolved (location_table s)) s.terminals) p)
      → FailsInBody arch len text at cause
  at_end : (tokens : List PlacedToken) (c : TextCause)
      → PlacedTokens len text tokens → FailsInTest arch (texts_of_tokens tokens) [] c → at ≡ len → cause ≡ Unterminated
      → FailsInBody arch len text at cause

-- The text fails at this byte, for this cause: its preamble, or its body.
pub data FailsAt (text : Bytes) (at : ℕ) (cause : TextCause) : Type 0 where
  in_preamble : (rest : Bytes) → FailsInPreamble text rest cause → at + length rest ≡ length text → FailsAt text at cause
  in_body : (arch : Arch) (name rest : Bytes) → Preamble text arch name rest → FailsInBody arch (length text) rest at cause
      → FailsAt text at cause
