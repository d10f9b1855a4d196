-- The input of the parser, and its result, without offsets.
use Rattle.std.specs.Prelude.{◌≡◌, ℕ, Option, Some, None, ◌+◌, List, [], ◌∷◌, length, drop}
use Rattle.lw_base.specs.Types.{Bytes, TokenList}
use Rattle.lw_base.specs.Heads.{head_of}
use Rattle.lw_text.specs.declared.token.Token.{Token}
use Rattle.lw_text.specs.declared.cursor.Cursor.{Cursor}
use Rattle.lw_text.specs.declared.frame.Frame.{Frame}
use Rattle.lw_text.specs.declared.fault.Refusal.{Refusal}
use Rattle.lw_text.specs.declared.fault.TextCause.{TextCause}
use Rattle.lw_text.specs.Frames.{TestFrame}
use Rattle.lw_text.specs.Spans.{token_texts, IsSuffix}
use Rattle.lw_text.specs.Places.{all_texts}

-- The tokens that are not parsed yet.
abbrev pub remaining : Cursor → List Token
remaining c = drop c.next c.tokens.now

-- The tokens that are not parsed yet, without their offsets.
abbrev pub remaining_texts : Cursor → TokenList
remaining_texts c = token_texts (remaining c)

-- The remaining tokens of the second cursor are a suffix of those of the first.
abbrev pub AdvancesTo : Cursor → Cursor → Type 0
AdvancesTo before after = IsSuffix (remaining before) (remaining after)

-- The first of the tokens has this offset; there is none if there are no tokens.
abbrev pub BeginsAt : List Token → Option ℕ → Type 0
BeginsAt [] place = place ≡ None
BeginsAt (t ∷ ts) place = place ≡ Some t.at

-- Parsing fails at a suffix of the remaining tokens, where the refusal has its place, in this way and for its cause.
pub record Fails (before : Cursor) (Way : TokenList → TokenList → TextCause → Type 0) (f : Refusal) : Type 0 where
  pub rest : List Token
  pub suffix : IsSuffix (remaining before) rest
  pub place : BeginsAt rest f.at
  pub way : Way (remaining_texts before) (token_texts rest) f.cause

-- Parsing the rest of a text of this length fails, at this offset in the text and for this cause, in this way.
pub record FailsFrom (len : ℕ) (text : Bytes) (Way : Bytes → Bytes → TextCause → Type 0) (at : ℕ) (cause : TextCause) : Type 0 where
  pub rest : Bytes
  pub place : at + length rest ≡ len
  pub way : Way text rest cause

-- The frame of a `Frame` in memory.
abbrev pub frame_of : {A : Type 0} → Frame A → TestFrame
frame_of f = record { head = head_of f.head; cells = all_texts f.cells }
