-- The kinds of tokens.
use Rattle.std.specs.Prelude.{◌≡◌, false}
use Rattle.lw_base.specs.Types.{Bytes}
use Rattle.lw_base.specs.Characters.{is_name_byte, first_byte_is}
use Rattle.lw_base.specs.Names.{IsName}
use Rattle.lw_text.specs.declared.token_kind.TokenKind.{TokenKind}
use Rattle.lw_text.specs.declared.token_kind.TokenKind.TheVariants.{Name, Number, Symbol}
use Rattle.lw_text.specs.Tokens.{IsNumber}

-- The bytes are a name, this number, or a symbol, which begins with no letter, digit or `_`.
abbrev pub IsOfKind : TokenKind → Bytes → Type 0
IsOfKind Name w = IsName w
IsOfKind (Number n) w = IsNumber w n
IsOfKind Symbol w = first_byte_is is_name_byte w ≡ false
