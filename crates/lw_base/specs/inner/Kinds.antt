-- The kinds of bytes. A text is split after its longest prefix of one kind.
use Rattle.std.specs.Prelude.{ℕ, ◌==◌, not, Bool}
use Rattle.lw_base.specs.Characters.{is_blank, is_name_byte, is_key_byte, is_space}
use Rattle.lw_base.specs.declared.byte_kinds.ByteKind.{ByteKind}
use Rattle.lw_base.specs.declared.byte_kinds.ByteKind.TheVariants.{Blank, NotBlank, NameByte, Key, Space, Not}

-- Tests whether a byte is of the kind: blank or not, of a name, of a key, a space or a tab, or any byte except one.
abbrev pub is_of_kind : ByteKind → ℕ → Bool
is_of_kind Blank b = is_blank b
is_of_kind NotBlank b = not (is_blank b)
is_of_kind NameByte b = is_name_byte b
is_of_kind Key b = is_key_byte b
is_of_kind Space b = is_space b
is_of_kind (Not other) b = not (b == other)
