-- The names of registers.
use Rattle.std.specs.Prelude.{◌≡◌, ℕ, ◌<◌, List, [], ◌∷◌, map, codes, slice_index_or}
use Rattle.std.specs.Char.{to_ascii_lowercase}
use Rattle.lw_base.specs.Types.{Bytes}
use Rattle.lw_base.specs.Characters.{byte, digit}
use Rattle.lw_base.specs.Limits.{registers}
use Rattle.lw_base.specs.declared.head.Arch.{Arch}
use Rattle.lw_base.specs.declared.head.Arch.TheVariants.{Source, X86}

-- The names of the x86 registers, by index.
abbrev pub x86_names : List Bytes
x86_names = codes "EAX" ∷ codes "EBX" ∷ codes "ECX" ∷ codes "EDX" ∷ codes "ESI" ∷ codes "EDI" ∷ []

-- The printed name of a register: `r0` to `r5`, or an x86 name.
abbrev pub register_name : Arch → ℕ → Bytes
register_name Source r = byte "r" ∷ digit r ∷ []
register_name X86 r = slice_index_or x86_names r []

-- The text, in small letters if the language is x86. Names of registers are compared in this form.
abbrev pub lowercase_if_x86 : Arch → Bytes → Bytes
lowercase_if_x86 Source w = w
lowercase_if_x86 X86 w = map to_ascii_lowercase w

-- The token names the register with this index. x86 names are read in any case.
abbrev pub IsRegisterName : Arch → Bytes → ℕ → Type 0
IsRegisterName arch w r =
    (r < registers) × (lowercase_if_x86 arch (register_name arch r) ≡ lowercase_if_x86 arch w)
