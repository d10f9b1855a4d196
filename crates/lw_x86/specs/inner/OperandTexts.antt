-- The printed texts of operands.
use Rattle.std.specs.Prelude.{ℕ, ◌++◌, [], codes, slice_index_or}
use Rattle.std.specs.Fmt.{decimal}
use Rattle.lw_base.specs.Types.{Bytes, NameTable}
use Rattle.lw_base.specs.declared.head.Arch.TheVariants.{X86}
use Rattle.lw_base.specs.declared.operand.Operand.{Operand}
use Rattle.lw_base.specs.declared.operand.Operand.TheVariants.{Register, Number}
use Rattle.lw_base.specs.Registers.{register_name}

-- The text of an operand: a register, or a number after a `$`.
abbrev pub operand_text : Operand → Bytes
operand_text (Register r) = register_name X86 r
operand_text (Number n) = codes "$" ++ decimal n

-- The text of a location in an instruction, as in `[x]`.
abbrev pub memory_text : NameTable → ℕ → Bytes
memory_text names x = codes "[" ++ (slice_index_or names x [] ++ codes "]")

-- The text of a mnemonic and its two operands.
abbrev pub with_operands : Bytes → Bytes → Bytes → Bytes
with_operands mnemonic first second = mnemonic ++ (codes " " ++ (first ++ (codes "," ++ second)))
