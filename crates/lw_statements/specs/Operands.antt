-- The tokens of operands.
use Rattle.lw_base.specs.Types.{Bytes}
use Rattle.lw_base.specs.declared.head.Arch.{Arch}
use Rattle.lw_base.specs.declared.operand.Operand.{Operand}
use Rattle.lw_base.specs.declared.operand.Operand.TheVariants.{Register, Number}
use Rattle.lw_base.specs.Registers.{IsRegisterName}
use Rattle.lw_text.specs.Tokens.{IsNumber}

-- The token is this operand: a register of the language, or a number.
abbrev pub IsOperand : Arch → Bytes → Operand → Type 0
IsOperand arch w (Register r) = IsRegisterName arch w r
IsOperand arch w (Number n) = IsNumber w n
