-- The registers and the numbers of operands.
use Rattle.std.specs.Prelude.{ℕ, List, [], ◌∷◌}
use Rattle.lw_base.specs.declared.operand.Operand.{Operand}
use Rattle.lw_base.specs.declared.operand.Operand.TheVariants.{Register, Number}

-- The register of an operand, if it is one.
abbrev pub operand_registers : Operand → List ℕ
operand_registers (Register r) = r ∷ []
operand_registers (Number n) = []

-- The number of an operand, if it is one.
abbrev pub operand_numbers : Operand → List ℕ
operand_numbers (Register r) = []
operand_numbers (Number n) = n ∷ []
