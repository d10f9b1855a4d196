-- The instruction of a form with operands that may be missing.
use Rattle.std.specs.Prelude.{ℕ, Option, Some, None}
use Rattle.lw_base.specs.declared.operand.Operand.{Operand}
use Rattle.lw_base.specs.declared.operand.Operand.TheVariants.{Number}
use Rattle.lw_litmus.specs.declared.instr.Instr.{Instr}
use Rattle.lw_litmus.specs.declared.instr.Instr.TheVariants as instr
use Rattle.lw_statements.specs.declared.draft.Operands.{Operands}
use Rattle.lw_statements.specs.Bindings.{map_some, map_some2}
use Rattle.lw_x86.specs.declared.language.X86Form.{X86Form}
use Rattle.lw_x86.specs.declared.language.X86Form.TheVariants.{Store, StoreNumber, Load, Set, SetNumber, Add, AddNumber, Compare, CompareNumber, Exchange}
use Rattle.lw_x86.specs.declared.language.X86Form.TheVariants.{ExchangeLast, LockedExchange, LockedExchangeLast, ExchangeAdd, Fence, JumpEqual, JumpNotEqual}
use Rattle.lw_x86.specs.declared.language.X86Form.TheVariants.{Jump}

-- The last operand: this number, if there is one (after a `$`), or the value of a slot that takes either.
abbrev pub value_in : Option ℕ → Option Operand → Option Operand
value_in None val = val
value_in (Some n) val = Some (Number n)

-- The last operand of those that a statement's tokens bind: a register or a number.
abbrev pub value_of : Operands → Option Operand
value_of o = value_in o.num o.val

-- The instruction of a form, or `None` if an operand that it needs is missing.
abbrev pub instruction_of_operands : X86Form → Operands → Option Instr
instruction_of_operands Store o = map_some2 instr.Store o.loc (value_of o)
instruction_of_operands StoreNumber o = map_some2 instr.Store o.loc (value_of o)
instruction_of_operands Load o = map_some2 instr.Load o.reg o.loc
instruction_of_operands Set o = map_some2 instr.Set o.reg (value_of o)
instruction_of_operands SetNumber o = map_some2 instr.Set o.reg (value_of o)
instruction_of_operands Add o = map_some2 instr.Add o.reg (value_of o)
instruction_of_operands AddNumber o = map_some2 instr.Add o.reg (value_of o)
instruction_of_operands Compare o = map_some2 instr.Cmp o.reg (value_of o)
instruction_of_operands CompareNumber o = map_some2 instr.Cmp o.reg (value_of o)
instruction_of_operands Exchange o = map_some2 instr.Xchg o.loc o.reg
instruction_of_operands ExchangeLast o = map_some2 instr.Xchg o.loc o.reg
instruction_of_operands LockedExchange o = map_some2 instr.Xchg o.loc o.reg
instruction_of_operands LockedExchangeLast o = map_some2 instr.Xchg o.loc o.reg
instruction_of_operands ExchangeAdd o = map_some2 instr.Xadd o.loc o.reg
instruction_of_operands Fence o = Some instr.Mfence
instruction_of_operands JumpEqual o = map_some instr.Je o.to
instruction_of_operands JumpNotEqual o = map_some instr.Jne o.to
instruction_of_operands Jump o = map_some instr.Jmp o.to
