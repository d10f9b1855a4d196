-- The x86 language: the operation of each instruction.
use Rattle.std.specs.Prelude.{Some, true}
use Rattle.lw_base.specs.declared.head.Arch.TheVariants.{X86}
use Rattle.lw_base.specs.declared.operand.Operand.TheVariants.{Register}
use Rattle.lw_litmus.specs.declared.instr.Instr.{Instr}
use Rattle.lw_litmus.specs.declared.instr.Instr.TheVariants.{Store, Load, Set, Add, Cmp, Xchg, Xadd, Mfence, Je, Jne, Jmp}
use Rattle.lw_litmus.specs.declared.operation.Guard.TheVariants.{Always, Zero, NotZero}
use Rattle.lw_litmus.specs.declared.operation.Operation.{Operation}
use Rattle.lw_litmus.specs.declared.operation.Operation.TheVariants as operation
use Rattle.lw_litmus.specs.Limits.{most_instructions}
use Rattle.lw_litmus.specs.Languages.{Language}

-- The operation of an instruction.
abbrev pub x86_operation : Instr → Operation
x86_operation (Store x v) = operation.Store x v
x86_operation (Load d x) = operation.Load d x
x86_operation (Set d v) = operation.Set d v
x86_operation (Add d v) = operation.Sum d d v
x86_operation (Cmp a v) = operation.Compare a v
x86_operation (Xchg x a) = operation.Swap a x a
x86_operation (Xadd x a) = operation.FetchAdd (Some a) x (Register a)
x86_operation Mfence = operation.Fence
x86_operation (Je to) = operation.Branch Zero to
x86_operation (Jne to) = operation.Branch NotZero to
x86_operation (Jmp to) = operation.Branch Always to

-- The x86 language.
abbrev pub x86_language : Language Instr
x86_language = record { arch = X86; most = most_instructions; is_buffered = true; operation_of = x86_operation }
