-- Three classic tests as values. Their texts are SB, SB-x86 and MP-x86 in examples/.
use Rattle.std.specs.Prelude.{ℕ, List, [], ◌∷◌, codes, replicate}
use Rattle.lw_base.specs.Formula.{Formula, And, Reg_is}
use Rattle.lw_base.specs.Heads.{TestHead}
use Rattle.lw_base.specs.Limits.{registers}
use Rattle.lw_base.specs.declared.head.Arch.{Arch}
use Rattle.lw_base.specs.declared.head.Arch.TheVariants.{Source, X86}
use Rattle.lw_base.specs.declared.head.Quant.{Quant}
use Rattle.lw_base.specs.declared.head.Quant.TheVariants.{Exists, NotExists}
use Rattle.lw_base.specs.declared.operand.Operand.TheVariants.{Number}
use Rattle.lw_litmus.specs.Tests.{SourceTest, X86Test}
use Rattle.lw_litmus.specs.declared.instr.Instr.TheVariants as x86
use Rattle.lw_litmus.specs.declared.stmt.Stmt.TheVariants as source

-- The head of a test of two threads and the locations x and y, all 0, with this name, language, quantifier and proposition.
abbrev pub two_threads : List ℕ → Arch → Quant → Formula → TestHead
two_threads name arch quant proposition = record {
  name = name;
  arch = arch;
  threads = 2;
  locs = codes "x" ∷ codes "y" ∷ [];
  init_regs = replicate 2 (replicate registers 0);
  init_words = replicate 2 0;
  listed = [];
  quant = quant;
  proposition = proposition;
}

-- The proposition that both loads read the initial 0.
abbrev pub both_loads_are_early : Formula
both_loads_are_early = And (Reg_is 0 0 0) (Reg_is 1 0 0)

-- The proposition that the flag is seen without the message.
abbrev pub flag_without_message : Formula
flag_without_message = And (Reg_is 1 0 1) (Reg_is 1 1 0)

-- Store buffering: `x := 1; r0 := y` beside `y := 1; r0 := x`.
abbrev pub store_buffering : SourceTest
store_buffering = record {
  head = two_threads (codes "SB") Source Exists both_loads_are_early;
  threads =
      (source.Store 0 (Number 1) ∷ source.Load 0 1 ∷ [])
      ∷ (source.Store 1 (Number 1) ∷ source.Load 0 0 ∷ []) ∷ [];
}

-- Store buffering in x86: `MOV [x],1; MOV EAX,[y]` beside `MOV [y],1; MOV EAX,[x]`.
abbrev pub store_buffering_in_x86 : X86Test
store_buffering_in_x86 = record {
  head = two_threads (codes "SB-x86") X86 Exists both_loads_are_early;
  threads =
      (x86.Store 0 (Number 1) ∷ x86.Load 0 1 ∷ [])
      ∷ (x86.Store 1 (Number 1) ∷ x86.Load 0 0 ∷ []) ∷ [];
}

-- Message passing in x86, with the message x and the flag y: `MOV [x],1; MOV [y],1` beside `MOV EAX,[y]; MOV EBX,[x]`.
abbrev pub message_passing_in_x86 : X86Test
message_passing_in_x86 = record {
  head = two_threads (codes "MP-x86") X86 NotExists flag_without_message;
  threads =
      (x86.Store 0 (Number 1) ∷ x86.Store 1 (Number 1) ∷ [])
      ∷ (x86.Load 0 1 ∷ x86.Load 1 0 ∷ []) ∷ [];
}
