-- Outcomes of classic tests, whose values are in lw_bench's Classics, a test with a spare fence, and a spin lock.
use Rattle.std.specs.Prelude.{ℕ, List, replicate, [], ◌∷◌, codes}
use Rattle.lw_base.specs.Formula.{Formula, And, Reg_is, Word_is}
use Rattle.lw_base.specs.Limits.{registers}
use Rattle.lw_base.specs.Outcomes.{FinalState}
use Rattle.lw_base.specs.declared.head.Arch.TheVariants.{X86}
use Rattle.lw_base.specs.declared.head.Quant.TheVariants.{NotExists}
use Rattle.lw_base.specs.declared.operand.Operand.TheVariants.{Number, Register}
use Rattle.lw_bench.specs.Classics.{store_buffering_in_x86}
use Rattle.lw_litmus.specs.Tests.{X86Test}
use Rattle.lw_litmus.specs.declared.instr.Instr.{Instr}
use Rattle.lw_litmus.specs.declared.instr.Instr.TheVariants.{Add, Cmp, Jne, Load, Mfence, Set, Store, Xchg}

-- The outcome of store buffering in which both loads read the initial 0.
abbrev pub both_loads_early : FinalState
both_loads_early = record { regs = replicate 2 (replicate registers 0); words = replicate 2 1 }

-- `MOV [x],1; MOV EAX,[x]` beside `MOV [y],1; MOV EAX,[y]`: each thread loads a location that no other thread writes.
abbrev pub own_loads : X86Test
own_loads = record store_buffering_in_x86 {
  threads = (Store 0 (Number 1) ∷ Load 0 0 ∷ []) ∷ (Store 1 (Number 1) ∷ Load 0 1 ∷ []) ∷ [];
}

-- The test `own_loads` with an `MFENCE` between the store and the load of the first thread.
abbrev pub own_loads_fenced : X86Test
own_loads_fenced = record store_buffering_in_x86 {
  threads = (Store 0 (Number 1) ∷ Mfence ∷ Load 0 0 ∷ []) ∷ (Store 1 (Number 1) ∷ Load 0 1 ∷ []) ∷ [];
}

-- A thread of examples/SpinLock-x86.litmus: it looks at the lock, takes it by XCHG if it is free, and then adds 1 to n and lets the lock go
-- by a plain store. ESI says that it was inside. The location n, which the proposition names, is at index 0, and the lock at index 1.
abbrev pub spin_lock_code : List Instr
spin_lock_code =
    Load 0 1 ∷ Cmp 0 (Number 0) ∷ Jne 12 ∷ Set 0 (Register 1) ∷ Xchg 1 0 ∷ Cmp 0 (Number 0) ∷ Jne 12
    ∷ Set 4 (Number 1) ∷ Load 2 0 ∷ Add 2 (Number 1) ∷ Store 0 (Register 2) ∷ Store 1 (Number 0) ∷ []

-- The proposition of that test: both threads were inside, and only one of them was counted.
abbrev pub one_is_lost : Formula
one_is_lost = And (And (Reg_is 0 4 1) (Reg_is 1 4 1)) (Word_is 0 1)

-- That test with any number of threads, each with 1 in EBX; the text has two.
abbrev pub spin_lock : ℕ → X86Test
spin_lock threads = record {
  head = record {
    name = codes "SpinLock-x86";
    arch = X86;
    threads = threads;
    locs = codes "n" ∷ codes "lock" ∷ [];
    init_regs = replicate threads (0 ∷ 1 ∷ 0 ∷ 0 ∷ 0 ∷ 0 ∷ []);
    init_words = 0 ∷ 0 ∷ [];
    listed = [];
    quant = NotExists;
    proposition = one_is_lost;
  };
  threads = replicate threads spin_lock_code;
}
