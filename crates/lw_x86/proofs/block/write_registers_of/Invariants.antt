-- At each round `out`, followed by the initializers of the registers from the index on, is what it had at the
-- start, followed by all six.
use Rattle.lw_x86.proofs.Common.{registers, ◌≡◌, ◌++◌, drop, flat_map, string_bytes, range_with_len, head_of}
use Rattle.lw_x86.proofs.BlockTexts.{initializer_of_register}
use Rattle.lw_x86.proofs.block.write_registers_of.Given as goal

abbrev pub invariant-loop-reg : goal.invariant-loop-reg
invariant-loop-reg g l =
    string_bytes l.out
    ++ flat_map (initializer_of_register (head_of l.head) l.thread) (drop l.reg-index (range_with_len 0 registers))
    ≡ string_bytes l.fn.out ++ flat_map (initializer_of_register (head_of l.head) l.thread) (range_with_len 0 registers)
