-- At each round `rows` has the initial words of the registers of the threads before the index.
use Rattle.lw_text.proofs.Common.{◌≡◌, map, range_with_len, thread_registers, word_at}
use Rattle.lw_text.proofs.initial.initial_registers.Given as goal

abbrev pub invariant-loop-cpu : goal.invariant-loop-cpu
invariant-loop-cpu g l = l.rows ≡ map (λ t. map (word_at l.initializers) (thread_registers t)) (range_with_len 0 l.cpu-index)
