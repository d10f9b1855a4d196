-- At each round the threads of the initializers before the index exist.
use Rattle.lw_text.proofs.Common.{◌≡◌, take, true, list_all, thread_exists}
use Rattle.lw_text.proofs.block.check_threads.Given as goal

abbrev pub invariant-loop-initializer : goal.invariant-loop-initializer
invariant-loop-initializer l = list_all (λ e. thread_exists l.threads e.site) (take l.initializer-index l.initializers) ≡ true
