-- Proves the law that trace-equivalent orders of an x86 test's items have the same outcome over flat memory.
-- This is the lemma `OrdersEndAlike-x86`.
use Rattle.lw_finals.proofs.X86TraceEquivalence.{OrdersEndAlike-x86}
use Rattle.lw_finals.proofs.laws.trace_equivalent_x86_orders_have_one_outcome.Goals as goal

pub returns : goal.returns
returns c = λ test paths xs ys o ok assignment. OrdersEndAlike-x86 test paths ok assignment xs ys o
