-- Law: program order and reads-from together have no cycle. The numbers `done` of an execution with times
-- increase along both (`Acyclic-po_and_rf`): a write has reached memory before another thread's read of it is done,
-- so the write is done before. A candidate that satisfies the axioms has times.
use Rattle.lw_axiomatic.proofs.Atomic.{Acyclic-po_and_rf}
use Rattle.lw_axiomatic.proofs.programs.no_word_comes_out_of_thin_air.Goals as goal

pub returns : goal.returns
returns c test x o candidate axioms = Acyclic-po_and_rf test x (c.executions_have_times.ensures test x o candidate axioms)
