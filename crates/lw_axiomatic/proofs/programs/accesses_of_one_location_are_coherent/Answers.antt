-- Law: the four coherence laws of two accesses of a thread to one location. In each, the negation would be an
-- edge of coherence order or from-reads against program order; both are in the axiom of coherence, whose
-- ranks increase along them.
use Rattle.lw_axiomatic.proofs.CoherenceLaws.{CoWW-Coherence, CoWR-Coherence, CoRW-Coherence, CoRR-Coherence}
use Rattle.lw_axiomatic.proofs.programs.accesses_of_one_location_are_coherent.Goals as goal

pub returns : goal.returns
returns c = record {
  co_ww = λ test x o candidate axioms. CoWW-Coherence candidate axioms.coherence;
  co_wr = λ test x o candidate axioms. CoWR-Coherence candidate axioms.coherence;
  co_rw = λ test x o candidate axioms. CoRW-Coherence candidate axioms.coherence;
  co_rr = λ test x o candidate axioms. CoRR-Coherence candidate axioms.coherence;
}
