-- Law: of two acquisitions of a lock, one has ended its critical section when the other acquires
-- (`IsOverBefore-total`, by induction along coherence order). The clause `ordered` only composes edges of global
-- happens-before: an event before the release comes before each event after the acquisition.
use Rattle.lw_axiomatic.proofs.Locks.{IsOverBefore-total, IsOrderedBefore-sections}
use Rattle.lw_axiomatic.proofs.programs.critical_sections_do_not_overlap.Goals as goal

pub returns : goal.returns
returns c = record {
  exclusive = λ test x o candidate axioms l lock. IsOverBefore-total candidate axioms l lock;
  ordered = IsOrderedBefore-sections;
}
