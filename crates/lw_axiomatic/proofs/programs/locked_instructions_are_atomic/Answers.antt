-- Law: no write comes in coherence order between what a locked instruction reads and what it writes
-- (`IsAtomic-GlobalHappensBefore`): it would come after the read in from-reads and before the write, a cycle in global
-- happens-before. So two of them do not read the same write (`locked_events_equal-same_source`).
use Rattle.lw_axiomatic.proofs.Atomic.{IsAtomic-GlobalHappensBefore, locked_events_equal-same_source}
use Rattle.lw_axiomatic.proofs.programs.locked_instructions_are_atomic.Goals as goal

pub returns : goal.returns
returns c = record {
  between = λ test x axioms. IsAtomic-GlobalHappensBefore test x axioms.happens_before;
  apart = locked_events_equal-same_source;
}
