-- Law: in the spin lock's candidates location 1 is used as a lock, for any number of threads (`IsUsedAsLock-lock`); so two
-- acquisitions never overlap, by `critical_sections_do_not_overlap`. With two threads none is lost: if both
-- were inside, the second counts what the first has stored (`none_lost`).
use Rattle.lw_axiomatic.proofs.Common.{spin_lock}
use Rattle.lw_axiomatic.proofs.WorkedCounts.{none_lost}
use Rattle.lw_axiomatic.proofs.WorkedLocks.{IsUsedAsLock-lock}
use Rattle.lw_axiomatic.proofs.examples.the_spin_lock_excludes.Goals as goal

pub returns : goal.returns
returns c = record {
  used = λ n x o candidate. IsUsedAsLock-lock n candidate;
  exclusive = λ n x o candidate axioms.
      c.critical_sections_do_not_overlap.ensures.exclusive (spin_lock n) x o candidate axioms 1 (IsUsedAsLock-lock n candidate);
  outcomes = none_lost;
}
