-- Proves the law that `Ok` means for a set of outcomes: some, none or all satisfy the proposition, by the kind of
-- the condition. This is the lemma `OkMeans-of_outcomes`: a number of states is 0 if and only if no outcome has such
-- a state.
use Rattle.lw_report.proofs.Verdicts.{OkMeans-of_outcomes}
use Rattle.lw_report.proofs.laws.exact_verdicts_are_of_all_outcomes.Goals as goal

pub returns : goal.returns
returns g c = λ head states are. OkMeans-of_outcomes head _ states are
