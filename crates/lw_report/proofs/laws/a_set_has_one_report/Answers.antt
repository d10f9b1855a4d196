-- Proves the law that states and report depend only on the set of outcomes: two sets with the same outcomes have
-- one list of states and one report. These are the lemmas `AreStatesOf-unique` and `IsReport-unique`: a strictly
-- sorted list is determined by its elements.
use Rattle.lw_report.proofs.api.OneList.{AreStatesOf-unique, IsReport-unique}
use Rattle.lw_report.proofs.laws.a_set_has_one_report.Goals as goal

pub returns-clause-states : goal.returns-clause-states
returns-clause-states g c = λ head states others same. AreStatesOf-unique head _ _ same states others

pub returns-clause-report : goal.returns-clause-report
returns-clause-report g c = λ head claim text other same. IsReport-unique head _ _ same claim text other
