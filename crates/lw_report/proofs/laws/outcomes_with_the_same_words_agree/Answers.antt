-- Proves the law that outcomes with the same words of the observed names agree on the proposition. This is
-- the lemma `is_true-same_observed_words`: the proposition names only observed names.
use Rattle.lw_report.proofs.Truths.{is_true-same_observed_words}
use Rattle.lw_report.proofs.laws.outcomes_with_the_same_words_agree.Goals as goal

pub returns : goal.returns
returns c = is_true-same_observed_words
