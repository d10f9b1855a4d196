-- Proves `first_of_each`, which returns the first of each run of sorted states with the same words. `dedup_by` is
-- the list function `dedup` for the test of equal words, and `AreFirstStates-dedup` says that on a sorted list it
-- leaves the first states.
use Rattle.lw_report.proofs.Common.{sym, ◌∙◌, subst, rules, dedup_same, AreFirstStates}
use Rattle.lw_report.proofs.FirstStates.{have_same_words, AreFirstStates-dedup}
use Rattle.lw_report.proofs.states.first_of_each.Goals as goal

pub returns : goal.returns
returns g c =
    let kept = dedup_same _ have_same_words _ (λ x y b f' x' y' k. search rules) _ _ c.dedup_by.ensures.filtered in
    subst (AreFirstStates c.args.sorted.items) (sym (c.from.ensures ∙ kept)) (AreFirstStates-dedup c.args.sorted.items c.requires)
