-- A list by orders for a report has all outcomes of the test, so it has the observed words of each.
use Rattle.lw_beyond.proofs.Common.{IfOk-weaker, AreObservedOutcomesOf-if_all}
use Rattle.lw_beyond.proofs.kinds.ForReportsListKind.list_by_orders.Goals as goal

pub returns-clause-listed : goal.returns-clause-listed
returns-clause-listed g c =
    IfOk-weaker c.list_outcomes.result _ _ (λ l are. AreObservedOutcomesOf-if_all _ _ are) c.list_outcomes.ensures.listed
