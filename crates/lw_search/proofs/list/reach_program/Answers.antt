-- Proves `reach_program`, the complete list of an x86 test with schedules. Each clause is a part of what
-- `search_schedules` promises (`IsComplete`).
use Rattle.lw_search.proofs.Common.{IfOk-weaker}
use Rattle.lw_search.proofs.list.reach_program.Goals as goal

pub returns-clause-exactly : goal.returns-clause-exactly
returns-clause-exactly g c =
    IfOk-weaker c.search_schedules.result _ _ (λ s is. is.has_all_outcomes.over_caches) c.search_schedules.ensures.complete

pub returns-clause-replays : goal.returns-clause-replays
returns-clause-replays g c = IfOk-weaker c.search_schedules.result _ _ (λ s is. is.replays) c.search_schedules.ensures.complete

pub returns-clause-of_test : goal.returns-clause-of_test
returns-clause-of_test g c = IfOk-weaker c.search_schedules.result _ _ (λ s is. is.of_program) c.search_schedules.ensures.complete
