-- Proves `list_source`, the complete list of a source test with schedules. Each clause is a part of what
-- `list_compiled` promises of the program that `compile` returned: it has the outcomes, the threads and the
-- locations of its source.
use Rattle.lw_finals.proofs.Common.{IfOk-weaker, program_of, ListsMachine-of_complete}
use Rattle.lw_finals.proofs.Common.{IsListedOutcome-of_source}
use Rattle.lw_finals.proofs.list.list_source.Goals as goal

pub returns-clause-exactly : goal.returns-clause-exactly
returns-clause-exactly g c =
    IfOk-weaker c.list_compiled.result _ _ (λ l whole. whole.has_all_outcomes.exactly) c.list_compiled.ensures.whole

pub returns-clause-machine : goal.returns-clause-machine
returns-clause-machine g c =
    let compiled = c.in_ok-compiled.compiled in
    IfOk-weaker c.list_compiled.result _ _ (λ l whole.
    ListsMachine-of_complete _ (program_of compiled.program) compiled.starts c.in_ok-compiled.ensures.compiled _ l whole)
    c.list_compiled.ensures.whole

pub returns-clause-of_test : goal.returns-clause-of_test
returns-clause-of_test g c =
    let compiled = c.in_ok-compiled.compiled in
    IfOk-weaker c.list_compiled.result _ _ (λ l whole.
    IsListedOutcome-of_source _ (program_of compiled.program) compiled.starts c.in_ok-compiled.ensures.compiled _ l whole)
    c.list_compiled.ensures.whole
