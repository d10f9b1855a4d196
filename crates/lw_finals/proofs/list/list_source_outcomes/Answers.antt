-- Proves `list_source_outcomes`, the outcomes of a source test without schedules. Each clause is a part of
-- what `list_compiled_outcomes` promises; the compiled program has the threads and locations of its source
-- (`HasOutcomeShape-of_compiled`).
use Rattle.lw_finals.proofs.Common.{IfOk-weaker, program_of, outcomes_of, HasOutcomeShape-of_compiled}
use Rattle.lw_finals.proofs.list.list_source_outcomes.Goals as goal

pub returns-clause-exactly : goal.returns-clause-exactly
returns-clause-exactly g c =
    IfOk-weaker c.list_compiled_outcomes.result _ _ (λ l whole. whole.exactly) c.list_compiled_outcomes.ensures.whole

pub returns-clause-of_test : goal.returns-clause-of_test
returns-clause-of_test g c =
    let compiled = c.in_ok-compiled.compiled in
    IfOk-weaker c.list_compiled_outcomes.result _ _ (λ l whole.
    HasOutcomeShape-of_compiled _ (program_of compiled.program) compiled.starts c.in_ok-compiled.ensures.compiled (outcomes_of l)
    whole.shapes) c.list_compiled_outcomes.ensures.whole
