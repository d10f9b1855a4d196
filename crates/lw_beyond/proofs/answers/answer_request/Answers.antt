-- `answer_request` is the public call. That the output is right and a fault true is what `answer_text`
-- ensures. The clauses on the machine and on caches are the law `every_test_has_its_program`, which holds of
-- every text.
use Rattle.lw_beyond.proofs.answers.answer_request.Goals as goal

pub returns-clause-machine : goal.returns-clause-machine
returns-clause-machine g c = c.every_test_has_its_program.ensures.machine _

pub returns-clause-caches : goal.returns-clause-caches
returns-clause-caches g c = c.every_test_has_its_program.ensures.caches _
