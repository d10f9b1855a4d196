-- `answer` is the public call. That bytes are the task's output, and faults true, is what `render_text`
-- ensures; the clauses on the machine and on caches are the law `every_test_has_its_program`, which holds of
-- every text.
use Rattle.lw_bench.proofs.render.answer.Goals as goal

pub returns-clause-made : goal.returns-clause-made
returns-clause-made g c = c.render_text.ensures.found

pub returns-clause-machine : goal.returns-clause-machine
returns-clause-machine g c = c.every_test_has_its_program.ensures.machine _

pub returns-clause-caches : goal.returns-clause-caches
returns-clause-caches g c = c.every_test_has_its_program.ensures.caches _
