-- `run_command` promises the ending of the whole program. The one goal by hand is the case that the words
-- name a task and the input was read: it ends as `end_task` ensures, so the second half of the clause `ended`
-- holds.
use Rattle.lw_bench.proofs.Common.{IfOk, inr, sym, subst, IfErr, EndsTask, Reports}
use Rattle.lw_bench.proofs.whole_command.run_command.Goals as goal

-- If the words name a task and the input was read, the program ends as the task does.
pub returns-in-Ok-clause-ended : goal.returns-in-Ok-clause-ended
returns-in-Ok-clause-ended g c =
    let e = c.end_task.result in
    let ends = rw c.as_slice.ensures.value at c.end_task.ensures in
    inr (
      c.in-Some.task,
      c.in-Some.ensures,
      subst (λ r. IfErr r (λ f. Reports f e)) (sym c.in-Ok.is) tt,
      subst (λ r. IfOk r (λ text. EndsTask c.in-Some.task text.items e)) (sym c.in-Ok.is) ends,
    )
