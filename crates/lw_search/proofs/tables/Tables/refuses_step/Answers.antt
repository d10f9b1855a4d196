-- Proves `refuses_step`: if it returns `true`, the thread's number has a row whose next step is refused.
-- Immediate from the contracts of `thread` and `refuses_step`.
use Rattle.lw_search.proofs.Common.{◌∙◌, sym, ap, option_copied}
use Rattle.lw_search.proofs.tables.Tables.refuses_step.Goals as goal

pub returns-in-Some : goal.returns-in-Some
returns-in-Some g c = λ yes. (
  c.in-Some.thread.now,
  sym (rw c.index.ensures.value at c.thread.ensures) ∙ ap option_copied c.in-Some.is,
  c.refuses_step.ensures yes,
)
