-- Proves `has_empty_buffer`: if it returns `true`, the thread's number has a row, and the store buffer there
-- is empty. Immediate from the contracts of `thread` and `has_empty_buffer`.
use Rattle.lw_search.proofs.Common.{◌∙◌, sym, ap, option_copied}
use Rattle.lw_search.proofs.tables.Tables.has_empty_buffer.Goals as goal

pub returns-in-Some : goal.returns-in-Some
returns-in-Some g c = λ yes. (
  c.in-Some.thread.now,
  sym (rw c.index.ensures.value at c.thread.ensures) ∙ ap option_copied c.in-Some.is,
  sym c.has_empty_buffer.ensures ∙ yes,
)
