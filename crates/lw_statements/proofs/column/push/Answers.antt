-- `push` promises that the item is appended, or that memory ran out. The one goal by hand turns the refused
-- allocation into a fault at offset 0 (`MatchResult-out_of_memory`).
use Rattle.lw_statements.proofs.Exits.{MatchResult-out_of_memory}
use Rattle.lw_statements.proofs.column.push.Goals as goal

pub returns-in_err-push : goal.returns-in_err-push
returns-in_err-push g c = MatchResult-out_of_memory _ _ _ c.from_residual.ensures.1 (λ f memory first. (memory, first))
