-- Law: the tokens of a text's cells are slices of it, in order, without overlaps. It is `tokens_spans`: each
-- token ends before the next begins.
use Rattle.lw_text.proofs.PlacedRows.{tokens_spans}
use Rattle.lw_text.proofs.read.tokens_are_slices.Goals as goal

pub returns : goal.returns
returns c = λ text cells has. tokens_spans text cells has
