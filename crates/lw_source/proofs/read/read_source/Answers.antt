-- `read_source` promises the source test of the frame, or a true fault of a cell. It is what `read_test`
-- ensures for the source language, whose forms are distinguishable and whose statements are made from their
-- operands (`source_forms_are_spelled`).
use Rattle.lw_base.proofs.api.Returns.{Err-clause_propagated}
use Rattle.lw_source.proofs.SourceLaws.{source_forms_are_spelled}
use Rattle.lw_source.proofs.read.read_source.Goals as goal

pub read_test-requires : goal.read_test-requires
read_test-requires g c = (λ a there. there, (λ a there. there, (c.requires, source_forms_are_spelled)))

pub returns-in_err-parts-clause-fault : goal.returns-in_err-parts-clause-fault
returns-in_err-parts-clause-fault g c = Err-clause_propagated _ _ c.from_residual.ensures.1 c.in_err-parts.ensures.fault
