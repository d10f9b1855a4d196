-- Proves the law that inserting the removed MFENCEs again gives the code. This is the lemma `HasInsertedFencesInCode-code_without`.
use Rattle.lw_tso.proofs.api.FenceRemoval.{HasInsertedFencesInCode-code_without}
use Rattle.lw_tso.proofs.laws.fences_can_be_removed.Goals as goal

pub returns : goal.returns
returns c = HasInsertedFencesInCode-code_without
