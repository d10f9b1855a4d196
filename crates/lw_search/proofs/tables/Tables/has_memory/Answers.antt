-- Proves `has_memory`: if it returns `true`, the number's memory has these words. The comparison decides
-- equality of the lists of words.
use Rattle.lw_search.proofs.Common.{◌≡◌, ◌∙◌, sym, ap, Some, option_copied, pointwise_decides}
use Rattle.lw_search.proofs.Common.{unsigned_Decides}
use Rattle.lw_search.proofs.tables.Tables.has_memory.Goals as goal

pub returns-in-Some : goal.returns-in-Some
returns-in-Some g c = λ same.
    let is : c.in-Some.memory.now ≡ c.args.words.now = (pointwise_decides unsigned_Decides _ _).0 (sym c.eq.ensures ∙ same) in
    sym c.memory.ensures ∙ ap option_copied c.in-Some.is ∙ ap Some is
