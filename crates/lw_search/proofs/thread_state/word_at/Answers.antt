-- Proves `word_at`, which returns the word of a location, or 0 past the end of the memory. This is the case
-- past the end (`slice_index-past`).
use Rattle.lw_search.proofs.Common.{◌∙◌, ap, sym, option_copied}
use Rattle.lw_search.proofs.ThreadStates.{slice_index-past}
use Rattle.lw_search.proofs.thread_state.word_at.Goals as goal

pub returns-in-None : goal.returns-in-None
returns-in-None g c = sym (slice_index-past c.args.words.now c.args.loc (sym c.get.ensures ∙ ap option_copied c.in-None.is))
