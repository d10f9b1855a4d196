-- Proves the law that a search which has visited all found states has found each reachable final state. This
-- is the lemma `final_state-found`: an induction on the length of the run to the final state.
use Rattle.lw_search.proofs.AllFound.{final_state-found}
use Rattle.lw_search.proofs.laws.all_final_states_are_found.Goals as goal

pub returns : goal.returns
returns c = final_state-found
