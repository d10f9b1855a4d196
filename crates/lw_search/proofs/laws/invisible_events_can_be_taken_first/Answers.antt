-- Proves the law that the state after an invisible event covers the state before: no final state is lost, and
-- no run gets longer. This is the lemma `Covers-invisible_event`.
use Rattle.lw_search.proofs.InvisibleEvents.{Covers-invisible_event}
use Rattle.lw_search.proofs.laws.invisible_events_can_be_taken_first.Goals as goal

pub returns : goal.returns
returns c = λ program e s next forward done invisible lt. Covers-invisible_event program forward e s next done invisible lt
