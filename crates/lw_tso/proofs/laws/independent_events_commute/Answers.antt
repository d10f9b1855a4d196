-- Proves the law that adjacent independent events of the flat machine commute. This is the lemma `EventsCommute-independent`.
use Rattle.lw_tso.proofs.api.Neighbours.{EventsCommute-independent}
use Rattle.lw_tso.proofs.laws.independent_events_commute.Goals as goal

pub returns : goal.returns
returns c = EventsCommute-independent
