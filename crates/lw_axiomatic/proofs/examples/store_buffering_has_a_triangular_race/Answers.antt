-- Law: store buffering has a triangular race, message passing has none. The race of store buffering is there
-- as soon as one thread has stored: its load and the other thread's store are next (`HasTriangularRace-store_buffering`). In message
-- passing no thread both stores and loads (`not-HasTriangularRace-message_passing`).
use Rattle.lw_axiomatic.proofs.WorkedRaces.{HasTriangularRace-store_buffering}
use Rattle.lw_axiomatic.proofs.WorkedRaces.{not-HasTriangularRace-message_passing}
use Rattle.lw_axiomatic.proofs.examples.store_buffering_has_a_triangular_race.Goals as goal

pub returns : goal.returns
returns c = record { some = HasTriangularRace-store_buffering; none = not-HasTriangularRace-message_passing }
