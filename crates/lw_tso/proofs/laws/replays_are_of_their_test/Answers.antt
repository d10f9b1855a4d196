-- Proves the law that a replay's events and its outcome are of the test's processors and locations. This is
-- the lemma `HasOutcomeShape-replay`.
use Rattle.lw_tso.proofs.api.Replaying.{HasOutcomeShape-replay}
use Rattle.lw_tso.proofs.laws.replays_are_of_their_test.Goals as goal

pub returns : goal.returns
returns g c = λ test m events o ok start r. HasOutcomeShape-replay g.met.M.MemorySystem.lawful test m events o ok start r
