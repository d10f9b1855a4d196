-- Proves the law that each run can be extended to a final state. This is the lemma `CanTerminate-reached`: buffers are
-- drained and threads stepped forward, one after the other.
use Rattle.lw_tso.proofs.api.Endings.{CanTerminate-reached}
use Rattle.lw_tso.proofs.laws.every_run_ends.Goals as goal

pub returns : goal.returns
returns g c = λ test m events s ok start ran. CanTerminate-reached _ _ g.met.M.MemorySystem.lawful test ok m events s start ran
