-- Proves `Machine::position`, which returns a processor's position. The processor exists, so it can be read
-- (`index_in_range-of_cpu`), and `processor_part-read` says that it is the contract's.
use Rattle.lw_tso.proofs.Events.{index_in_range-of_cpu, processor_part-read}
use Rattle.lw_tso.proofs.machine.Machine.position.Goals as goal

pub index-requires-2 : goal.index-requires-2
index-requires-2 g c = index_in_range-of_cpu c.self.inside.processors _ _ c.self.view_is c.index.ensures.value c.requires

pub returns : goal.returns
returns g c = processor_part-read _ _ _ _ c.self.view_is c.index.ensures.value c.requires c.index-2.ensures
