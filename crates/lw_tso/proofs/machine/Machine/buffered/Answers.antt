-- Proves `Machine::buffered`, which returns the number of entries in a processor's buffer. The list of
-- processors is as long as that of the contract's state, and `processor_part-read` reads the buffer there.
use Rattle.lw_tso.proofs.Common.{[], get_or_from_slice_get}
use Rattle.lw_tso.proofs.Events.{index_in_range-of_cpu, processor_part-read}
use Rattle.lw_tso.proofs.machine.Machine.buffered.Goals as goal

pub index-requires-2 : goal.index-requires-2
index-requires-2 g c = index_in_range-of_cpu c.self.inside.processors _ _ c.self.view_is c.index.ensures.value c.requires

pub returns : goal.returns
returns g c =
    let at = processor_part-read (λ p. p.buffer) _ _ _ c.self.view_is c.index.ensures.value c.requires c.index-2.ensures in
    rw (get_or_from_slice_get _ c.args.cpu _ [] at) c.len.ensures
