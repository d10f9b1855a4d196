-- Proves `Machine::is_final`, which says whether all threads have terminated and all buffers are empty.
-- `is_final-all_processors`: the test of the processors in memory is that of the contract's state.
use Rattle.lw_tso.proofs.Common.{ap, ◌∙◌, MachineRun, is_final}
use Rattle.lw_tso.proofs.Events.{is_final-all_processors}
use Rattle.lw_tso.proofs.machine.Machine.is_final.Goals as goal

pub returns : goal.returns
returns g c =
    rw c.as_slice.ensures.value at c.have_terminated.ensures
    ∙ is_final-all_processors c.self.inside.program.now.threads _ c.self.inside.memory
    ∙ ap (λ (r : MachineRun g.row.M.Denot). is_final r.program r.state) c.self.view_is
