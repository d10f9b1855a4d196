-- Proves `SourceRun::reg`, which returns a register's word. The thread exists, and what is read in the list
-- of threads is the contract's (`slice_get-map_equal_list`).
use Rattle.lw_interleaving.proofs.Common.{ap, ◌∙◌, SourceRunState}
use Rattle.lw_interleaving.proofs.api.Runs.{slice_get-map_equal_list}
use Rattle.lw_interleaving.proofs.run.SourceRun.reg.Goals as goal

pub returns : goal.returns
returns g c =
    let threads = c.as_slice.ensures ∙ ap (λ (r : SourceRunState). r.state.threads) c.self.view_is in
    rw c.index-2.ensures.value (slice_get-map_equal_list _ _ _ c.args.cpu _ _ threads c.index.ensures.value c.requires)
