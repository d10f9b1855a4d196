-- Law: over caches store buffering has an outcome with both loads 0. `store_buffering_allowed` is such a run
-- over flat memory, event by event, and outcomes over flat memory are outcomes over caches.
use Rattle.lw_bench.proofs.Common.{IsWellScoped-well_formed, x86_language, store_buffering_in_x86}
use Rattle.lw_bench.proofs.Classics.{IsWellFormedProgram-store_buffering, store_buffering_allowed}
use Rattle.lw_bench.proofs.laws.store_buffering_is_allowed_on_x86.Goals as goal

pub returns : goal.returns
returns c protocol =
    let ok = IsWellScoped-well_formed x86_language IsWellFormedProgram-store_buffering in
    let over =
    c.outcomes_over_caches_are_flat.ensures protocol store_buffering_in_x86 store_buffering_allowed.0 ok
    IsWellFormedProgram-store_buffering.head.bounded in
    (store_buffering_allowed.0, over.1 store_buffering_allowed.1, store_buffering_allowed.2)
