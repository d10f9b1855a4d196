-- Law: no interleaving of store buffering has both loads 0. `store_buffering_forbidden` searches all
-- interleavings, which are few, by computation.
use Rattle.lw_bench.proofs.Classics.{store_buffering_forbidden}
use Rattle.lw_bench.proofs.laws.store_buffering_is_forbidden_by_interleaving.Goals as goal

pub returns : goal.returns
returns c = store_buffering_forbidden
