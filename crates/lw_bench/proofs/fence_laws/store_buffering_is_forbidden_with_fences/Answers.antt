-- Law: store buffering with a fence in each thread has no outcome in which both loads are early.
-- `fenced_store_buffering` computes all its runs, of at most nine events.
use Rattle.lw_bench.proofs.FencedClassics.{fenced_store_buffering}
use Rattle.lw_bench.proofs.fence_laws.store_buffering_is_forbidden_with_fences.Goals as goal

pub returns : goal.returns
returns c = fenced_store_buffering
