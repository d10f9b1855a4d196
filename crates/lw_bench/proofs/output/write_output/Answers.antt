-- `write_output` promises that all bytes are written, or that the writer has failed. Each round appends the
-- bytes that the writer accepted and leaves the rest (`WritesPrefix-more`); a writer accepts at least one byte, so
-- the loop ends.
use Rattle.lw_bench.proofs.Devices.{WritesPrefix-more}
use Rattle.lw_bench.proofs.output.write_output.Goals as goal

pub loop-rest-preserved : goal.loop-rest-preserved
loop-rest-preserved g c = record {
  working = c.in-Ok.ensures.failed;
  bytes = rw c.split_at.ensures.back (WritesPrefix-more _ _ _ _ _ _ c.loop-rest.invariant.bytes c.in-Ok.ensures.bytes);
}
