-- At each round the writer has not failed, and has all of `bytes` except `rest`, after what it had at the
-- start. The rest becomes shorter.
use Rattle.lw_bench.proofs.Common.{◌≡◌, false, length, WritesPrefix}
use Rattle.lw_bench.proofs.output.write_output.Given as goal

abbrev pub invariant-loop-rest : goal.invariant-loop-rest
invariant-loop-rest g l = record {
  working : g.W.ByteWriter.failed l.writer ≡ false;
  bytes : WritesPrefix (g.W.ByteWriter.contents l.fn.writer) (g.W.ByteWriter.contents l.writer) l.bytes l.rest;
}

abbrev pub decreases-loop-rest : goal.decreases-loop-rest
decreases-loop-rest g l = length l.rest
