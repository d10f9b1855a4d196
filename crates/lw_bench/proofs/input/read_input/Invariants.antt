-- At each round the reader has not failed, and `bytes` has exactly what has been read since the start, at
-- most 65,537 bytes. The number of bytes that may still be read decreases.
use Rattle.lw_bench.proofs.Common.{most_read_bytes, ◌≡◌, ◌-◌, ◌≤◌, false, length, Consumes}
use Rattle.lw_bench.proofs.input.read_input.Given as goal

abbrev pub invariant-loop-reader : goal.invariant-loop-reader
invariant-loop-reader g l = record {
  working : g.R.ByteReader.failed l.reader ≡ false;
  limit : length l.bytes.items ≤ most_read_bytes;
  bytes : Consumes (g.R.ByteReader.remaining l.fn.reader) (g.R.ByteReader.remaining l.reader) l.bytes.items;
}

abbrev pub decreases-loop-reader : goal.decreases-loop-reader
decreases-loop-reader g l = most_read_bytes - length l.bytes.items
