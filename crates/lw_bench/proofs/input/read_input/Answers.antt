-- `read_input` promises all input, or its first 65,537 bytes. A read of no bytes means the end
-- (`IsInput-at_end`), and a full buffer means the limit (`IsInput-if_full`). On an error the bytes read so far are a
-- part of what a run may take (`TakesSome-lost`). Each other round leaves fewer bytes to read.
use Rattle.lw_bench.proofs.Common.{length, ap, arith, err_from_is_err_and}
use Rattle.lw_bench.proofs.Devices.{Consumes-none, unread_count-decreases, Consumes-more_read, IsInput-at_end}
use Rattle.lw_bench.proofs.Devices.{IsInput-if_full, TakesInput-ended, TakesInput-full, TakesSome-lost}
use Rattle.lw_bench.proofs.input.read_input.Goals as goal

pub returns-then-branch-eq0-clause-bytes : goal.returns-then-branch-eq0-clause-bytes
returns-then-branch-eq0-clause-bytes g c =
    IsInput-at_end _ _ _ (Consumes-more_read _ _ _ _ _ _ c.loop-reader.invariant.bytes c.in_ok-pull_chunk.ensures.bytes)
    (c.in_ok-pull_chunk.ensures.bytes.ended c.if-branch-eq0.true)

pub returns-then-branch-eq0-clause-taken : goal.returns-then-branch-eq0-clause-taken
returns-then-branch-eq0-clause-taken g c =
    TakesInput-ended _ _ _ (Consumes-more_read _ _ _ _ _ _ c.loop-reader.invariant.bytes c.in_ok-pull_chunk.ensures.bytes)
    (c.in_ok-pull_chunk.ensures.bytes.ended c.if-branch-eq0.true) c.in_ok-pull_chunk.ensures.bytes.limit

pub returns-clause-taken : goal.returns-clause-taken
returns-clause-taken g c = TakesInput-full _ _ _ c.loop-reader.invariant.bytes (omega arith)

pub returns-clause-bytes : goal.returns-clause-bytes
returns-clause-bytes g c = IsInput-if_full _ _ _ c.loop-reader.invariant.bytes (omega arith)

pub loop-reader-preserved : goal.loop-reader-preserved
loop-reader-preserved g c = record {
  working = c.in_ok-pull_chunk.ensures.failed;
  limit = c.in_ok-pull_chunk.ensures.bytes.limit;
  bytes = Consumes-more_read _ _ _ _ _ _ c.loop-reader.invariant.bytes c.in_ok-pull_chunk.ensures.bytes;
}

pub returns-in_err-pull_chunk-clause-left : goal.returns-in_err-pull_chunk-clause-left
returns-in_err-pull_chunk-clause-left g c =
    let p = err_from_is_err_and c.from_residual.result c.from_residual.ensures.1 in
    rw p.1 (TakesSome-lost _ _ _ _ c.loop-reader.invariant.bytes c.in_err-pull_chunk.ensures.lost)

pub returns-in_err-pull_chunk-clause-err : goal.returns-in_err-pull_chunk-clause-err
returns-in_err-pull_chunk-clause-err g c =
    let p = err_from_is_err_and c.from_residual.result c.from_residual.ensures.1 in rw (p.1, p.2) c.in_err-pull_chunk.ensures.err

pub loop-reader-init : goal.loop-reader-init
loop-reader-init g c = record {
  working = c.requires;
  limit = omega (arith, ap length c.new-bytes.ensures.items);
  bytes = Consumes-none _ _ c.new-bytes.ensures.items;
}

pub loop-reader-smaller : goal.loop-reader-smaller
loop-reader-smaller g c = unread_count-decreases _ _ _ _ _ c.in_ok-pull_chunk.ensures.bytes c.if-branch-eq0.false

pub pull_chunk-requires : goal.pull_chunk-requires
pull_chunk-requires g c = record {
  working = c.loop-reader.invariant.working;
  room = omega (arith, c.loop-reader-test.true, c.len.ensures, c.loop-reader.bytes.ok.0);
}

pub returns-clause-failed : goal.returns-clause-failed
returns-clause-failed g c = c.loop-reader.invariant.working

pub returns-then-branch-eq0-clause-failed : goal.returns-then-branch-eq0-clause-failed
returns-then-branch-eq0-clause-failed g c = c.in_ok-pull_chunk.ensures.failed
