-- `pull_chunk` promises that the returned number of bytes was read and appended, or that at most what may
-- still be read was lost. The interesting case is a refused allocation after the read: these bytes are lost,
-- but they were at most a chunk, within what may be read (`IsFront-appended`, `LosesInput-front`).
use Rattle.lw_bench.proofs.Common.{most_read_bytes, ℕ, arith, refl, sym, ◌∙◌, ◌-◌, ◌≤◌, length, length-append}
use Rattle.lw_bench.proofs.Common.{length-take-le, err_from_is_err_and}
use Rattle.lw_bench.proofs.Devices.{IsFront, ReadsMore-front, LosesInput-none, LosesInput-front}
use Rattle.lw_bench.proofs.input.pull_chunk.Goals.{After-extend_from_slice}
use Rattle.lw_bench.proofs.input.pull_chunk.Goals as goal

pub returns-in_default-clause-err : goal.returns-in_default-clause-err
returns-in_default-clause-err g c = rw c.in_default.ensures.failed refl

-- The chunk is no larger than what may still be read.
count_le-rest : (g : _) (c : After-extend_from_slice g) → c.min-room.result ≤ most_read_bytes - length c.args.bytes.now.items
count_le-rest g c = omega (arith, c.min-room.ensures, c.len.ensures, c.args.bytes.now.ok.0)

-- The bytes appended are a front of the buffer that was read into, and no more than there was room for.
IsFront-appended : (g : _) (c : After-extend_from_slice g) → IsFront c.args.bytes.now.items c.pull.new.buf c.in-Ok.count
IsFront-appended g c = record {
  room = c.min-room.result;
  short = c.requires.room;
  has_room = omega (arith, c.min-room.ensures, c.len.ensures, c.args.bytes.now.ok.0, c.requires.room);
  is_room = count_le-rest g c;
  whole = c.pull.auto.buf ∙ length-take-le c.min-room.result _ (omega (arith, c.min-room.ensures));
  count_in_range = c.in-Ok.ensures.bound;
}

pub returns-clause-bytes : goal.returns-clause-bytes
returns-clause-bytes g c =
    ReadsMore-front _ _ c.pull.new.buf _ c.in-Ok.count
    (IsFront-appended g (goal.at.returns-clause-bytes g c).After-extend_from_slice) c.in-Ok.ensures.bytes
    c.in_ok-extend_from_slice.ensures.items

pub returns-in_default-clause-lost : goal.returns-in_default-clause-lost
returns-in_default-clause-lost g c = LosesInput-none _ _ _ c.requires.room c.in_default.ensures.bytes

pub returns-in_err-extend_from_slice-clause-lost : goal.returns-in_err-extend_from_slice-clause-lost
returns-in_err-extend_from_slice-clause-lost g c =
    let p = err_from_is_err_and c.from_residual.result c.from_residual.ensures.1 in
    let front = IsFront-appended g (goal.at.returns-in_err-extend_from_slice-clause-lost g c).After-extend_from_slice in
    rw p.1 (LosesInput-front _ _ _ _ _ front c.in-Ok.ensures.bytes.0)

pub returns-in_err-extend_from_slice-clause-err : goal.returns-in_err-extend_from_slice-clause-err
returns-in_err-extend_from_slice-clause-err g c =
    let p = err_from_is_err_and c.from_residual.result c.from_residual.ensures.1 in rw (p.1, p.2, c.in-Ok.ensures.failed) refl

pub overflow_sub-len : goal.overflow_sub-len
overflow_sub-len g c = omega (arith, c.requires.room, c.len.ensures)

pub slice_bounds-chunk-end : goal.slice_bounds-chunk-end
slice_bounds-chunk-end g c = omega (arith, c.min-room.ensures)

pub slice_bounds-chunk-end-2 : goal.slice_bounds-chunk-end-2
slice_bounds-chunk-end-2 g c = omega (arith, c.in-Ok.ensures.bound, length-append {A = ℕ})

pub pull-requires : goal.pull-requires
pull-requires g c = c.requires.working

pub returns-clause-failed : goal.returns-clause-failed
returns-clause-failed g c = c.in-Ok.ensures.failed

pub slice_bounds-extend_from_slice-end : goal.slice_bounds-extend_from_slice-end
slice_bounds-extend_from_slice-end g c =
    sym (length-take-le c.in-Ok.count _ (omega (arith, c.in-Ok.ensures.bound, length-append {A = ℕ})))
