-- `run_text` promises `IsRun`: what was read, what was written, and which faults are true. One answer for
-- each way to end: reading failed (`IsRun-unread`), rendering failed (`IsRun-no_output`), writing failed (`IsRun-unwritten`), and
-- success (`IsRun-written`).
use Rattle.lw_bench.proofs.Common.{err_from_is_err_and, devices}
use Rattle.lw_bench.proofs.Runs.{IsRun-unread, IsRun-no_output, IsRun-unwritten, IsRun-written}
use Rattle.lw_bench.proofs.run.run_text.Goals as goal

pub returns-in_err-text : goal.returns-in_err-text
returns-in_err-text g c =
    let p = err_from_is_err_and c.from_residual.result c.from_residual.ensures.1 in
    let known = c.what_is_known_is_reached_on_the_machine.ensures in
    rw (p.1, p.2)
    (IsRun-unread (devices g.R.ByteReader.remaining g.R.ByteReader.failed) (devices g.W.ByteWriter.contents g.W.ByteWriter.failed)
    (g.O.Renderer.fault_is_true c.args.output.now) _ _ _ (g.O.Renderer.is_made c.args.output.now) (known.machine _)
    (known.caches _) c.in_err-text.field-0.0 c.in_err-text.ensures.err c.in_err-text.ensures.left c.requires.writer)

-- If nothing can be rendered, the run reports the fault, which is true of the bytes read.
pub returns-in_err-made : goal.returns-in_err-made
returns-in_err-made g c =
    let p = err_from_is_err_and c.from_residual-in_err-made.result c.from_residual-in_err-made.ensures.1 in
    let known = c.what_is_known_is_reached_on_the_machine.ensures in
    let told = rw c.as_slice.ensures.value at c.in_err-made.ensures.fault in
    rw (p.1, p.2)
    (IsRun-no_output (devices g.R.ByteReader.remaining g.R.ByteReader.failed)
    (devices g.W.ByteWriter.contents g.W.ByteWriter.failed) (g.O.Renderer.fault_is_true c.args.output.now) _ _ _
    (g.O.Renderer.is_made c.args.output.now) (known.machine _) (known.caches _) _ c.in_ok-text.ensures.bytes
    c.in_ok-text.ensures.taken c.in_ok-text.ensures.failed c.in_err-made.field-0.0 told c.in_err-made.ensures.device
    c.requires.writer)

pub returns-in_err-write_output : goal.returns-in_err-write_output
returns-in_err-write_output g c =
    let p = err_from_is_err_and c.from_residual-in_err-write_output.result c.from_residual-in_err-write_output.ensures.1 in
    let known = c.what_is_known_is_reached_on_the_machine.ensures in
    rw (p.1, p.2, c.in_err-write_output.ensures.err)
    (IsRun-unwritten (devices g.R.ByteReader.remaining g.R.ByteReader.failed)
    (devices g.W.ByteWriter.contents g.W.ByteWriter.failed) (g.O.Renderer.fault_is_true c.args.output.now) _ _ _
    (g.O.Renderer.is_made c.args.output.now) (known.machine _) (known.caches _) _ c.in_ok-text.ensures.bytes
    c.in_ok-text.ensures.taken c.in_ok-text.ensures.failed _ c.in_err-write_output.ensures.failed)

pub returns : goal.returns
returns g c =
    let known = c.what_is_known_is_reached_on_the_machine.ensures in
    let found = rw c.as_slice.ensures.value at c.in_ok-made.ensures.found in
    let put = rw (c.as_bytes.ensures.value, c.as_str.ensures) at c.in_ok-write_output.ensures.bytes in
    IsRun-written (devices g.R.ByteReader.remaining g.R.ByteReader.failed) (devices g.W.ByteWriter.contents g.W.ByteWriter.failed)
    (g.O.Renderer.fault_is_true c.args.output.now) _ _ _ (g.O.Renderer.is_made c.args.output.now) (known.machine _)
    (known.caches _) _ c.in_ok-text.ensures.bytes c.in_ok-text.ensures.taken c.in_ok-text.ensures.failed _ _ _ found put
    c.in_ok-write_output.ensures.failed

pub read_input-requires : goal.read_input-requires
read_input-requires g c = c.requires.reader

pub write_output-requires : goal.write_output-requires
write_output-requires g c = c.requires.writer
