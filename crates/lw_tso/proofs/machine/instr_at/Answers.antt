-- Proves `instr_at`, which returns the instruction at a position of a thread, or `None` at its end. The
-- thread exists, so its code can be read.
use Rattle.lw_tso.proofs.Common.{[], ◌∙◌, arith, get_or_from_slice_get}
use Rattle.lw_tso.proofs.Events.{slice_get-of_read}
use Rattle.lw_tso.proofs.machine.instr_at.Goals as goal

pub bounds-as_slice-index : goal.bounds-as_slice-index
bounds-as_slice-index g c = rw (c.index.ensures.value, c.as_slice.ensures) c.requires

pub offset_bounds-as_slice-index : goal.offset_bounds-as_slice-index
offset_bounds-as_slice-index g c = omega (arith, bounds-as_slice-index g c)

pub returns : goal.returns
returns g c =
    let at =
    slice_get-of_read {xs = c.args.program.now.threads} {t = c.args.cpu} c.as_slice.ensures c.index.ensures.value c.requires
    c.index-as_slice-index.is in
    rw (get_or_from_slice_get _ c.args.cpu _ [] at) (c.copied.ensures ∙ c.get.ensures)
