-- `cells` promises the column of a thread's cells. The thread is below the head's number of threads, which is
-- the number of columns by the frame's invariant.
use Rattle.lw_text.proofs.Common.{length, refl, ap, arith, slice_get_read}
use Rattle.lw_text.proofs.frame.Frame.cells.Goals as goal

pub returns : goal.returns
returns g c =
    let at = rw (c.as_slice.ensures, c.index.ensures.value) at c.index-as_slice-index.is in
    rw c.as_slice-2.ensures
    (slice_get_read _ _ c.args.cpu c.index-as_slice-index.result refl (omega (arith, c.requires, c.args.self.now.columns)) at)

pub bounds-as_slice-index : goal.bounds-as_slice-index
bounds-as_slice-index g c =
    omega (arith, c.index.ensures.value, ap length c.as_slice.ensures, c.requires, c.args.self.now.columns)
