-- Proves `Thread::carry_out`, which executes an operation on the thread and the memory. The search proves the
-- effects; what is left is that each location is in range, which the premise says of the operation.
use Rattle.lw_interleaving.proofs.Common.{refl}
use Rattle.lw_interleaving.proofs.thread.Thread.carry_out.Goals as goal

pub bounds-as_slice-index : goal.bounds-as_slice-index
bounds-as_slice-index g c =
    rw (c.as_slice.ensures, c.index-in-Load.ensures.value) ((rw c.in-Load.is at c.requires.operation).0 _ refl)

pub bounds-as_slice-index-in-Swap : goal.bounds-as_slice-index-in-Swap
bounds-as_slice-index-in-Swap g c =
    rw (c.as_slice-in-Swap.ensures, c.index-in-Swap.ensures.value) ((rw c.in-Swap.is at c.requires.operation).0 _ refl)

pub bounds-as_slice-index-in-FetchAdd : goal.bounds-as_slice-index-in-FetchAdd
bounds-as_slice-index-in-FetchAdd g c =
    rw (c.as_slice-in-FetchAdd.ensures, c.index-in-FetchAdd.ensures.value)
    ((rw c.in-FetchAdd.is at c.requires.operation).0 _ refl)

pub set-requires : goal.set-requires
set-requires g c = rw c.index-in-Store.ensures.value ((rw c.in-Store.is at c.requires.operation).0 _ refl)

pub set-requires-in-Swap : goal.set-requires-in-Swap
set-requires-in-Swap g c = rw c.index-in-Swap-2.ensures.value ((rw c.in-Swap.is at c.requires.operation).0 _ refl)

pub set-requires-in-FetchAdd : goal.set-requires-in-FetchAdd
set-requires-in-FetchAdd g c = rw c.index-in-FetchAdd-2.ensures.value ((rw c.in-FetchAdd.is at c.requires.operation).0 _ refl)
