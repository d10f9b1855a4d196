-- At each round no entry from `index` on is for the location.
use Rattle.lw_tso.proofs.Common.{◌≡◌, ◌≤◌, drop, length, None, newest_buffered}
use Rattle.lw_tso.proofs.buffer.newest_in.Given as goal

abbrev pub invariant-loop-index : goal.invariant-loop-index
invariant-loop-index g l =
    record { within : l.index ≤ length l.ring.items; passed : newest_buffered (drop l.index l.ring.items) l.loc ≡ None }
