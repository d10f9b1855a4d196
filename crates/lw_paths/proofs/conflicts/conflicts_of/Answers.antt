-- Proves `conflicts_of`, which returns the conflicting pairs of items, sorted. The definition filters all pairs
-- of items; the code pairs accesses only, which gives the same list (`conflicts_among-are_conflicts`), since an item without
-- an access conflicts with none.
use Rattle.lw_paths.proofs.Common.{append_assoc, append-nil, nil_from_length}
use Rattle.lw_paths.proofs.AccessPairs.{conflicts_among-are_conflicts}
use Rattle.lw_paths.proofs.conflicts.conflicts_of.Goals as goal

pub loop-first-init : goal.loop-first-init
loop-first-init g c =
    rw (c.new-pairs.ensures.items, c.as_slice-later.ensures.value, c.in_ok-accesses.ensures)
    (conflicts_among-are_conflicts g.S.Statement.language c.args.program.now c.args.items.now)

pub loop-first-preserved : goal.loop-first-preserved
loop-first-preserved g c =
    rw (c.in_ok-push_conflicts.ensures, append_assoc) (rw c.in-Some.ensures.cases.0 at c.loop-first.invariant)

pub returns : goal.returns
returns g c = rw (nil_from_length c.loop-first.later.now c.in_default.ensures.cases, append-nil) at c.loop-first.invariant
