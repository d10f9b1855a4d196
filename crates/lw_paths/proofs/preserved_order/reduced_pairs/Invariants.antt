-- At each round the pairs so far, followed by those of the items from `index` on, are all.
use Rattle.lw_paths.proofs.Common.{◌≡◌, ◌++◌, drop, none_before, reduced_from}
use Rattle.lw_paths.proofs.preserved_order.reduced_pairs.Given as goal

abbrev pub invariant-loop-index : goal.invariant-loop-index
invariant-loop-index g l =
    l.pairs.items ++ reduced_from g.S.Statement.language l.program l.index l.before l.last (drop l.index l.items)
    ≡ reduced_from g.S.Statement.language l.program 0 0 none_before l.items
