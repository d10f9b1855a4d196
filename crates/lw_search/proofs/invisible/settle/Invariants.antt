-- At each round the run has grown by some events, and these lead to a state with this thread and these words,
-- which covers the first one.
use Rattle.lw_search.proofs.Common.{◌≡◌, ◌++◌, ℕ, Bool, List, events_of, Settles}
use Rattle.lw_search.proofs.invisible.settle.Given as goal

abbrev pub invariant-loop : goal.invariant-loop
invariant-loop g l =
    (more : List (ℕ × Bool))
    × (l.run ≡ l.initial.run ++ more)
    × Settles l.program.threads l.conflicts l.cpu (events_of more) l.initial.thread l.initial.words l.thread l.words
