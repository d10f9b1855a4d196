-- Proves `insert_start`, after which the search has found exactly the initial state of the program.
-- `IsStarted-of_start_key` shows that empty tables with this one key satisfy the search's invariant; only the key
-- has to represent the initial state (`start_key`).
use Rattle.lw_search.proofs.Common.{program_of, on_ok_weaker}
use Rattle.lw_search.proofs.Start.{IsStarted-of_start_key}
use Rattle.lw_search.proofs.search.Search.insert_start.Goals as goal

pub returns-clause-started : goal.returns-clause-started
returns-clause-started g c =
    let program = c.args.self.now.program.now in
    on_ok_weaker c.insert.result
    (IsStarted-of_start_key (program_of program) c.in_ok-key.key 0 c.args.self.now.run c.insert.new.self program.well_formed
    c.in_ok-key.ensures.key (rw c.requires.tables at c.in_ok-key.ensures.extended)) (rw c.requires.states at c.insert.ensures)
