-- Proves `take_drain`, which drains the thread's oldest entry if the drain is invisible, and otherwise
-- changes nothing. `Settles-drain` does the work: an invisible drain leads to a state that covers the one
-- before. It needs that jumps lead forward, which holds of each well-formed program.
use Rattle.lw_search.proofs.Common.{program_of}
use Rattle.lw_search.proofs.Settling.{Settles-none, Settles-drain, IsForward-of_well_formed}
use Rattle.lw_search.proofs.invisible.take_drain.Goals as goal

pub returns-then-not-is_invisible : goal.returns-then-not-is_invisible
returns-then-not-is_invisible g c =
    Settles-none c.args.program.now.threads c.args.conflicts c.args.cpu c.args.thread.now c.args.words.now

pub returns : goal.returns
returns g c =
    let program = c.args.program.now in
    let free = rw c.drain_access_of.ensures at (c.is_invisible.ensures c.if-not-is_invisible.false) in
    Settles-drain program.threads (IsForward-of_well_formed (program_of program) program.well_formed) c.args.conflicts c.args.cpu
    c.args.thread.now c.drain.new.self c.args.words.now c.drain.new.words c.drain.result c.requires free c.drain.ensures
