-- Proves `state_of`, which returns the state of one outcome. The only goal is what `words_of` requires: the
-- observed names are in range of the outcome.
use Rattle.lw_report.proofs.Common.{length, All, head_of, IsSeenInRange}
use Rattle.lw_report.proofs.Names.{IsSeenInRange-observed}
use Rattle.lw_report.proofs.states.state_of.Goals as goal

pub words_of-requires-clause-names : goal.words_of-requires-clause-names
words_of-requires-clause-names g c =
    let there : All (IsSeenInRange c.args.head.now.threads (length c.args.head.now.locs)) c.args.names.now =
    IsSeenInRange-observed (head_of c.args.head.now) c.args.names.now c.requires.names in
    rw (c.requires.outcome.regs_of, c.requires.outcome.words_of) there
