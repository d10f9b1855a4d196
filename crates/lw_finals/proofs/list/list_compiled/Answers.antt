-- Proves `list_compiled`, the complete list of a source test with schedules of its compiled program.
-- `IsComplete-source_collected` does the work: what the orders of all path assignments collect is complete. The source can
-- be visited since it is well-formed; the rest are clauses of `list_program`.
use Rattle.lw_finals.proofs.Common.{IsWellScoped-well_formed, source_language, arith, source_of, program_of}
use Rattle.lw_finals.proofs.Common.{IsVisitable-well_formed}
use Rattle.lw_finals.proofs.SourceList.{IsComplete-source_collected}
use Rattle.lw_finals.proofs.list.list_compiled.Goals as goal

pub list_program-requires : goal.list_program-requires
list_program-requires g c = rw c.as_slice.ensures (IsVisitable-well_formed _ _ c.args.source.now.well_formed (omega arith))

pub returns-clause-whole : goal.returns-clause-whole
returns-clause-whole g c =
    let source = c.args.source.now in
    let program = c.args.compiled.now.program in
    let gathered = rw (c.as_slice.ensures, c.in_ok-runner.ensures.test) at c.list_program.ensures.gathered in
    IsComplete-source_collected (source_of source) (IsWellScoped-well_formed source_language source.well_formed)
    c.lists_are_complete.ensures.complete (program_of program) c.requires.outcomes
    (c.lists_are_complete.ensures.caches (program_of program) program.well_formed) c.list_program.result gathered
    (rw c.as_slice.ensures at c.list_program.ensures.within)

pub returns-clause-limit : goal.returns-clause-limit
returns-clause-limit g c = rw c.as_slice.ensures at c.list_program.ensures.err

pub returns-clause-within : goal.returns-clause-within
returns-clause-within g c = rw c.as_slice.ensures at c.list_program.ensures.within
