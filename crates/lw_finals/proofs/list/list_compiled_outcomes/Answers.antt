-- Proves `list_compiled_outcomes`, the outcomes of a source test without schedules. As for `list_compiled`, by
-- `AreAllOutcomes-source_collected`; the runner inside has the test, its program and its code, which three equations
-- say.
use Rattle.lw_finals.proofs.Common.{IsWellScoped-well_formed, source_language, arith, source_of, program_of}
use Rattle.lw_finals.proofs.Common.{IsVisitable-well_formed, ap, ◌∙◌, RunnerState, CompiledSource}
use Rattle.lw_finals.proofs.SourceList.{AreAllOutcomes-source_collected}
use Rattle.lw_finals.proofs.list.list_compiled_outcomes.Goals as goal

pub list_program-requires : goal.list_program-requires
list_program-requires g c = rw c.as_slice.ensures (IsVisitable-well_formed _ _ c.args.source.now.well_formed (omega arith))

-- What was collected without schedules has exactly the test's outcomes.
pub returns-clause-whole : goal.returns-clause-whole
returns-clause-whole g c =
    let source = c.args.source.now in
    let program = c.args.compiled.now.program in
    let test = ap (λ (r : RunnerState CompiledSource). r.test) c.new-outcomes.ensures ∙ c.in_ok-new.ensures.test in
    AreAllOutcomes-source_collected (source_of source) (IsWellScoped-well_formed source_language source.well_formed)
    c.lists_are_complete.ensures.complete (program_of program) c.requires.outcomes
    (c.lists_are_complete.ensures.caches (program_of program) program.well_formed) c.list_program.result
    c.new-outcomes.result.runner.test _ (ap (λ (t : CompiledSource). t.source) test) (ap (λ (t : CompiledSource). t.program) test)
    c.as_slice.ensures c.list_program.ensures.gathered c.list_program.ensures.within

pub returns-clause-limit : goal.returns-clause-limit
returns-clause-limit g c = rw c.as_slice.ensures at c.list_program.ensures.err

pub returns-clause-within : goal.returns-clause-within
returns-clause-within g c = rw c.as_slice.ensures at c.list_program.ensures.within
