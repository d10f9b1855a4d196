-- Proves `list_x86_outcomes`, the outcomes of an x86 test without schedules. `AreAllOutcomes-x86_collected` says
-- that they are all (`AreAllOutcomes-list`), and the clauses are its parts. The limits are those of
-- `list_program`.
use Rattle.lw_finals.proofs.Common.{IsWellScoped-well_formed, x86_language, arith, IfOk, IfOk-weaker}
use Rattle.lw_finals.proofs.Common.{AreAllOutcomes, outcomes_of, IsMachineOutcome, flat_memory, program_of}
use Rattle.lw_finals.proofs.Common.{IsVisitable-well_formed, ap, ◌∙◌, RunnerState, X86Test}
use Rattle.lw_finals.proofs.X86List.{AreAllOutcomes-x86_collected}
use Rattle.lw_finals.proofs.list.list_x86_outcomes.Given.{Over}
use Rattle.lw_finals.proofs.list.list_x86_outcomes.Goals.{After-drop-outcomes-4}
use Rattle.lw_finals.proofs.list.list_x86_outcomes.Goals as goal

-- If `list_program` returns a list, its outcomes are all of the program's.
AreAllOutcomes-list : (g : Over) (c : After-drop-outcomes-4 g)
    → let program = program_of c.args.program.now in
    IfOk c.list_program.result
    (λ l. AreAllOutcomes (IsMachineOutcome flat_memory program program.head.init_words) program (outcomes_of l))
AreAllOutcomes-list g c =
    let program = c.args.program.now in
    let test = ap (λ (r : RunnerState X86Test). r.test) c.new-outcomes.ensures ∙ c.in_ok-new.ensures.test in
    AreAllOutcomes-x86_collected (program_of program) (IsWellScoped-well_formed x86_language program.well_formed)
    c.lists_are_complete.ensures.complete (c.lists_are_complete.ensures.caches (program_of program) program.well_formed)
    c.list_program.result c.new-outcomes.result.runner.test _ test c.as_slice.ensures c.list_program.ensures.gathered
    c.list_program.ensures.within

pub list_program-requires : goal.list_program-requires
list_program-requires g c = rw c.as_slice.ensures (IsVisitable-well_formed _ _ c.args.program.now.well_formed (omega arith))

pub returns-clause-exactly : goal.returns-clause-exactly
returns-clause-exactly g c =
    let d = (goal.at.returns-clause-exactly g c).After-drop-outcomes-4 in
    IfOk-weaker c.list_program.result _ _ (λ l is. is.over_caches) (AreAllOutcomes-list g d)

pub returns-clause-of_test : goal.returns-clause-of_test
returns-clause-of_test g c =
    let d = (goal.at.returns-clause-of_test g c).After-drop-outcomes-4 in
    IfOk-weaker c.list_program.result _ _ (λ l is. is.shapes) (AreAllOutcomes-list g d)

pub returns-clause-limit : goal.returns-clause-limit
returns-clause-limit g c = rw c.as_slice.ensures at c.list_program.ensures.err

pub returns-clause-within : goal.returns-clause-within
returns-clause-within g c = rw c.as_slice.ensures at c.list_program.ensures.within
