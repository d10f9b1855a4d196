-- Proves `list_x86`, the complete list of an x86 test with schedules. `IsComplete-x86_collected` says that what the orders
-- collect is complete (`IsComplete-list`), and the clauses are its parts. The limits are those of `list_program`.
use Rattle.lw_finals.proofs.Common.{IsWellScoped-well_formed, x86_language, arith, IfOk, IfOk-weaker}
use Rattle.lw_finals.proofs.Common.{IsComplete, IsMachineOutcome, flat_memory, program_of}
use Rattle.lw_finals.proofs.Common.{IsVisitable-well_formed}
use Rattle.lw_finals.proofs.X86List.{IsComplete-x86_collected}
use Rattle.lw_finals.proofs.list.list_x86.Given.{Over}
use Rattle.lw_finals.proofs.list.list_x86.Goals.{After-drop-runner-inside-4}
use Rattle.lw_finals.proofs.list.list_x86.Goals as goal

-- If `list_program` returns a list, it is complete.
IsComplete-list : (g : Over) (c : After-drop-runner-inside-4 g)
    → let program = program_of c.args.program.now in
    IfOk c.list_program.result (IsComplete (IsMachineOutcome flat_memory program program.head.init_words) program)
IsComplete-list g c =
    let program = c.args.program.now in
    IsComplete-x86_collected (program_of program) (IsWellScoped-well_formed x86_language program.well_formed)
    c.lists_are_complete.ensures.complete (c.lists_are_complete.ensures.caches (program_of program) program.well_formed)
    c.list_program.result (rw (c.as_slice.ensures, c.in_ok-runner.ensures.test) at c.list_program.ensures.gathered)
    (rw c.as_slice.ensures at c.list_program.ensures.within)

pub list_program-requires : goal.list_program-requires
list_program-requires g c = rw c.as_slice.ensures (IsVisitable-well_formed _ _ c.args.program.now.well_formed (omega arith))

pub returns-clause-exactly : goal.returns-clause-exactly
returns-clause-exactly g c =
    let d = (goal.at.returns-clause-exactly g c).After-drop-runner-inside-4 in
    IfOk-weaker c.list_program.result _ _ (λ l is. is.has_all_outcomes.over_caches) (IsComplete-list g d)

pub returns-clause-replays : goal.returns-clause-replays
returns-clause-replays g c =
    let d = (goal.at.returns-clause-replays g c).After-drop-runner-inside-4 in
    IfOk-weaker c.list_program.result _ _ (λ l is. is.replays) (IsComplete-list g d)

pub returns-clause-of_test : goal.returns-clause-of_test
returns-clause-of_test g c =
    let d = (goal.at.returns-clause-of_test g c).After-drop-runner-inside-4 in
    IfOk-weaker c.list_program.result _ _ (λ l is. is.of_program) (IsComplete-list g d)

pub returns-clause-limit : goal.returns-clause-limit
returns-clause-limit g c = rw c.as_slice.ensures at c.list_program.ensures.err

pub returns-clause-within : goal.returns-clause-within
returns-clause-within g c = rw c.as_slice.ensures at c.list_program.ensures.within
