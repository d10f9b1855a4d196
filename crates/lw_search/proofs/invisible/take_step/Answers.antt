-- Proves `take_step`, which takes the thread's next step if it is invisible and enabled, and otherwise
-- changes nothing. `Settles-step` does the work, as for the drain. At the end of the code, and for a visible
-- step, the empty run is right.
use Rattle.lw_search.proofs.Common.{◌∙◌, ap, sym, slice_get, IfOk-weaker, program_of}
use Rattle.lw_search.proofs.Settling.{Settles-none, Settles-step, IsForward-of_well_formed}
use Rattle.lw_search.proofs.invisible.take_step.Goals as goal

pub returns-in_default : goal.returns-in_default
returns-in_default g c = Settles-none c.args.program.now.threads c.args.conflicts c.args.cpu c.args.thread.now c.args.words.now

pub returns-then-not-is_invisible : goal.returns-then-not-is_invisible
returns-then-not-is_invisible g c =
    Settles-none c.args.program.now.threads c.args.conflicts c.args.cpu c.args.thread.now c.args.words.now

-- An invisible step is taken if it is carried out.
pub returns : goal.returns
returns g c =
    let program = c.args.program.now in
    let code = c.args.code.now in
    let next = ap (slice_get code) (sym c.position.ensures) ∙ sym c.instr_at.ensures ∙ c.in-Some.is in
    let free = rw (c.access_of.ensures, c.operation.ensures) at (c.is_invisible.ensures c.if-not-is_invisible.false) in
    IfOk-weaker c.carry_out.result _ _ (λ done result.
    Settles-step program.threads (IsForward-of_well_formed (program_of program) program.well_formed) c.args.conflicts c.args.cpu
    code c.in-Some.instr c.args.thread.now c.carry_out.new.self c.args.words.now c.carry_out.new.words done c.requires next free
    result) (rw c.operation-2.ensures at c.carry_out.ensures)
