-- Proves `refuses_step`: if it returns `true`, the machine refuses the thread's next step. There are two
-- reasons: the thread is at the end of its code, or its operation waits for an empty buffer and the buffer
-- has an entry.
use Rattle.lw_search.proofs.Common.{◌≡◌, ◌∙◌, ◌==◌, ap, sym, false, None, Some, length, slice_get}
use Rattle.lw_search.proofs.Common.{step_effect, operation_effect, Ended, Processor}
use Rattle.lw_search.proofs.thread_state.ThreadState.refuses_step.Goals as goal

pub returns-in_default : goal.returns-in_default
returns-in_default g c =
    let end : slice_get c.args.code.now c.args.self.now.position ≡ None =
    ap (λ (p : Processor). slice_get c.args.code.now p.position) (sym c.self.view_is)
    ∙ sym c.instr_at.ensures
    ∙ c.in_default.is in
    λ yes. (Ended, ap (λ i. step_effect i c.args.self.now) end)

-- An operation that waits for an empty buffer is refused while the buffer has an entry.
pub returns : goal.returns
returns g c =
    let next : slice_get c.args.code.now c.args.self.now.position ≡ Some c.in-Some.instr =
    ap (λ (p : Processor). slice_get c.args.code.now p.position) (sym c.self.view_is) ∙ sym c.instr_at.ensures ∙ c.in-Some.is in
    let full : (length c.args.self.now.buffer == 0) ≡ false =
    ap (λ (p : Processor). length p.buffer == 0) (sym c.self.view_is) ∙ sym c.is_empty.ensures ∙ c.if-is_empty.false in
    λ yes.
    let refused = c.needs_empty_buffer.ensures yes c.args.self.now full in (
      refused.0,
      ap (λ i. step_effect i c.args.self.now) next
          ∙ ap (λ o. operation_effect o c.args.self.now) (sym c.operation.ensures)
          ∙ refused.1,
    )
