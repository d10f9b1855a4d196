-- Proves `ThreadState::drain`, which does to the thread and the words what the machine's drain does. This is
-- the case of an empty buffer: the machine refuses the drain (`drain_effect-refused`), and `pop` has left the
-- buffer as it was.
use Rattle.lw_search.proofs.Common.{◌≡◌, ◌∙◌, ap, sym, refl, Processor, None, slice_get}
use Rattle.lw_search.proofs.ThreadStates.{drain_effect-refused, drop_one-none}
use Rattle.lw_search.proofs.thread_state.ThreadState.drain.Goals as goal

-- If the buffer is empty, the machine refuses the drain, and nothing has changed.
pub returns-in_default : goal.returns-in_default
returns-in_default g c =
    let inside = c.self.inside in
    let none : slice_get inside.buffer 0 ≡ None = sym c.pop.ensures.oldest ∙ c.in_default.is in (
      drain_effect-refused _ _ (ap (λ (p : Processor). slice_get p.buffer 0) (sym c.self.view_is) ∙ none),
      ap (λ b. record { position = inside.position; regs = inside.regs; zero_flag = inside.zero_flag; buffer = b })
          (c.pop.ensures.entries ∙ drop_one-none inside.buffer none)
          ∙ c.self.view_is,
      refl,
    )
