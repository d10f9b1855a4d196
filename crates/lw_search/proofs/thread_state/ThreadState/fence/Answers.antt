-- Proves `ThreadState::fence`, which does what the machine's fence does. This is the case of a buffer with an
-- entry: the machine refuses the fence then (`if_buffer_empty-refused`), and nothing has changed.
use Rattle.lw_search.proofs.Common.{◌≡◌, ◌∙◌, ◌==◌, ap, sym, refl, false, length, Processor, FenceWaits}
use Rattle.lw_search.proofs.ThreadStates.{if_buffer_empty-refused}
use Rattle.lw_search.proofs.thread_state.ThreadState.fence.Goals as goal

pub returns-then-not-is_empty : goal.returns-then-not-is_empty
returns-then-not-is_empty g c =
    let full : (length c.args.self.now.buffer == 0) ≡ false =
    ap (λ (p : Processor). length p.buffer == 0) (sym c.self.view_is) ∙ sym c.is_empty.ensures ∙ c.if-not-is_empty.true in
    λ m. ((FenceWaits, if_buffer_empty-refused _ _ _ full), refl, refl)
