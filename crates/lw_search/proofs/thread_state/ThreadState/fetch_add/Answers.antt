-- Proves `ThreadState::fetch_add`, which does what the machine's `LOCK XADD` does. This is the case of a
-- buffer with an entry: the machine refuses the operation then (`if_buffer_empty-refused`), and nothing has
-- changed.
use Rattle.lw_search.proofs.Common.{◌≡◌, ◌∙◌, ◌==◌, ap, sym, refl, false, length, Processor, SwapWaits}
use Rattle.lw_search.proofs.ThreadStates.{if_buffer_empty-refused}
use Rattle.lw_search.proofs.thread_state.ThreadState.fetch_add.Goals as goal

pub returns-then-not-is_empty : goal.returns-then-not-is_empty
returns-then-not-is_empty g c =
    let full : (length c.args.self.now.buffer == 0) ≡ false =
    ap (λ (p : Processor). length p.buffer == 0) (sym c.self.view_is) ∙ sym c.is_empty.ensures ∙ c.if-not-is_empty.true in
    ((SwapWaits, if_buffer_empty-refused _ _ _ full), refl, refl)
