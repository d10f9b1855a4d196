-- `write_registers_of` promises the initializers of one thread's registers. The item of `Reg::all()` at an
-- index is that index, so each round writes the next of the six.
use Rattle.lw_x86.proofs.Common.{registers, ◌≡◌, ◌∙◌, ap, get_or, get_or-range_with_len, head_of}
use Rattle.lw_x86.proofs.Common.{numbers_written-push, zero-add}
use Rattle.lw_x86.proofs.BlockTexts.{initializer_of_register}
use Rattle.lw_x86.proofs.block.write_registers_of.Goals as goal

-- A round writes the register of the loop's index.
pub loop-reg-preserved : goal.loop-reg-preserved
loop-reg-preserved g c =
    let i = c.loop-reg.reg-index in
    let at : c.reg-item.result ≡ i =
    c.reg-item.is
    ∙ ap (λ l. get_or l i c.reg-item.result) c.all-reg-items.ensures
    ∙ get_or-range_with_len 0 registers i _ c.loop-reg-test.true
    ∙ zero-add i in
    numbers_written-push (initializer_of_register (head_of c.args.head.now) c.args.thread) registers i _ _ c.loop-reg.invariant _
    c.loop-reg-test.true (rw (← c.reg-item.is, at) at c.in_ok-write_register.ensures)
