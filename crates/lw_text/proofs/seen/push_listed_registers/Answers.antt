-- `push_listed_registers` promises that a thread's listed registers are appended. Each round adds one register, if it
-- is listed (`filtered_seen-push`).
use Rattle.lw_text.proofs.Common.{◌≡◌, ap, get_or, get_or-range_with_len, is_listed, zero-add, ◌∙◌, registers}
use Rattle.lw_text.proofs.Common.{Register}
use Rattle.lw_text.proofs.Starts.{filtered_seen-push}
use Rattle.lw_text.proofs.seen.push_listed_registers.Goals as goal

-- A round appends the register of the loop's index, if it is listed.
pub loop-reg-preserved : goal.loop-reg-preserved
loop-reg-preserved g c =
    let i = c.loop-reg.reg-index in
    let at : c.reg-item.result ≡ i =
    c.reg-item.is
    ∙ ap (λ l. get_or l i c.reg-item.result) c.all.ensures
    ∙ get_or-range_with_len 0 registers i _ c.loop-reg-test.true
    ∙ zero-add i in
    filtered_seen-push (is_listed c.args.sites.now) c.args.seen.now c.loop-reg.seen c.push_if_listed.new.seen
    (λ r. Register c.args.cpu r) i c.loop-reg.invariant
    (rw (c.index.ensures.value, ← c.reg-item.is, at) at c.in_ok-push_if_listed.ensures)
