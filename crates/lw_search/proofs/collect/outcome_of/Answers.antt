-- Proves `outcome_of`, which returns the registers and words of each state that the key represents.
-- `AreRegisters-push` adds one thread's registers to the list; the rest is proved by the search.
use Rattle.lw_search.proofs.Common.{◌<◌, ◌+◌, arith, sym, subst, length}
use Rattle.lw_search.proofs.Collected.{AreRegisters-push, AreRegisters}
use Rattle.lw_search.proofs.collect.outcome_of.Goals as goal

-- A round appends the registers of one more thread.
pub loop-thread-preserved : goal.loop-thread-preserved
loop-thread-preserved g c =
    let program = c.args.program.now.threads in
    let tables = c.args.tables.now in
    let key = c.args.key.now in
    let n = c.loop-thread.thread in
    let lt : n < length program = omega (arith, c.loop-thread-test.true, c.len-thread-end.ensures) in
    subst (λ l. AreRegisters program tables key l (n + 1)) (sym c.in_ok-push.ensures.ok)
    (AreRegisters-push program tables key c.loop-thread.regs n c.registers_of.result c.loop-thread.invariant lt
    (rw c.cpu_at.ensures at c.registers_of.ensures))
