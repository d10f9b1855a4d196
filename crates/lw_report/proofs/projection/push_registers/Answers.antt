-- Proves `push_registers`, which appends the observed registers of one thread. `filter_prefix-push` adds one register
-- if it is observed; after six they are all (`filter_prefix-all`).
use Rattle.lw_report.proofs.Common.{refl, sym, append-nil}
use Rattle.lw_report.proofs.Names.{filter_prefix-push, filter_prefix-all}
use Rattle.lw_report.proofs.projection.push_registers.Goals as goal

pub loop-reg-init : goal.loop-reg-init
loop-reg-init g c = sym (append-nil c.args.names.now)

pub loop-reg-preserved : goal.loop-reg-preserved
loop-reg-preserved g c =
    filter_prefix-push _ _ c.loop-reg.reg-index c.args.names.now c.loop-reg.names c.loop-reg.invariant 6 c.all.result _
    c.reg-item.result _ c.all.ensures c.loop-reg-test.true refl c.in_ok-push_observed.ensures

pub returns : goal.returns
returns g c = filter_prefix-all _ _ _ _ _ c.loop-reg.invariant 6 c.loop-reg.auto.reg-index-end c.loop-reg-test.false
