-- Proves `observed`, which returns the observed names, sorted, all in range. `all_registers-next_thread` adds the observed
-- registers of one more thread; `observed-registers_and_locations` puts the locations after those of all threads.
use Rattle.lw_report.proofs.Common.{head_of, is_observed}
use Rattle.lw_report.proofs.Names.{IsSeenInRange-observed, cpu_eq_index, cpu_count-is_threads}
use Rattle.lw_report.proofs.Names.{all_registers-next_thread, observed-registers_and_locations}
use Rattle.lw_report.proofs.projection.observed.Goals as goal

pub loop-cpu-init : goal.loop-cpu-init
loop-cpu-init g c = c.new-names.ensures

pub loop-cpu-preserved : goal.loop-cpu-preserved
loop-cpu-preserved g c =
    let number =
    cpu_eq_index c.all.result c.args.head.now.threads c.loop-cpu.cpu-index c.cpu-item.result c.all.ensures c.loop-cpu-test.true
    c.cpu-item.is in
    all_registers-next_thread (is_observed (head_of c.args.head.now)) c.loop-cpu.cpu-index c.cpu-item.result c.loop-cpu.names
    c.push_registers.new.names number c.loop-cpu.invariant c.in_ok-push_registers.ensures

pub returns-clause-names : goal.returns-clause-names
returns-clause-names g c =
    let number =
    cpu_count-is_threads c.all.result c.args.head.now.threads c.loop-cpu.cpu-index c.all.ensures c.requires
    c.loop-cpu.auto.cpu-index-end c.loop-cpu-test.false in
    observed-registers_and_locations (head_of c.args.head.now) _ c.loop-cpu.names _ number c.loop-cpu.invariant
    c.in_ok-push_locations.ensures

pub returns-clause-in_range : goal.returns-clause-in_range
returns-clause-in_range g c =
    IsSeenInRange-observed (head_of c.args.head.now) c.push_locations.new.names (returns-clause-names g c)
