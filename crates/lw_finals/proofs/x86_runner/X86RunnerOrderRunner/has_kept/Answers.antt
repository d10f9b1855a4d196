-- Proves the x86 runner's `has_kept`: some schedule reaches the outcome of the last run, namely the order's
-- events (`ReplaysTo-of_order`).
use Rattle.lw_finals.proofs.Common.{events_of}
use Rattle.lw_finals.proofs.X86Outcomes.{ReplaysTo-of_order}
use Rattle.lw_finals.proofs.x86_runner.X86RunnerOrderRunner.has_kept.Goals as goal

pub returns : goal.returns
returns g c =
    let items = c.args._items.now in
    let order = c.args._order.now in
    (events_of items order, ReplaysTo-of_order c.args.self.now.test _ order c.args.self.now.end c.requires.ran)
