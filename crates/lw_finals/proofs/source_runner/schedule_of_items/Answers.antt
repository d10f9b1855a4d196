-- Proves `schedule_of_items`, which returns the events of an order's items, concatenated. Each call of
-- `push_next` appends the events of the next item; past the last item nothing remains of the order.
use Rattle.lw_finals.proofs.Common.{arith, ◌++◌, ◌∙◌, List, ap, sym, append-nil, drop_all, Event, item_events}
use Rattle.lw_finals.proofs.Common.{common_steps, IfOk-from_err}
use Rattle.lw_finals.proofs.source_runner.schedule_of_items.Goals as goal

pub loop-index-init : goal.loop-index-init
loop-index-init g c =
    ap (λ (events : List Event).
    events ++ item_events c.args.source.now.threads c.args.compiled.now.starts c.args.items.now c.args.order.now)
    c.in_ok-events.ensures.items

pub bounds-items-from : goal.bounds-items-from
bounds-items-from g c = rw c.from.ensures (c.requires.within c.loop-index.index-index 0 c.loop-index-test.true)

pub push_next-requires-clause-compiled : goal.push_next-requires-clause-compiled
push_next-requires-clause-compiled g c = c.requires.compiled

pub returns : goal.returns
returns g c =
    let events = c.loop-index.events.items in
    sym (append-nil events)
    ∙ (ap (λ order. events ++ item_events c.args.source.now.threads c.args.compiled.now.starts c.args.items.now order)
    (sym (drop_all c.loop-index.index-index c.args.order.now c.loop-index-test.false))
    ∙ c.loop-index.invariant)

pub offset_bounds-items-from : goal.offset_bounds-items-from
offset_bounds-items-from g c = omega (arith, c.from.ensures, c.type_inv.order c.loop-index.index-index)

pub push_next-requires-clause-in_range : goal.push_next-requires-clause-in_range
push_next-requires-clause-in_range g c = grind (arith, common_steps)

pub loop-index-preserved : goal.loop-index-preserved
loop-index-preserved g c = grind (arith, common_steps)

pub returns-in_err-push_next : goal.returns-in_err-push_next
returns-in_err-push_next g c = IfOk-from_err _ _ c.from_residual-in_err-push_next.ensures.0
