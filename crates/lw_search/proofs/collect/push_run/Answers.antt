-- Proves `push_run`, which appends the events of the run with a number. If no run has the number, `events_at`
-- has no events either (`events_at-none`), so appending nothing is right.
use Rattle.lw_search.proofs.Common.{◌++◌, ◌∙◌, ap, sym, append-nil, option_copied}
use Rattle.lw_search.proofs.Collected.{events_at-none}
use Rattle.lw_search.proofs.collect.push_run.Goals as goal

pub returns-in-None : goal.returns-in-None
returns-in-None g c =
    let none = events_at-none c.args.states.now.runs c.args.number (sym c.run.ensures ∙ ap option_copied c.in-None.is) in
    sym (append-nil c.args.events.now.items) ∙ ap (λ es. c.args.events.now.items ++ es) (sym none)
