-- Proves the law that lists are complete: each order is trace-equivalent to exactly one enumerated order, and
-- caches change no outcome. It puts together three laws of lw_orders and lw_tso_caches.
use Rattle.lw_finals.proofs.Common.{IsWellScoped-well_formed, x86_language}
use Rattle.lw_finals.proofs.laws.lists_are_complete.Goals as goal

pub returns-clause-complete : goal.returns-clause-complete
returns-clause-complete c =
    record { each = c.orders_are_complete.ensures.each; exactly_one = c.orders_are_complete.ensures.exactly_one }

pub returns-clause-caches : goal.returns-clause-caches
returns-clause-caches c program is =
    let ok = IsWellScoped-well_formed x86_language is in
    let replays = c.replays_over_caches_are_flat.ensures in
    record {
      outcomes = λ protocol o. c.outcomes_over_caches_are_flat.ensures protocol program o ok is.head.bounded;
      replays = λ protocol events o kept. replays.flat protocol program events o ok is.head.bounded kept;
      of_test = λ protocol events o. replays.of_test protocol program events o ok is.head.bounded;
    }
