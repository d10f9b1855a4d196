-- Proves `settle`, which takes invisible events of one thread as long as it finds any: the appended events
-- lead from each state of this key to a state that covers it. `Settles-push` and `Settles-end` put the next
-- event, or none, after those taken before. The contract does not say that all are taken, so the bound on
-- events needs no proof.
use Rattle.lw_search.proofs.Common.{◌++◌, ◌∷◌, ◌∙◌, [], Bool, ℕ, Option, Some, ap, sym, subst, append-nil}
use Rattle.lw_search.proofs.Common.{append_assoc, option_to_list, events_of, Settles}
use Rattle.lw_search.proofs.Settling.{Settles-none, Settles-push, Settles-end}
use Rattle.lw_search.proofs.invisible.settle.Goals as goal

pub loop-init : goal.loop-init
loop-init g c = (
  [],
  sym (append-nil c.args.run.now),
  Settles-none c.args.program.now.threads c.args.conflicts c.args.cpu c.args.thread.now c.args.words.now,
)

-- If no event is taken, the run is that of the rounds before.
pub returns-in-None : goal.returns-in-None
returns-in-None g c =
    let program = c.args.program.now.threads in
    let conflicts = c.args.conflicts in
    let before = c.loop.invariant in
    let last =
    subst (λ (o : Option (ℕ × Bool)).
    Settles program conflicts c.args.cpu (events_of (option_to_list o)) c.loop.thread c.loop.words c.take_event.new.thread
    c.take_event.new.words) c.in-None.is c.in_ok-event.ensures in (
      before.0,
      before.1,
      Settles-end program conflicts c.args.cpu before.0 c.args.thread.now c.loop.thread c.take_event.new.thread c.args.words.now
          c.loop.words c.take_event.new.words before.2 last,
    )

-- A round extends the run by the event that it takes.
pub loop-preserved : goal.loop-preserved
loop-preserved g c =
    let program = c.args.program.now.threads in
    let conflicts = c.args.conflicts in
    let before = c.loop.invariant in
    let event = c.in-Some.event in
    let last =
    subst (λ (o : Option (ℕ × Bool)).
    Settles program conflicts c.args.cpu (events_of (option_to_list o)) c.loop.thread c.loop.words c.take_event.new.thread
    c.take_event.new.words) c.in-Some.is c.in_ok-event.ensures in (
      before.0 ++ event ∷ [],
      c.in_ok-push-in-Some.ensures ∙ ap (λ l. l ++ event ∷ []) before.1 ∙ append_assoc c.args.run.now before.0 (event ∷ []),
      Settles-push program conflicts c.args.cpu before.0 (Some event) c.args.thread.now c.loop.thread c.take_event.new.thread
          c.args.words.now c.loop.words c.take_event.new.words before.2 last,
    )

pub returns : goal.returns
returns g c = c.loop.invariant
