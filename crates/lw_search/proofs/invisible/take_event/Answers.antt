-- Proves `take_event`, which takes the thread's step if it is invisible, otherwise its drain if that is, and
-- returns which. The first of the two calls has then taken no event, so `Settles-append` joins no event with
-- the one of the second call, or with none.
use Rattle.lw_search.proofs.Common.{◌∷◌, [], Bool, Step, Drain, sym, subst, if◌then◌else◌, event_of, Settles}
use Rattle.lw_search.proofs.Settling.{Settles-append}
use Rattle.lw_search.proofs.invisible.take_event.Goals as goal

-- If only the drain is taken, the event is the drain: the step has taken nothing.
pub returns-then-take_drain : goal.returns-then-take_drain
returns-then-take_drain g c =
    let program = c.args.program.now.threads in
    let conflicts = c.args.conflicts in
    let t = c.args.cpu in
    let first =
    subst (λ (b : Bool).
    Settles program conflicts t (if b then Step t ∷ [] else []) c.args.thread.now c.args.words.now c.take_step.new.thread
    c.take_step.new.words) c.if-branch.false c.in_ok-take_step.ensures in
    let second =
    subst (λ (b : Bool).
    Settles program conflicts t (if b then Drain t ∷ [] else []) c.take_step.new.thread c.take_step.new.words
    c.take_drain.new.thread c.take_drain.new.words) c.if-take_drain.true c.take_drain.ensures in
    subst (λ r.
    Settles program conflicts t (event_of r ∷ []) c.args.thread.now c.args.words.now c.take_drain.new.thread
    c.take_drain.new.words) (sym c.drain.ensures)
    (Settles-append program conflicts t [] (Drain t ∷ []) c.args.thread.now c.take_step.new.thread c.take_drain.new.thread
    c.args.words.now c.take_step.new.words c.take_drain.new.words first second)

-- If neither is taken, nothing has changed.
pub returns : goal.returns
returns g c =
    let program = c.args.program.now.threads in
    let conflicts = c.args.conflicts in
    let t = c.args.cpu in
    let first =
    subst (λ (b : Bool).
    Settles program conflicts t (if b then Step t ∷ [] else []) c.args.thread.now c.args.words.now c.take_step.new.thread
    c.take_step.new.words) c.if-branch.false c.in_ok-take_step.ensures in
    let second =
    subst (λ (b : Bool).
    Settles program conflicts t (if b then Drain t ∷ [] else []) c.take_step.new.thread c.take_step.new.words
    c.take_drain.new.thread c.take_drain.new.words) c.if-take_drain.false c.take_drain.ensures in
    Settles-append program conflicts t [] [] c.args.thread.now c.take_step.new.thread c.take_drain.new.thread c.args.words.now
    c.take_step.new.words c.take_drain.new.words first second
