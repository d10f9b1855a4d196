-- Proves `compute_successor`, which takes an event in the working copies, with the invisible events that follow it, and numbers what it leads to.
-- Two exits are for keys that have no rows, and so represent no state; the third is for an event that is refused. Otherwise `IsTransition-taken`
-- says what was done.
use Rattle.lw_search.proofs.Common.{◌∙◌, Some, Bool, ap, subst, slice_index, ◌+◌, ActResult, event_effect}
use Rattle.lw_search.proofs.Common.{event_of}
use Rattle.lw_search.proofs.ThreadTransitions.{AppendsRows-refl, IsTransition-taken}
use Rattle.lw_search.proofs.ThreadTransitions.{IsNeverEnabled-without_thread, IsNeverEnabled-without_memory}
use Rattle.lw_search.proofs.ThreadTransitions.{IsNeverEnabled-refused, copied-found, copied-missing}
use Rattle.lw_search.proofs.search.Search.compute_successor.Goals as goal

pub returns-then-not-branch-clause-appended : goal.returns-then-not-branch-clause-appended
returns-then-not-branch-clause-appended g c = AppendsRows-refl c.args.self.now.tables c.args.self.now.states

pub returns-then-not-branch-2-clause-appended : goal.returns-then-not-branch-2-clause-appended
returns-then-not-branch-2-clause-appended g c = AppendsRows-refl c.args.self.now.tables c.args.self.now.states

pub returns-then-not-branch-3-clause-appended : goal.returns-then-not-branch-3-clause-appended
returns-then-not-branch-3-clause-appended g c = AppendsRows-refl c.args.self.now.tables c.args.self.now.states

pub returns-then-not-branch-clause-taken : goal.returns-then-not-branch-clause-taken
returns-then-not-branch-clause-taken g c =
    IsNeverEnabled-without_thread c.args.self.now.program.now.threads c.args.key.now c.args.cpu c.args.event c.args.code.now
    c.requires.code (copied-missing _ _ _ c.in_ok-load_thread.ensures c.if-not-branch.true)

pub returns-then-not-branch-2-clause-taken : goal.returns-then-not-branch-2-clause-taken
returns-then-not-branch-2-clause-taken g c =
    IsNeverEnabled-without_memory c.args.self.now.program.now.threads c.args.key.now c.args.event
    (copied-missing _ _ _ c.in_ok-load_memory.ensures c.if-not-branch-2.true)

-- If the event is refused, it is enabled in no state of the key.
pub returns-then-not-branch-3-clause-taken : goal.returns-then-not-branch-3-clause-taken
returns-then-not-branch-3-clause-taken g c =
    let program = c.args.self.now.program.now.threads in
    let thread = c.load_thread.new.thread in
    IsNeverEnabled-refused program c.args.key.now c.args.cpu c.args.event c.args.code.now thread c.carry_out.new.thread
    c.load_memory.new.words c.carry_out.new.words c.requires.cpu c.requires.code
    (copied-found _ _ _ c.in_ok-load_thread.ensures c.if-not-branch.false) (λ locs.
    subst (λ (b : Bool).
    ActResult (event_effect program locs (event_of c.args.event) thread) thread c.load_memory.new.words b c.carry_out.new.thread
    c.carry_out.new.words) c.if-not-branch-3.true (c.in_ok-carry_out.ensures locs))

-- If the event is carried out, it and the invisible events after it are a transition.
pub returns-clause-taken : goal.returns-clause-taken
returns-clause-taken g c =
    let program = c.args.self.now.program.now.threads in
    let thread = c.load_thread.new.thread in
    let extended = c.in_ok-next.ensures.appended.extended in
    let steps = c.in_ok-settle.ensures in
    IsTransition-taken program c.args.event c.args.cpu (slice_index c.args.key.now (c.args.cpu + 1))
    (slice_index c.args.key.now 0) c.args.conflicts c.in_ok-next.next thread c.carry_out.new.thread c.settle.new.thread
    c.load_memory.new.words c.carry_out.new.words c.settle.new.words steps.0 c.requires.cpu
    (extended.threads _ _ (copied-found _ _ _ c.in_ok-load_thread.ensures c.if-not-branch.false))
    (extended.memories _ _ (copied-found _ _ _ c.in_ok-load_memory.ensures c.if-not-branch-2.false)) (λ locs.
    subst (λ (b : Bool).
    ActResult (event_effect program locs (event_of c.args.event) thread) thread c.load_memory.new.words b c.carry_out.new.thread
    c.carry_out.new.words) c.if-not-branch-3.false (c.in_ok-carry_out.ensures locs)) steps.2 c.in_ok-next.ensures.thread
    c.in_ok-next.ensures.memory (c.in_ok-next.ensures.run ∙ ap Some (rw c.in_ok-restart.ensures at steps.1))
