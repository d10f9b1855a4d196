-- Proves `add_settled`, which inserts the state to which a transition leads, after the invisible events of all threads that follow: if the
-- event leads there, the successor is covered. `IsCovered-transition` does the work, whether the key of the state at the end is new or known.
use Rattle.lw_search.proofs.Common.{◌∙◌, ◌∷◌, ap, subst, refl, slice_get, on_ok_weaker, Transition}
use Rattle.lw_search.proofs.Common.{SettlesFrom, IsWorking}
use Rattle.lw_search.proofs.Rows.{Extends-trans}
use Rattle.lw_search.proofs.ThreadTransitions.{copied-row, IsCovered-transition, AreTransitions-extended}
use Rattle.lw_search.proofs.ThreadTransitions.{IsPrefix-inserted_runs}
use Rattle.lw_search.proofs.search.Search.add_settled.Goals as goal

-- The state after the transition and the invisible events of all threads is inserted, so the successor is covered.
pub returns-clause-covered : goal.returns-clause-covered
returns-clause-covered g c =
    let program = c.args.self.now.program.now.threads in
    let tables = c.args.self.now.tables in
    let is = c.requires.taken in
    let words =
    copied-row _ _ _ c.in_ok-load_memory.ensures is.end_words
    (ap (slice_get tables.memories) c.requires.memory ∙ is.next_memory_row) in
    let run = copied-row _ _ _ c.in_ok-load_run.ensures (c.args.event ∷ is.more) is.next_run_row in
    let settled =
    subst (λ m.
    SettlesFrom program (IsWorking program tables c.args.own.now m) tables c.settle_all.new.self.tables c.in_ok-all.all
    c.settle_all.new.self.words (c.args.event ∷ is.more) c.settle_all.new.self.run) words
    (subst (λ r.
    SettlesFrom program (IsWorking program tables c.args.own.now c.load_memory.new.words) tables c.settle_all.new.self.tables
    c.in_ok-all.all c.settle_all.new.self.words r c.settle_all.new.self.run) run c.in_ok-all.ensures.settled) in
    let t : Transition =
    record { event = c.args.event; thread = _; memory = _; conflicts = c.args.conflicts; next = c.args.next } in
    on_ok_weaker c.insert.result
    (IsCovered-transition program c.args.at c.args.cpu t c.args.code.now c.args.key.now c.args.own.now c.in_ok-all.all
    c.with_memory.result c.settle_all.new.self.words c.in_ok-row_number.field-0 c.settle_all.new.self.run is c.requires.cpu
    c.requires.code refl refl c.requires.size c.requires.thread c.requires.others settled c.in_ok-memory.ensures.extended
    c.with_memory.ensures.size
    (ap (slice_get c.memory_number.new.self.memories) c.with_memory.ensures.memory ∙ c.in_ok-memory.ensures.found)
    c.with_memory.ensures.threads c.in_ok-row_number.ensures) (rw c.in_ok-all.ensures.states at c.insert.ensures)

pub returns-clause-kept : goal.returns-clause-kept
returns-clause-kept g c =
    let program = c.args.self.now.program.now.threads in
    let extended = Extends-trans c.in_ok-all.ensures.settled.extended c.in_ok-memory.ensures.extended in
    on_ok_weaker c.insert.result (λ adds.
    rw c.in_ok-all.ensures.transitions
    (AreTransitions-extended program c.args.self.now.transitions extended
    (IsPrefix-inserted_runs c.args.self.now.states c.insert.new.self c.with_memory.result c.in_ok-row_number.field-0
    c.settle_all.new.self.run adds) c.requires.kept)) (rw c.in_ok-all.ensures.states at c.insert.ensures)
