-- Proves `add_successor`, which inserts the state after an event, the local steps and the invisible events that follow: if the event is
-- enabled, the successor is covered. An event that is enabled in no state of the key needs nothing. If no thread has an invisible event,
-- the state after the transition is inserted as it is; otherwise `add_settled` promises the rest. `ExpandsState-prepared` says that the rows
-- that `successor` appended change nothing.
use Rattle.lw_search.proofs.Common.{◌∙◌, ◌∷◌, ap, refl, slice_get, on_ok_weaker, Transition, IsCovered}
use Rattle.lw_search.proofs.Common.{HasConflictsOfOthers, event_of}
use Rattle.lw_search.proofs.Rows.{Extends-refl}
use Rattle.lw_search.proofs.Settling.{SettlesFrom-none}
use Rattle.lw_search.proofs.ThreadTransitions.{AreTransitions-extended, IsCovered-transition}
use Rattle.lw_search.proofs.ThreadTransitions.{IsPrefix-inserted_runs, ExpandsState-never_enabled}
use Rattle.lw_search.proofs.ThreadTransitions.{ExpandsState-prepared}
use Rattle.lw_search.proofs.search.Search.add_successor.Goals as goal

pub returns-in_default-clause-covered : goal.returns-in_default-clause-covered
returns-in_default-clause-covered g c =
    let program = c.args.self.now.program.now.threads in
    ExpandsState-prepared program c.args.at c.args.key.now (λ s. HasConflictsOfOthers program s c.args.cpu c.args.conflicts)
    (λ s more. IsCovered program more s (event_of c.args.event)) c.in_ok-next.ensures.appended
    (ExpandsState-never_enabled program c.args.at c.args.key.now c.args.event
    (λ s. HasConflictsOfOthers program s c.args.cpu c.args.conflicts) (rw c.in_default.is at c.in_ok-next.ensures.taken))

-- If no thread has an invisible event, the state after the transition is inserted as it is, so the successor is covered.
pub returns-in_default-unsettled-clause-covered : goal.returns-in_default-unsettled-clause-covered
returns-in_default-unsettled-clause-covered g c =
    let program = c.args.self.now.program.now.threads in
    let tables = c.successor.new.self.tables in
    let is = rw c.in-Some.is at c.in_ok-next.ensures.taken in
    let t : Transition =
    record { event = c.args.event; thread = _; memory = _; conflicts = c.args.conflicts; next = c.in-Some.next } in
    on_ok_weaker c.insert_numbered.result (λ adds.
    ExpandsState-prepared program c.args.at c.args.key.now (λ s. HasConflictsOfOthers program s c.args.cpu c.args.conflicts)
    (λ s more. IsCovered program more s (event_of c.args.event)) c.in_ok-next.ensures.appended
    (IsCovered-transition program c.args.at c.args.cpu t c.args.code.now c.args.key.now c.with_numbers-own.result
    c.with_numbers-own.result c.with_numbers-own.result is.end_words c.in_ok-row_number.field-0 (c.args.event ∷ is.more) is
    c.requires.cpu c.requires.code refl refl c.with_numbers-own.ensures.size c.with_numbers-own.ensures.thread
    c.with_numbers-own.ensures.others (SettlesFrom-none program c.with_numbers-own.result is.end_words (c.args.event ∷ is.more))
    (Extends-refl tables) refl (ap (slice_get tables.memories) c.with_numbers-own.ensures.memory ∙ is.next_memory_row) (λ u. refl)
    c.in_ok-row_number.ensures (adds (c.args.event ∷ is.more) is.next_run_row))) c.insert_numbered.ensures

pub returns-in_default-unsettled-clause-kept : goal.returns-in_default-unsettled-clause-kept
returns-in_default-unsettled-clause-kept g c =
    let program = c.args.self.now.program.now.threads in
    let is = rw c.in-Some.is at c.in_ok-next.ensures.taken in
    on_ok_weaker c.insert_numbered.result (λ adds.
    AreTransitions-extended program c.successor.new.self.transitions (Extends-refl c.successor.new.self.tables)
    (IsPrefix-inserted_runs c.successor.new.self.states c.insert_numbered.new.self c.with_numbers-own.result
    c.in_ok-row_number.field-0 (c.args.event ∷ is.more) (adds (c.args.event ∷ is.more) is.next_run_row))
    c.in_ok-next.ensures.kept) c.insert_numbered.ensures

pub returns-clause-covered : goal.returns-clause-covered
returns-clause-covered g c =
    let program = c.args.self.now.program.now.threads in
    on_ok_weaker c.add_settled.result
    (ExpandsState-prepared program c.args.at c.args.key.now (λ s. HasConflictsOfOthers program s c.args.cpu c.args.conflicts)
    (λ s more. IsCovered program more s (event_of c.args.event)) c.in_ok-next.ensures.appended)
    (rw c.in_ok-next.ensures.program at c.add_settled.ensures.covered)
