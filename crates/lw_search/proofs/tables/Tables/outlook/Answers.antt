-- Proves `Tables::outlook`: the row of outlooks with the number of a thread's state describes the state, by the invariant of the tables.
-- There are at least as many rows as states.
use Rattle.lw_search.proofs.Common.{◌≡◌, ◌<◌, ◌+◌, ◌∙◌, arith, ap, sym, subst, Some, true≢false, length}
use Rattle.lw_search.proofs.Common.{slice_get, slice_index, slice_get_within, get_or, get_or_from_slice_get}
use Rattle.lw_search.proofs.Common.{thread_code, Components, Lacks, lt-ltb, HasConflictsOf, Outlook}
use Rattle.lw_search.proofs.Collected.{slice_get-loop_item}
use Rattle.lw_search.proofs.tables.Tables.outlook.Goals as goal

-- The row with the thread's number describes its state, whichever thread of the program it is.
pub returns-in-Some : goal.returns-in-Some
returns-in-Some g c p lt at x w within lacks =
    let n = slice_index c.args.key.now (c.index.result + 1) in
    let items = c.self.inside.outlooks.items in
    let rows = c.in-Some.row.now.threads in
    let lookup = c.in-Some.ensures.lookup in
    let row : slice_get items n ≡ Some c.in-Some.row.now =
    slice_get-loop_item items c.deref.result.now n c.in-Some.row.now c.deref.ensures.value
    (subst (λ l. n < length l) c.deref.ensures.value lookup.3.0) lookup.1 in
    let thread : slice_get c.self.inside.threads.keys n ≡ Some p =
    ap (λ t. slice_get c.self.inside.threads.keys (slice_index c.args.key.now (t + 1))) c.index.ensures.value
    ∙ ap (λ (v : Components). slice_get v.threads (slice_index c.args.key.now (c.args.cpu + 1))) c.self.view_is
    ∙ at in
    let program = ap (λ (v : Components). v.program) c.self.view_is in
    let o =
    c.self.invariant.describe n p c.in-Some.row.now thread row c.args.cpu (subst (λ l. c.args.cpu < length l) (sym program) lt) in
    let is : get_or rows c.index-in-Some.result c.index-row-index.result ≡ o.0 =
    ap (λ i. get_or rows i c.index-row-index.result) c.index-in-Some.ensures.value
    ∙ get_or_from_slice_get rows c.args.cpu o.0 c.index-row-index.result o.1 in
    subst (λ l. HasConflictsOf (thread_code l c.args.cpu) p o.0.conflicts) program o.2 x w within
    (subst (λ (z : Outlook). Lacks z.conflicts x w) is lacks)

-- If the table has no row with the thread's number, the key represents no state of the thread.
pub returns-in-None : goal.returns-in-None
returns-in-None g c p lt at =
    let n = slice_index c.args.key.now (c.index.result + 1) in
    let thread : slice_get c.self.inside.threads.keys n ≡ Some p =
    ap (λ t. slice_get c.self.inside.threads.keys (slice_index c.args.key.now (t + 1))) c.index.ensures.value
    ∙ ap (λ (v : Components). slice_get v.threads (slice_index c.args.key.now (c.args.cpu + 1))) c.self.view_is
    ∙ at in
    let within : n < length c.deref.result.now =
    omega (
      arith,
      slice_get_within c.self.inside.threads.keys n p thread,
      c.self.invariant.enough,
      ap length c.deref.ensures.value,
    ) in
    absurd (true≢false (sym (lt-ltb n (length c.deref.result.now) within) ∙ sym c.in-None.ensures.lookup.0))
