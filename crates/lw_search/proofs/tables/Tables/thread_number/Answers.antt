-- Proves `thread_number`, which returns the number of a thread's state and inserts it if it has none. As for
-- `memory_number`; the row of outlooks that is appended describes the thread's state (`DescribeRows-appended`). That the comparison of threads' states decides equality is `thread_eq-sound` and
-- `Decides-thread_eq`.
use Rattle.lw_search.proofs.Common.{◌≡◌, ◌∙◌, Some, true, refl, sym, ap, slice_get, IfOk-weaker, Components}
use Rattle.lw_search.proofs.Common.{list_any}
use Rattle.lw_search.proofs.AccessSets.{DescribeRows-appended}
use Rattle.lw_search.proofs.Rows.{thread_eq, thread_eq-sound, Decides-thread_eq, slice_get-at_position}
use Rattle.lw_search.proofs.Rows.{IsPrefix-insert_if, IsPrefix-refl, HasUniqueIndices-insert, Extends-refl}
use Rattle.lw_search.proofs.tables.Tables.thread_number.Goals as goal

pub returns-in-Some-clause-found : goal.returns-in-Some-clause-found
returns-in-Some-clause-found g c =
    let at =
    slice_get-at_position thread_eq thread_eq-sound c.self.inside.threads.keys c.args.thread.now c.get_index_of.result
    c.in-Some.index c.get_index_of.ensures.index c.in-Some.is in
    IfOk-weaker c.row_number.result _ _ (λ n is.
    ap (λ (t : Components). slice_get t.threads n) (sym c.self.view_is) ∙ ap (slice_get c.self.inside.threads.keys) is ∙ at)
    c.row_number.ensures

-- If the thread's state has no number, its row is appended, and numbers remain unique.
pub returns-in_ok-index-in-None-clause-extended : goal.returns-in_ok-index-in-None-clause-extended
returns-in_ok-index-in-None-clause-extended g c =
    rw (← c.self.view_is)
    (IfOk-weaker c.row_number-in-None.result _ _ (λ n is. record {
      program = refl;
      threads = IsPrefix-insert_if _ _ _ _ c.in_ok-index-in-None.ensures.keys;
      memories = IsPrefix-refl _;
      distinct_threads = HasUniqueIndices-insert thread_eq Decides-thread_eq _ _ _ c.in_ok-index-in-None.ensures.keys;
      distinct_memories = λ d. d;
    }) c.row_number-in-None.ensures)

pub returns-in_ok-index-in-None-clause-found : goal.returns-in_ok-index-in-None-clause-found
returns-in_ok-index-in-None-clause-found g c =
    let keys = c.insert_full.new.self.keys in
    let stored = c.in_ok-index-in-None.ensures.stored in
    let same : stored.0 ≡ c.args.thread.now = sym (thread_eq-sound _ _ stored.2) ∙ c.in_ok-copy-in-None.ensures in
    IfOk-weaker c.row_number-in-None.result _ _ (λ n is. ap (slice_get keys) is ∙ stored.1 ∙ ap Some same)
    c.row_number-in-None.ensures

pub returns-in-Some-clause-extended : goal.returns-in-Some-clause-extended
returns-in-Some-clause-extended g c =
    IfOk-weaker c.row_number.result _ _ (λ n is. Extends-refl c.args.self.now) c.row_number.ensures

pub invariant_of-self-in-None : goal.invariant_of-self-in-None
invariant_of-self-in-None g c =
    let program = c.self.inside.program.now.threads in
    let states = c.self.inside.threads.keys in
    let known = list_any (thread_eq c.in_ok-copy-in-None.copy) states in
    rw (c.in_ok-push-in-None.ensures.items, c.truncate.ensures.items, c.len.ensures.len)
    (DescribeRows-appended program states c.insert_full.new.self.keys c.self.inside.outlooks.items c.in_ok-copy-in-None.copy
    c.outlooks_of.result known c.in_ok-index-in-None.ensures.keys c.self.invariant
    (rw (← c.in_ok-copy-in-None.ensures) at c.outlooks_of.ensures))

pub invariant_of-self-in_err-index-in-None : goal.invariant_of-self-in_err-index-in-None
invariant_of-self-in_err-index-in-None g c =
    let program = c.self.inside.program.now.threads in
    let states = c.self.inside.threads.keys in
    rw (c.in_ok-push-in-None.ensures.items, c.truncate.ensures.items, c.len.ensures.len)
    (DescribeRows-appended program states c.insert_full.new.self.keys c.self.inside.outlooks.items c.args.thread.now
    c.outlooks_of.result true c.in_err-index-in-None.ensures.err c.self.invariant c.outlooks_of.ensures)
