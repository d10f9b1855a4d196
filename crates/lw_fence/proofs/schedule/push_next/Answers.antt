-- Proves `push_next`, which appends the events of the statement at an index of a thread, or nothing if memory
-- runs out. The thread exists, since it has the statement, and so does the start after it (`HasStart-of_read`); the
-- difference of the two starts is the number of instructions.
use Rattle.lw_fence.proofs.Common.{◌≡◌, ◌++◌, ◌∙◌, List, ap, arith, length, sym, take, Event, common_steps}
use Rattle.lw_fence.proofs.Scheduling.{HasStart-of_read, thread_in_range-if_statement, thread_code-of_read}
use Rattle.lw_fence.proofs.Scheduling.{statement_events-read}
use Rattle.lw_fence.proofs.schedule.push_next.Goals as goal

pub bounds-starts-index : goal.bounds-starts-index
bounds-starts-index g c =
    let h =
    HasStart-of_read c.requires.compiled c.requires.in_range c.as_slice-2.ensures c.index-2.ensures.value
    c.index-as_slice-index-2.is c.as_slice-starts.ensures in
    h.next

pub bounds-starts-index-2 : goal.bounds-starts-index-2
bounds-starts-index-2 g c =
    let h =
    HasStart-of_read c.requires.compiled c.requires.in_range c.as_slice-2.ensures c.index-2.ensures.value
    c.index-as_slice-index-2.is c.as_slice-starts.ensures in
    omega (arith, h.next)

pub bounds-as_slice-index : goal.bounds-as_slice-index
bounds-as_slice-index g c = omega (
  arith,
  thread_in_range-if_statement c.args.source.now.threads c.args.cpu c.args.index c.requires.in_range,
  c.index.ensures.value,
  ap length c.as_slice.ensures,
)

pub bounds-as_slice-index-2 : goal.bounds-as_slice-index-2
bounds-as_slice-index-2 g c = omega (
  arith,
  thread_in_range-if_statement c.args.source.now.threads c.args.cpu c.args.index c.requires.in_range,
  c.requires.compiled.as_many_starts,
  c.index-2.ensures.value,
  ap length c.as_slice-2.ensures,
)

pub overflow_sub-starts : goal.overflow_sub-starts
overflow_sub-starts g c =
    let h =
    HasStart-of_read c.requires.compiled c.requires.in_range c.as_slice-2.ensures c.index-2.ensures.value
    c.index-as_slice-index-2.is c.as_slice-starts.ensures in
    h.grows

-- The events that were appended are those of the statement that was read.
pub returns-in-Ok-clause-ok : goal.returns-in-Ok-clause-ok
returns-in-Ok-clause-ok g c =
    let h =
    HasStart-of_read c.requires.compiled c.requires.in_range c.as_slice-2.ensures c.index-2.ensures.value
    c.index-as_slice-index-2.is c.as_slice-starts.ensures in
    let code =
    thread_code-of_read c.as_slice.ensures c.index.ensures.value h.thread_in_range c.index-as_slice-index.is
    c.as_slice-code.ensures in
    let events =
    statement_events-read c.args.cpu c.args.index _ _ code h.same (omega (arith, c.requires.in_range, ap length code))
    c.index-code-index.is in
    c.in-Ok.ensures.ok ∙ ap (λ (es : List Event). c.args.events.now.items ++ es) (sym events)

pub returns-in-Err-clause-err : goal.returns-in-Err-clause-err
returns-in-Err-clause-err g c =
    let len : c.len-len.result ≡ length c.args.events.now.items = c.len-len.ensures ∙ c.args.events.now.ok.0 in
    c.truncate.ensures.items ∙ (ap (λ n. take n c.push_statement.new.events.items) len ∙ c.in-Err.ensures.err)

pub bounds-code-index : goal.bounds-code-index
bounds-code-index g c =
    let h =
    HasStart-of_read c.requires.compiled c.requires.in_range c.as_slice-2.ensures c.index-2.ensures.value
    c.index-as_slice-index-2.is c.as_slice-starts.ensures in
    let code =
    thread_code-of_read c.as_slice.ensures c.index.ensures.value h.thread_in_range c.index-as_slice-index.is
    c.as_slice-code.ensures in
    omega (arith, c.requires.in_range, ap length code)

pub offset_bounds-code-index : goal.offset_bounds-code-index
offset_bounds-code-index g c =
    let h =
    HasStart-of_read c.requires.compiled c.requires.in_range c.as_slice-2.ensures c.index-2.ensures.value
    c.index-as_slice-index-2.is c.as_slice-starts.ensures in
    let code =
    thread_code-of_read c.as_slice.ensures c.index.ensures.value h.thread_in_range c.index-as_slice-index.is
    c.as_slice-code.ensures in
    omega (arith, c.requires.in_range, ap length code, c.as_slice-code.type_inv.1)

pub overflow_add-index : goal.overflow_add-index
overflow_add-index g c =
    let h =
    HasStart-of_read c.requires.compiled c.requires.in_range c.as_slice-2.ensures c.index-2.ensures.value
    c.index-as_slice-index-2.is c.as_slice-starts.ensures in
    omega (arith, h.next, c.as_slice-starts.type_inv.0)

pub offset_bounds-starts-index : goal.offset_bounds-starts-index
offset_bounds-starts-index g c =
    let h =
    HasStart-of_read c.requires.compiled c.requires.in_range c.as_slice-2.ensures c.index-2.ensures.value
    c.index-as_slice-index-2.is c.as_slice-starts.ensures in
    omega (arith, h.next, c.as_slice-starts.type_inv.1)

pub offset_bounds-starts-index-2 : goal.offset_bounds-starts-index-2
offset_bounds-starts-index-2 g c =
    let h =
    HasStart-of_read c.requires.compiled c.requires.in_range c.as_slice-2.ensures c.index-2.ensures.value
    c.index-as_slice-index-2.is c.as_slice-starts.ensures in
    omega (arith, h.next, c.as_slice-starts.type_inv.1)

pub offset_bounds-as_slice-index-2 : goal.offset_bounds-as_slice-index-2
offset_bounds-as_slice-index-2 g c = grind (arith, common_steps)

pub offset_bounds-as_slice-index : goal.offset_bounds-as_slice-index
offset_bounds-as_slice-index g c = grind (arith, common_steps)
