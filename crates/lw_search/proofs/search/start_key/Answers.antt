-- Proves `start_key`, which returns the key of the initial state, and only appends rows to the tables.
-- `IsStartKey-next` adds the number of one thread's initial state; at the end `Represents-start_key` says that
-- the key represents the initial state.
use Rattle.lw_search.proofs.Common.{◌≡◌, ◌<◌, ◌∙◌, [], Some, arith, ap, slice_get, get_or, length}
use Rattle.lw_search.proofs.Common.{slice_get-get_or, program_of}
use Rattle.lw_search.proofs.Rows.{Extends-trans}
use Rattle.lw_search.proofs.Start.{IsStartKey-next, Represents-start_key, IsStartKey-none}
use Rattle.lw_search.proofs.search.start_key.Goals as goal

pub loop-thread-init : goal.loop-thread-init
loop-thread-init g c = record {
  key = IsStartKey-none c.in_ok-memory.memory _ _ c.in_ok-memory.ensures.found;
  extended = c.in_ok-memory.ensures.extended;
}

-- A round sets the number of one more thread's initial state.
pub loop-thread-preserved : goal.loop-thread-preserved
loop-thread-preserved g c =
    let regs = c.args.program.now.head.init_regs in
    let n = c.loop-thread.thread in
    let lt : n < length regs = omega (arith, c.loop-thread-test.true, ap length c.as_slice-regs-items.ensures) in
    let at : slice_get regs n ≡ Some (get_or regs n []) = slice_get-get_or regs n [] lt in
    record {
      key =
          IsStartKey-next c.in_ok-memory.memory c.loop-thread.key c.with_numbers-key.result c.args.program.now.head.init_words
          regs n c.in_ok-number.number (get_or regs n []) c.in_ok-number.ensures.extended c.loop-thread.invariant.key at
          c.with_numbers-key.ensures.size c.with_numbers-key.ensures.memory
          (rw c.cpu_at.ensures at c.with_numbers-key.ensures.thread)
          (c.in_ok-number.ensures.found ∙ ap Some (rw c.as_slice-regs-items.ensures at c.new.ensures))
          (rw c.cpu_at.ensures at c.with_numbers-key.ensures.others);
      extended = Extends-trans c.loop-thread.invariant.extended c.in_ok-number.ensures.extended;
    }

pub returns-clause-key : goal.returns-clause-key
returns-clause-key g c =
    let regs = c.args.program.now.head.init_regs in
    let all : c.loop-thread.thread ≡ length regs =
    omega (arith, c.loop-thread-test.false, c.loop-thread.auto.thread-end, ap length c.as_slice-regs-items.ensures) in
    Represents-start_key (program_of c.args.program.now) c.in_ok-memory.memory c.loop-thread.key c.loop-thread.thread
    c.loop-thread.invariant.key all
