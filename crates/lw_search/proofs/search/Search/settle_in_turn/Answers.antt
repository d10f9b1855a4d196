-- Proves `settle_in_turn`, which lets each thread take its invisible events once: the appended events lead to
-- a state that covers the first one. `SettlesFrom-trans` joins the threads.
use Rattle.lw_search.proofs.Common.{◌<◌, ◌∙◌, arith, ap, length, refl}
use Rattle.lw_search.proofs.Collected.{slice_get-loop_item}
use Rattle.lw_search.proofs.Settling.{SettlesFrom-none, SettlesFrom-trans}
use Rattle.lw_search.proofs.search.Search.settle_in_turn.Goals as goal

pub loop-thread-init : goal.loop-thread-init
loop-thread-init g c = record {
  program_is = refl;
  states = refl;
  transitions = refl;
  settled = SettlesFrom-none c.args.self.now.program.now.threads c.args.key.now c.args.self.now.words c.args.self.now.run;
}

pub loop-thread-preserved : goal.loop-thread-preserved
loop-thread-preserved g c = record {
  program_is = c.in_ok-next.ensures.program ∙ c.loop-thread.invariant.program_is;
  states = c.in_ok-next.ensures.states ∙ c.loop-thread.invariant.states;
  transitions = c.in_ok-next.ensures.transitions ∙ c.loop-thread.invariant.transitions;
  settled =
      SettlesFrom-trans c.args.self.now.program.now.threads c.loop-thread.next c.in_ok-next.next c.loop-thread.self.words
      c.settle_thread.new.self.words c.args.self.now.run c.loop-thread.self.run c.settle_thread.new.self.run
      c.loop-thread.invariant.settled (rw c.loop-thread.invariant.program_is at c.in_ok-next.ensures.settled);
}

-- The thread of the loop's index is one of the program.
pub settle_thread-requires : goal.settle_thread-requires
settle_thread-requires g c =
    let program = c.args.self.now.program.now.threads in
    let n = c.loop-thread.thread in
    let lt : n < length program = omega (arith, c.loop-thread-test.true, ap length c.as_slice-code-items.ensures) in
    record {
      code =
          rw (c.loop-thread.invariant.program_is, c.cpu_at-cpu.ensures, c.as_slice.ensures)
          (slice_get-loop_item program _ n _ c.as_slice-code-items.ensures lt c.code-item.is);
      of_program = rw c.loop-thread.invariant.program_is (c.loop-thread.invariant.settled.extended.program ∙ c.requires);
    }
