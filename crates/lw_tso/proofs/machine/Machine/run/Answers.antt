-- Proves `Machine::run`, which carries out events up to the first that is refused, and reports how the replay
-- ended. `RunsTo-next` adds one event to the run. A refusal leaves the state unchanged, so the replay stops
-- there; otherwise all events are carried out.
use Rattle.lw_tso.proofs.Common.{Some, Err, ap, arith, subst, sym, take, ◌∙◌, memory_of, MachineState}
use Rattle.lw_tso.proofs.Common.{MachineTransition, MachineRunsTo, MachineRun, at_index, RunsTo-next}
use Rattle.lw_tso.proofs.machine.Machine.run.Goals as goal

-- One more event was carried out, so the run so far is that of one event more.
pub loop-done-preserved : goal.loop-done-preserved
loop-done-preserved g c =
    let mem = memory_of g.M.MemorySystem.content g.M.MemorySystem.state g.M.MemorySystem.serves in
    let before = c.loop-done.invariant in
    let done = rw (before.program, c.in_default.is) at c.step.ensures.done in
    record {
      program = c.step.ensures.program ∙ before.program;
      initial = c.step.ensures.initial ∙ before.initial;
      ran =
          RunsTo-next (MachineTransition mem c.args.self.now.program) c.args.events.now c.loop-done.done
          c.index-events-done.result c.args.self.now.state c.loop-done.self.state c.step.new.self.state c.loop-done-test.true
          c.index-events-done.is before.ran done;
      processors = c.step.ensures.processors ∙ before.processors;
      words = c.step.ensures.words ∙ before.words;
    }

-- The next event is refused, which changes nothing, so the replay stops there.
pub returns-in-Err-clause-replayed : goal.returns-in-Err-clause-replayed
returns-in-Err-clause-replayed g c =
    let mem = memory_of g.M.MemorySystem.content g.M.MemorySystem.state g.M.MemorySystem.serves in
    let before = c.loop-done.invariant in
    let same = ap (λ (r : MachineRun g.row.M.Denot). r.state) c.in-Err.ensures.err in
    let done = rw (before.program, c.in-Err.is) at c.step.ensures.done in
    record {
      within = omega (arith, c.loop-done-test.true);
      ran =
          subst (λ (s : MachineState g.row.M.Denot).
          MachineRunsTo mem c.args.self.now.program (take c.loop-done.done c.args.events.now) c.args.self.now.state s) (sym same)
          before.ran;
      ends = (
        c.index-events-done.result,
        at_index c.args.events.now c.loop-done.done c.index-events-done.result c.loop-done-test.true
            ∙ ap Some (sym c.index-events-done.is),
        subst (λ (s : MachineState g.row.M.Denot).
            MachineTransition mem c.args.self.now.program c.index-events-done.result s (Err c.in-Err.stop) c.step.new.self.state)
            (sym same) done,
      );
    }
