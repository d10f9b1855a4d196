-- Proves `Machine::step`, which carries out an event of any kind. One case for each kind, by the contract of
-- the function that does it; `IsAfterEvent-of_transition` adds what holds of each transition: sizes are preserved, and a
-- refusal changes nothing.
use Rattle.lw_base.specs.declared.event.Event.TheVariants as of
use Rattle.lw_tso.proofs.Common.{memory_of}
use Rattle.lw_tso.proofs.Acts.{IsAfterEvent-of_transition}
use Rattle.lw_tso.proofs.machine.Machine.step.Goals as goal

-- A step is carried out by `step_thread`.
pub returns-in-Step : goal.returns-in-Step
returns-in-Step g c =
    let mem = memory_of g.M.MemorySystem.content g.M.MemorySystem.state g.M.MemorySystem.serves in
    let it =
    IsAfterEvent-of_transition mem _ g.met.M.MemorySystem.lawful (of.Step c.in-Step.cpu) _ _ _ c.step_thread.ensures.sound
    c.step_thread.ensures.program c.step_thread.ensures.initial c.step_thread.ensures.done in
    record {
      program = c.step_thread.ensures.program;
      initial = c.step_thread.ensures.initial;
      done = rw c.in-Step.is c.step_thread.ensures.done;
      err = it.err;
      processors = it.processors;
      words = it.words;
    }

-- A drain is carried out by `drain`.
pub returns-in-Drain : goal.returns-in-Drain
returns-in-Drain g c =
    let mem = memory_of g.M.MemorySystem.content g.M.MemorySystem.state g.M.MemorySystem.serves in
    let it =
    IsAfterEvent-of_transition mem _ g.met.M.MemorySystem.lawful (of.Drain c.in-Drain.cpu) c.args.self.now _ c.drain.result
    c.drain.ensures.sound c.drain.ensures.program c.drain.ensures.initial c.drain.ensures.done in
    record {
      program = c.drain.ensures.program;
      initial = c.drain.ensures.initial;
      done = rw c.in-Drain.is c.drain.ensures.done;
      err = it.err;
      processors = it.processors;
      words = it.words;
    }

-- An eviction is carried out by `evict`.
pub returns-in-Evict : goal.returns-in-Evict
returns-in-Evict g c =
    let mem = memory_of g.M.MemorySystem.content g.M.MemorySystem.state g.M.MemorySystem.serves in
    let it =
    IsAfterEvent-of_transition mem _ g.met.M.MemorySystem.lawful (of.Evict c.in-Evict.cpu c.in-Evict.loc) c.args.self.now _ _
    c.evict.ensures.sound c.evict.ensures.program c.evict.ensures.initial c.evict.ensures.done in
    record {
      program = c.evict.ensures.program;
      initial = c.evict.ensures.initial;
      done = rw c.in-Evict.is c.evict.ensures.done;
      err = it.err;
      processors = it.processors;
      words = it.words;
    }
