-- Proves `Machine::evict`, which makes the machine's transition for an eviction. Four cases: no such processor
-- (`MachineTransition-no_cpu`), no such location, a line that is not held, and one that is, which the memory evicts. The
-- processors are unchanged (`MachineTransition-eviction`).
use Rattle.lw_tso.proofs.Common.{◌<◌, ◌≤◌, ap, arith, Err, sym, subst, length, memory_of, Memory, MachineRun}
use Rattle.lw_tso.proofs.Common.{EventResult, MachineTransition, NoLocation}
use Rattle.lw_tso.proofs.Events.{EvictionLeadsTo, MachineTransition-no_cpu, EvictionLeadsTo-no_location}
use Rattle.lw_tso.proofs.Events.{EvictionLeadsTo-held, EvictionLeadsTo-not_held, MachineTransition-eviction}
use Rattle.lw_tso.proofs.Events.{state_of}
use Rattle.lw_tso.proofs.machine.Machine.evict.Given.{Over}
use Rattle.lw_tso.proofs.machine.Machine.evict.Goals.{After-location_count}
use Rattle.lw_base.specs.declared.event.Event.TheVariants as of
use Rattle.lw_tso.proofs.machine.Machine.evict.Goals as goal

-- The machine's memory, as its trait defines it.
abbrev memory : (g : Over) → Memory g.row.M.Denot
memory g = memory_of g.M.MemorySystem.content g.M.MemorySystem.state g.M.MemorySystem.serves

-- If the processor exists, and its eviction leads from the memory to n with this answer, the machine makes the transition of
-- the eviction.
MachineTransition-evict : (g : Over) (c : After-location_count g) (n : g.row.M.Denot) (answer : EventResult)
    → EvictionLeadsTo (memory g) c.self.inside.program.now.threads c.args.cpu c.args.loc c.self.inside.memory answer n
    → MachineTransition (memory g) c.args.self.now.program (of.Evict c.args.cpu c.args.loc) c.args.self.now.state answer
    (state_of c.self.inside.processors.items n)
MachineTransition-evict g c n answer =
    let within : c.args.cpu < length c.self.inside.processors.items = omega (arith, c.len.ensures, c.index.ensures.value) in
    MachineTransition-eviction (memory g) c.self.inside.program.now.threads c.args.cpu c.args.loc c.args.self.now _
    c.self.inside.processors.items c.self.inside.memory n answer c.self.view_is within

pub returns-then-len-index-clause-done : goal.returns-then-len-index-clause-done
returns-then-len-index-clause-done g c =
    MachineTransition-no_cpu (memory g) _ (of.Evict c.args.cpu c.args.loc) _ c.self.inside.processors _ _ c.self.view_is
    c.len.ensures c.index.ensures.value c.if-len-index.true

-- The location does not exist, so the eviction is refused.
pub returns-then-location_count-index-clause-done : goal.returns-then-location_count-index-clause-done
returns-then-location_count-index-clause-done g c =
    let past : length (g.M.MemorySystem.content c.self.inside.memory) ≤ c.args.loc =
    omega (arith, c.location_count.ensures.count, c.index-2.ensures.value) in
    subst
    (MachineTransition (memory g) c.args.self.now.program (of.Evict c.args.cpu c.args.loc) c.args.self.now.state (Err NoLocation))
    (ap (λ (r : MachineRun g.row.M.Denot). r.state) c.self.view_is)
    (MachineTransition-evict g (goal.at.returns-then-location_count-index-clause-done g c).After-location_count
    c.self.inside.memory _
    (EvictionLeadsTo-no_location (memory g) c.self.inside.program.now.threads c.args.cpu c.args.loc c.self.inside.memory past))

pub returns-clause-done : goal.returns-clause-done
returns-clause-done g c =
    let there : c.args.loc < length (g.M.MemorySystem.content c.self.inside.memory) =
    omega (arith, c.location_count.ensures.count, c.index-2.ensures.value) in
    MachineTransition-evict g (goal.at.returns-clause-done g c).After-location_count c.evict.new.self _
    (EvictionLeadsTo-held (memory g) c.self.inside.program.now.threads c.args.cpu c.args.loc c.self.inside.memory c.evict.new.self
    there (sym c.in_default.ensures.held) c.in_default.ensures.ok)

pub returns-in-Err-clause-done : goal.returns-in-Err-clause-done
returns-in-Err-clause-done g c =
    let there : c.args.loc < length (g.M.MemorySystem.content c.self.inside.memory) =
    omega (arith, c.location_count.ensures.count, c.index-2.ensures.value) in
    MachineTransition-evict g (goal.at.returns-in-Err-clause-done g c).After-location_count c.evict.new.self _
    (EvictionLeadsTo-not_held (memory g) c.self.inside.program.now.threads c.args.cpu c.args.loc c.self.inside.memory
    c.evict.new.self there (sym c.in-Err.ensures.held) c.in-Err.ensures.err)

pub invariant_of-self : goal.invariant_of-self
invariant_of-self g c = rw c.in-Err.ensures.err c.self.invariant
