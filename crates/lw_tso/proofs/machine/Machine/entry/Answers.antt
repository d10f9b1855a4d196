-- Proves `Machine::entry`, which returns an entry of a processor's buffer, for a location that exists. The
-- processor exists since its buffer has an entry (`cpu_in_range-if_entry`), and the machine's invariant says that the
-- location does (`entries_in_range`).
use Rattle.lw_tso.proofs.Common.{◌<◌, ℕ, [], ap, refl, arith, length, subst, length-map}
use Rattle.lw_tso.proofs.Common.{get_or_from_slice_get, slice_get_within, memory_of, processor_of}
use Rattle.lw_tso.proofs.Events.{index_in_range-of_cpu, slice_get-of_read, processor_part-read}
use Rattle.lw_tso.proofs.Events.{cpu_in_range-if_entry, entries_in_range}
use Rattle.lw_tso.proofs.machine.Machine.entry.Goals as goal

pub index-requires-2 : goal.index-requires-2
index-requires-2 g c =
    index_in_range-of_cpu c.self.inside.processors _ _ c.self.view_is c.index.ensures.value
    (cpu_in_range-if_entry c.args.self.now.state c.args.cpu c.args.index c.requires)

pub entry-requires : goal.entry-requires
entry-requires g c =
    let at =
    processor_part-read (λ p. p.buffer) _ _ c.args.cpu c.self.view_is c.index.ensures.value
    (cpu_in_range-if_entry c.args.self.now.state c.args.cpu c.args.index c.requires) c.index-2.ensures in
    rw (get_or_from_slice_get _ c.args.cpu _ [] at) at c.requires

pub returns-clause-entry : goal.returns-clause-entry
returns-clause-entry g c =
    let within = cpu_in_range-if_entry c.args.self.now.state c.args.cpu c.args.index c.requires in
    let at =
    processor_part-read (λ p. p.buffer) c.self.inside.processors.items _ c.args.cpu c.self.view_is c.index.ensures.value within
    c.index-2.ensures in
    rw (get_or_from_slice_get _ c.args.cpu _ [] at) c.entry.ensures

-- The processor exists, since its buffer has the entry, so the entry's location is one of the memory's.
pub returns-clause-location : goal.returns-clause-location
returns-clause-location g c =
    let mem = memory_of g.M.MemorySystem.content g.M.MemorySystem.state g.M.MemorySystem.serves in
    let there = cpu_in_range-if_entry c.args.self.now.state c.args.cpu c.args.index c.requires in
    let many = ap length (ap (λ r. r.state.processors) c.self.view_is) in
    let within : c.args.cpu < length c.self.inside.processors.items =
    omega (arith, there, many, length-map c.self.inside.processors.items processor_of) in
    let at = slice_get-of_read {t = c.args.cpu} {x = c.index-2.result.now} refl c.index.ensures.value within c.index-2.ensures in
    let all = entries_in_range _ _ _ _ c.self.inside.program.now.well_formed.code _ _ c.self.invariant at in
    let entries = c.index-2.result.now.buffer.entries in
    let got = get_or_from_slice_get entries c.args.index c.entry.result c.entry.result c.entry.ensures in
    let known = all c.args.index c.entry.result (slice_get_within entries c.args.index _ c.entry.ensures) in
    rw (← ap (λ r. r.state.memory) c.self.view_is)
    (subst (λ (e : ℕ × ℕ). e.0 < length (mem.content c.self.inside.memory)) got known)
