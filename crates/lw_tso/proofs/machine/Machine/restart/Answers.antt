-- Proves `Machine::restart`, which resets the machine to its initial state. The invariant holds again: all
-- processors are overwritten (`take-overwritten`), in the buffers that they had, which have room for all stores of
-- their threads.
use Rattle.lw_tso.proofs.Common.{◌≡◌, ◌≤◌, ◌++◌, ℕ, List, ap, ap₂, arith, drop, length, map, subst, sym, take}
use Rattle.lw_tso.proofs.Common.{◌∙◌, append-nil, take_all, drop_all, invariant_of, memory_of, Processor}
use Rattle.lw_tso.proofs.Common.{initial_processor, MachineState, IsReachableMachine}
use Rattle.lw_tso.proofs.Starts.{IsReachableMachine-start, stores_fit-same_rooms}
use Rattle.lw_tso.proofs.machine.Machine.restart.Goals as goal

-- If xs is as long as ys, and n is that length, the first n items of xs followed by those of ys after it are xs.
take-overwritten : {X : Type 0} (xs ys : List X) {n : ℕ}
    → length xs ≡ length ys
    → n ≡ length ys
    → take n (xs ++ drop (length xs) ys) ≡ xs
take-overwritten xs ys {n = n} many is =
    ap (λ (zs : List _). take n (xs ++ zs)) (drop_all (length xs) ys (omega arith))
    ∙ ap (take n) (append-nil xs)
    ∙ take_all n xs (omega arith)

-- The state of these processors over this memory.
abbrev state_of : {M : Type 0} → List Processor → M → MachineState M
state_of processors memory = record { processors = processors; memory = memory }

-- All processors are initial ones, with the rooms that they had, over a memory that was reset: the machine is a reachable one.
pub invariant_of-self : goal.invariant_of-self
invariant_of-self g c =
    let mem = memory_of g.M.MemorySystem.content g.M.MemorySystem.state g.M.MemorySystem.serves in
    let inv = invariant_of g.M.MemorySystem.cpus g.M.MemorySystem.sound in
    let known = c.self.inside.program.now.well_formed in
    let program = c.self.inside.program.now.threads in
    let regs = c.self.inside.program.now.head.init_regs in
    let now = c.restart_all.new.processors in
    let locs = length c.self.inside.program.now.head.locs in
    let m = c.restart.new.self in
    let locations = ap length (c.restart.ensures.words ∙ c.as_slice-2.ensures) ∙ known.head.words in
    let cpus : length program ≤ inv.cpus m =
    omega (arith, c.restart.ensures.cpus, c.self.invariant.cpus, c.self.invariant.as_many) in
    let rooms = c.restart_all.ensures.rooms ∙ ap (map (λ p. p.buffer.room)) c.deref_mut.ensures.value in
    let roomy = stores_fit-same_rooms program regs c.self.inside.processors.items now rooms c.self.invariant.whole in
    let made =
    IsReachableMachine-start _ regs mem inv locs m now c.restart.ensures.sound locations cpus
    (known.head.regs ∙ sym known.as_many) (c.restart_all.ensures.start ∙ ap (map initial_processor) c.as_slice.ensures) roomy in
    let many = c.restart_all.auto.processors ∙ ap length c.deref_mut.ensures.value in
    subst (IsReachableMachine mem inv program locs m) (sym (take-overwritten now _ many c.self.inside.processors.ok.0)) made

-- There are as many processors as rows of initial registers.
pub restart_all-requires : goal.restart_all-requires
restart_all-requires g c =
    let known = c.self.inside.program.now.well_formed in
    omega (
      arith,
      ap length c.deref_mut.ensures.value,
      ap length c.as_slice.ensures,
      known.head.regs,
      known.as_many,
      c.self.invariant.as_many,
    )

pub restart-requires : goal.restart-requires
restart-requires g c =
    omega (arith, ap length c.as_slice-2.ensures, c.self.inside.program.now.well_formed.head.words, c.self.invariant.locations)

pub returns-clause-state : goal.returns-clause-state
returns-clause-state g c =
    let before = c.self.inside.processors.items in
    let now = c.restart_all.new.processors in
    let many = c.restart_all.auto.processors ∙ ap length c.deref_mut.ensures.value in
    rw (take-overwritten now before many c.self.inside.processors.ok.0, ← c.self.view_is)
    (ap₂ state_of (c.restart_all.ensures.start ∙ ap (map initial_processor) c.as_slice.ensures)
    (c.restart.ensures.start ∙ ap (g.M.MemorySystem.start (g.M.MemorySystem.cpus c.self.inside.memory)) c.as_slice-2.ensures))

pub returns-clause-words : goal.returns-clause-words
returns-clause-words g c = rw (← c.self.view_is) (c.restart.ensures.words ∙ c.as_slice-2.ensures)

pub returns-clause-sound : goal.returns-clause-sound
returns-clause-sound g c = c.restart.ensures.sound
