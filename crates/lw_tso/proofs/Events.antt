-- Events of a machine in memory, seen as events of the machine. Lemmas for the functions of `machine.rt`,
-- each of which changes one processor and the memory: the state that the contract sees makes a transition.
use Rattle.lw_tso.proofs.Common.{IsWellScopedThread-well_formed, ◌≡◌, ℕ, [], ◌∷◌, get_or, ◌+◌, ◌<◌, ◌≤◌, ◌^◌}
use Rattle.lw_tso.proofs.Common.{true, false, List, length, map, Ok, Err, Some, None, refl, sym, ap, ◌∙◌}
use Rattle.lw_tso.proofs.Common.{subst, arith, slice_get, slice_set, ◌⊎◌, inl, inr, All, ◌&&◌, zip}
use Rattle.lw_tso.proofs.Common.{option_map, length-set, lt-ltb, le-ltb, list_all, ForSome, map-map, map-set}
use Rattle.lw_tso.proofs.Common.{length-map, get_or_past, slice_get-map, slice_get_within, slice_get-some}
use Rattle.lw_tso.proofs.Common.{slice_get_read, cases_lt, FinalState, Event, Step, Evict, NoLocation, Ended}
use Rattle.lw_tso.proofs.Common.{NotHeld, Memory, is_held, IsLawful, Invariant, AtEach-set, set-get_same}
use Rattle.lw_tso.proofs.Common.{IsWellFormedThread, Instr, Operation, location_of, is_store, x86_operation}
use Rattle.lw_tso.proofs.Common.{x86_language, Processor, thread_code, cpu_of, operation_effect, step_effect}
use Rattle.lw_tso.proofs.Common.{event_effect, MachineState, EventResult, buffer_of, EffectTransition}
use Rattle.lw_tso.proofs.Common.{ProcessorTransition, MachineTransition, MachineRun, InitialWords}
use Rattle.lw_tso.proofs.Common.{has_terminated, is_final, machine_outcome, stores_from, HasRoom}
use Rattle.lw_tso.proofs.Common.{IsReachableMachine, processor_of, Vec, vec_len, slice_get_past, NoCpu}
use Rattle.lw_tso.specs.declared.processor.Processor.{Processor as ProcessorInMemory}
use Rattle.lw_tso.proofs.Acts.{PreservesMemorySize-effect}
use Rattle.lw_tso.proofs.EventActs.{ProcessorChange-event}
use Rattle.lw_tso.proofs.Rooms.{store_count-of_entry, IsWellFormedStatement-at, stores_from-suc}
use Rattle.lw_tso.proofs.Rooms.{HasRoomAhead-event}
use Rattle.lw_memory.specs.declared.request.Request.TheVariants as request

-- If ys is xs, i is t, t is in range, and x was read in ys at i, then xs has x at t.
pub slice_get-of_read : {X : Type 0} {xs ys : List X} {i t : ℕ} {x : X}
    → ys ≡ xs
    → i ≡ t
    → t < length xs
    → x ≡ get_or ys i x
    → slice_get xs t ≡ Some x
slice_get-of_read {xs = xs} {t = t} {x = x} same index within is = slice_get_read xs _ t x refl within (rw (← same, ← index) is)

module _ {M : Type 0} (mem : Memory M) (program : List (List Instr)) where
  -- If the next instruction of p is i, of operation o, the transition of o's effect is that of the event of a step.
  pub EffectTransition-step : {i : Instr} {o : Operation} (t : ℕ) (p q : Processor) (m n : M) (answer : EventResult)
      → slice_get (thread_code program t) p.position ≡ Some i
      → o ≡ x86_operation i
      → EffectTransition mem t (operation_effect o p) p m answer q n
      → EffectTransition mem t (event_effect program (length (mem.content m)) (Step t) p) p m answer q n
  EffectTransition-step t p q m n answer next is done =
      subst (λ k. EffectTransition mem t (step_effect k p) p m answer q n) (sym next) (rw is at done)

  -- If p has no next instruction, a step of it is refused with the cause `Ended`, and changes nothing.
  pub step-refused_at_end : (t : ℕ) (p : Processor) (m : M)
      → slice_get (thread_code program t) p.position ≡ None
      → EffectTransition mem t (event_effect program (length (mem.content m)) (Step t) p) p m (Err Ended) p m
  step-refused_at_end t p m next =
      subst (λ o. EffectTransition mem t (step_effect o p) p m (Err Ended) p m) (sym next) (refl, refl, refl)

  -- An eviction by processor t of location x leads from the memory m with this answer to n, whatever the processor, which is
  -- unchanged.
  abbrev pub EvictionLeadsTo : ℕ → ℕ → M → EventResult → M → Type 0
  EvictionLeadsTo t x m answer n =
      (p : Processor) → EffectTransition mem t (event_effect program (length (mem.content m)) (Evict t x) p) p m answer p n

  -- If location x does not exist, an eviction of it is refused with the cause `NoLocation`, and changes nothing.
  pub EvictionLeadsTo-no_location : (t x : ℕ) (m : M) → length (mem.content m) ≤ x → EvictionLeadsTo t x m (Err NoLocation) m
  EvictionLeadsTo-no_location t x m past p = rw (le-ltb x (length (mem.content m)) past) (refl, refl, refl)

  -- If location x exists, t holds its line, and the memory serves the eviction and is n then, the eviction succeeds and leads
  -- to n.
  pub EvictionLeadsTo-held : (t x : ℕ) (m n : M)
      → x < length (mem.content m)
      → is_held (mem.state m t x) ≡ true
      → mem.serves m (request.Evict t x) None n
      → EvictionLeadsTo t x m (Ok tt) n
  EvictionLeadsTo-held t x m n there held serves p = rw (lt-ltb x (length (mem.content m)) there, held) (refl, refl, serves)

  -- If location x exists and t does not hold its line, an eviction is refused with the cause `NotHeld`, and changes nothing.
  pub EvictionLeadsTo-not_held : (t x : ℕ) (m n : M)
      → x < length (mem.content m)
      → is_held (mem.state m t x) ≡ false
      → n ≡ m
      → EvictionLeadsTo t x m (Err NotHeld) n
  EvictionLeadsTo-not_held t x m n there held same p = rw (lt-ltb x (length (mem.content m)) there, held) (refl, refl, same)

module _ {M : Type 0} where
  -- If a buffer has an entry, its processor exists.
  pub cpu_in_range-if_entry : (s : MachineState M) (t index : ℕ) → index < length (buffer_of s t) → t < length s.processors
  cpu_in_range-if_entry s t index there = go (cases_lt t (length s.processors))
    where
      -- By whether the processor exists: without it the buffer has no entry.
      go : (t < length s.processors) ⊎ (length s.processors ≤ t) → t < length s.processors
      go (inl within) = within
      go (inr past) =
          let none : buffer_of s t ≡ [] =
          get_or_past (map (λ p. p.buffer) s.processors) t []
          (omega (arith, past, length-map s.processors (λ (p : Processor). p.buffer))) in
          absurd (omega (arith, there, ap length none))

module _ {M A : Type 0} where
  -- The machine's state with these processors in memory, and this memory.
  abbrev pub state_of : List (ProcessorInMemory A) → M → MachineState M
  state_of processors m = record { processors = map processor_of processors; memory = m }

  -- If the running machine is the one in memory, and has a processor t, then the index i, which is t, is that of a processor in
  -- memory.
  pub index_in_range-of_cpu : {Z : Type 0} {run : MachineRun M} {program : List (List Instr)} {initial : InitialWords}
      (processors : Vec (ProcessorInMemory A) Z) {m : M} (i t : ℕ)
      → record { program = program; initial = initial; state = state_of processors.items m } ≡ run
      → i ≡ t
      → t < length run.state.processors
      → i < vec_len processors
  index_in_range-of_cpu processors i t same index within =
      let many = ap (λ (r : MachineRun M). length r.state.processors) same in
      omega (arith, within, many, index, length-map processors.items processor_of)

  -- If the running machine is the one in memory, and p was read in memory at t's index, then f of the machine's processor t is
  -- f of the processor that p represents.
  pub processor_part-read : {Y : Type 0} (f : Processor → Y) {run : MachineRun M} {program : List (List Instr)}
      {initial : InitialWords} (processors : List (ProcessorInMemory A)) {m : M} (i t : ℕ) {p : ProcessorInMemory A}
      → record { program = program; initial = initial; state = state_of processors m } ≡ run
      → i ≡ t
      → t < length run.state.processors
      → p ≡ get_or processors i p
      → slice_get (map f run.state.processors) t ≡ Some (f (processor_of p))
  processor_part-read {Y} f processors i t {p = p} same index within is =
      let many = ap (λ (r : MachineRun M). length r.state.processors) same in
      let at =
      slice_get-of_read {xs = processors} {x = p} refl index (omega (arith, within, many, length-map processors processor_of))
      is in
      let got =
      slice_get-map f (map processor_of processors) t
      ∙ ap (option_map f) (slice_get-map processor_of processors t ∙ ap (option_map processor_of) at) in
      subst (λ (r : MachineRun M). slice_get (map f r.state.processors) t ≡ Some (f (processor_of p))) same got

  -- If the running machine is the one in memory, regs are the registers of its processors, and words are its content, they are
  -- its outcome.
  pub machine_outcome-of_registers : (mem : Memory M) {run : MachineRun M} {program : List (List Instr)} {initial : InitialWords}
      (processors : List (ProcessorInMemory A)) {m : M} (regs : List (List ℕ)) (words : List ℕ)
      → record { program = program; initial = initial; state = state_of processors m } ≡ run
      → regs ≡ map (λ p. p.regs) processors
      → words ≡ mem.content m
      → record { regs = regs; words = words } ≡ machine_outcome mem run.state
  machine_outcome-of_registers mem processors {m = m} regs words same listed content =
      let seen = sym (map-map (λ (p : Processor). p.regs) processor_of processors) in
      let outcome : (let o : FinalState = record { regs = regs; words = words } in o)
      ≡ machine_outcome mem (state_of processors m) = rw (listed, content, seen) refl in
      outcome ∙ ap (λ (r : MachineRun M). machine_outcome mem r.state) same

  -- The test whether all processors have terminated, with their codes, has the same result on the processors in memory and on
  -- the state that they represent.
  pub is_final-all_processors : (codes : List (List Instr)) (processors : List (ProcessorInMemory A)) (m : M)
      → list_all (λ p. has_terminated p.0 (processor_of p.1)) (zip codes processors) ≡ is_final codes (state_of processors m)
  is_final-all_processors (code ∷ codes) (p ∷ processors) m =
      ap (λ b. has_terminated code (processor_of p) && b) (is_final-all_processors codes processors m)
  is_final-all_processors _ _ m = refl

module _ {M A : Type 0} (mem : Memory M) (program : List (List Instr)) where
  -- If the running machine is the one in memory, and an event's effect leads its processor from p to q and the memory from m to
  -- n, the machine makes the transition of this event.
  pub MachineTransition-by_effect : (e : Event) (run : MachineRun M) (initial : InitialWords) (p q : ProcessorInMemory A)
      (processors : List (ProcessorInMemory A)) (m n : M) (answer : EventResult)
      → record { program = program; initial = initial; state = state_of processors m } ≡ run
      → slice_get processors (cpu_of e) ≡ Some p
      → EffectTransition mem (cpu_of e) (event_effect program (length (mem.content m)) e (processor_of p)) (processor_of p) m
      answer (processor_of q) n
      → MachineTransition mem run.program e run.state answer (state_of (slice_set processors (cpu_of e) q) n)
  MachineTransition-by_effect e run initial p q processors m n answer same at done =
      let there = slice_get-map processor_of processors (cpu_of e) ∙ ap (option_map processor_of) at in
      let end : MachineState M = state_of (slice_set processors (cpu_of e) q) n in
      let set = map-set processor_of processors (cpu_of e) q in
      subst (λ (r : MachineRun M). MachineTransition mem r.program e r.state answer end) same
      (subst (λ o. ProcessorTransition mem o program e (state_of processors m) answer end) (sym there)
      (processor_of q, n, done, ap (λ c. let s : MachineState M = record { processors = c; memory = n } in s) set))

  -- If the running machine is the one in memory, processor t exists, and its eviction of x leads from the memory m to n, the
  -- machine makes the transition of this eviction, with unchanged processors.
  pub MachineTransition-eviction : (t x : ℕ) (run : MachineRun M) (initial : InitialWords)
      (processors : List (ProcessorInMemory A)) (m n : M) (answer : EventResult)
      → record { program = program; initial = initial; state = state_of processors m } ≡ run
      → t < length processors
      → EvictionLeadsTo mem program t x m answer n
      → MachineTransition mem run.program (Evict t x) run.state answer (state_of processors n)
  MachineTransition-eviction t x run initial processors m n answer same within evicts =
      let (p, at) = slice_get-some processors t within in
      let left = ap (λ ps. state_of ps n) (set-get_same processors t p at) in
      subst (MachineTransition mem run.program (Evict t x) run.state answer) left
      (MachineTransition-by_effect (Evict t x) run initial p p processors m n answer same at (evicts (processor_of p)))

  -- If the running machine is the one in memory, and the processor of an event does not exist, the event is refused with the
  -- cause `NoCpu`, and changes nothing.
  pub MachineTransition-no_cpu : {Z : Type 0} (e : Event) (run : MachineRun M) (processors : Vec (ProcessorInMemory A) Z)
      {initial : InitialWords} {m : M} (count index : ℕ)
      → record { program = program; initial = initial; state = state_of processors.items m } ≡ run
      → count ≡ vec_len processors
      → index ≡ cpu_of e
      → count ≤ index
      → MachineTransition mem run.program e run.state (Err NoCpu) run.state
  MachineTransition-no_cpu e run processors count index same many at past =
      let gone : length (map processor_of processors.items) ≤ cpu_of e =
      omega (arith, many, at, past, length-map processors.items processor_of) in
      let none = slice_get_past (map processor_of processors.items) (cpu_of e) gone in
      subst (λ (r : MachineRun M). MachineTransition mem r.program e r.state (Err NoCpu) r.state) same (rw none (refl, refl))

module _ {M A : Type 0} (mem : Memory M) (inv : Invariant M) (program : List (List Instr)) where
  -- What the operation o of processor t needs to be carried out: the processor exists, its location exists, its position can be
  -- increased, and a store has room.
  pub record CanCarryOut (locs t : ℕ) (p : ProcessorInMemory A) (m : M) (o : Operation) : Type 0 where
    pub cpu : t < inv.cpus m
    pub loc : ForSome (location_of o) (λ x. x < length (mem.content m))
    pub position : p.position + 1 < 2 ^ 64
    pub room : is_store o ≡ true → length p.buffer.entries < p.buffer.room

  module _ (locs : ℕ) (threads : All (IsWellFormedThread x86_language locs) program) where
    -- In a reachable machine, the code of a processor t that exists is well-formed.
    IsWellFormedThread-of_cpu : (processors : List (ProcessorInMemory A)) (m : M) (t : ℕ) (p : ProcessorInMemory A)
        → IsReachableMachine mem inv program locs m processors
        → slice_get processors t ≡ Some p
        → IsWellFormedThread x86_language locs (thread_code program t)
    IsWellFormedThread-of_cpu processors m t p ok at = threads t _ (omega (arith, slice_get_within processors t p at, ok.as_many))

    -- In a reachable machine, the operation o of the next instruction i of a processor can be carried out.
    pub CanCarryOut-reachable : (processors : List (ProcessorInMemory A)) {m : M} (t : ℕ) (p : ProcessorInMemory A) (i : Instr)
        {o : Operation}
        → IsReachableMachine mem inv program locs m processors
        → slice_get processors t ≡ Some p
        → slice_get (thread_code program t) p.position ≡ Some i
        → o ≡ x86_operation i
        → CanCarryOut locs t p m o
    CanCarryOut-reachable processors {m = m} t p i ok at next is =
        let thread = IsWellFormedThread-of_cpu processors m t p ok at in
        let here = stores_from-suc (thread_code program t) p.position i next in
        subst (CanCarryOut locs t p m) (sym is) (record {
          cpu = omega (arith, slice_get_within processors t p at, ok.cpus);
          loc =
              rw ok.locations
              ((IsWellFormedStatement-at locs (thread_code program t) (IsWellScopedThread-well_formed x86_language thread)
              p.position i next).0);
          position = omega (arith, (slice_get_within (thread_code program t) p.position i next), thread.short);
          room = λ store. omega (arith, (ok.rooms t p at).fits, here, store_count-of_entry i store);
        })

    -- In a reachable machine, the entries of a processor's buffer are for locations of the memory.
    pub entries_in_range : {processors : List (ProcessorInMemory A)} {m : M} (t : ℕ) (p : ProcessorInMemory A)
        → IsReachableMachine mem inv program locs m processors
        → slice_get processors t ≡ Some p
        → All (λ (entry : ℕ × ℕ). entry.0 < length (mem.content m)) p.buffer.entries
    entries_in_range t p ok at = rw ok.locations ((ok.rooms t p at).entries_in_range)

    -- Over a lawful memory, an event that leads a processor of a reachable machine from p to q, whose buffer has the same room,
    -- and the memory from m to n, leads to a reachable machine.
    pub IsReachableMachine-event : IsLawful mem inv
        → (e : Event) (p q : ProcessorInMemory A) (processors : List (ProcessorInMemory A)) (m n : M) (answer : EventResult)
        → IsReachableMachine mem inv program locs m processors
        → slice_get processors (cpu_of e) ≡ Some p
        → EffectTransition mem (cpu_of e) (event_effect program (length (mem.content m)) e (processor_of p)) (processor_of p) m
        answer (processor_of q) n
        → q.buffer.room ≡ p.buffer.room
        → IsReachableMachine mem inv program locs n (slice_set processors (cpu_of e) q)
    IsReachableMachine-event laws e p q processors m n answer ok at done same =
        let kept =
        PreservesMemorySize-effect mem inv laws (cpu_of e) (event_effect program (length (mem.content m)) e (processor_of p))
        (processor_of p) (processor_of q) m n answer ok.sound done in
        let longer = length-set processors (cpu_of e) q in
        let thread = IsWellFormedThread-of_cpu processors m (cpu_of e) p ok at in
        let becomes =
        ProcessorChange-event program (length (mem.content m)) mem (processor_of p) (processor_of q) m n answer e done in
        let room : HasRoom locs (thread_code program (cpu_of e)) (processor_of q) q.buffer.room =
        subst (HasRoom locs (thread_code program (cpu_of e)) (processor_of q)) (sym same)
        (HasRoomAhead-event (IsWellScopedThread-well_formed x86_language thread) becomes (ok.rooms (cpu_of e) p at)) in
        record {
          sound = kept.sound;
          locations = kept.locations ∙ ok.locations;
          cpus = omega (arith, longer, kept.cpus, ok.cpus);
          as_many = longer ∙ ok.as_many;
          rooms =
              AtEach-set (λ u r. HasRoom locs (thread_code program u) (processor_of r) r.buffer.room) processors (cpu_of e) q
              (slice_get_within processors (cpu_of e) p at) ok.rooms room;
          whole =
              AtEach-set (λ u r. stores_from 0 (thread_code program u) ≤ r.buffer.room) processors (cpu_of e) q
              (slice_get_within processors (cpu_of e) p at) ok.whole (rw same (ok.whole (cpu_of e) p at));
        }
