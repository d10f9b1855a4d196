-- A replay names only its test's processors and locations, and its outcome has as many of each. For the
-- law that replays are of their test, by which lists have outcomes of the right shape.
use Rattle.lw_tso.proofs.Common.{IsEventInRange, IsWellScopedProgram, IsMachineOutcome, flat_memory}
use Rattle.lw_tso.proofs.Common.{words_invariant, words_lawful, Step, Drain, ◌≡◌, ℕ, zero, suc, ◌<◌, ◌≤◌}
use Rattle.lw_tso.proofs.Common.{Bool, true, false, nat_lt, if◌then◌else◌, List, [], ◌∷◌, length, map, Ok}
use Rattle.lw_tso.proofs.Common.{Err, Option, Some, None, refl, sym, ap, ◌∙◌, subst, slice_get, slice_set}
use Rattle.lw_tso.proofs.Common.{arith, ltb-true, AllByRecursion, length-map, slice_get_within, FinalState}
use Rattle.lw_tso.proofs.Common.{HasOutcomeShape, IsEvent, NameTable, Event, Evict, most_threads, registers}
use Rattle.lw_tso.proofs.Common.{NoCpu, NoLocation, Invariant, IsLawful, Memory, Instr, X86Test, Processor}
use Rattle.lw_tso.proofs.Common.{initial_processor, Refused, Eviction, cpu_of, event_effect, MachineState}
use Rattle.lw_tso.proofs.Common.{EventResult, EffectTransition, ProcessorTransition, MachineTransition}
use Rattle.lw_tso.proofs.Common.{MachineRunsTo, ReplaysTo, initial_machine_state, IsInitialMemory}
use Rattle.lw_tso.proofs.Acts.{IsSameSize, IsSameSize-event}
use Rattle.lw_tso.proofs.EventActs.{ProcessorChange, Stays, Steps, Drains, ProcessorChange-event}

-- ---- lists

-- If P holds of all items of a list, it holds of the item at each index.
AllByRecursion-at : {X : Type 0} (P : X → Type 0) (xs : List X) (i : ℕ) (x : X)
    → AllByRecursion P xs
    → slice_get xs i ≡ Some x
    → P x
AllByRecursion-at P (y ∷ ys) zero x all at = let e : y ≡ x = cc in subst P e all.0
AllByRecursion-at P (y ∷ ys) (suc i) x all at = AllByRecursion-at P ys i x all.1 at
AllByRecursion-at P [] _ x all at = absurd cc

-- If P holds of all items of a list, and of x, it holds of all after x is set at i.
AllByRecursion-set : {X : Type 0} (P : X → Type 0) (xs : List X) (i : ℕ) (x : X)
    → AllByRecursion P xs
    → P x
    → AllByRecursion P (slice_set xs i x)
AllByRecursion-set P (y ∷ ys) zero x all is = (is, all.1)
AllByRecursion-set P (y ∷ ys) (suc i) x all is = (all.0, AllByRecursion-set P ys i x all.1 is)
AllByRecursion-set P [] _ x all is = tt

-- ---- events

-- The processor has six registers.
abbrev pub HasRegisters : Processor → Type 0
HasRegisters p = length p.regs ≡ registers

-- If a processor has six registers, it has them after an event.
HasRegisters-preserved : {code : List Instr} {p q : Processor} → HasRegisters p → ProcessorChange code p q → HasRegisters q
HasRegisters-preserved has (Stays is) = ap (λ (r : Processor). length r.regs) is ∙ has
HasRegisters-preserved has (Steps i at went) = went.regs ∙ has
HasRegisters-preserved has (Drains entry newer was is) = ap (λ (r : Processor). length r.regs) is ∙ has

module _ {M : Type 0} (mem : Memory M) (inv : Invariant M) where
  -- If an eviction is carried out, its location exists.
  eviction-in_range : (there : Bool) (t x locs : ℕ) (p q : Processor) (m n : M)
      → nat_lt x locs ≡ there
      → EffectTransition mem t (if there then Eviction x else Refused NoLocation) p m (Ok tt) q n
      → x < locs
  eviction-in_range true t x locs p q m n lt done = ltb-true x locs lt
  eviction-in_range false t x locs p q m n lt done = absurd (let e = done.0 in cc)

  -- If an event of an existing processor is carried out, its processor is below `threads`, and its location, of an eviction,
  -- below `locs`.
  IsEventInRange-of_effect : (program : List (List Instr)) (threads locs : ℕ) (e : Event) (p q : Processor) (m n : M)
      → cpu_of e < threads
      → length (mem.content m) ≡ locs
      → EffectTransition mem (cpu_of e) (event_effect program (length (mem.content m)) e p) p m (Ok tt) q n
      → IsEventInRange threads locs e
  IsEventInRange-of_effect program threads locs (Evict t x) p q m n lt sized done =
      (lt, subst (λ k. x < k) sized (eviction-in_range _ t x (length (mem.content m)) p q m n refl done))
  IsEventInRange-of_effect program threads locs _ p q m n lt sized done = lt

  -- ---- a machine of so many threads and locations

  -- The machine has these numbers of processors and locations, each processor has all registers, and the memory satisfies its invariant.
  record IsMachineOf (threads locs : ℕ) (s : MachineState M) : Type 0 where
    processors : length s.processors ≡ threads
    have : AllByRecursion HasRegisters s.processors
    words : length (mem.content s.memory) ≡ locs
    sound : inv.sound s.memory

  module _ (laws : IsLawful mem inv) (program : List (List Instr)) (threads locs : ℕ) where
    -- If an event is carried out by such a machine, it is of its processors and locations, and leads to such a machine.
    IsEventInRange-event : (e : Event) (s after : MachineState M)
        → IsMachineOf threads locs s
        → MachineTransition mem program e s (Ok tt) after
        → IsEventInRange threads locs e × IsMachineOf threads locs after
    IsEventInRange-event e s after is done = go (slice_get s.processors (cpu_of e)) refl done
      where
        -- The event preserves the numbers of processors and locations.
        same_size : IsSameSize mem inv s after
        same_size = IsSameSize-event mem inv laws program e s after (Ok tt) is.sound done

        -- By the processor, which exists, since the event is carried out.
        go : (o : Option Processor)
            → slice_get s.processors (cpu_of e) ≡ o
            → ProcessorTransition mem o program e s (Ok tt) after
            → IsEventInRange threads locs e × IsMachineOf threads locs after
        go None at by = absurd (let e : ◌≡◌ {A = EventResult} (Ok tt) (Err NoCpu) = by.0 in cc)
        go (Some p) at by =
            let lt = slice_get_within s.processors (cpu_of e) p at in
            let becomes = ProcessorChange-event _ (length (mem.content s.memory)) mem p by.0 _ by.1 (Ok tt) e by.2 in
            let next = HasRegisters-preserved (AllByRecursion-at HasRegisters s.processors (cpu_of e) p is.have at) becomes in (
              IsEventInRange-of_effect program threads locs e p _ s.memory by.1 (omega (arith, lt, is.processors)) is.words by.2,
              record {
                processors = same_size.processors ∙ is.processors;
                have =
                    subst (λ (a : MachineState M). AllByRecursion HasRegisters a.processors) (sym by.3)
                    (AllByRecursion-set HasRegisters s.processors (cpu_of e) by.0 is.have next);
                words = same_size.locations ∙ is.words;
                sound = same_size.sound;
              },
            )

    -- If events lead from such a machine to `end`, they are of its processors and locations, and `end` is such a machine.
    IsEventInRange-run : (es : List Event) {s : MachineState M} (end : MachineState M)
        → IsMachineOf threads locs s
        → MachineRunsTo mem program es s end
        → AllByRecursion (IsEventInRange threads locs) es × IsMachineOf threads locs end
    IsEventInRange-run [] end is ran = (tt, subst (IsMachineOf threads locs) (sym ran) is)
    IsEventInRange-run (e ∷ es) {s = s} end is ran =
        let first = IsEventInRange-event e s ran.0 is ran.1 in
        let rest = IsEventInRange-run es end first.1 ran.2 in
        ((first.0, rest.0), rest.1)

-- If each processor has six registers, each row of their words has six.
AllByRecursion-register_rows : (ps : List Processor)
    → AllByRecursion HasRegisters ps
    → AllByRecursion (λ row. length row ≡ registers) (map (λ p. p.regs) ps)
AllByRecursion-register_rows [] all = tt
AllByRecursion-register_rows (p ∷ ps) all = (all.0, AllByRecursion-register_rows ps all.1)

-- If each row of initial words has six, each initial processor has six registers.
HasRegisters-all_initial : (rows : List (List ℕ))
    → AllByRecursion (λ row. length row ≡ registers) rows
    → AllByRecursion HasRegisters (map initial_processor rows)
HasRegisters-all_initial [] all = tt
HasRegisters-all_initial (row ∷ rows) all = (all.0, HasRegisters-all_initial rows all.1)

-- If events of a well-scoped test replay to an outcome over an initial memory, the outcome has the test's numbers of threads
-- and locations, and the events are of these.
pub HasOutcomeShape-replay : {M : Type 0} {mem : Memory M} {inv : Invariant M} (laws : IsLawful mem inv) (test : X86Test) (m : M)
    (events : List Event) (o : FinalState)
    → IsWellScopedProgram test
    → IsInitialMemory mem inv test m
    → ReplaysTo mem test m events o
    → HasOutcomeShape test.head.threads (length test.head.locs) o
    × AllByRecursion (IsEventInRange test.head.threads (length test.head.locs)) events
HasOutcomeShape-replay {mem = mem} {inv = inv} laws test m events o ok start r =
    let head = ok.head in
    let first : IsMachineOf mem inv test.head.threads (length test.head.locs) (initial_machine_state test m) = record {
      processors = length-map test.head.init_regs initial_processor ∙ head.regs;
      have = HasRegisters-all_initial test.head.init_regs head.register_counts;
      words = ap length start.words ∙ head.words;
      sound = start.sound;
    } in
    let ran = IsEventInRange-run mem inv laws test.threads test.head.threads (length test.head.locs) events r.end first r.ran in (
      subst (HasOutcomeShape test.head.threads (length test.head.locs)) (sym r.outcome_is) (record {
        regs_of = length-map r.end.processors (λ p. p.regs) ∙ ran.1.processors;
        register_counts = AllByRecursion-register_rows r.end.processors ran.1.have;
        words_of = ran.1.words;
      }),
      ran.0,
    )

-- An outcome of a well-scoped test over flat memory has the test's numbers of threads and locations.
pub HasOutcomeShape-flat_outcome : (test : X86Test) (o : FinalState)
    → IsWellScopedProgram test
    → IsMachineOutcome flat_memory test test.head.init_words o
    → HasOutcomeShape test.head.threads (length test.head.locs) o
HasOutcomeShape-flat_outcome test o ok (events, r) =
    let n = length test.threads in
    let start : IsInitialMemory flat_memory (words_invariant n) test test.head.init_words =
    record { sound = tt; cpus = omega arith; words = refl } in
    (HasOutcomeShape-replay (words_lawful n) test test.head.init_words events o ok start r).0

-- If events are of at most `most_threads` processors, and of the locations of a table, they can be named in a schedule.
pub IsEvent-in_range : (threads : ℕ) (names : NameTable) (events : List Event)
    → threads ≤ most_threads
    → AllByRecursion (IsEventInRange threads (length names)) events
    → AllByRecursion (IsEvent names) events
IsEvent-in_range threads names [] few all = tt
IsEvent-in_range threads names (Step t ∷ events) few all =
    (omega (arith, few, all.0), IsEvent-in_range threads names events few all.1)
IsEvent-in_range threads names (Drain t ∷ events) few all =
    (omega (arith, few, all.0), IsEvent-in_range threads names events few all.1)
IsEvent-in_range threads names (Evict t x ∷ events) few all =
    ((omega (arith, few, all.0.0), all.0.1), IsEvent-in_range threads names events few all.1)
