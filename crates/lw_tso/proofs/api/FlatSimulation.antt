-- A run over the flat memory is a run over every memory that keeps the laws. The second direction of the law
-- that outcomes are flat, and both directions put together.
use Rattle.lw_tso.proofs.Common.{IsWellScopedThread, IsWellScopedProgram, Bool, inl, inr, ◌≡◌, ◌↔◌, ℕ, ◌<◌}
use Rattle.lw_tso.proofs.Common.{◌≤◌, List, [], ◌∷◌, length, Ok, Option, Some, None, refl, sym, ap, ◌∙◌}
use Rattle.lw_tso.proofs.Common.{subst, arith, slice_get, slice_set, All, IsTrue, option_map, length-set}
use Rattle.lw_tso.proofs.Common.{length-map, All-nil, slice_get-map, slice_get_within, same_Some, FinalState}
use Rattle.lw_tso.proofs.Common.{Event, Evict, Request, request_result, content_after_request, flat_memory}
use Rattle.lw_tso.proofs.Common.{Memory, IsInRange, IsEnabled, IsLawful, Invariant, AtEach-set, Instr}
use Rattle.lw_tso.proofs.Common.{x86_language, X86Test, Processor, initial_processor, thread_code}
use Rattle.lw_tso.proofs.Common.{EventEffect, MemoryAccess, Eviction, cpu_of, event_effect, MachineState}
use Rattle.lw_tso.proofs.Common.{EventResult, over_flat_memory, EffectTransition, ProcessorTransition}
use Rattle.lw_tso.proofs.Common.{MachineTransition, HasRoom, stores_from, MachineRunsTo, ReplaysTo}
use Rattle.lw_tso.proofs.Common.{IsMachineOutcome, initial_machine_state, machine_outcome, is_final}
use Rattle.lw_tso.proofs.Common.{without_evictions, IsInitialMemory}
use Rattle.lw_tso.proofs.Acts.{PreservesMemorySize-effect}
use Rattle.lw_tso.proofs.Rooms.{IsWellFormedStatement-at, HasRoomAhead-event}
use Rattle.lw_tso.proofs.api.Effects.{not-EffectLeadsTo-evict_event, EventOccurrence-of_event}
use Rattle.lw_tso.proofs.api.Operations.{EffectSatisfies}
use Rattle.lw_tso.proofs.EventActs.{IsNoEviction, MayAccess, IsEventEffect-of_event, ProcessorChange-event}
use Rattle.lw_tso.proofs.Flatten.{MachineTransition-flat, ReplaysTo-flat}

-- If an event is enabled over flat memory, it is no eviction.
IsNoEviction-flat_transition : (program : List (List Instr)) (e : Event) (s mid : MachineState (List ℕ))
    → MachineTransition flat_memory program e s (Ok tt) mid
    → IsNoEviction e
IsNoEviction-flat_transition program (Evict t x) s mid done =
    let d = EventOccurrence-of_event program (Evict t x) s mid done in
    absurd (not-EffectLeadsTo-evict_event program (length s.memory) t x d.from d.to s.memory d.words d.does)
IsNoEviction-flat_transition program _ s mid done = refl

module _ {M : Type 0} (mem : Memory M) (inv : Invariant M) (laws : IsLawful mem inv) where
  -- If the memory's invariant holds, and an enabled request in range has this result and these words over the content, then the
  -- lawful memory serves it with this result, and has these words as its content then.
  serves-same_content : {r : Request} {a : Option ℕ} (m : M) {words : List ℕ}
      → inv.sound m
      → IsInRange (inv.cpus m) (length (mem.content m)) r
      → IsEnabled (mem.state m) r
      → a ≡ request_result (mem.content m) r
      → words ≡ content_after_request (mem.content m) r
      → (n : M) × mem.serves m r a n × (mem.content n ≡ words)
  serves-same_content {r = r} m sound there possible answer after =
      let g = laws.serves m r sound there possible in (
        g.0,
        subst (λ b. mem.serves m r b g.0) (sym answer) g.1,
        (laws.served m r (request_result (mem.content m) r) g.0 sound g.1).content ∙ sym after,
      )

  -- If the memory's invariant holds, processor t exists, and an effect that accesses only existing locations (`MayAsk`) is
  -- executed over the content, then it is executed over the memory with the same answer, and the memory then has the resulting
  -- content.
  EffectTransition-lift : (Reason : Type 0) (MayAsk : ℕ → Bool → Type 0) (Makes : Processor → Type 0) (t : ℕ) (act : EventEffect)
      (p q : Processor) (m : M) (words : List ℕ) (answer : EventResult)
      → inv.sound m
      → t < inv.cpus m
      → ((x : ℕ) (w : Bool) → MayAsk x w → x < length (mem.content m))
      → EffectSatisfies Reason MayAsk Makes act
      → EffectTransition flat_memory t act p (mem.content m) answer q words
      → (n : M) × EffectTransition mem t act p m answer q n × (mem.content n ≡ words)
  EffectTransition-lift R A K t (MemoryAccess x access next) p q m words answer sound cpu within comes done =
      let g = serves-same_content m sound (cpu, within x _ comes.0) tt done.3.0 done.3.1 in
      (g.0, (done.0, done.1, done.2, g.1), g.2)
  EffectTransition-lift R A K t (Eviction x) p q m words answer sound cpu within comes done = absurd comes
  EffectTransition-lift R A K t _ p q m words answer sound cpu within comes done = (m, (done.0, done.1, refl), sym done.2)

  module _ (program : List (List Instr)) (locs : ℕ) (threads : All (IsWellScopedThread x86_language locs) program) where
    -- A buffer with a place for each store of thread t's code has room for the entries of its processor p and all stores that
    -- are ahead of it.
    abbrev HasRoomAt : ℕ → Processor → Type 0
    HasRoomAt t p = HasRoom locs (thread_code program t) p (stores_from 0 (thread_code program t))

    -- What every run of the program preserves: the memory's invariant and locations, a processor for each thread, and the room
    -- of each buffer.
    pub record IsWithin (s : MachineState M) : Type 0 where
      pub sound : inv.sound s.memory
      pub locations : length (mem.content s.memory) ≡ locs
      pub cpus : length s.processors ≤ inv.cpus s.memory
      pub as_many : length s.processors ≡ length program
      pub rooms : (t : ℕ) (p : Processor) → slice_get s.processors t ≡ Some p → HasRoomAt t p

    -- If a state satisfies the invariant and has the processor t, the code of t is well-scoped.
    pub IsWellScopedThread-of_cpu : (s : MachineState M) (t : ℕ) (p : Processor)
        → IsWithin s
        → slice_get s.processors t ≡ Some p
        → IsWellScopedThread x86_language locs (thread_code program t)
    IsWellScopedThread-of_cpu s t p within at = threads t _ (omega (arith, slice_get_within s.processors t p at, within.as_many))

    -- If a state satisfies the invariant, and an event's effect leads its processor from p to q and the memory to n, then the
    -- state after it satisfies the invariant.
    pub IsWithin-effect : (e : Event) (s : MachineState M) (p q : Processor) (n : M) (answer : EventResult)
        → IsWithin s
        → slice_get s.processors (cpu_of e) ≡ Some p
        → EffectTransition mem (cpu_of e) (event_effect program (length (mem.content s.memory)) e p) p s.memory answer q n
        → IsWithin (record { processors = slice_set s.processors (cpu_of e) q; memory = n })
    IsWithin-effect e s p q n answer within at done =
        let kept =
        PreservesMemorySize-effect mem inv laws (cpu_of e) (event_effect program (length (mem.content s.memory)) e p) p q s.memory
        n answer within.sound done in
        let longer = length-set s.processors (cpu_of e) q in
        let becomes = ProcessorChange-event program (length (mem.content s.memory)) mem p q s.memory n answer e done in
        let room =
        HasRoomAhead-event (IsWellScopedThread-of_cpu s (cpu_of e) p within at) becomes (within.rooms (cpu_of e) p at) in
        record {
          sound = kept.sound;
          locations = kept.locations ∙ within.locations;
          cpus = omega (arith, longer, kept.cpus, within.cpus);
          as_many = longer ∙ within.as_many;
          rooms =
              AtEach-set HasRoomAt s.processors (cpu_of e) q (slice_get_within s.processors (cpu_of e) p at) within.rooms room;
        }

    -- If a state satisfies the invariant, and an event of its processor t may access x, then x exists.
    pub location_in_range-if_asked : (t : ℕ) (p : Processor) (s : MachineState M)
        → IsWithin s
        → slice_get s.processors t ≡ Some p
        → (x : ℕ)
        → MayAccess (thread_code program t) p x
        → x < length (mem.content s.memory)
    location_in_range-if_asked t p s within at x (inl step) = omega (
      arith,
      within.locations,
      (IsWellFormedStatement-at locs (thread_code program t) (IsWellScopedThread-of_cpu s t p within at) p.position step.0
          step.1).0 x step.2,
    )
    location_in_range-if_asked t p s within at x (inr drain) =
        let there = subst (All (λ (e : ℕ × ℕ). e.0 < locs)) drain.2 (within.rooms t p at).entries_in_range in
        omega (arith, within.locations, there 0 drain.0 (omega arith), drain.3)

    -- If a state satisfies the invariant, so does the state after an event, carried out or refused.
    IsWithin-event : (e : Event) (s after : MachineState M) (answer : EventResult)
        → IsWithin s
        → MachineTransition mem program e s answer after
        → IsWithin after
    IsWithin-event e s after answer within = go (slice_get s.processors (cpu_of e)) refl
      where
        -- By the processor, if it exists.
        go : (o : Option Processor)
            → slice_get s.processors (cpu_of e) ≡ o
            → ProcessorTransition mem o program e s answer after
            → IsWithin after
        go None at done = subst IsWithin (sym done.1) within
        go (Some p) at done = subst IsWithin (sym done.3) (IsWithin-effect e s p _ _ answer within at done.2)

    -- If a state satisfies the invariant, so does each state to which events lead from it.
    IsWithin-run : (es : List Event) (s end : MachineState M) → IsWithin s → MachineRunsTo mem program es s end → IsWithin end
    IsWithin-run [] s end within ran = subst IsWithin (sym ran) within
    IsWithin-run (e ∷ es) s end within ran = IsWithin-run es _ end (IsWithin-event e s _ (Ok tt) within ran.1) ran.2

    -- An event that is no eviction, if done over the content, is done over the memory.
    abbrev pub LiftedEvent : Event → MachineState M → EventResult → MachineState (List ℕ) → Type 0
    LiftedEvent e s answer mid =
        (after : MachineState M) × MachineTransition mem program e s answer after × (over_flat_memory mem after ≡ mid)

    -- If a state satisfies the invariant, and an event that is no eviction leads its processor o, if it exists, over the
    -- content to `mid`, then the event leads over the memory to a state whose content is that of `mid`.
    LiftedEvent-by_processor : (o : Option Processor) (e : Event) (s : MachineState M) (answer : EventResult)
        (mid : MachineState (List ℕ))
        → IsWithin s
        → IsNoEviction e
        → slice_get s.processors (cpu_of e) ≡ o
        → ProcessorTransition flat_memory o program e (over_flat_memory mem s) answer mid
        → LiftedEvent e s answer mid
    LiftedEvent-by_processor None e s answer mid within none at done =
        (s, subst (λ o. ProcessorTransition mem o program e s answer s) (sym at) (done.0, refl), sym done.1)
    LiftedEvent-by_processor (Some p) e s answer mid within none at done =
        let cpu : cpu_of e < inv.cpus s.memory = omega (arith, slice_get_within s.processors (cpu_of e) p at, within.cpus) in
        let comes = IsEventEffect-of_event program (length (mem.content s.memory)) e p none in
        let g =
        EffectTransition-lift _ _ _ (cpu_of e) _ p done.0 s.memory done.1 answer within.sound cpu
        (λ x w. location_in_range-if_asked (cpu_of e) p s within at x) comes done.2 in
        let end : MachineState M = record { processors = slice_set s.processors (cpu_of e) done.0; memory = g.0 } in (
          end,
          subst (λ o. ProcessorTransition mem o program e s answer end) (sym at) (done.0, g.0, g.1, refl),
          ap (λ (words : List ℕ).
              let a : MachineState (List ℕ) = record { processors = slice_set s.processors (cpu_of e) done.0; memory = words } in
              a) g.2
              ∙ sym done.3,
        )

    -- If a state satisfies the invariant, and an event that is no eviction leads over the content to `mid`, then it leads over
    -- the memory to a state whose content is that of `mid`.
    LiftedEvent-of_event : (e : Event) (s : MachineState M) (answer : EventResult) (mid : MachineState (List ℕ))
        → IsWithin s
        → IsNoEviction e
        → MachineTransition flat_memory program e (over_flat_memory mem s) answer mid
        → LiftedEvent e s answer mid
    LiftedEvent-of_event e s answer mid within none done =
        LiftedEvent-by_processor (slice_get s.processors (cpu_of e)) e s answer mid within none refl done

    -- Events lead over the memory system from s to a state whose image over flat memory is `last`.
    pub record LiftedRun (es : List Event) (s : MachineState M) (last : MachineState (List ℕ)) : Type 0 where
      pub end : MachineState M
      pub ran : MachineRunsTo mem program es s end
      pub end_is : over_flat_memory mem end ≡ last

    -- Forward simulation: if s satisfies the invariant, and events lead its image over flat memory to `last`, then the same
    -- events lead over the memory system from s to a state whose image is `last`.
    pub LiftedRun-of_run : (es : List Event) (s : MachineState M) (last : MachineState (List ℕ))
        → IsWithin s
        → MachineRunsTo flat_memory program es (over_flat_memory mem s) last
        → LiftedRun es s last
    LiftedRun-of_run [] s last within ran = record { end = s; ran = refl; end_is = sym ran }
    LiftedRun-of_run (e ∷ es) s last within ran =
        let a = LiftedEvent-of_event e s (Ok tt) ran.0 within (IsNoEviction-flat_transition program e _ ran.0 ran.1) ran.1 in
        let b =
        LiftedRun-of_run es a.0 last (IsWithin-event e s a.0 (Ok tt) within a.1)
        (subst (λ (x : MachineState (List ℕ)). MachineRunsTo flat_memory program es x last) (sym a.2) ran.2) in
        record { end = b.end; ran = (a.0, a.1, b.ran); end_is = b.end_is }

  module _ (test : X86Test) (ok : IsWellScopedProgram test) where
    -- The number of the test's locations.
    abbrev locs : ℕ
    locs = length test.head.locs

    -- If p is the initial processor of optional registers, there are registers of which it is the initial processor.
    started : (p : Processor) (o : Option (List ℕ))
        → Some p ≡ option_map initial_processor o
        → (r : List ℕ) × (p ≡ initial_processor r)
    started p None e = absurd cc
    started p (Some r) e = (r, same_Some p (initial_processor r) e)

    -- The initial state over an initial memory satisfies the invariant.
    pub IsWithin-start : {m : M}
        → IsInitialMemory mem inv test m
        → IsWithin test.threads locs ok.code (initial_machine_state test m)
    IsWithin-start start =
        let many = length-map test.head.init_regs initial_processor ∙ ok.head.regs ∙ sym ok.as_many in
        record {
          sound = start.sound;
          locations = ap length start.words ∙ ok.head.words;
          cpus = omega (arith, many, start.cpus);
          as_many = many;
          rooms = λ t p at.
              let first = started p _ (sym at ∙ slice_get-map initial_processor test.head.init_regs t) in
              subst (λ q. HasRoom locs (thread_code test.threads t) q (stores_from 0 (thread_code test.threads t))) (sym first.1)
              (record { fits = omega arith; entries_in_range = All-nil _ });
        }

    -- Each state that a run from the initial state reaches satisfies the invariant.
    pub IsWithin-reached : (m : M) (es : List Event) (s : MachineState M)
        → IsInitialMemory mem inv test m
        → MachineRunsTo mem test.threads es (initial_machine_state test m) s
        → IsWithin test.threads locs ok.code s
    IsWithin-reached m es s start ran = IsWithin-run _ locs _ es (initial_machine_state test m) s (IsWithin-start start) ran

    -- In a state that a run reaches, a transition by an event that is no eviction is one over flat memory with the same
    -- content.
    pub MachineTransition-reached_flat : (m : M) (es : List Event) (s after : MachineState M) (e : Event) (answer : EventResult)
        → IsInitialMemory mem inv test m
        → MachineRunsTo mem test.threads es (initial_machine_state test m) s
        → IsNoEviction e
        → MachineTransition mem test.threads e s answer after
        → MachineTransition flat_memory test.threads e (over_flat_memory mem s) answer (over_flat_memory mem after)
    MachineTransition-reached_flat m es s after e answer start ran none done =
        MachineTransition-flat mem inv laws test.threads e s after answer (IsWithin-reached m es s start ran).sound none done

    -- In a state that a run reaches, a transition over flat memory by an event that is no eviction is the image of one over the
    -- memory system.
    pub LiftedEvent-reached : (m : M) (es : List Event) (s : MachineState M) (e : Event) (answer : EventResult)
        (mid : MachineState (List ℕ))
        → IsInitialMemory mem inv test m
        → MachineRunsTo mem test.threads es (initial_machine_state test m) s
        → IsNoEviction e
        → MachineTransition flat_memory test.threads e (over_flat_memory mem s) answer mid
        → LiftedEvent test.threads locs ok.code e s answer mid
    LiftedEvent-reached m es s e answer mid start ran none done =
        LiftedEvent-of_event test.threads locs ok.code e s answer mid (IsWithin-reached m es s start ran) none done

    -- If a list of events replays to an outcome over flat memory, it replays to it over each initial memory.
    pub ReplaysTo-of_flat : (m : M) (es : List Event) (o : FinalState)
        → IsInitialMemory mem inv test m
        → ReplaysTo flat_memory test test.head.init_words es o
        → ReplaysTo mem test m es o
    ReplaysTo-of_flat m es o start r =
        let ran = rw (← start.words) at r.ran in
        let a = LiftedRun-of_run _ locs ok.code es (initial_machine_state test m) r.end (IsWithin-start start) ran in
        record {
          end = a.end;
          ran = a.ran;
          final = subst (λ (s : MachineState (List ℕ)). IsTrue (is_final test.threads s)) (sym a.end_is) r.final;
          outcome_is = r.outcome_is ∙ ap (λ (s : MachineState (List ℕ)). machine_outcome flat_memory s) (sym a.end_is);
        }

    -- For each initial memory, an outcome over it is one over flat memory, and the reverse.
    pub IsMachineOutcome-flat_iff : (m : M) (o : FinalState)
        → IsInitialMemory mem inv test m
        → IsMachineOutcome mem test m o ↔ IsMachineOutcome flat_memory test test.head.init_words o
    IsMachineOutcome-flat_iff m o start = (
      (λ a. (
        without_evictions a.0,
        subst (λ w. ReplaysTo flat_memory test w (without_evictions a.0) o) start.words
            (ReplaysTo-flat mem inv laws test m a.0 o start.sound a.1),
      )),
      (λ a. (a.0, ReplaysTo-of_flat m a.0 o start a.1)),
    )

    -- For each initial memory, a list without evictions replays to an outcome over it if and only if it does over flat memory.
    pub ReplaysTo-same_content : (m : M) (es : List Event) (o : FinalState)
        → IsInitialMemory mem inv test m
        → without_evictions es ≡ es
        → ReplaysTo mem test m es o ↔ ReplaysTo flat_memory test test.head.init_words es o
    ReplaysTo-same_content m es o start none = (
      (λ r.
          subst (λ fs. ReplaysTo flat_memory test test.head.init_words fs o) none
          (subst (λ w. ReplaysTo flat_memory test w (without_evictions es) o) start.words
          (ReplaysTo-flat mem inv laws test m es o start.sound r))),
      (λ r. ReplaysTo-of_flat m es o start r),
    )
