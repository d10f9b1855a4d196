-- Every run of a program can be brought to its end: each processor is led to its own, one after another, by draining its buffer and
-- stepping on once it is empty. The law that every run ends.
use Rattle.lw_tso.proofs.Common.{IsWellScopedThread, ◌*◌, IsWellScopedProgram, inl, inr, ◌≡◌, ◌≢◌, ℕ, zero}
use Rattle.lw_tso.proofs.Common.{suc, ◌+◌, ◌<◌, ◌≤◌, ◌==◌, ◌&&◌, Bool, true, cond, List, [], ◌∷◌, ◌++◌}
use Rattle.lw_tso.proofs.Common.{length, get_or, Ok, Option, Some, None, refl, sym, ap, ap₂, ◌∙◌, subst}
use Rattle.lw_tso.proofs.Common.{arith, ⊎_elim, slice_get, slice_set, ne_eqb, All, IsTrue, zip, le-leb}
use Rattle.lw_tso.proofs.Common.{list_all, cases_eq, cases_lt, sum_by-append, sum_by-cons, count_by-le-length}
use Rattle.lw_tso.proofs.Common.{slice_get_within, slice_get-get_or, same_Some, slice_get-set_same}
use Rattle.lw_tso.proofs.Common.{slice_get-set_other, Event, Step, Drain, Evict, Invariant, IsLawful, Memory}
use Rattle.lw_tso.proofs.Common.{Instr, Mfence, x86_operation, x86_language, X86Test, Processor, thread_code}
use Rattle.lw_tso.proofs.Common.{RunsTo-append, EventEffect, LocalStep, MemoryAccess, value_returned, cpu_of}
use Rattle.lw_tso.proofs.Common.{event_effect, operation_effect, step_effect, drain_effect, MachineState}
use Rattle.lw_tso.proofs.Common.{EffectTransition, ProcessorTransition, MachineTransition, HasRoom}
use Rattle.lw_tso.proofs.Common.{makes_entry, stores_from, MachineRunsTo, initial_machine_state}
use Rattle.lw_tso.proofs.Common.{has_terminated, is_final, without_evictions, event_count, CanTerminate}
use Rattle.lw_tso.proofs.Common.{IsInitialMemory}
use Rattle.lw_tso.proofs.EventActs.{ProcessorChange-event}
use Rattle.lw_tso.proofs.Rooms.{IsSuccessor-later, HasRoomAhead-event}
use Rattle.lw_tso.proofs.api.FlatSimulation.{IsWithin, location_in_range-if_asked, IsWellScopedThread-of_cpu}
use Rattle.lw_tso.proofs.api.FlatSimulation.{IsWithin-effect, IsWithin-reached}
use Rattle.lw_tso.proofs.api.Operations.{EffectSatisfies, EffectSatisfies-operation}
use Rattle.lw_memory.specs.declared.request.Request.TheVariants as request

-- A concatenation without its evictions is the concatenation of the two lists without theirs.
without_evictions-append : (es fs : List Event) → without_evictions (es ++ fs) ≡ without_evictions es ++ without_evictions fs
without_evictions-append [] fs = refl
without_evictions-append (Step t ∷ es) fs = ap (λ l. Step t ∷ l) (without_evictions-append es fs)
without_evictions-append (Drain t ∷ es) fs = ap (λ l. Drain t ∷ l) (without_evictions-append es fs)
without_evictions-append (Evict t x ∷ es) fs = without_evictions-append es fs

-- If a and b are true, so is `a && b`.
and-both_true : {a b : Bool} → a ≡ true → b ≡ true → (a && b) ≡ true
and-both_true e f = rw (e, f) refl

-- If a processor is past the end of its code, and its buffer is empty, it has terminated.
has_terminated-past_end : (code : List Instr) (p : Processor)
    → length code ≤ p.position
    → p.buffer ≡ []
    → has_terminated code p ≡ true
has_terminated-past_end code p past empty = and-both_true (le-leb _ p.position past) (ap (λ b. length b == 0) empty)

-- If each processor has terminated, with its thread's code, the test for all processors passes.
is_final-each_terminated : (codes : List (List Instr)) (ps : List Processor)
    → ((t : ℕ) (p : Processor) → slice_get ps t ≡ Some p → has_terminated (thread_code codes t) p ≡ true)
    → list_all (λ p. has_terminated p.0 p.1) (zip codes ps) ≡ true
is_final-each_terminated (code ∷ codes) (p ∷ ps) each =
    and-both_true (each 0 p refl) (is_final-each_terminated codes ps (λ t q at. each (suc t) q at))
is_final-each_terminated _ _ each = refl

module _ {M : Type 0} (mem : Memory M) (inv : Invariant M) (laws : IsLawful mem inv) where
  -- The effect `act` of processor t, which is p, can be carried out over m, and leads to a processor that satisfies `Makes`.
  abbrev IsPossible : ℕ → EventEffect → Processor → M → (Processor → Type 0) → Type 0
  IsPossible t act p m Makes = (q : Processor) × (n : M) × EffectTransition mem t act p m (Ok tt) q n × Makes q

  -- If the memory's invariant holds, processor t exists, and the effect can't be refused, accesses only existing locations and
  -- makes processors of `Makes` (`EffectSatisfies`), then it can be carried out.
  IsPossible-if_satisfied : (t : ℕ) (act : EventEffect) (p : Processor) (m : M) (Makes : Processor → Type 0)
      → inv.sound m
      → t < inv.cpus m
      → EffectSatisfies ⊥ (λ x written. x < length (mem.content m)) Makes act
      → IsPossible t act p m Makes
  IsPossible-if_satisfied t (LocalStep next) p m Makes sound cpu comes = (next, m, (refl, refl, refl), comes)
  IsPossible-if_satisfied t (MemoryAccess x access next) p m Makes sound cpu comes =
      let g = laws.serves m (request.Ask t x access) sound (cpu, comes.0) tt in
      (next _, g.0, (value_returned (mem.content m) x access, refl, refl, g.1), comes.1 _)
  IsPossible-if_satisfied t _ p m Makes sound cpu comes = absurd comes

  module _ (program : List (List Instr)) (locs : ℕ) (threads : All (IsWellScopedThread x86_language locs) program) where
    -- The state satisfies the invariant of all runs of the program, `IsWithin`.
    abbrev IsWithinInvariant : MachineState M → Type 0
    IsWithinInvariant s = IsWithin mem inv laws program locs threads s

    -- Processor t can reach its end from s in at most k events of its own, which change no other processor.
    record ProcessorFinishes (t k : ℕ) (s : MachineState M) : Type 0 where
      events : List Event
      end : MachineState M
      ran : MachineRunsTo mem program events s end
      done : (p : Processor) → slice_get end.processors t ≡ Some p → has_terminated (thread_code program t) p ≡ true
      others : (u : ℕ) → u ≢ t → slice_get end.processors u ≡ slice_get s.processors u
      in_invariant : IsWithinInvariant end
      within_bound : length events ≤ k
      none : (u : ℕ) → u ≢ t → event_count u events ≡ 0
      kept : without_evictions events ≡ events

    -- If processor t is past the end of its code with an empty buffer, it reaches its end without an event.
    ProcessorFinishes-terminated : (t k : ℕ) (s : MachineState M) (p : Processor)
        → IsWithinInvariant s
        → slice_get s.processors t ≡ Some p
        → length (thread_code program t) ≤ p.position
        → p.buffer ≡ []
        → ProcessorFinishes t k s
    ProcessorFinishes-terminated t k s p within at past empty = record {
      events = [];
      end = s;
      ran = refl;
      done = λ q got.
          subst (λ (r : Processor). has_terminated (thread_code program t) r ≡ true) (same_Some p q (sym at ∙ got))
          (has_terminated-past_end (thread_code program t) p past empty);
      others = λ u ne. refl;
      in_invariant = within;
      within_bound = omega arith;
      none = λ u ne. refl;
      kept = refl;
    }

    -- If an event of processor t leads from s to states from which t can reach its end in k events, t can reach its end from s
    -- in k + 1.
    ProcessorFinishes-after_event : (e : Event) (s : MachineState M) (p q : Processor) (n : M) (k : ℕ)
        → IsWithinInvariant s
        → slice_get s.processors (cpu_of e) ≡ Some p
        → EffectTransition mem (cpu_of e) (event_effect program (length (mem.content s.memory)) e p) p s.memory (Ok tt) q n
        → ((es : List Event) → without_evictions (e ∷ es) ≡ e ∷ without_evictions es)
        → ((mid : MachineState M)
        → IsWithinInvariant mid
        → slice_get mid.processors (cpu_of e) ≡ Some q
        → ProcessorFinishes (cpu_of e) k mid)
        → ProcessorFinishes (cpu_of e) (suc k) s
    ProcessorFinishes-after_event e s p q n k within at done keeps rest =
        let mid : MachineState M = record { processors = slice_set s.processors (cpu_of e) q; memory = n } in
        let f =
        rest mid (IsWithin-effect mem inv laws program locs threads e s p q n (Ok tt) within at done)
        (slice_get-set_same s.processors (cpu_of e) q (slice_get_within s.processors (cpu_of e) p at)) in
        record {
          events = e ∷ f.events;
          end = f.end;
          ran = (mid, subst (λ o. ProcessorTransition mem o program e s (Ok tt) mid) (sym at) (q, n, done, refl), f.ran);
          done = f.done;
          others = λ u ne. f.others u ne ∙ slice_get-set_other s.processors (cpu_of e) u q ne;
          in_invariant = f.in_invariant;
          within_bound = omega (arith, f.within_bound);
          none = λ u ne.
              sum_by-cons (λ (d : Event). cond (cpu_of d == u) 1 0) e f.events
              ∙ ap₂ (λ a b. a + b) (ap (λ b. cond b 1 0) (ne_eqb (cpu_of e) u (λ same. ne (sym same)))) (f.none u ne);
          kept = keeps f.events ∙ ap (λ l. e ∷ l) f.kept;
        }

    -- If processor t has an empty buffer and a next instruction, its step can be carried out, and leads to a later position.
    IsPossible-step : (t : ℕ) (s : MachineState M) (p : Processor)
        → IsWithinInvariant s
        → slice_get s.processors t ≡ Some p
        → p.buffer ≡ []
        → p.position < length (thread_code program t)
        → IsPossible t (event_effect program (length (mem.content s.memory)) (Step t) p) p s.memory (λ q. p.position < q.position)
    IsPossible-step t s p within at empty lt =
        let code = thread_code program t in
        let thread = IsWellScopedThread-of_cpu mem inv laws program locs threads s t p within at in
        let i : Instr = get_or code p.position Mfence in
        let next : slice_get code p.position ≡ Some i = slice_get-get_or code p.position Mfence lt in
        let cpu : t < inv.cpus s.memory = omega (arith, slice_get_within s.processors t p at, within.cpus) in
        let comes =
        EffectSatisfies-operation ⊥ (λ x written. x < length (mem.content s.memory)) (λ q. p.position < q.position) _ p
        (λ waits full. full empty)
        (λ x is. location_in_range-if_asked mem inv laws _ locs threads t p s within at x (inl (i, next, is)))
        (λ q went. IsSuccessor-later locs code thread _ _ i next went.leads) in
        subst (λ o. IsPossible t (step_effect o p) p s.memory (λ q. p.position < q.position)) (sym next)
        (IsPossible-if_satisfied t (operation_effect (x86_operation i) p) p s.memory _ within.sound cpu comes)

    -- If the buffer of processor t has an entry, the drain of the oldest can be carried out, and leaves the newer ones.
    IsPossible-drain : (t : ℕ) (s : MachineState M) (p : Processor) (entry : ℕ × ℕ) (newer : List (ℕ × ℕ))
        → IsWithinInvariant s
        → slice_get s.processors t ≡ Some p
        → p.buffer ≡ entry ∷ newer
        → IsPossible t (drain_effect p.buffer p) p s.memory (λ q. q ≡ record p { buffer = newer })
    IsPossible-drain t s p entry newer within at full =
        let cpu : t < inv.cpus s.memory = omega (arith, slice_get_within s.processors t p at, within.cpus) in
        let lt = location_in_range-if_asked _ _ laws _ _ threads t p s within at entry.0 (inr (entry, newer, full, refl)) in
        IsPossible-if_satisfied t (drain_effect p.buffer p) p s.memory _ within.sound cpu
        (subst (λ b.
        EffectSatisfies ⊥ (λ x written. x < length (mem.content s.memory)) (λ q. q ≡ record p { buffer = newer })
        (drain_effect b p)) (sym full) (lt, λ none. refl))

    -- If processor t, with the buffer b, is at most r positions before its end, and r and the entries and stores ahead are
    -- together at most k, then it can reach its end in k events. By induction on k and r.
    ProcessorFinishes-any : (t k r : ℕ) (s : MachineState M) (p : Processor) (b : List (ℕ × ℕ))
        → IsWithinInvariant s
        → slice_get s.processors t ≡ Some p
        → p.buffer ≡ b
        → length (thread_code program t) ≤ r + p.position
        → r + (length b + stores_from p.position (thread_code program t)) ≤ k
        → ProcessorFinishes t k s
    ProcessorFinishes-any t zero r s p [] within at is ahead small =
        ProcessorFinishes-terminated t 0 s p within at (omega arith) is
    ProcessorFinishes-any t zero r s p (entry ∷ newer) within at is ahead small = absurd (omega arith)
    ProcessorFinishes-any t (suc k) r s p (entry ∷ newer) within at is ahead small =
        let d = IsPossible-drain t s p entry newer within at is in
        ProcessorFinishes-after_event (Drain t) s p d.0 d.1 k within at d.2 (λ es. refl) (λ mid w got.
        ProcessorFinishes-any t k r mid (record p { buffer = newer }) newer w (got ∙ ap Some d.3) refl ahead (omega arith))
    ProcessorFinishes-any t (suc k) zero s p [] within at is ahead small =
        ProcessorFinishes-terminated t (suc k) s p within at (omega arith) is
    ProcessorFinishes-any t (suc k) (suc r) s p [] within at is ahead small =
        ⊎_elim (λ lt. go lt (λ mid q w got. ProcessorFinishes-any t k r mid q q.buffer w got refl))
        (λ past. ProcessorFinishes-terminated t (suc k) s p within at past is)
        (cases_lt p.position (length (thread_code program t)))
      where
        -- The processor with an empty buffer has a next instruction: its step leads to a later position, and the rest follows
        -- by induction.
        go : p.position < length (thread_code program t)
            → ((mid : MachineState M) (q : Processor)
            → IsWithinInvariant mid
            → slice_get mid.processors t ≡ Some q
            → length (thread_code program t) ≤ r + q.position
            → r + (length q.buffer + stores_from q.position (thread_code program t)) ≤ k
            → ProcessorFinishes t k mid)
            → ProcessorFinishes t (suc k) s
        go lt later =
            let g = IsPossible-step t s p within at is lt in
            let had : HasRoom locs (thread_code program t) p (stores_from p.position (thread_code program t)) =
            record { fits = omega (arith, ap length is); entries_in_range = (within.rooms t p at).entries_in_range } in
            let thread = IsWellScopedThread-of_cpu mem inv laws program locs threads s t p within at in
            let becomes =
            ProcessorChange-event program (length (mem.content s.memory)) mem p g.0 s.memory g.1 (Ok tt) (Step t) g.2 in
            let has = HasRoomAhead-event thread becomes had in
            ProcessorFinishes-after_event (Step t) s p g.0 g.1 k within at g.2 (λ es. refl)
            (λ mid w got. later mid g.0 w got (omega (arith, ahead, g.3)) (omega (arith, small, has.fits)))

    -- The first k processors can reach their ends from s, each in at most twice as many events as its code has instructions,
    -- and no other processor has an event.
    record FirstProcessorsFinish (k : ℕ) (s : MachineState M) : Type 0 where
      events : List Event
      end : MachineState M
      ran : MachineRunsTo mem program events s end
      in_invariant : IsWithinInvariant end
      done : (t : ℕ) (p : Processor)
          → t < k
          → slice_get end.processors t ≡ Some p
          → has_terminated (thread_code program t) p ≡ true
      within_bound : (t : ℕ) → event_count t events ≤ 2 * length (thread_code program t)
      none : (t : ℕ) → k ≤ t → event_count t events ≡ 0
      kept : without_evictions events ≡ events

    -- The number of a processor's events in a concatenation is the sum of those in its parts.
    event_count-append : (u : ℕ) (es fs : List Event) → event_count u (es ++ fs) ≡ event_count u es + event_count u fs
    event_count-append u es fs = sum_by-append (λ (d : Event). cond (cpu_of d == u) 1 0) es fs

    -- If the first k processors can reach their ends from s, and processor k can then reach its own, the first k + 1 can reach
    -- theirs.
    FirstProcessorsFinish-suc : (k : ℕ) (s : MachineState M) (a : FirstProcessorsFinish k s)
        → ProcessorFinishes k (2 * length (thread_code program k)) a.end
        → FirstProcessorsFinish (suc k) s
    FirstProcessorsFinish-suc k s a f = record {
      events = a.events ++ f.events;
      end = f.end;
      ran = RunsTo-append (MachineTransition mem program) a.events f.events s a.end f.end a.ran f.ran;
      in_invariant = f.in_invariant;
      done = λ t p lt got.
          ⊎_elim (λ same.
          subst (λ (u : ℕ). has_terminated (thread_code program u) p ≡ true) (sym same)
          (f.done p (subst (λ (u : ℕ). slice_get f.end.processors u ≡ Some p) same got)))
          (λ ne. a.done t p (omega arith) (sym (f.others t ne) ∙ got)) (cases_eq t k);
      within_bound = λ t.
          ⊎_elim (λ same.
          subst (λ (u : ℕ). event_count u (a.events ++ f.events) ≤ 2 * length (thread_code program u)) (sym same) few_events_own)
          (λ ne. few_events_others t ne) (cases_eq t k);
      none = λ t le. no_events_later t le;
      kept = without_evictions-append a.events f.events ∙ ap₂ (λ x y. x ++ y) a.kept f.kept;
    }
      where
        -- Processor k has few events in both parts: none in the first.
        few_events_own : event_count k (a.events ++ f.events) ≤ 2 * length (thread_code program k)
        few_events_own = omega (
          arith,
          event_count-append k a.events f.events,
          a.none k (omega arith),
          count_by-le-length (λ (d : Event). cpu_of d == k) f.events,
          f.within_bound,
        )

        -- Every other processor has few events in both parts: none in the second.
        few_events_others : (t : ℕ) → t ≢ k → event_count t (a.events ++ f.events) ≤ 2 * length (thread_code program t)
        few_events_others t ne = omega (arith, event_count-append t a.events f.events, a.within_bound t, f.none t ne)

        -- A processor after k has no event in either part.
        no_events_later : (t : ℕ) → suc k ≤ t → event_count t (a.events ++ f.events) ≡ 0
        no_events_later t le =
            let ne : t ≢ k = omega arith in
            omega (arith, event_count-append t a.events f.events, a.none t (omega arith), f.none t ne)

    -- A processor that does not exist needs no event to reach its end.
    ProcessorFinishes-absent : {k : ℕ} (s : MachineState M) (a : FirstProcessorsFinish k s)
        → slice_get a.end.processors k ≡ None
        → ProcessorFinishes k (2 * length (thread_code program k)) a.end
    ProcessorFinishes-absent s a at = record {
      events = [];
      end = a.end;
      ran = refl;
      done = λ p got. absurd (let e : ◌≡◌ {A = Option Processor} None (Some p) = sym at ∙ got in cc);
      others = λ u ne. refl;
      in_invariant = a.in_invariant;
      within_bound = omega arith;
      none = λ u ne. refl;
      kept = refl;
    }

    -- From each state that satisfies the invariant, the first k processors can reach their ends.
    FirstProcessorsFinish-any : (k : ℕ) (s : MachineState M) → IsWithinInvariant s → FirstProcessorsFinish k s
    FirstProcessorsFinish-any zero s within = record {
      events = [];
      end = s;
      ran = refl;
      in_invariant = within;
      done = λ t p lt got. absurd (omega arith);
      within_bound = λ t. omega arith;
      none = λ t le. refl;
      kept = refl;
    }
    FirstProcessorsFinish-any (suc k) s within = FirstProcessorsFinish-next (FirstProcessorsFinish-any k s within)
      where
        -- If the first k processors can reach their ends, so can the first k + 1.
        FirstProcessorsFinish-next : FirstProcessorsFinish k s → FirstProcessorsFinish (suc k) s
        FirstProcessorsFinish-next a = FirstProcessorsFinish-suc k s a (go (slice_get a.end.processors k) refl)
          where
            -- By whether processor k exists.
            go : (o : Option Processor)
                → slice_get a.end.processors k ≡ o
                → ProcessorFinishes k (2 * length (thread_code program k)) a.end
            go None at = ProcessorFinishes-absent s a at
            go (Some p) at =
                let code = thread_code program k in
                let most : stores_from 0 code ≤ length code = count_by-le-length makes_entry code in
                ProcessorFinishes-any k (2 * length code) (length code) a.end p p.buffer a.in_invariant at refl (omega arith)
                (omega (arith, (a.in_invariant.rooms k p at).fits, most))

    -- From each state that satisfies the invariant, further events lead to a final state.
    CanTerminate-in_invariant : (s : MachineState M) → IsWithinInvariant s → CanTerminate mem program s
    CanTerminate-in_invariant s within =
        let a = FirstProcessorsFinish-any (length program) s within in
        let all : IsTrue (is_final program a.end) =
        is_final-each_terminated program a.end.processors
        (λ t p got. a.done t p (omega (arith, slice_get_within a.end.processors t p got, a.in_invariant.as_many)) got) in
        record { more = a.events; end = a.end; ran = a.ran; final = all; bounded = a.within_bound; no_evictions = a.kept }

  -- From each state that a run of a well-scoped test reaches, over a lawful memory, further events lead to a final state.
  pub CanTerminate-reached : (test : X86Test)
      → IsWellScopedProgram test
      → (m : M) (es : List Event) (s : MachineState M)
      → IsInitialMemory mem inv test m
      → MachineRunsTo mem test.threads es (initial_machine_state test m) s
      → CanTerminate mem test.threads s
  CanTerminate-reached test ok m es s start ran =
      CanTerminate-in_invariant _ _ ok.code s (IsWithin-reached _ inv laws _ ok m es s start ran)
