-- What makes lists complete: runs over flat memory have no evictions, and a complete list of a compiled program is one of its source test.
use Rattle.lw_tso.proofs.Common.{◌≡◌, [], ◌∷◌, refl, ap, Event, Step, Drain, Evict, flat_memory, Instr, MachineState, MachineRunsTo, without_evictions}
use Rattle.lw_tso.proofs.api.Effects.{EventOccurrence, EventOccurrence-of_event, not-EffectLeadsTo-evict_event}
use Rattle.lw_tso.proofs.Common.{ℕ, List, length, subst, All, AllByRecursion, FinalState, IsEvent, HasOutcomeShape, X86Test, TestHead}
use Rattle.std.proofs.lemmas.List.Elements.{All-weaker}
use Rattle.lw_base.specs.ListedOutcomes.{IsListedOutcome}
use Rattle.lw_fence.specs.Compiling.{IsCompiled}
use Rattle.lw_outcome_map.specs.Listings.{OutcomeEntries}
use Rattle.lw_litmus.specs.Tests.{SourceTest}
use Rattle.lw_tso_caches.specs.CompleteLists.{ListsMachine, IsComplete}

-- If events lead from one state to another over flat memory, none of them is an eviction.
pub without_evictions-flat_run : (program : List (List Instr)) (es : List Event) (s end : MachineState (List ℕ))
    → MachineRunsTo flat_memory program es s end
    → without_evictions es ≡ es
without_evictions-flat_run program [] s end ran = refl
without_evictions-flat_run program (Step t ∷ es) s end (mid, done, ran) =
    ap (λ (fs : List Event). Step t ∷ fs) (without_evictions-flat_run program es mid end ran)
without_evictions-flat_run program (Drain t ∷ es) s end (mid, done, ran) =
    ap (λ (fs : List Event). Drain t ∷ fs) (without_evictions-flat_run program es mid end ran)
without_evictions-flat_run program (Evict t x ∷ es) s end (mid, done, ran) =
    let d : EventOccurrence program (Evict t x) s mid = EventOccurrence-of_event program (Evict t x) s mid done in
    absurd (not-EffectLeadsTo-evict_event program (length s.memory) t x d.from d.to s.memory d.words d.does)

-- If outcomes have the numbers of threads and locations of a compiled program, they have those of its source test.
pub HasOutcomeShape-of_compiled : (s : SourceTest) (program : X86Test) (starts : List (List ℕ))
    → IsCompiled s program starts
    → (outcomes : List FinalState)
    → All (HasOutcomeShape program.head.threads (length program.head.locs)) outcomes
    → All (HasOutcomeShape s.head.threads (length s.head.locs)) outcomes
HasOutcomeShape-of_compiled s program starts compiled outcomes =
    subst (λ (d : TestHead). All (HasOutcomeShape d.threads (length d.locs)) outcomes) compiled.head

module _ (s : SourceTest) (program : X86Test) (starts : List (List ℕ)) (compiled : IsCompiled s program starts)
    (Has : FinalState → Type 0) (entries : OutcomeEntries) (c : IsComplete Has program entries) where
  -- If a list of the compiled program is complete, it has the program's outcomes on the whole machine, with schedules.
  pub ListsMachine-of_complete : ListsMachine s entries
  ListsMachine-of_complete = record {
    program = program;
    starts = starts;
    compiled = compiled;
    outcomes = c.has_all_outcomes.over_caches;
    replays = c.replays;
  }

  -- The compiled program has the test's threads and locations.
  pub IsListedOutcome-of_source : All (IsListedOutcome s.head) entries
  IsListedOutcome-of_source =
      All-weaker (IsListedOutcome program.head) (IsListedOutcome s.head) (λ e is. record {
        outcome = subst (λ (d : TestHead). HasOutcomeShape d.threads (length d.locs) e.0) compiled.head is.outcome;
        schedule = subst (λ (d : TestHead). AllByRecursion (IsEvent d.locs) e.1) compiled.head is.schedule;
      }) entries c.of_program
