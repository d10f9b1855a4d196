-- The report of store buffering in x86, byte by byte: its outcomes have four states, and each state is that
-- of an outcome. With ExampleTexts this is the law about the bytes of the example and its report.
use Rattle.lw_bench.proofs.Common.{◌≡◌, ℕ, zero, suc, ◌<◌, ◌&&◌, ◌==◌, true, false, Bool, Option, Some, None}
use Rattle.lw_bench.proofs.Common.{List, [], ◌∷◌, refl, sym, subst, arith, slice_get, slice_set}
use Rattle.lw_bench.proofs.Common.{slice_index_or, length, Contains, and_parts, nat_lt, option_map, none-some}
use Rattle.lw_bench.proofs.Common.{same_Some, Ok, FinalState, Event, Step, Drain, IsTrue, All, AllByRecursion}
use Rattle.lw_bench.proofs.Common.{All-weaker, x86_language, Instr, flat_memory, EventEffect, Processor}
use Rattle.lw_bench.proofs.Common.{MachineTransition, MachineState, IsMachineOutcome, MachineRunsTo}
use Rattle.lw_bench.proofs.Common.{initial_machine_state, machine_outcome, state, event_effect, cpu_of}
use Rattle.lw_bench.proofs.Common.{IsWellFormedThread, store_buffering_in_x86, ProjectedState, AreStatesOf}
use Rattle.lw_bench.proofs.Common.{Of_x86, IsStatesReport, OutcomeOf, AllPairs, slice_cmp, nat_cmp, Less}
use Rattle.lw_bench.proofs.Common.{ltb-true, AllPairs-cons, All-from_recursion, Register, project_state}
use Rattle.lw_bench.proofs.Common.{final_word, Contains-path_assignments, JumpsForward, path_assignments}
use Rattle.lw_bench.proofs.Common.{HasTooManyItems, IsWithinOrderLimit, items_of_assignment, total_of}
use Rattle.lw_bench.proofs.Common.{IsTotalOrderCount-total_of, EffectLeadsTo, MachineTransition-of_effect}
use Rattle.lw_bench.proofs.Common.{store_buffering_report, Leaves, act_after}
use Rattle.std.specs.Fmt.{digits}
use Rattle.lw_bench.proofs.Classics.{IsWellFormedProgram-store_buffering}
use Rattle.lw_bench.proofs.Searches.{state_after_event_of, state_after_event, every_machine_end_satisfies}
use Rattle.lw_bench.proofs.Searches.{every_machine_end_satisfies-sound}
use Rattle.lw_tso.specs.Runs as machine

-- ---- runs by computation

-- If the effect's result over flat memory can be computed, the effect leads to it.
EffectLeadsTo-act_after : (act : EventEffect) (m : List ℕ) (r : Processor × List ℕ)
    → act_after act m ≡ Some r
    → EffectLeadsTo m act r.0 r.1
EffectLeadsTo-act_after act m r h = subst (λ o. Leaves o r.0 r.1) (sym h) (refl, refl)

module _ (program : List (List Instr)) where
  -- If the state after an event can be computed, the event leads to it on the machine.
  event_leads : (e : Event) (s after : MachineState (List ℕ))
      → state_after_event program e s ≡ Some after
      → MachineTransition flat_memory program e s (Ok tt) after
  event_leads e s after = go (slice_get s.processors (cpu_of e)) refl
    where
      -- With the event's processor given: the event's effect over flat memory leads to the computed state.
      act_after-MachineTransition : (p : Processor)
          → slice_get s.processors (cpu_of e) ≡ Some p
          → (o : Option (Processor × List ℕ))
          → act_after (event_effect program (length s.memory) e p) s.memory ≡ o
          → option_map (λ (r : Processor × List ℕ). state (slice_set s.processors (cpu_of e) r.0) r.1) o ≡ Some after
          → MachineTransition flat_memory program e s (Ok tt) after
      act_after-MachineTransition p was None is h = absurd (none-some after h)
      act_after-MachineTransition p was (Some r) is h =
          rw (sym (same_Some _ after h))
          (MachineTransition-of_effect program e s.processors p r.0 s.memory r.1 was (EffectLeadsTo-act_after _ s.memory r is))

      -- By whether the state has the event's processor.
      go : (o : Option Processor)
          → slice_get s.processors (cpu_of e) ≡ o
          → state_after_event_of program o e s ≡ Some after
          → MachineTransition flat_memory program e s (Ok tt) after
      go None was h = absurd (none-some after h)
      go (Some p) was h = act_after-MachineTransition p was _ refl h

  -- Continues with a state if there is one.
  abbrev bind : (MachineState (List ℕ) → Option (MachineState (List ℕ)))
      → Option (MachineState (List ℕ))
      → Option (MachineState (List ℕ))
  bind more None = None
  bind more (Some s) = more s

  -- Computes the state after events, if each is enabled in turn.
  unfoldable pub state_after : List Event → MachineState (List ℕ) → Option (MachineState (List ℕ))
  state_after [] s = Some s
  state_after (e ∷ es) s = bind (state_after es) (state_after_event program e s)

  -- Events that are enabled in turn are a run to the computed state.
  pub state_ran : (events : List Event) (s end : MachineState (List ℕ))
      → state_after events s ≡ Some end
      → MachineRunsTo flat_memory program events s end
  unfolding state_after
  state_ran [] s end h = sym (same_Some s end h)
  state_ran (e ∷ es) s end h = go (state_after_event program e s) refl h (λ mid on. state_ran es mid end on)
    where
      -- By whether the first event leads to a state.
      go : (o : Option (MachineState (List ℕ)))
          → state_after_event program e s ≡ o
          → bind (state_after es) o ≡ Some end
          → ((mid : MachineState (List ℕ)) → state_after es mid ≡ Some end → MachineRunsTo flat_memory program es mid end)
          → MachineRunsTo flat_memory program (e ∷ es) s end
      go None is h on = absurd (none-some end h)
      go (Some mid) is h on = (mid, event_leads e s mid is, on mid h)

-- ---- the states of store buffering

-- The threads of store buffering in x86.
abbrev store_buffering_threads : List (List Instr)
store_buffering_threads = store_buffering_in_x86.threads

-- The initial state of store buffering in x86.
abbrev start : MachineState (List ℕ)
start = initial_machine_state store_buffering_in_x86 store_buffering_in_x86.head.init_words

-- A state of the report, with the words of the two registers and the truth of the condition.
abbrev state_of_loads : ℕ → ℕ → Bool → ProjectedState
state_of_loads a b holds = record { words = a ∷ b ∷ []; holds = holds }

-- The four states of the report.
abbrev states : List ProjectedState
states = state_of_loads 0 0 true ∷ state_of_loads 0 1 false ∷ state_of_loads 1 0 false ∷ state_of_loads 1 1 false ∷ []

-- Some outcome has this state.
abbrev IsStateOfOutcome : ProjectedState → Type 0
IsStateOfOutcome s =
    (o : FinalState)
    × IsMachineOutcome flat_memory store_buffering_in_x86 store_buffering_in_x86.head.init_words o
    × (project_state store_buffering_in_x86.head o ≡ s)

-- If a run by these events reaches a final state whose outcome has the state s, some outcome has s.
IsStateOfOutcome-of_run : (events : List Event) (end : MachineState (List ℕ)) (s : ProjectedState)
    → state_after store_buffering_threads events start ≡ Some end
    → IsTrue (machine.is_final store_buffering_threads end)
    → project_state store_buffering_in_x86.head (machine_outcome flat_memory end) ≡ s
    → IsStateOfOutcome s
IsStateOfOutcome-of_run events end s ran final is = (
  machine_outcome flat_memory end,
  (events, record { end = end; ran = state_ran store_buffering_threads events start end ran; final = final; outcome_is = refl }),
  is,
)

-- The final state of both threads, each with the word that it has read.
abbrev end_with : ℕ → ℕ → MachineState (List ℕ)
end_with a b = state (ended_processor a ∷ ended_processor b ∷ []) (1 ∷ 1 ∷ [])
  where
    -- A processor at the end of its two instructions, with an empty store buffer.
    ended_processor : ℕ → Processor
    ended_processor w = record { position = 2; regs = w ∷ 0 ∷ 0 ∷ 0 ∷ 0 ∷ 0 ∷ []; zero_flag = false; buffer = [] }

-- Both loads read 0, before either store is in memory.
IsStateOfOutcome-both_read_0 : IsStateOfOutcome (state_of_loads 0 0 true)
unfolding state_after
IsStateOfOutcome-both_read_0 =
    IsStateOfOutcome-of_run (Step 0 ∷ Step 1 ∷ Step 0 ∷ Step 1 ∷ Drain 0 ∷ Drain 1 ∷ []) (end_with 0 0) _ refl refl refl

-- The first thread's load reads 0, and the second's reads the first thread's store.
IsStateOfOutcome-first_reads_0 : IsStateOfOutcome (state_of_loads 0 1 false)
unfolding state_after
IsStateOfOutcome-first_reads_0 =
    IsStateOfOutcome-of_run (Step 0 ∷ Drain 0 ∷ Step 0 ∷ Step 1 ∷ Drain 1 ∷ Step 1 ∷ []) (end_with 0 1) _ refl refl refl

-- The second thread's load reads 0, and the first's reads the second thread's store.
IsStateOfOutcome-second_reads_0 : IsStateOfOutcome (state_of_loads 1 0 false)
unfolding state_after
IsStateOfOutcome-second_reads_0 =
    IsStateOfOutcome-of_run (Step 1 ∷ Drain 1 ∷ Step 1 ∷ Step 0 ∷ Drain 0 ∷ Step 0 ∷ []) (end_with 1 0) _ refl refl refl

-- Each load reads what the other thread stored.
IsStateOfOutcome-both_read_1 : IsStateOfOutcome (state_of_loads 1 1 false)
unfolding state_after
IsStateOfOutcome-both_read_1 =
    IsStateOfOutcome-of_run (Step 0 ∷ Drain 0 ∷ Step 1 ∷ Drain 1 ∷ Step 0 ∷ Step 1 ∷ []) (end_with 1 1) _ refl refl refl

-- Some outcome has each of the four states.
IsStateOfOutcome-each_state : (s : ProjectedState) → Contains states s → IsStateOfOutcome s
IsStateOfOutcome-each_state s (k, there, is) = go k there is
  where
    -- By the index of the state among the four.
    go : (k : ℕ) → k < 4 → slice_index_or states k s ≡ s → IsStateOfOutcome s
    go zero l e = subst IsStateOfOutcome e IsStateOfOutcome-both_read_0
    go (suc zero) l e = subst IsStateOfOutcome e IsStateOfOutcome-first_reads_0
    go (suc (suc zero)) l e = subst IsStateOfOutcome e IsStateOfOutcome-second_reads_0
    go (suc (suc (suc zero))) l e = subst IsStateOfOutcome e IsStateOfOutcome-both_read_1
    go (suc (suc (suc (suc k)))) l e = absurd (omega (arith, l))

-- The final word of a thread's first register.
abbrev read_of : ℕ → FinalState → ℕ
read_of t o = final_word o (Register t 0)

-- Tests whether both registers have 0 or 1.
abbrev both_read_0_or_1 : FinalState → Bool
both_read_0_or_1 o = nat_lt (read_of 0 o) 2 && nat_lt (read_of 1 o) 2

-- Within seven events every run of store buffering in x86 ends, with 0 or 1 in both registers.
search_of_report : every_machine_end_satisfies store_buffering_threads both_read_0_or_1 7 start ≡ true
unfolding every_machine_end_satisfies
search_of_report = refl

-- Two words, each 0 or 1, are one of the four states.
states-contain : (a b : ℕ) → a < 2 → b < 2 → Contains states (state_of_loads a b ((a == 0) && (b == 0)))
states-contain zero zero l m = (0, omega arith, refl)
states-contain zero (suc zero) l m = (1, omega arith, refl)
states-contain (suc zero) zero l m = (2, omega arith, refl)
states-contain (suc zero) (suc zero) l m = (3, omega arith, refl)
states-contain (suc (suc a)) b l m = absurd (omega (arith, l))
states-contain a (suc (suc b)) l m = absurd (omega (arith, m))

-- The state of each outcome is one of the four.
Contains-IsStateOfOutcome : (s : ProjectedState) → IsStateOfOutcome s → Contains states s
Contains-IsStateOfOutcome s (o, outcome, is) =
    let small =
    subst (λ e. both_read_0_or_1 e ≡ true) (sym outcome.1.outcome_is)
    (every_machine_end_satisfies-sound store_buffering_threads both_read_0_or_1 7 outcome.0 start outcome.1.end search_of_report
    outcome.1.ran outcome.1.final) in
    let both = and_parts (nat_lt (read_of 0 o) 2) _ small in
    subst (Contains states) is (states-contain (read_of 0 o) (read_of 1 o) (ltb-true _ 2 both.0) (ltb-true _ 2 both.1))

-- The words of a are before those of b in lexicographic order.
abbrev HasSmallerWords : ProjectedState → ProjectedState → Type 0
HasSmallerWords a b = slice_cmp nat_cmp a.words b.words ≡ Less

-- The states are sorted by their words.
abbrev AreAscending : List ProjectedState → Type 0
AreAscending [] = Unit {0}
AreAscending (s ∷ ss) = AllByRecursion (HasSmallerWords s) ss × AreAscending ss

-- If each state has lesser words than the next one, it has lesser words than every later one.
AllPairs-AreAscending : (ss : List ProjectedState) → AreAscending ss → AllPairs HasSmallerWords ss
AllPairs-AreAscending [] up = λ i j d l m. absurd (omega (arith, m))
AllPairs-AreAscending (s ∷ ss) up =
    AllPairs-cons HasSmallerWords s ss (All-from_recursion (HasSmallerWords s) ss up.0) (AllPairs-AreAscending ss up.1)

-- Each of the four states has lesser words than every later one.
AllPairs-states : AllPairs HasSmallerWords states
AllPairs-states = AllPairs-AreAscending states ((refl, (refl, (refl, tt))), ((refl, (refl, tt)), ((refl, tt), (tt, tt))))

-- ---- the limits

-- The threads of store buffering have no backward jump.
JumpsForward-store_buffering : All (JumpsForward x86_language) store_buffering_threads
JumpsForward-store_buffering =
    All-weaker _ _ (λ (code : List Instr) (is : IsWellFormedThread x86_language 2 code). is.forward) store_buffering_threads
    IsWellFormedProgram-store_buffering.code

-- Store buffering does not have too many items for a list.
not-HasTooManyItems-store_buffering : HasTooManyItems x86_language store_buffering_threads → ⊥
not-HasTooManyItems-store_buffering (paths, assignment, many) =
    go ((Contains-path_assignments x86_language store_buffering_threads paths JumpsForward-store_buffering).1 assignment)
  where
    -- The only path assignment does not have too many items.
    go : Contains (path_assignments x86_language store_buffering_threads) paths → ⊥
    go (zero, l, e) = omega (arith, subst (λ p. 128 < items_of_assignment x86_language store_buffering_threads p) (sym e) many)
    go (suc k, l, e) = omega (arith, l)

-- Store buffering does not have too many orders for a list.
few_orders : IsWithinOrderLimit x86_language store_buffering_threads
few_orders = (
  total_of x86_language store_buffering_threads,
  IsTotalOrderCount-total_of x86_language store_buffering_threads JumpsForward-store_buffering,
  omega arith,
)

-- ---- the report

-- The four states are those of the outcomes of store buffering in x86, sorted, without duplicates.
AreStatesOf-store_buffering : AreStatesOf store_buffering_in_x86.head (OutcomeOf (Of_x86 store_buffering_in_x86)) states
AreStatesOf-store_buffering =
    record { sorted = AllPairs-states; exactly = λ s. (IsStateOfOutcome-each_state s, Contains-IsStateOfOutcome s) }

-- The report of the example is the report of store buffering in x86.
pub IsStatesReport-store_buffering : IsStatesReport (Of_x86 store_buffering_in_x86) store_buffering_report
unfolding digits
IsStatesReport-store_buffering = record {
  within = (not-HasTooManyItems-store_buffering, few_orders);
  is_report = record { states = states; states_are = AreStatesOf-store_buffering; text_is = refl };
}
