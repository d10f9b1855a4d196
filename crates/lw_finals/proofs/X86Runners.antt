-- Runs of the orders of an x86 test's items over any memory correspond to runs over flat memory; and so do
-- their events. For the loop of the x86 runner, which runs over MESI caches.
use Rattle.lw_finals.proofs.Common.{◌≡◌, ℕ, ◌+◌, ◌≤◌, Bool, true, false, List, [], ◌∷◌, ◌++◌, length, Some}
use Rattle.lw_finals.proofs.Common.{◌↔◌, ◌==◌, Ok, Err, refl, sym, ap, ◌∙◌, subst, IsTrue, eqb-true, eq-eqb}
use Rattle.lw_finals.proofs.Common.{RunsTo-append, same_Some, FinalState, Event, Stop, flat_memory, Invariant}
use Rattle.lw_finals.proofs.Common.{Memory, without_evictions, IsAtPosition, MachineState, position_of}
use Rattle.lw_finals.proofs.Common.{EventResult, MachineTransition, over_flat_memory, MachineRunsTo}
use Rattle.lw_finals.proofs.Common.{initial_machine_state, IsInitialMemory, MachineTransition-deterministic}
use Rattle.lw_finals.proofs.Common.{Instr, X86Test, Item, event_by, event_of, X86ItemTransition}
use Rattle.lw_finals.proofs.Common.{x86_item_system, X86FollowsPathsToEnd}
use Rattle.lw_finals.proofs.OrderSteps.{RunsContinueFrom, IsItemAt, not-Ran-if_not_enabled}
use Rattle.lw_finals.proofs.OrderSteps.{RunsContinueFrom-next}

-- If a thread is at position p, and q is the position of its item, which is no drain, then p is q if and only if the item's
-- event is at its position.
pub IsAtPosition-iff_item : {M : Type 0} (a : Item) (s : MachineState M) (p q : ℕ)
    → a.is_drain ≡ false
    → q ≡ a.position
    → position_of s a.thread ≡ Some p
    → IsTrue (p == q) ↔ IsAtPosition (event_of a) a.position s
IsAtPosition-iff_item a s p q step same at =
    subst (λ (d : Bool). IsTrue (p == q) ↔ IsAtPosition (event_by d a.thread) a.position s) (sym step)
    ((λ t. at ∙ ap Some (eqb-true p q t ∙ same)), (λ h. eq-eqb p q (same_Some p a.position (sym at ∙ h) ∙ sym same)))

-- An item's event, a drain (b is `true`) or a step, is no eviction.
no_eviction : (b : Bool) (t : ℕ) → without_evictions (event_by b t ∷ []) ≡ event_by b t ∷ []
no_eviction true t = refl
no_eviction false t = refl

module _ {M : Type 0} (mem : Memory M) where
  -- The event of an item, a drain (b is `true`) or a step, is at position j in a state if and only if it is so in the state
  -- over flat memory.
  IsAtPosition-iff_flat : (b : Bool) (t j : ℕ) (s : MachineState M)
      → IsAtPosition (event_by b t) j s ↔ IsAtPosition (event_by b t) j (over_flat_memory mem s)
  IsAtPosition-iff_flat true t j s = ((λ h. h), (λ h. h))
  IsAtPosition-iff_flat false t j s = ((λ h. h), (λ h. h))

  -- If a memory that satisfies its invariant was reset to the test's initial words, and has a processor for each thread, it is
  -- an initial memory of the test.
  pub IsInitialMemory-after_reset : (test : X86Test) (m : M) (inv : Invariant M) {program threads : List (List Instr)}
      {words : List ℕ}
      → inv.sound m
      → length program ≤ inv.cpus m
      → mem.content m ≡ words
      → program ≡ threads
      → threads ≡ test.threads
      → words ≡ test.head.init_words
      → IsInitialMemory mem inv test m
  IsInitialMemory-after_reset test m inv sound cpus content same is initial = record {
    sound = sound;
    cpus = subst (λ (p : List (List Instr)). length p ≤ inv.cpus m) (same ∙ is) cpus;
    words = content ∙ initial;
  }

  module _ (test : X86Test) (m : M) (items : List Item) where
    -- Some run over this memory reaches the state `now`; and over flat memory the order's runs continue from its content after the first k
    -- items.
    pub record HasFlatRuns (order : List ℕ) (k : ℕ) (now : MachineState M) : Type 0 where
      pub events : List Event
      pub reached : MachineRunsTo mem test.threads events (initial_machine_state test m) now
      pub first :
          RunsContinueFrom (x86_item_system flat_memory test test.head.init_words) items order k (over_flat_memory mem now)

    -- An event that is no eviction has the same effect over the memory as over flat memory.
    abbrev pub EventsAreFlat : Type 0
    EventsAreFlat =
        (events : List Event) (s after : MachineState M) (e : Event) (answer : EventResult)
        → MachineRunsTo mem test.threads events (initial_machine_state test m) s
        → without_evictions (e ∷ []) ≡ e ∷ []
        → MachineTransition mem test.threads e s answer after
        → MachineTransition flat_memory test.threads e (over_flat_memory mem s) answer (over_flat_memory mem after)

    module _ (over_flat : EventsAreFlat) where
      -- If a run over the memory reaches `now`, and the event of an item is done there, it is done over flat memory too.
      done_flat : (order : List ℕ) (k : ℕ) (item : Item) (now after : MachineState M) (answer : EventResult)
          → HasFlatRuns order k now
          → MachineTransition mem test.threads (event_of item) now answer after
          → MachineTransition flat_memory test.threads (event_of item) (over_flat_memory mem now) answer
          (over_flat_memory mem after)
      done_flat order k item now after answer r done =
          over_flat r.events now after (event_of item) answer r.reached (no_eviction item.is_drain item.thread) done

      -- If the order's runs over flat memory continue from the content of `now`, and its next item leads from `now` to `next`,
      -- they continue from the content of `next` after one more item.
      pub HasFlatRuns-next : (order : List ℕ) (k : ℕ) (item : Item) (now next : MachineState M)
          → IsItemAt items order k item
          → HasFlatRuns order k now
          → X86ItemTransition mem test.threads item now next
          → HasFlatRuns order (k + 1) next
      HasFlatRuns-next order k item now next one r carried =
          let done = done_flat order k item now next (Ok tt) r carried.done in
          record {
            events = r.events ++ event_of item ∷ [];
            reached =
                RunsTo-append (MachineTransition mem test.threads) r.events (event_of item ∷ []) (initial_machine_state test m)
                now next r.reached (next, carried.done, refl);
            first =
                RunsContinueFrom-next (x86_item_system flat_memory test test.head.init_words) items order k item _ _ one (record {
                  is_at_position = (IsAtPosition-iff_flat _ item.thread item.position now).0 carried.is_at_position;
                  done = done;
                }) (λ other c.
                (MachineTransition-deterministic test.threads (event_of item) (over_flat_memory mem now) other _ (Ok tt) (Ok tt)
                c.done done).1) r.first;
          }

      -- If the order's runs continue from the content of `now`, and its next item is refused there, or its thread is not at it,
      -- the order has no outcome.
      pub not-outcome_if_refused : (order : List ℕ) (k : ℕ) (item : Item) (now after : MachineState M)
          → IsItemAt items order k item
          → HasFlatRuns order k now
          → (IsAtPosition (event_of item) item.position now
          → (stop : Stop) × MachineTransition mem test.threads (event_of item) now (Err stop) after)
          → (o : FinalState)
          → X86FollowsPathsToEnd flat_memory test test.head.init_words items order o
          → ⊥
      not-outcome_if_refused order k item now after one r refused o run =
          not-Ran-if_not_enabled _ items order k item (over_flat_memory mem now) one not-enabled r.first run.end run.ran
        where
          -- The item is not enabled over flat memory either.
          not-enabled : (next : MachineState (List ℕ))
              → X86ItemTransition flat_memory test.threads item (over_flat_memory mem now) next
              → ⊥
          not-enabled next c =
              let no = refused ((IsAtPosition-iff_flat item.is_drain item.thread item.position now).1 c.is_at_position) in
              let done = done_flat order k item now after (Err no.0) r no.1 in
              let same =
              (MachineTransition-deterministic _ (event_of item) (over_flat_memory mem now) next _ (Ok tt) _ c.done done).0 in
              cc
