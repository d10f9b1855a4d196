-- If every state found is expanded, all reachable final states are found. By induction on the length of a run
-- to the final state: its first event leads to a state that a found one covers, and from there a shorter run
-- has the same end. The completeness of lists rests on this.
use Rattle.lw_search.proofs.Common.{◌≡◌, ℕ, zero, suc, ◌≤◌, Some, List, [], ◌∷◌, length, sym, subst, arith}
use Rattle.lw_search.proofs.Common.{slice_get, IsTrue, slice_get_within, Event, flat_memory, Instr}
use Rattle.lw_search.proofs.Common.{MachineRunsTo, is_final, State, Components, FoundStates, IsCovered}
use Rattle.lw_search.proofs.Common.{SearchInvariant}

module _ (program : List (List Instr)) (found : List State)
    (is_covered : (i : ℕ) (s : State) → slice_get found i ≡ Some s → (e : Event) → IsCovered program found s e) where
  -- The state is among those found.
  abbrev pub IsFound : State → Type 0
  IsFound s = (i : ℕ) × (slice_get found i ≡ Some s)

  -- If the successors of all states found are covered, each final state that a run from one of them reaches is found.
  pub IsFound-of_run : (n : ℕ) (events : List Event) (s end : State)
      → length events ≤ n
      → IsFound s
      → MachineRunsTo flat_memory program events s end
      → IsTrue (is_final program end)
      → IsFound end
  IsFound-of_run n [] s end few has ran final = subst IsFound (sym ran) has
  IsFound-of_run zero (e ∷ es) s end few has ran final = absurd (omega (arith, few))
  IsFound-of_run (suc n) (e ∷ es) s end few has (mid, done, ran) final =
      let r = is_covered has.0 s has.1 e mid done in
      let m = r.3 es end ran final in
      IsFound-of_run n m.0 r.0 end (omega (arith, few, m.1)) (r.1, r.2) m.2 final

-- Every final state reachable from the start is among those found.
pub final_state-found : (program : List (List Instr)) (start : State) (tables : Components) (visited : FoundStates)
    (found : List State)
    → SearchInvariant program start tables visited found (length found)
    → (events : List Event) (end : State)
    → MachineRunsTo flat_memory program events start end
    → IsTrue (is_final program end)
    → (i : ℕ) × (slice_get found i ≡ Some end)
final_state-found program start tables visited found invariant events end ran final =
    let is_covered : (i : ℕ) (s : State) → slice_get found i ≡ Some s → (e : Event) → IsCovered program found s e =
    λ i s at. invariant.covered i s (slice_get_within found i s at) at in
    IsFound-of_run program found is_covered (length events) events start end (omega arith) (0, invariant.first) ran final
