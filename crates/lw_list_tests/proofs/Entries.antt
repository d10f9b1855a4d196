-- The outcomes of a list, if its entries are of a test. The proofs of the tests of verdicts use this.
use Rattle.lw_outcome_map.specs.Listings.{OutcomeEntries}
use Rattle.std.proofs.Common.{◌≡◌, ℕ, List, zero, suc, Some, [], ◌∷◌, length, subst, slice_get, arith, All}
use Rattle.std.proofs.lemmas.Option.{same_Some, slice_get_within}
use Rattle.std.proofs.lemmas.List.Elements.{All-map, All-weaker}
use Rattle.lw_base.specs.declared.event.Event.{Event}
use Rattle.lw_base.specs.Heads.{TestHead}
use Rattle.lw_base.specs.Outcomes.{FinalState, HasOutcomeShape}
use Rattle.lw_base.specs.ListedOutcomes.{IsListedOutcome}
use Rattle.lw_outcome_map.specs.Listings.{outcomes_of}

-- If all entries are of a test, the outcome at an index has the test's threads and locations.
pub outcome_of_test : (head : TestHead) (entries : OutcomeEntries) (k : ℕ) (o : FinalState)
    → All (IsListedOutcome head) entries
    → slice_get (outcomes_of entries) k ≡ Some o
    → HasOutcomeShape head.threads (length head.locs) o
outcome_of_test head [] k o all at = absurd (omega (arith, slice_get_within (outcomes_of {Kept = List Event} []) k o at))
outcome_of_test head (e ∷ entries) zero o all at =
    subst (HasOutcomeShape head.threads (length head.locs)) (same_Some e.0 o at) (all 0 e (omega arith)).outcome
outcome_of_test head (e ∷ entries) (suc k) o all at =
    outcome_of_test head entries k o (λ j d lt. all (suc j) d (omega (arith, lt))) at

-- If all entries are of a test, all outcomes have the test's threads and locations.
pub outcomes_of_test : (head : TestHead) (entries : OutcomeEntries)
    → All (IsListedOutcome head) entries
    → All (HasOutcomeShape head.threads (length head.locs)) (outcomes_of entries)
outcomes_of_test head entries are =
    All-map (HasOutcomeShape head.threads (length head.locs)) (λ (e : FinalState × List Event). e.0) entries
    (All-weaker (IsListedOutcome head) (λ (e : FinalState × List Event). HasOutcomeShape head.threads (length head.locs) e.0)
    (λ e is. is.outcome) entries are)

-- An empty list has no outcomes, so all of its outcomes have the test's threads and locations.
pub outcomes_of-empty : (head : TestHead) (entries : OutcomeEntries)
    → length entries ≡ 0
    → All (HasOutcomeShape head.threads (length head.locs)) (outcomes_of entries)
outcomes_of-empty head [] none = λ k o within. absurd (omega (arith, within))
outcomes_of-empty head (e ∷ entries) none = absurd (omega (arith, none))
