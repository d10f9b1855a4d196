-- Proves `project_outcomes`, which returns the state of each outcome of a listing. `AreStatesOfFirst-push` adds the
-- state of the next outcome, which has the test's threads and locations (`HasOutcomeShape-of_entry`).
use Rattle.lw_report.proofs.Common.{◌≡◌, ℕ, ◌∷◌, [], ◌++◌, ◌∙◌, length, ap, subst, arith, head_of}
use Rattle.lw_report.proofs.Common.{outcomes_of, AreStatesOfFirst, ListedState}
use Rattle.lw_report.proofs.ListedStates.{HasOutcomeShape-of_entry, AreStatesOfFirst-push}
use Rattle.lw_report.proofs.states.project_outcomes.Goals as goal

pub state_of-requires-clause-outcome : goal.state_of-requires-clause-outcome
state_of-requires-clause-outcome g c =
    HasOutcomeShape-of_entry (head_of c.args.head.now) c.args.listing.now c.loop-entry.entry c.outcome.result.now
    c.requires.outcomes c.outcome.ensures

pub loop-entry-preserved : goal.loop-entry-preserved
loop-entry-preserved g c =
    AreStatesOfFirst-push _ _ c.loop-entry.invariant c.outcome.ensures
    (c.in_ok-push.ensures.items ∙ ap (λ (s : ListedState). c.loop-entry.states.items ++ s ∷ []) c.in_ok-state_of.ensures)

pub returns : goal.returns
returns g c =
    let all : c.loop-entry.entry ≡ length c.args.listing.now =
    omega (arith, c.len-entry-end.ensures.number, c.loop-entry.auto.entry-end, c.loop-entry-test.false) in
    subst (λ (n : ℕ). AreStatesOfFirst (head_of c.args.head.now) (outcomes_of c.args.listing.now) n c.loop-entry.states.items) all
    c.loop-entry.invariant
