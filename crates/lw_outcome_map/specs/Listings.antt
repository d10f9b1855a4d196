-- Lists of outcomes, each with what is kept for it: a schedule that reaches it, or nothing.
use Rattle.std.specs.Prelude.{◌≡◌, List}
use Rattle.std.specs.List.{AllPairs}
use Rattle.std.specs.Map.{keys_of, values_of}
use Rattle.std.specs.declared.cmp.Ordering.TheVariants.{Less}
use Rattle.lw_base.specs.Outcomes.{FinalState, final_state_cmp}
use Rattle.lw_base.specs.declared.event.Event.{Event}

-- A list of outcomes, each with a value of a type.
abbrev pub OutcomesWith : Type 0 → Type 0
OutcomesWith Kept = List (FinalState × Kept)

-- A list of outcomes, each with a schedule.
abbrev pub OutcomeEntries : Type 0
OutcomeEntries = OutcomesWith (List Event)

-- The outcomes of a list, without what is kept for them.
abbrev pub outcomes_of : {Kept : Type 0} → OutcomesWith Kept → List FinalState
outcomes_of entries = keys_of entries

-- The schedules of a list, without the outcomes.
abbrev pub schedules_of : OutcomeEntries → List (List Event)
schedules_of entries = values_of entries

-- The outcomes are strictly ascending, so there are no duplicates.
abbrev pub IsStrictlySorted : {Kept : Type 0} → OutcomesWith Kept → Type 0
IsStrictlySorted entries = AllPairs (λ first later. final_state_cmp first later ≡ Less) (outcomes_of entries)
