-- The report of a test's states, and the list of their schedules, by docs/FORMAT.md, which is close to what herd prints.
use Rattle.std.specs.Prelude.{◌≡◌, ℕ, Bool, true, false, List, [], ◌++◌, length, map, codes, zip, slice_index_or, All}
use Rattle.std.specs.List.{flat_map}
use Rattle.std.specs.Fmt.{decimal}
use Rattle.lw_base.specs.Types.{Bytes}
use Rattle.lw_base.specs.ConditionTexts.{site_text, assignment, condition_text}
use Rattle.lw_base.specs.Heads.{TestHead}
use Rattle.lw_base.specs.Outcomes.{FinalState}
use Rattle.lw_base.specs.Schedules.{schedule_text}
use Rattle.lw_base.specs.Texts.{joined}
use Rattle.lw_base.specs.declared.event.Event.{Event}
use Rattle.lw_base.specs.declared.head.Quant.{Quant}
use Rattle.lw_base.specs.declared.head.Quant.TheVariants.{Exists, NotExists, Forall}
use Rattle.lw_base.specs.declared.head.Seen.{Seen}
use Rattle.lw_report.specs.Judgement.{positive, negative, verdict_of, observation_of}
use Rattle.lw_report.specs.Observed.{observed}
use Rattle.lw_report.specs.States.{ProjectedState, AreStatesOf, IsSmallestOf, ListedState, projection_of}
use Rattle.lw_report.specs.declared.judgement.Claim.{Claim}
use Rattle.lw_report.specs.declared.judgement.Claim.TheVariants.{Exact, Listed}
use Rattle.lw_report.specs.declared.judgement.Verdict.{Verdict}
use Rattle.lw_report.specs.declared.judgement.Verdict.TheVariants as verdict
use Rattle.lw_report.specs.declared.judgement.Observation.{Observation}
use Rattle.lw_report.specs.declared.judgement.Observation.TheVariants as seen

-- ---- States.

-- The text `name=word;`.
abbrev pub word_text : TestHead → (Seen × ℕ) → Bytes
word_text head seen = assignment (site_text head.arch head.locs seen.0) seen.1 ++ codes ";"

-- The line of a state: the observed names with their words.
abbrev pub state_line : TestHead → List ℕ → Bytes
state_line head words = joined (codes " ") (map (word_text head) (zip (observed head) words)) ++ codes "\n"

-- The line of the number of states.
abbrev pub count_line : ℕ → Bytes
count_line states = codes "States " ++ (decimal states ++ codes "\n")

-- ---- The report.

-- What the title says of the condition: `Allowed`, `Forbidden` or `Required`.
abbrev pub kind_text : Quant → Bytes
kind_text Exists = codes "Allowed"
kind_text NotExists = codes "Forbidden"
kind_text Forall = codes "Required"

-- The printed word of a verdict.
abbrev pub verdict_text : Verdict → Bytes
verdict_text verdict.Ok = codes "Ok"
verdict_text verdict.No = codes "No"
verdict_text verdict.Unknown = codes "Unknown"

-- The printed word of an observation.
abbrev pub observation_text : Observation → Bytes
observation_text seen.Never = codes "Never"
observation_text seen.Sometimes = codes "Sometimes"
observation_text seen.Always = codes "Always"
observation_text seen.Unknown = codes "Unknown"

-- The first line: `Test`, the name, and the kind of the condition.
abbrev pub title_line : TestHead → Bytes
title_line head = codes "Test " ++ (head.name ++ (codes " " ++ (kind_text head.quant ++ codes "\n")))

-- The line of the verdict.
abbrev pub verdict_line : Claim → Quant → ℕ → ℕ → Bytes
verdict_line claim quant p q = verdict_text (verdict_of claim quant p q) ++ codes "\n"

-- The line of the numbers of states in which the proposition is true and false.
abbrev pub numbers_line : ℕ → ℕ → Bytes
numbers_line p q = codes "Positive: " ++ (decimal p ++ (codes " Negative: " ++ (decimal q ++ codes "\n")))

-- The line of the condition.
abbrev pub condition_line : TestHead → Bytes
condition_line head = codes "Condition " ++ (condition_text head ++ codes "\n")

-- The line of the observation, with the test's name and both numbers.
abbrev pub observation_line : TestHead → Claim → ℕ → ℕ → Bytes
observation_line head claim p q =
    codes "Observation " ++ (head.name ++ (codes " " ++ (observation_text (observation_of claim p q)
    ++ (codes " " ++ (decimal p ++ (codes " " ++ (decimal q ++ codes "\n")))))))

-- The line that says that the states may not be all; empty if they are all.
abbrev pub claim_line : Claim → Bytes
claim_line Exact = []
claim_line Listed = codes "Listed, not claimed complete\n"

-- The lines after the states, of which p satisfy the proposition and q do not.
abbrev pub judgement_lines : TestHead → Claim → ℕ → ℕ → Bytes
judgement_lines head claim p q =
    verdict_line claim head.quant p q
    ++ (numbers_line p q
    ++ (condition_line head
    ++ (observation_line head claim p q ++ claim_line claim)))

-- The whole report.
abbrev pub report_text : TestHead → Claim → List ProjectedState → Bytes
report_text head claim states =
    title_line head
    ++ (count_line (length states)
    ++ (flat_map (λ (s : ProjectedState). state_line head s.words) states
    ++ judgement_lines head claim (positive states) (negative states)))

-- The text is the report of a set of outcomes.
pub record IsReport (head : TestHead) (Has : FinalState → Type 0) (claim : Claim) (text : Bytes) : Type 0 where
  pub states : List ProjectedState
  pub states_are : AreStatesOf head Has states
  pub text_is : text ≡ report_text head claim states

-- ---- The list of schedules.

-- The lines of a state: its words and, after a space, its schedule.
abbrev pub scheduled_lines : TestHead → (ProjectedState × List Event) → Bytes
scheduled_lines head s = state_line head s.0.words ++ (codes " " ++ (schedule_text head.locs s.1 ++ codes "\n"))

-- The whole list: the test's name, the number of states, and the lines of each.
abbrev pub schedule_list_text : TestHead → List (ProjectedState × List Event) → Bytes
schedule_list_text head states =
    codes "Test " ++ (head.name ++ (codes "\n" ++ (count_line (length states) ++ flat_map (scheduled_lines head) states)))

-- A listed state with the schedule of its entry.
abbrev pub scheduled : List (List Event) → ListedState → ProjectedState × List Event
scheduled schedules s = (projection_of s, slice_index_or schedules s.entry [])

-- The text is the list of the states of a set of outcomes, each with a schedule that reaches the smallest outcome with its words.
pub record IsScheduleList
    (head : TestHead) (Has : FinalState → Type 0) (Leads : List Event → FinalState → Type 0) (text : Bytes) : Type 0 where
  pub states : List (ProjectedState × List Event)
  pub states_are : AreStatesOf head Has (map (λ s. s.0) states)
  pub lead : All (λ s. (o : FinalState) × IsSmallestOf head Has s.0.words o × Leads s.1 o) states
  pub text_is : text ≡ schedule_list_text head states

-- ---- The list of marked states.

-- The mark of a state: `+` if the proposition is true in it, and `-` otherwise, and a space.
abbrev pub mark_text : Bool → Bytes
mark_text true = codes "+ "
mark_text false = codes "- "

-- The line of a state, after its mark.
abbrev pub marked_line : TestHead → ProjectedState → Bytes
marked_line head s = mark_text s.holds ++ state_line head s.words

-- The lines of the states, each with its mark.
abbrev pub marked_list_text : TestHead → List ProjectedState → Bytes
marked_list_text head states = flat_map (marked_line head) states

-- The text is the list of the states of a set of outcomes, each with its mark.
pub record IsMarkedList (head : TestHead) (Has : FinalState → Type 0) (text : Bytes) : Type 0 where
  pub states : List ProjectedState
  pub states_are : AreStatesOf head Has states
  pub text_is : text ≡ marked_list_text head states
