-- The states of a listing have entries in it, and each entry has a schedule. For `schedules.rt`, which writes
-- the schedule of each state's entry.
use Rattle.lw_report.proofs.Common.{◌≡◌, ℕ, ◌<◌, Some, List, [], ◌∷◌, ◌++◌, refl, length, map, slice_get, sym}
use Rattle.lw_report.proofs.Common.{ap, ◌∙◌, append_assoc, subst, codes, arith, All, slice_index_or, flat_map}
use Rattle.lw_report.proofs.Common.{decimal, AllByRecursion, length-map, All-weaker, All-get_or}
use Rattle.lw_report.proofs.Common.{length-keys_of, slice_get_within, get_or_from_slice_get, Bytes, NameTable}
use Rattle.lw_report.proofs.Common.{TestHead, IsEvent, schedule_text, Event, OutcomeEntries, outcomes_of}
use Rattle.lw_report.proofs.Common.{schedules_of, labels, labelled_words, schedule_line, observed, scheduled}
use Rattle.lw_report.proofs.Common.{scheduled_lines, count_line, schedule_list_text, ListedState}
use Rattle.lw_report.proofs.Common.{IsFirstWithWords, AreListedStates}
use Rattle.lw_report.proofs.Lines.{state_line-of_labels}

-- If a state has the index of its first outcome, that is below the length of the listing.
entry_index_in_range : (head : TestHead) (entries : OutcomeEntries) (s : ListedState)
    → IsFirstWithWords head (outcomes_of entries) s
    → s.entry < length entries
entry_index_in_range head entries s first =
    omega (arith, slice_get_within (outcomes_of entries) s.entry first.outcome first.at, length-keys_of entries)

-- The indices of all states' first outcomes are below the length of the listing.
pub entry_indices_in_range : (head : TestHead) (entries : OutcomeEntries) (states : List ListedState)
    → AreListedStates head (outcomes_of entries) states
    → All (λ (s : ListedState). s.entry < length entries) states
entry_indices_in_range head entries states are = All-weaker _ _ (λ s. entry_index_in_range head entries s) states are.entries

-- If all states' indices are below a length, so is that of the state at k.
pub state_entry_in_range : (len : ℕ) (states : List ListedState) (k : ℕ) (s : ListedState)
    → All (λ (t : ListedState). t.entry < len) states
    → k < length states
    → s ≡ slice_index_or states k s
    → s.entry < len
state_entry_in_range len states k s all lt is =
    subst (λ (t : ListedState). t.entry < len) (sym is) (All-get_or (λ (t : ListedState). t.entry < len) states k s lt all)

-- If all schedules of a listing name only the test's locations, so does the one at an index.
pub IsEvent-schedule_of_entry : (head : TestHead) (entries : OutcomeEntries) (k : ℕ) (events : List Event)
    → All (AllByRecursion (IsEvent head.locs)) (schedules_of entries)
    → slice_get (schedules_of entries) k ≡ Some events
    → AllByRecursion (IsEvent head.locs) events
IsEvent-schedule_of_entry head entries k events all at =
    let P : List Event → Type 0 = AllByRecursion (IsEvent head.locs) in
    subst P (get_or_from_slice_get _ k _ _ at) (All-get_or P _ k events (slice_get_within _ k events at) all)

-- What the two lines of a listed state are written from: its words, and the text of its entry's schedule.
pub record ScheduledParts (names : NameTable) (schedules : List (List Event)) (s : ListedState) (words : List ℕ)
    (text : Bytes) : Type 0 where
  pub entry : ℕ
  pub events : List Event
  pub are_words : words ≡ s.words
  pub is_entry : entry ≡ s.entry
  pub at : slice_get schedules entry ≡ Some events
  pub is_text : text ≡ schedule_text names events

-- If words and text are those of a listed state and its schedule, the lines that are written from them are its two lines.
pub scheduled_lines-of_parts : (names : NameTable) (schedules : List (List Event)) (labels : List Bytes) (s : ListedState)
    (words : List ℕ) (text : Bytes)
    → ScheduledParts names schedules s words text
    → (labelled_words labels words ++ codes "\n") ++ (codes " " ++ (text ++ codes "\n"))
    ≡ (labelled_words labels s.words ++ codes "\n") ++ schedule_line names schedules s.entry
scheduled_lines-of_parts names schedules labels s words text parts =
    ap (λ ws. (labelled_words labels ws ++ codes "\n") ++ (codes " " ++ (text ++ codes "\n"))) parts.are_words
    ∙ ap (λ (t : Bytes). (labelled_words labels s.words ++ codes "\n") ++ (codes " " ++ (t ++ codes "\n")))
    (parts.is_text ∙ ap (schedule_text names) (sym (get_or_from_slice_get schedules parts.entry parts.events [] parts.at)))
    ∙ ap (λ e. (labelled_words labels s.words ++ codes "\n") ++ schedule_line names schedules e) parts.is_entry

-- The two lines of a state, written from the labels, are those of the definitions.
pub scheduled_lines-as_written : (head : TestHead) (schedules : List (List Event)) (names : List Bytes) (s : ListedState)
    (out new : Bytes)
    → names ≡ labels head (observed head)
    → new ≡ out ++ ((labelled_words names s.words ++ codes "\n") ++ schedule_line head.locs schedules s.entry)
    → new ≡ out ++ scheduled_lines head (scheduled schedules s)
scheduled_lines-as_written head schedules names s out new are written =
    written ∙ ap (λ t. out ++ (t ++ schedule_line head.locs schedules s.entry)) (state_line-of_labels head names _ are)

-- The lines of all states with their schedules, state by state, are the lines of the scheduled states.
scheduled_lines-of_scheduled : (head : TestHead) (schedules : List (List Event)) (states : List ListedState)
    → flat_map (λ (s : ListedState). scheduled_lines head (scheduled schedules s)) states
    ≡ flat_map (scheduled_lines head) (map (scheduled schedules) states)
scheduled_lines-of_scheduled head schedules [] = refl
scheduled_lines-of_scheduled head schedules (s ∷ states) =
    ap (λ t. scheduled_lines head (scheduled schedules s) ++ t) (scheduled_lines-of_scheduled head schedules states)

-- The text that is written first in a list of schedules is the line of the test's name and that of the number of states.
pub schedules_head-as_written : (name : Bytes) (n : ℕ) (h : Bytes) (m : ℕ)
    → name ≡ h
    → n ≡ m
    → codes "Test " ++ (name ++ (codes "\nStates " ++ (decimal n ++ codes "\n")))
    ≡ (codes "Test " ++ (h ++ codes "\n")) ++ count_line m
schedules_head-as_written name n h m is_name is_number = rw (is_name, is_number) (simp append_assoc)

-- Concatenation of five parts is associative.
append_assoc-five : (a b c d e : Bytes) → ((a ++ (b ++ c)) ++ d) ++ e ≡ a ++ (b ++ (c ++ (d ++ e)))
append_assoc-five a b c d e = simp append_assoc

-- The parts of the list in sequence: from nothing to its title and its end.
pub record ListParts (head : TestHead) (schedules : List (List Event)) (states : List ListedState) (end : Bytes) : Type 0 where
  pub first : Bytes
  pub title : Bytes
  pub name : Bytes
  pub count : ℕ
  pub starts_empty : first ≡ []
  pub title_is : title ≡ first ++ (codes "Test " ++ (name ++ (codes "\nStates " ++ (decimal count ++ codes "\n"))))
  pub end_is : end ≡ title ++ flat_map (λ (s : ListedState). scheduled_lines head (scheduled schedules s)) states
  pub is_name : name ≡ head.name
  pub is_count : count ≡ length states

-- If the parts of a list of schedules were written in sequence, their text is the list.
pub schedule_list_text-of_parts : (head : TestHead) (schedules : List (List Event)) (states : List ListedState) (end : Bytes)
    → ListParts head schedules states end
    → end ≡ schedule_list_text head (map (scheduled schedules) states)
schedule_list_text-of_parts head schedules states end parts =
    let all : Bytes = flat_map (scheduled_lines head) (map (scheduled schedules) states) in
    let len : ℕ = length (map (scheduled schedules) states) in
    let begun : parts.title ≡ (codes "Test " ++ (head.name ++ codes "\n")) ++ count_line len =
    parts.title_is
    ∙ ap (λ t. t ++ (codes "Test " ++ (parts.name ++ (codes "\nStates " ++ (decimal parts.count ++ codes "\n")))))
    parts.starts_empty
    ∙ schedules_head-as_written parts.name parts.count head.name len parts.is_name
    (parts.is_count ∙ sym (length-map states (scheduled schedules))) in
    parts.end_is
    ∙ ap (λ t. parts.title ++ t) (scheduled_lines-of_scheduled head schedules states)
    ∙ ap (λ t. t ++ all) begun
    ∙ append_assoc-five (codes "Test ") head.name (codes "\n") (count_line len) all
