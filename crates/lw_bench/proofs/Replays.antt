-- From the page of events to the page of a schedule: if the events are those of the schedule, their page is the replay's. `page_of`
-- promises its page by this.
use Rattle.lw_bench.proofs.Common.{◌≡◌, ℕ, List, subst, Event, End, IsSchedule, Protocol, LitmusTest}
use Rattle.lw_bench.proofs.Common.{head_of_test, IsPageOf, IsReplayPage}

-- If a schedule was read as events, the page of the replay by these events is the page of the replay by the schedule.
pub IsReplayPage-IsPageOf : {locs : List (List ℕ)} {events listed : List Event} (protocol : Protocol) (test : LitmusTest)
    (schedule page : List ℕ) (end : End)
    → locs ≡ (head_of_test test).locs
    → IsSchedule locs schedule events
    → listed ≡ events
    → IsPageOf protocol test listed page end
    → IsReplayPage protocol test schedule page end
IsReplayPage-IsPageOf {events} protocol test schedule page end table is_schedule all is_page = record {
  events = events;
  is_schedule = subst (λ l. IsSchedule l schedule events) table is_schedule;
  is_page = subst (λ (es : List Event). IsPageOf protocol test es page end) all is_page;
}
