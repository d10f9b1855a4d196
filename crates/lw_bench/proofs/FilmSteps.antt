-- Films of replays: one more page, and from what was read to the film of a schedule. The loop of
-- `film_of_events` goes by the first, `film_of` by the second.
use Rattle.lw_bench.proofs.Common.{add-one, IsFilm, ◌≡◌, ℕ, suc, ◌+◌, List, ◌++◌, length, take, take_all}
use Rattle.lw_bench.proofs.Common.{codes, sym, subst, arith, Bytes, Event, End, IsSchedule, Protocol}
use Rattle.lw_bench.proofs.Common.{LitmusTest, head_of_test, IsPageOf, IsFilmOf}

-- Appending the page of the prefix of n events extends the film of the first n prefixes to `n + 1`.
pub IsFilmOf-push : (protocol : Protocol) (test : LitmusTest) (events : List Event) (n : ℕ) (before page new : Bytes) (end : End)
    → IsFilmOf protocol test events n before
    → IsPageOf protocol test (take n events) page end
    → new ≡ before ++ (page ++ codes "\n")
    → IsFilmOf protocol test events (n + 1) new
IsFilmOf-push protocol test events n before page new end film is appended = rw add-one (before, page, end, film, is, appended)

-- Appending the page of all events to the film of the shorter prefixes gives the whole film.
pub IsFilmOf-whole : (protocol : Protocol) (test : LitmusTest) (events : List Event) (n : ℕ) (before page new : Bytes) (end : End)
    → n ≡ length events
    → IsFilmOf protocol test events n before
    → IsPageOf protocol test events page end
    → new ≡ before ++ (page ++ codes "\n")
    → IsFilmOf protocol test events (suc (length events)) new
IsFilmOf-whole protocol test events n before page new end whole film is appended = (
  before,
  page,
  end,
  subst (λ k. IsFilmOf protocol test events k before) whole film,
  subst (λ (es : List Event). IsPageOf protocol test es page end) (sym (take_all (length events) events (omega arith))) is,
  appended,
)

-- If a schedule was read as events, the film of these events is the film of the schedule.
pub IsFilm-IsFilmOf : {locs : List (List ℕ)} {events listed : List Event} (protocol : Protocol) (test : LitmusTest)
    (schedule film : Bytes)
    → locs ≡ (head_of_test test).locs
    → IsSchedule locs schedule events
    → listed ≡ events
    → IsFilmOf protocol test listed (suc (length listed)) film
    → IsFilm protocol test schedule film
IsFilm-IsFilmOf {events} protocol test schedule film table is_schedule all pages = record {
  events = events;
  is_schedule = subst (λ l. IsSchedule l schedule events) table is_schedule;
  pages = subst (λ (es : List Event). IsFilmOf protocol test es (suc (length es)) film) all pages;
}
