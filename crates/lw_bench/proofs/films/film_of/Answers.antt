-- `film_of` promises the film of the test by a schedule, or a true fault of the schedule. The events are
-- those of the schedule, and the film of the events is written by `film_of_events` (`IsFilm-IsFilmOf`). A rejected
-- schedule's fault is what `read_schedule` ensures, for the head's table of names.
use Rattle.lw_bench.proofs.Common.{IsFilm, ◌≡◌, ◌⊎◌, inl, inr, ap, refl, IfOk-weaker, Err-clause_propagated}
use Rattle.lw_bench.proofs.Common.{TestHead, litmus_test_of, ReplayFaultIsTrue, Memory}
use Rattle.lw_bench.proofs.FilmSteps.{IsFilm-IsFilmOf}
use Rattle.lw_bench.proofs.FaultTruths.{holds-schedule_run_fault}
use Rattle.lw_bench.proofs.films.film_of.Goals as goal

-- A fault of the schedule, unless memory ran out, is a true fault of the film.
pub returns-in_err-events-clause-fault : goal.returns-in_err-events-clause-fault
returns-in_err-events-clause-fault g c =
    let test = litmus_test_of c.args.test.now in
    let table = ap (λ (h : TestHead). h.locs) c.head.ensures.head in
    Err-clause_propagated _ _ c.from_residual.ensures.1
    (holds-schedule_run_fault (λ f. (f ≡ Memory) ⊎ ReplayFaultIsTrue c.args.schedule.now test f) (inl refl) _
    (λ known. inr (record {
      none = λ events is. c.in_err-events.ensures.fault known events (rw table is);
      first = rw table at (c.in_err-events.ensures.first known);
    })))

pub returns-clause-found : goal.returns-clause-found
returns-clause-found g c =
    let test = litmus_test_of c.args.test.now in
    let table = ap (λ (h : TestHead). h.locs) c.head.ensures.head in
    IfOk-weaker c.film_of_events-film.result _ (IsFilm c.args.protocol test c.args.schedule.now) (λ film pages.
    IsFilm-IsFilmOf c.args.protocol test c.args.schedule.now _ table c.in_ok-events.ensures.found c.as_slice.ensures pages)
    c.film_of_events-film.ensures.found
