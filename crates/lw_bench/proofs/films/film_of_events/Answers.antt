-- `film_of_events` promises the pages of all prefixes of the events. Each round appends the page of the next
-- prefix (`IsFilmOf-push`); after the loop the page of all events is appended (`IsFilmOf-whole`).
use Rattle.lw_bench.proofs.Common.{◌∙◌, ◌≡◌, length, arith}
use Rattle.lw_bench.proofs.FilmSteps.{IsFilmOf-push, IsFilmOf-whole}
use Rattle.lw_bench.proofs.films.film_of_events.Goals as goal

pub loop-count-init : goal.loop-count-init
loop-count-init g c = record { film = c.new-out.ensures.bytes; within = omega arith }

pub loop-count-preserved : goal.loop-count-preserved
loop-count-preserved g c =
    let page = c.in_ok-push_page.ensures.pushed in
    record {
      film = IsFilmOf-push _ _ _ _ _ page.0 _ page.1 c.loop-count.invariant.film page.2 page.3;
      within = omega (arith, c.loop-count-test.true);
    }

pub returns-clause-found : goal.returns-clause-found
returns-clause-found g c =
    let page = c.in_ok-push_page-2.ensures.pushed in
    let whole : c.loop-count.count ≡ length c.args.events.now =
    omega (arith, c.loop-count.invariant.within, c.loop-count-test.false) in
    IsFilmOf-whole _ _ c.args.events.now c.loop-count.count _ page.0 _ page.1 whole c.loop-count.invariant.film page.2
    (c.from.ensures ∙ page.3)
