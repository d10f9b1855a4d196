-- `page_of_source` promises the page of a source test's replay. The replay starts in the initial state, as
-- `SourceRun::new` ensures. That the page's numbers of threads and words are the test's follows from the run,
-- which preserves both.
use Rattle.lw_bench.proofs.Common.{refl, ap, ◌∙◌, length, length-map, State}
use Rattle.lw_bench.proofs.replay.page_of_source.Goals as goal

-- The page is that of the state which the replay reaches from the initial state.
pub returns-clause-found : goal.returns-clause-found
returns-clause-found g c =
    let replayed = rw (c.in_ok-run.ensures.program, c.in_ok-run.ensures.state) at c.run-replay.ensures.replayed in
    record {
      replay = c.run-replay.result;
      state = c.run-replay.new.self.state;
      replayed = replayed;
      end_is = refl;
      page_is = c.in_ok-page.ensures;
    }

-- The state has as many threads and words as the test, since the run preserves both numbers.
pub source_page-page-requires : goal.source_page-page-requires
source_page-page-requires g c =
    let source = c.args.source.now in
    record {
      bounded = source.well_formed.head.bounded;
      threads =
          c.run-replay.ensures.threads
          ∙ ap (λ (s : State). length s.threads) c.in_ok-run.ensures.state
          ∙ length-map source.head.init_regs _
          ∙ source.well_formed.head.regs;
      words =
          c.run-replay.ensures.words
          ∙ ap (λ (s : State). length s.words) c.in_ok-run.ensures.state
          ∙ source.well_formed.head.words;
    }
