-- `page_over_memory` promises the page of an x86 test's replay over a memory system. The machine starts with
-- the memory, as `new` ensures. That the page's numbers of processors and words are the test's follows from
-- the run, which preserves both.
use Rattle.lw_bench.proofs.Common.{refl, ap, ◌∙◌, length, length-map}
use Rattle.lw_bench.proofs.replay.page_over_memory.Goals as goal

-- The page is that of the state which the replay reaches from the initial state.
pub returns-clause-found : goal.returns-clause-found
returns-clause-found g c =
    let replayed = rw (c.in-Ok.ensures.program, c.in-Ok.ensures.start) at c.run-replay.ensures.replayed in
    record {
      replay = c.run-replay.result;
      state = c.run-replay.new.self.state;
      replayed = replayed;
      end_is = refl;
      page_is = c.in_ok-page.ensures;
    }

pub new-requires : goal.new-requires
new-requires g c = record { threads = c.requires.threads; words = c.requires.words }

-- The state has as many processors and words as the test, since the run preserves both numbers.
pub machine_page-page-requires : goal.machine_page-page-requires
machine_page-page-requires g c =
    let program = c.args.program.now in
    record {
      bounded = program.well_formed.head.bounded;
      threads =
          c.run-replay.ensures.processors
          ∙ ap (λ s. length s.processors) c.in-Ok.ensures.start
          ∙ length-map program.head.init_regs _
          ∙ program.well_formed.head.regs;
      words =
          c.run-replay.ensures.words
          ∙ ap (λ s. length (g.M.MemorySystem.content s.memory)) c.in-Ok.ensures.start
          ∙ ap length c.requires.words
          ∙ program.well_formed.head.words;
    }
