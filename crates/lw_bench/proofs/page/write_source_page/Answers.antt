-- `write_source_page` promises the page of a source test's replay. It is the parts in sequence, as the
-- callees ensure them (`source_page-SourceParts`). Registers and words are those of `state`, which is required to be
-- the outcome of the run's state.
use Rattle.lw_bench.proofs.Common.{◌∙◌, length, ap, on_ok_weaker, head_of, string_bytes, FinalState}
use Rattle.lw_bench.proofs.Pages.{source_page-SourceParts}
use Rattle.lw_bench.proofs.page.write_source_page.Goals as goal

pub write_threads-requires : goal.write_threads-requires
write_threads-requires g c = record {
  bounded = c.requires.bounded;
  threads = c.requires.threads;
  regs = c.as_slice.ensures ∙ ap (λ (o : FinalState). o.regs) (c.state.view_is ∙ c.requires.outcome);
}

pub write_words-requires : goal.write_words-requires
write_words-requires g c =
    ap length (c.as_slice-2.ensures ∙ ap (λ (o : FinalState). o.words) (c.state.view_is ∙ c.requires.outcome)) ∙ c.requires.words

-- The parts written in sequence are the page.
pub returns : goal.returns
returns g c =
    on_ok_weaker c.write_words.result (λ is. source_page-SourceParts (head_of c.args.head.now) c.args.replay _ _ _ (record {
      after_first_lines = string_bytes c.write_first_lines.new.out;
      after_threads = string_bytes c.write_threads.new.out;
      words = c.as_slice-2.result.now;
      first_lines_are = c.in_ok-write_first_lines.ensures;
      threads_are = c.in_ok-write_threads.ensures;
      memory_line_is = is;
      is_memory = c.as_slice-2.ensures ∙ ap (λ (o : FinalState). o.words) (c.state.view_is ∙ c.requires.outcome);
    })) c.write_words.ensures
