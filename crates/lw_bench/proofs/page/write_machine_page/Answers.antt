-- `write_machine_page` promises the page of an x86 test's replay. It is the parts in sequence, as the callees
-- ensure them (`machine_page-MachineParts`). Registers and words are those of `state`, which is required to be the
-- outcome of the machine's state.
use Rattle.lw_bench.proofs.Common.{◌∙◌, length, ap, on_ok_weaker, head_of, string_bytes, FinalState}
use Rattle.lw_bench.proofs.Pages.{machine_page-MachineParts}
use Rattle.lw_bench.proofs.page.write_machine_page.Goals as goal

pub write_processors-requires : goal.write_processors-requires
write_processors-requires g c = record {
  bounded = c.requires.bounded;
  threads = c.requires.threads;
  words = c.requires.words;
  regs = c.as_slice.ensures ∙ ap (λ (o : FinalState). o.regs) (c.state.view_is ∙ c.requires.outcome);
}

pub write_memory-requires : goal.write_memory-requires
write_memory-requires g c = ap (λ m. length (g.M.MemorySystem.content m)) c.memory.ensures.memory ∙ c.requires.words

pub write_words-requires : goal.write_words-requires
write_words-requires g c =
    ap length (c.as_slice-2.ensures ∙ ap (λ (o : FinalState). o.words) (c.state.view_is ∙ c.requires.outcome)) ∙ c.requires.words

-- The parts written in sequence are the page.
pub returns : goal.returns
returns g c =
    on_ok_weaker c.write_words.result
    (λ is. machine_page-MachineParts (head_of c.args.head.now) c.args.replay _ _ _ _ _ _ (record {
      after_first_lines = string_bytes c.write_first_lines.new.out;
      after_processors = string_bytes c.write_processors.new.out;
      after_memory = string_bytes c.write_memory.new.out;
      memory_words = g.M.MemorySystem.memory c.memory.result.now;
      content_words = c.as_slice-2.result.now;
      first_lines_are = c.in_ok-write_first_lines.ensures;
      processors_are = c.in_ok-write_processors.ensures;
      memory_line_is = c.in_ok-write_memory.ensures;
      content_line_is = is;
      is_memory = ap (λ m. g.M.MemorySystem.memory m) c.memory.ensures.memory;
      is_content = c.as_slice-2.ensures ∙ ap (λ (o : FinalState). o.words) (c.state.view_is ∙ c.requires.outcome);
    })) c.write_words.ensures
