-- `read_test` promises the frame's test if it returns one, and otherwise that the frame has none, and why.
-- The three calls are joined step by step: threads (`MatchResult-propagated`), then parts (`MatchResult-part`). `FrameHasTest-ColumnsRead`
-- makes a test of the frame from the threads, and each clause of the fault is a field of its refusal.
use Rattle.lw_statements.proofs.Common.{refl, ◌∙◌, IfOk, length-map, MatchResult-weaker, head_of, test_of}
use Rattle.lw_statements.proofs.Common.{all_texts, cells_texts, frame_of, FrameHasTest, grammar_of}
use Rattle.lw_statements.proofs.Exits.{MatchResult-propagated, MatchResult-part}
use Rattle.lw_statements.proofs.Threads.{ColumnsRefused-out_of_memory, FrameHasTest-ColumnsRead}
use Rattle.lw_statements.proofs.api.Forms.{IsGrammar-of_spelling, IsUnreservedName-name_of}
use Rattle.lw_statements.proofs.api.Tests.{well_formed_test}
use Rattle.lw_statements.proofs.read.read_test.Goals as goal

-- The threads, with zeros for their new locations, are a test of the frame; or the refusal of the threads is that of the frame.
pub returns : goal.returns
returns g c =
    let spelling = g.L.StatementReader.spelling in
    let grammar = grammar_of spelling in
    let frame = c.args.frame in
    let columns = rw c.as_slice.ensures at c.read_columns-threads.ensures in
    let threads =
    MatchResult-propagated _ _ _ _ _ columns c.with_zeros-threads.ensures (ColumnsRefused-out_of_memory grammar _ _) in
    let made = MatchResult-part _ _ _ _ _ _ threads c.parts_of.ensures in
    let found : IfOk c.parts_of.result (λ parts. FrameHasTest grammar (frame_of frame) (test_of parts.head parts.threads)) =
    MatchResult-weaker c.parts_of.result made (λ parts m.
    rw (m.0, m.1.0.0)
    (FrameHasTest-ColumnsRead grammar (head_of frame.head) (head_of frame.head) refl (all_texts frame.cells) parts.threads _ _
    c.requires.arch frame.well_formed.words m.1.1 m.1.0.1.bounded refl)) (λ f refused. tt) in
    record {
      found = found;
      well_formed =
          MatchResult-weaker c.parts_of.result found (λ parts has.
          well_formed_test grammar (IsGrammar-of_spelling spelling g.L.StatementReader.statement_of c.requires.lawful)
          (IsUnreservedName-name_of spelling) (frame_of frame) (test_of parts.head parts.threads) frame.well_formed
          (length-map frame.cells cells_texts ∙ frame.columns) has) (λ f refused. tt);
      fault =
          MatchResult-weaker c.parts_of.result made (λ parts m. tt)
          (λ f refused known s has. refused.none known has.threads (has.says, has.bounded));
      place = MatchResult-weaker c.parts_of.result made (λ parts m. tt) (λ f refused. refused.place frame.len frame.places);
      memory = MatchResult-weaker c.parts_of.result made (λ parts m. tt) (λ f refused. f.memory);
      cause = MatchResult-weaker c.parts_of.result made (λ parts m. tt) (λ f refused. refused.cause);
    }
