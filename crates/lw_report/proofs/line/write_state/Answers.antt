-- Proves `write_state`, which appends each word after its label, and ends the line. `labelled_words-push` adds
-- one label with its word; after the last, `labelled_words-all` says that all of the line but its end is
-- written.
use Rattle.lw_report.proofs.Common.{◌++◌, ◌∙◌, ap, append_assoc, codes, refl, get_or, arith, decimal}
use Rattle.lw_report.proofs.Common.{string_bytes, Bytes, written-two_parts, OnOk-push_str}
use Rattle.lw_report.proofs.Lines.{labelled_words-push, labelled_words-all}
use Rattle.lw_report.proofs.line.write_state.Goals as goal

-- One more label was written, with its word.
pub loop-index-preserved : goal.loop-index-preserved
loop-index-preserved g c =
    let rest = decimal (get_or c.args.words.now c.loop-index.index 0) ++ codes ";" in
    let written =
    c.in_ok-write_word.ensures
    ∙ (ap (λ (t : Bytes). t ++ rest) c.in_ok-push_str.ensures.bytes
    ∙ append_assoc (string_bytes c.loop-index.out) c.as_str.result.now rest) in
    labelled_words-push c.args.labels.now c.args.words.now c.loop-index.index _ _ _ (record {
      end = c.min-index-end.result;
      name = c.index-labels-index.result;
      text = c.as_str.result.now;
      index_in_range = c.loop-index-test.true;
      least = c.min-index-end.ensures;
      is_name = c.index-labels-index.is;
      is_text = c.as_str.ensures;
      written = written;
    }) c.loop-index.invariant

pub returns : goal.returns
returns g c =
    let start = string_bytes c.args.out.now in
    let last = string_bytes c.loop-index.out in
    let end = string_bytes c.push_str-2.new.self in
    let told =
    labelled_words-all c.args.labels.now c.args.words.now c.loop-index.index c.min-index-end.result _ _
    (omega (arith, c.loop-index-test.false)) c.min-index-end.ensures c.loop-index.invariant in
    written-two_parts _ start end _ _ told refl (OnOk-push_str _ last end (codes "\n") c.push_str-2.ensures.bytes)
