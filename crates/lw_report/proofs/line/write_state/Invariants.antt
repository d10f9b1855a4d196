-- At each round what was written, followed by the labels and words from `index` on, makes the whole line.
use Rattle.lw_report.proofs.Common.{◌≡◌, ◌++◌, drop, zip, flat_map, string_bytes, labelled_word}
use Rattle.lw_report.proofs.Common.{labelled_words}
use Rattle.lw_report.proofs.line.write_state.Given as goal

abbrev pub invariant-loop-index : goal.invariant-loop-index
invariant-loop-index g l =
    string_bytes l.out ++ flat_map labelled_word (drop l.index (zip l.labels l.words))
    ≡ string_bytes l.initial.out ++ labelled_words l.labels l.words
