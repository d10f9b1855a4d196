-- At each round notes have been passed up to `rest`: the notes of the whole text end where those of `rest`
-- do, and `rest` fails where the whole does. The rest becomes shorter.
use Rattle.lw_text.proofs.Common.{length, Bytes, FailsInNotes}
use Rattle.lw_text.proofs.NoteRows.{NotesContinueAt}
use Rattle.lw_text.proofs.notes.after_notes.Given as goal

abbrev pub invariant-notes : goal.invariant-notes
invariant-notes l = record {
  passed : NotesContinueAt l.bytes l.rest;
  fails : (left : Bytes) → FailsInNotes left l.rest → FailsInNotes left l.bytes;
}

abbrev pub decreases-notes : goal.decreases-notes
decreases-notes l = length l.rest
