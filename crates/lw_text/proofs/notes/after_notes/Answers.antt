-- `after_notes` promises the rest from the `{` on, or that there is no such sequence of notes, and where it
-- fails. Each round passes trivia and a note (`NotesContinueAt-after_note`). It ends with `{` (`Notes-at_brace`), with no note
-- (`no_notes-if_no_note`) or in an open comment (`no_notes-if_comment_is_open`).
use Rattle.lw_text.proofs.Common.{[], refl, arith, ap, ◌==◌, first_byte_is, open_comment_in_notes, in_note}
use Rattle.lw_text.proofs.Common.{after_note}
use Rattle.lw_text.proofs.Faults.{Err-clause_known}
use Rattle.lw_text.proofs.TriviaLemmas.{Trivia-shorter}
use Rattle.lw_text.proofs.NoteRows.{no_notes-if_no_note, NotesContinueAt-after_note}
use Rattle.lw_text.proofs.NoteRows.{no_notes-if_comment_is_open, Notes-at_brace, Note-shorter}
use Rattle.lw_text.proofs.notes.after_notes.Goals as goal

pub returns-in_default : goal.returns-in_default
returns-in_default c = (
  no_notes-if_comment_is_open c.notes.invariant.passed c.in_default.ensures.none,
  omega arith,
  c.notes.invariant.fails [] (open_comment_in_notes c.in_default.ensures.none refl),
)

pub returns-in_err-rest-in-None : goal.returns-in_err-rest-in-None
returns-in_err-rest-in-None c = Err-clause_known _ _ _ c.from_residual.ensures.1 (
  no_notes-if_no_note c.notes.invariant.passed c.in-Some.ensures.found c.in-Some.ensures.stops c.in-None.ensures
      c.in_err-rest-in-None.ensures.0,
  omega (arith, c.in_err-rest-in-None.ensures.1, Trivia-shorter c.in-Some.ensures.found, c.notes.invariant.passed.bound),
  c.notes.invariant.fails _
      (in_note c.in-Some.ensures.found c.in-Some.ensures.stops c.in-None.ensures c.in_err-rest-in-None.ensures.2),
)

pub notes-preserved : goal.notes-preserved
notes-preserved c = record {
  passed = NotesContinueAt-after_note c.notes.invariant.passed c.in-Some.ensures.found c.in_ok-rest-in-None.ensures;
  fails = λ left w. c.notes.invariant.fails left (after_note c.in-Some.ensures.found c.in_ok-rest-in-None.ensures w);
}

pub returns-in-Some-strip_byte : goal.returns-in-Some-strip_byte
returns-in-Some-strip_byte c =
    Notes-at_brace c.notes.invariant.passed c.in-Some.ensures.found
    (ap (first_byte_is (λ b. b == 123)) c.in-Some-strip_byte.ensures)

pub notes-smaller : goal.notes-smaller
notes-smaller c = Note-shorter c.in-Some.ensures.found c.in_ok-rest-in-None.ensures
