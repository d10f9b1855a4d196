-- `after_note` promises the rest after a note, or that there is none, and where it fails. A quote begins a
-- quoted text only, any other byte a line `Key=value` only (`no_note-if_neither_kind`); a quoted text without a second quote
-- is none (`no_note-if_quote_is_unclosed`).
use Rattle.lw_text.proofs.Common.{ℕ, inl, inr, ap, length, length-append, arith, ◌==◌, MatchResult-weaker}
use Rattle.lw_text.proofs.Common.{first_byte_is, ◌≡◌, ◌++◌, ◌∙◌, false, sym, subst, AllByRecursion, All-mono}
use Rattle.lw_text.proofs.Common.{append-nil, not-true, in_key_line, open_quote}
use Rattle.lw_text.proofs.NoteRows.{no_note-if_neither_kind, no_note-if_quote_is_unclosed, Quoted-up_to_quote}
use Rattle.lw_text.proofs.NoteRows.{no_quoted_text-if_no_quote}
use Rattle.lw_text.proofs.notes.after_note.Goals as goal

pub returns-in_default : goal.returns-in_default
returns-in_default c =
    MatchResult-weaker c.after_key_line.result c.after_key_line.ensures (λ rest k. inr k)
    (λ left h. (no_note-if_neither_kind c.args.bytes.now c.in_default.ensures h.0, h.1, in_key_line c.in_default.ensures h.2))

pub returns-in-Some-split : goal.returns-in-Some-split
returns-in-Some-split c =
    let u = c.prefix_of_kind.ensures in
    inl (Quoted-up_to_quote _ _ _ _ c.in-Some.ensures u.parts u.bytes_pass u.longest _ _ c.in-Some-split.ensures)

-- If no second quote follows, there is no quoted text, so no note, and it fails at the end.
pub returns-in-None : goal.returns-in-None
returns-in-None c =
    let u = c.prefix_of_kind.ensures in (
      no_note-if_quote_is_unclosed c.args.bytes.now (ap (first_byte_is (λ b. b == 34)) c.in-Some.ensures)
          (no_quoted_text-if_no_quote c.args.bytes.now c.in-Some.inside.now _ _ c.in-Some.ensures u.parts u.bytes_pass u.longest
          c.in-None.ensures),
      omega (arith, ap length c.in-Some.ensures, ap length u.parts, length-append {A = ℕ}),
      open_quote c.in-Some.inside.now c.in-Some.ensures
          (subst (AllByRecursion (λ b. (b == 34) ≡ false))
          (sym (u.parts
          ∙ ap (λ x. c.prefix_of_kind.result.0.now ++ x) c.in-None.ensures
          ∙ append-nil c.prefix_of_kind.result.0.now)) (All-mono _ _ (λ b. not-true (b == 34)) _ u.bytes_pass)) c.in-None.ensures,
    )
