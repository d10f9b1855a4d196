-- `before_part` promises the state after a terminal where a part must begin, or that this terminal is
-- impossible there. One goal for each arm: what is pushed or put is what `next_state` gives.
use Rattle.lw_text.proofs.Common.{reverse-append, inl, inr, map-append, refl}
use Rattle.lw_text.proofs.proposition_reader.PropositionReader.before_part.Goals as goal

-- A `(` opens a new group inside the present one.
pub returns-in_ok-push-in-Open : goal.returns-in_ok-push-in-Open
returns-in_ok-push-in-Open g c = rw (
  c.in-Open.is,
  c.requires,
  c.in_ok-push-in-Open.ensures.items,
  map-append,
  reverse-append,
  c.replace-group.ensures.after,
  c.new.ensures,
  c.replace-group.ensures.value,
)

pub returns-in_ok-negate-in-Negation : goal.returns-in_ok-negate-in-Negation
returns-in_ok-negate-in-Negation g c = rw (c.in-Negation.is, c.requires, c.in_ok-negate-in-Negation.ensures)

pub returns-in-Atom : goal.returns-in-Atom
returns-in-Atom g c = rw (c.in-Atom.is, c.replace.ensures.after, c.prop.ensures)

pub returns-in-Close : goal.returns-in-Close
returns-in-Close g c = elim c.in-Close.is [ inl e ↦ rw e refl | inr (inl e) ↦ rw e refl | inr (inr e) ↦ rw e refl ]
