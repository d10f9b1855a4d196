-- `after_part` promises the state after a terminal that follows a part, or that this terminal is impossible
-- there. One goal for each arm; a `)` is impossible if no group is open outside this one.
use Rattle.lw_text.proofs.Common.{reverse-append, ◌≡◌, [], inl, inr, map-append, nil_from_length, refl, sym}
use Rattle.lw_text.proofs.Common.{◌∙◌}
use Rattle.lw_text.proofs.proposition_reader.PropositionReader.after_part.Goals as goal

pub returns-in_ok-conjoin-in-Conjunction : goal.returns-in_ok-conjoin-in-Conjunction
returns-in_ok-conjoin-in-Conjunction g c = rw (c.in-Conjunction.is, c.requires, c.in_ok-conjoin-in-Conjunction.ensures) refl

pub returns-in_ok-disjoin-in-Disjunction : goal.returns-in_ok-disjoin-in-Disjunction
returns-in_ok-disjoin-in-Disjunction g c = rw (c.in-Disjunction.is, c.requires, c.in_ok-disjoin-in-Disjunction.ensures) refl

pub returns-in-Open : goal.returns-in-Open
returns-in-Open g c = elim c.in-Open.is [ inl e ↦ rw e refl | inr (inl e) ↦ rw e refl | inr (inr atom) ↦ rw atom.1 refl ]

pub returns-in_default : goal.returns-in_default
returns-in_default g c =
    let none : c.args.self.now.outer.items ≡ [] =
    nil_from_length _ (sym c.args.self.now.outer.ok.0 ∙ c.in_default.ensures.cases.0) in
    rw (c.in-Close.is, none)

-- A `)` closes the innermost group, which becomes the part of the group around it.
pub returns-in_ok-part-in-Close : goal.returns-in_ok-part-in-Close
returns-in_ok-part-in-Close g c = rw (
  c.in-Close.is,
  c.in-Some.ensures.items,
  map-append,
  reverse-append,
  c.replace.ensures.after,
  c.replace-inner.ensures.after,
  c.in_ok-part-in-Close.ensures,
  c.replace-inner.ensures.value,
)
