-- `begins_with` promises to be true exactly if the first slot accepts the token. Both directions are those of
-- `fits_slot`, since a list has one first item.
use Rattle.lw_statements.proofs.Common.{subst, sym, ◌∙◌, ◌∷◌, [], cons-head_eq, CanFill}
use Rattle.lw_statements.proofs.statement_parser.begins_with.Goals as goal

pub returns-in-Some : goal.returns-in-Some
returns-in-Some g c = (
  λ holds. (c.in-Some.slot.now, _, c.in-Some.ensures.cases.0, c.fits_slot.ensures.0 holds),
  λ (other, rest, cut, stands).
      c.fits_slot.ensures.1 (subst (λ slot. CanFill g.L.StatementReader.spelling (c.args.token.now.text.now ∷ []) (slot ∷ []))
      (cons-head_eq _ _ rest _ (sym cut ∙ c.in-Some.ensures.cases.0)) stands),
)
