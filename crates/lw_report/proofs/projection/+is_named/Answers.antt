-- Proves `is_named`, which says whether a proposition names a register or a location. Only negation is proved
-- by hand: it names what its part names.
use Rattle.lw_report.proofs.Common.{◌≡◌, sym, ap, ◌∙◌, subst, formula_of, is_named}
use Rattle.lw_report.proofs.projection.+is_named.Goals as goal

pub returns-in-Neg : goal.returns-in-Neg
returns-in-Neg g n c =
    let name = c.args.name.now in
    subst (λ p. c.is_named.result ≡ is_named (formula_of p) name) (sym c.in-Neg.is)
    (c.is_named.ensures ∙ ap (λ p. is_named (formula_of p) name) c.deref.ensures)
