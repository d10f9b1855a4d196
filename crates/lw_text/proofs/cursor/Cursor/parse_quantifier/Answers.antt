-- `parse_quantifier` promises the quantifier that is next, or that there is none, and where it fails. If the first
-- token is none of the three words, no rule applies (`no_quantifier-if_other_word`); after `~` only `exists` may
-- follow. Each exit with a fault shows two things, in this order: that there is no such reading, and where it
-- fails (`Fails-later`).
use Rattle.lw_text.proofs.Common.{◌∷◌, ◌∙◌, [], ap, codes, rules, subst, remaining_texts, FailsBefore}
use Rattle.lw_text.proofs.Common.{no_exists, Condition}
use Rattle.lw_text.proofs.Whole.{no_quantifier-if_other_word}
use Rattle.lw_text.proofs.Lists.{IsSuffix-join}
use Rattle.lw_text.proofs.Failures.{Fails-later, FailsBefore-more}
use Rattle.lw_text.specs.Failures.{no_quantifier as no_quantifier_word}
use Rattle.lw_text.proofs.Faults.{Err-clause_known}
use Rattle.lw_text.proofs.cursor.Cursor.parse_quantifier.Goals as goal

pub returns-in_err-expect : goal.returns-in_err-expect
returns-in_err-expect c = Err-clause_known _ _ _ c.from_residual.ensures.1 (
  search rules,
  Fails-later c.accept.ensures.advances (λ rest cause w. no_exists (c.accept.ensures.taken c.if-accept.true) w)
      c.in_err-expect.ensures.fails,
)

-- If none of the three words is next, there is no quantifier, and it fails there.
pub returns-in_err-expect_either : goal.returns-in_err-expect_either
returns-in_err-expect_either c =
    let kept = ap remaining_texts (c.accept.ensures.kept c.if-accept.false) in
    let other = c.accept.ensures.other c.if-accept.false in
    Err-clause_known _ _ _ c.from_residual-in_err-expect_either.ensures.1 (
      no_quantifier-if_other_word _ other (rw kept at c.in_err-expect_either.ensures.0)
          (rw kept at c.in_err-expect_either.ensures.1),
      Fails-later c.accept.ensures.advances (λ rest cause w.
          no_quantifier_word (FailsBefore-more _ (codes "exists" ∷ codes "forall" ∷ []) Condition _ rest cause other
          (subst (λ ts. FailsBefore (codes "exists" ∷ codes "forall" ∷ []) Condition ts rest cause) kept w)))
          c.in_err-expect_either.ensures.2,
    )

pub returns-then-accept : goal.returns-then-accept
returns-then-accept c = (
  c.accept.ensures.taken c.if-accept.true ∙ ap (λ l. codes "~" ∷ l) c.in_ok-expect.ensures.ok,
  IsSuffix-join c.accept.ensures.advances c.in_ok-expect.ensures.advances,
)
