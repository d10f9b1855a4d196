-- `parse_value` promises a `=` and a number, or that they are not next, and where it fails. Without a number
-- there is no value (`no_value-if_no_number`).
use Rattle.lw_text.proofs.Common.{codes, ◌∷◌, [], ◌∙◌, ap, remaining, no_number}
use Rattle.lw_text.proofs.Lists.{IsSuffix-join}
use Rattle.lw_text.proofs.SitesAndValues.{no_value-if_no_number}
use Rattle.lw_text.proofs.Failures.{IfFirst-cons}
use Rattle.lw_text.proofs.cursor.Cursor.parse_value.Goals as goal

pub returns-in-Some : goal.returns-in-Some
returns-in-Some c = (
  (c.in_ok-token.token.text.now, c.in_ok-expect.ensures.ok ∙ ap (λ l. codes "=" ∷ l) c.in_ok-token.ensures.ok, c.in-Some.ensures),
  IsSuffix-join c.in_ok-expect.ensures.advances (c.in_ok-token.token ∷ [], c.in_ok-token.ensures.token),
)

-- If the token after `=` is no number, there is no value, and it fails at this token.
pub returns-in-None : goal.returns-in-None
returns-in-None c = (
  no_value-if_no_number _ _ _ _ c.in_ok-expect.ensures.ok c.in_ok-token.ensures.ok c.in-None.ensures,
  record {
    rest = remaining c.expect.new.self;
    suffix = c.in_ok-expect.ensures.advances;
    place = c.refusal-misfit.ensures.place;
    way =
        no_number c.in_ok-expect.ensures.ok
        (IfFirst-cons _ _ _ _ c.in_ok-token.ensures.ok (c.in-None.ensures, c.refusal-misfit.ensures.cause));
  },
)
