-- `parse_register` promises a `:` and a register's name, or that they are not next. Only success is answered
-- by hand: the two tokens are the first of the remaining ones.
use Rattle.lw_text.proofs.Common.{codes, ◌∷◌, [], ◌∙◌, refl, ap}
use Rattle.lw_text.proofs.Lists.{IsSuffix-join}
use Rattle.lw_text.proofs.cursor.Cursor.parse_register.Goals as goal

pub returns-in-Some : goal.returns-in-Some
returns-in-Some c = (
  c.in_ok-name.name.text.now,
  c.in-Some.reg,
  c.in_ok-expect.ensures.ok ∙ ap (λ l. codes ":" ∷ l) c.in_ok-name.ensures.ok,
  c.in-Some.ensures,
  refl,
  IsSuffix-join c.in_ok-expect.ensures.advances (c.in_ok-name.name ∷ [], c.in_ok-name.ensures.token),
)
