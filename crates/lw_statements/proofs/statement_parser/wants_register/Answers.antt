-- `wants_register` promises to be true exactly if a register may follow, and no location may. If a location
-- may follow, the claim is false (`not-IsBeforeRegister-before_location`); otherwise the answer is that of `may_be_register`
-- (`IsBeforeRegister-of_slots`, `HasSlotAfter-before_register`).
use Rattle.lw_statements.proofs.Common.{sym, true≢false, ◌∙◌}
use Rattle.lw_statements.proofs.Beginnings.{IsBeforeRegister-of_slots, not-IsBeforeRegister-before_location}
use Rattle.lw_statements.proofs.Beginnings.{HasSlotAfter-before_register}
use Rattle.lw_statements.proofs.statement_parser.wants_register.Goals as goal

pub returns-then-may_be_location : goal.returns-then-may_be_location
returns-then-may_be_location g c = (
  λ e. absurd (true≢false (sym e)),
  λ b.
      absurd (not-IsBeforeRegister-before_location _ g.L.StatementReader.statement_of c.requires.lawful _
      (c.may_be_location.ensures.0 c.if-may_be_location.true) b),
)

pub returns : goal.returns
returns g c = (
  λ e.
      IsBeforeRegister-of_slots _ g.L.StatementReader.statement_of c.requires.lawful _ (c.may_be_register.ensures.0 e)
      (λ there. true≢false (sym (c.may_be_location.ensures.1 there) ∙ c.if-may_be_location.false)),
  λ b. c.may_be_register.ensures.1 (HasSlotAfter-before_register _ g.L.StatementReader.statement_of c.requires.lawful _ b),
)
