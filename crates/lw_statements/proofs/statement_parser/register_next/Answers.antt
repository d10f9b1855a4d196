-- `register_next` promises to be true exactly if the next slot takes a register. Immediate from the slot that
-- `slot_after` returns (`HasNext-of_kind`).
use Rattle.lw_statements.proofs.Fronts.{HasNext-of_kind}
use Rattle.lw_statements.proofs.statement_parser.register_next.Goals as goal

pub returns-in-Some : goal.returns-in-Some
returns-in-Some g c =
    HasNext-of_kind g.L.StatementReader.spelling _ _ _ c.in-Some.slot c.takes_register.result
    (rw c.in-Some.is at c.slot_after.ensures) c.takes_register.ensures
