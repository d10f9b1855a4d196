-- `fits_slot` promises to be true exactly if the slot accepts the token. It is so if and only if binding the
-- token succeeds (`is_some-iff_CanFill`).
use Rattle.lw_statements.proofs.SlotTokens.{is_some-iff_CanFill}
use Rattle.lw_statements.proofs.statement_parser.fits_slot.Goals as goal

pub returns : goal.returns
returns g c =
    rw c.is_some.ensures
    (is_some-iff_CanFill g.L.StatementReader.spelling _ c.args.slot 0 c.no_bindings.result c.with_token.result
    c.with_token.ensures)
