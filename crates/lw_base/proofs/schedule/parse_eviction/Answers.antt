-- Proves `parse_eviction`, for the text after an `E`: what it rejects is faulty for the returned cause. One
-- lemma for each exit: no `:`, a name that is not shaped as one, bad digits, and a name that is not in the
-- table, in this order.
use Rattle.lw_base.proofs.Common.{◌∙◌, ap, subst, sym, Some, Contains, false≢true}
use Rattle.lw_base.proofs.api.Blanks.{name_bytes_ascii}
use Rattle.lw_base.proofs.api.Returns.{Err-clause_propagated}
use Rattle.lw_base.proofs.Shapes.{IsFaultyPiece-no_colon, IsFaultyPiece-no_name, IsFaultyPiece-no_cpu}
use Rattle.lw_base.proofs.Shapes.{IsFaultyPiece-no_location, IsEventText-eviction}
use Rattle.lw_base.proofs.schedule.parse_eviction.Goals as goal

pub returns-in_default-clause-err : goal.returns-in_default-clause-err
returns-in_default-clause-err g c = IsFaultyPiece-no_colon c.args.names.now _ c.in_default.ensures

pub returns-then-not-is_name_shaped-clause-err : goal.returns-then-not-is_name_shaped-clause-err
returns-then-not-is_name_shaped-clause-err g c =
    IsFaultyPiece-no_name c.args.names.now _ _ _ c.in-Some.ensures.0 c.in-Some.ensures.1
    (λ l. false≢true (c.if-not-is_name_shaped.ensures.1 l))

pub returns-in_err-cpu-clause-err : goal.returns-in_err-cpu-clause-err
returns-in_err-cpu-clause-err g c =
    Err-clause_propagated _ _ c.from_residual.ensures.1
    (IsFaultyPiece-no_cpu c.args.names.now _ _ _ c.in-Some.ensures.0 c.in-Some.ensures.1
    (c.is_name_shaped.ensures.0 c.if-not-is_name_shaped.false) _ c.in_err-cpu.ensures.err)

pub returns-in-None-clause-err : goal.returns-in-None-clause-err
returns-in-None-clause-err g c =
    IsFaultyPiece-no_location c.args.names.now _ _ _ c.in-Some.ensures.0 c.in-Some.ensures.1
    (c.is_name_shaped.ensures.0 c.if-not-is_name_shaped.false)
    (c.in_ok-cpu.cpu, c.in_ok-cpu.ensures.ok.0, c.in_ok-cpu.ensures.ok.1)
    (λ h. c.in-None.ensures (subst (Contains c.args.names.now) (sym c.ascii_text.ensures) h))

pub returns-in-Some-find-clause-ok : goal.returns-in-Some-find-clause-ok
returns-in-Some-find-clause-ok g c =
    IsEventText-eviction _ _ _ _ c.in-Some.ensures.0 c.in-Some.ensures.1 c.in_ok-cpu.cpu c.in-Some-find.loc
    c.in_ok-cpu.ensures.ok.0 c.in_ok-cpu.ensures.ok.1 (c.in-Some-find.ensures ∙ ap Some c.ascii_text.ensures)

pub ascii_text-requires : goal.ascii_text-requires
ascii_text-requires g c = name_bytes_ascii _ (c.is_name_shaped.ensures.0 c.if-not-is_name_shaped.false).are_name_bytes
