-- Proves `parse_event`: a piece that it rejects is faulty for the returned cause, so it is no event's text.
-- The cases follow the first letter. If there is none, or another one, the piece does not have the shape of
-- an event; after `P`, `D` or `E` the cause is that of the rest.
use Rattle.lw_base.proofs.Common.{◌∙◌, subst, refl, IsFaultyPiece, Bytes}
use Rattle.lw_base.proofs.api.Returns.{Err-clause_propagated}
use Rattle.lw_base.proofs.Shapes.{not-HasEventShape-nil, IsFaultyPiece-bad_step, IsFaultyPiece-bad_drain}
use Rattle.lw_base.proofs.Shapes.{cons_eq-same_parts}
use Rattle.lw_base.proofs.schedule.parse_event.Goals as goal

-- The piece is empty.
pub returns-in_default-clause-err : goal.returns-in_default-clause-err
returns-in_default-clause-err g c ds shape = not-HasEventShape-nil c.args.piece.now ds c.in_default.ensures.cases shape

pub returns-in_err-parse_cpu-in-80-clause-err : goal.returns-in_err-parse_cpu-in-80-clause-err
returns-in_err-parse_cpu-in-80-clause-err g c =
    Err-clause_propagated _ _ c.from_residual.ensures.1
    (IsFaultyPiece-bad_step c.args.names.now c.args.piece.now c.in-Some.rest.now _ _ c.in-Some.ensures.cases.0 c.in-80.is
    c.in_err-parse_cpu-in-80.ensures.err)

pub returns-in_err-parse_cpu-in-68-clause-err : goal.returns-in_err-parse_cpu-in-68-clause-err
returns-in_err-parse_cpu-in-68-clause-err g c =
    Err-clause_propagated _ _ c.from_residual-in_err-parse_cpu-in-68.ensures.1
    (IsFaultyPiece-bad_drain c.args.names.now c.args.piece.now c.in-Some.rest.now _ _ c.in-Some.ensures.cases.0 c.in-68.is
    c.in_err-parse_cpu-in-68.ensures.err)

pub returns-in_err-cpu-in-69-clause-err : goal.returns-in_err-cpu-in-69-clause-err
returns-in_err-cpu-in-69-clause-err g c =
    Err-clause_propagated _ _ c.from_residual-in_err-cpu-in-69.ensures.1
    (subst (λ (w : Bytes). IsFaultyPiece c.args.names.now w c.in_err-cpu-in-69.field-0.0)
    (cons_eq-same_parts c.args.piece.now c.in-Some.rest.now c.in-Some.rest.now _ _ c.in-Some.ensures.cases.0 c.in-69.is refl)
    c.in_err-cpu-in-69.ensures.err)

pub returns-in_ok-parse_cpu-in-80-clause-ok : goal.returns-in_ok-parse_cpu-in-80-clause-ok
returns-in_ok-parse_cpu-in-80-clause-ok g c =
    let ok = c.in_ok-parse_cpu-in-80.ensures.ok in
    (ok.0, cons_eq-same_parts c.args.piece.now c.in-Some.rest.now _ _ _ c.in-Some.ensures.cases.0 c.in-80.is ok.1)

pub returns-in_ok-parse_cpu-in-68-clause-ok : goal.returns-in_ok-parse_cpu-in-68-clause-ok
returns-in_ok-parse_cpu-in-68-clause-ok g c =
    let ok = c.in_ok-parse_cpu-in-68.ensures.ok in
    (ok.0, cons_eq-same_parts c.args.piece.now c.in-Some.rest.now _ _ _ c.in-Some.ensures.cases.0 c.in-68.is ok.1)

pub returns-in_ok-cpu-in-69-clause-ok : goal.returns-in_ok-cpu-in-69-clause-ok
returns-in_ok-cpu-in-69-clause-ok g c =
    let ok = c.in_ok-cpu-in-69.ensures.ok in
    (ok.0, ok.1 ∙ cons_eq-same_parts c.args.piece.now _ c.in-Some.rest.now _ _ c.in-Some.ensures.cases.0 c.in-69.is refl)
