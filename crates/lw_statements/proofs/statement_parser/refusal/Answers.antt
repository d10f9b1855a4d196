-- `refusal` promises the true fault of tokens that are no statement. A ninth location comes first, at the
-- first form that has one (`HasOverflowIn-IsOverflowSlot`); at the loop's end no form has one, so the fault is that of the first
-- rejected token (`StatementFaultIsTrue-of_first_rejected`).
use Rattle.lw_statements.proofs.Common.{◌≡◌, sym, arith, slice_get_within, length-map, Memory, Token, TooMany}
use Rattle.lw_statements.proofs.Causes.{FaultClaim-TooMany}
use Rattle.lw_statements.proofs.Fronts.{HasRoom, rejected_within, StatementFaultIsTrue-of_first_rejected}
use Rattle.lw_statements.proofs.SlotTokens.{All-take_suc, All-take_all, IsAcceptedLength-in_range}
use Rattle.lw_statements.proofs.StatementsRead.{HasOverflowIn-IsOverflowSlot}
use Rattle.lw_statements.proofs.statement_parser.refusal.Goals as goal

pub overflow_token-requires : goal.overflow_token-requires
overflow_token-requires g c =
    let r = IsAcceptedLength-in_range g.L.StatementReader.spelling _ _ _ c.accepted_prefix_len-front.ensures in
    (r.0, omega (arith, r.1, length-map c.args.phrase.now.tokens.now (λ (t : Token). t.text.now)))

-- A ninth location among the tokens that a form accepts is the fault.
pub returns-in-Some : goal.returns-in-Some
returns-in-Some g c =
    let within = rw c.forms-form-items.ensures at c.loop-form-test.true in
    let n = rw (c.in-Some.is, c.slots-slots.ensures) at c.overflow_token.ensures in (
      FaultClaim-TooMany (HasOverflowIn-IsOverflowSlot _ g.L.StatementReader.statement_of c.requires.lawful c.form-item.result
          (c.loop-form.form-index, within, sym (rw c.forms-form-items.ensures at c.form-item.is)) _ c.args.locs.now
          c.len-known.ensures.table c.accepted_prefix_len-front.result c.in-Some.index _
          (rw c.slots-slots.ensures at c.accepted_prefix_len-front.ensures) n),
      λ len lies. lies.0 c.in-Some.index _ (slice_get_within _ c.in-Some.index n.token n.token_at),
    )

pub bounds-phrase-index : goal.bounds-phrase-index
bounds-phrase-index g c = slice_get_within _ c.in-Some.index c.in-Some.ensures.token c.in-Some.ensures.token_at

pub offset_bounds-phrase-index : goal.offset_bounds-phrase-index
offset_bounds-phrase-index g c =
    omega (
      arith,
      slice_get_within c.args.phrase.now.tokens.now c.in-Some.index c.in-Some.ensures.token c.in-Some.ensures.token_at,
    )

-- The cause `TooMany` differs from `Memory`.
not-TooMany_eq_Memory : TooMany ≡ Memory → ⊥
not-TooMany_eq_Memory e = cc

pub invariant_of-result : goal.invariant_of-result
invariant_of-result g c = record { memory = λ e. absurd (not-TooMany_eq_Memory e) }

pub loop-form-preserved : goal.loop-form-preserved
loop-form-preserved g c =
    let none = rw (c.in_default.is, c.slots-slots.ensures) at c.overflow_token.ensures in
    All-take_suc (HasRoom g.L.StatementReader.spelling c.args.phrase.now.tokens.now c.args.locs.now) _ _ _
    (rw c.forms-form-items.ensures at c.loop-form-test.true) (rw c.forms-form-items.ensures at c.form-item.is)
    c.loop-form.invariant
    (c.accepted_prefix_len-front.result, rw c.slots-slots.ensures at c.accepted_prefix_len-front.ensures, none)

-- If no form has a ninth location, the fault is that of the first rejected token.
pub returns : goal.returns
returns g c =
    let spelling = g.L.StatementReader.spelling in
    let phrase = c.args.phrase.now in (
      StatementFaultIsTrue-of_first_rejected spelling phrase.tokens.now phrase.end c.args.locs.now c.len-known.ensures.table
          (All-take_all (HasRoom spelling phrase.tokens.now c.args.locs.now) spelling.forms c.loop-form.form-index
          (rw c.forms-form-items.ensures at c.loop-form-test.false) c.loop-form.invariant) c.requires.none _
          c.first_rejected.ensures,
      λ len lies. rejected_within spelling phrase.tokens.now phrase.end _ c.first_rejected.ensures len lies.0 lies.1,
    )
