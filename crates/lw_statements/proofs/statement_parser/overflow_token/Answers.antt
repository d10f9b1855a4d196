-- `overflow_token` promises the first index at which a token names a ninth location, or that there is none.
-- The loop has passed the others (`no_match_before`).
use Rattle.lw_statements.proofs.Common.{◌∙◌, ap, arith, Some, refl, sym, true≢false, at_index, slice_get_read}
use Rattle.lw_statements.proofs.Fronts.{no_match_before}
use Rattle.lw_statements.proofs.statement_parser.overflow_token.Goals as goal

pub bounds-slots-index : goal.bounds-slots-index
bounds-slots-index g c = omega (arith, c.requires.0, c.loop-index-test.true)

pub bounds-tokens-index : goal.bounds-tokens-index
bounds-tokens-index g c = omega (arith, c.requires.1, c.loop-index-test.true)

-- The token at the index names a ninth location at a location's slot.
pub returns-then-overflows : goal.returns-then-overflows
returns-then-overflows g c =
    let is = rw c.index-slots-index.is at (c.overflows.ensures.0 c.if-overflows.true) in
    record {
      before = c.loop-index-test.true;
      slot = at_index c.args.slots.now c.loop-index.index _ (omega (arith, c.requires.0, c.loop-index-test.true)) ∙ ap Some is.0;
      token = _;
      token_at =
          slice_get_read c.args.tokens.now _ c.loop-index.index _ refl (omega (arith, c.requires.1, c.loop-index-test.true))
          c.index-tokens-index.is;
      full = is.1;
      new = is.2;
    }

-- If the token at the index is no ninth location, none up to the next index is.
pub loop-index-preserved : goal.loop-index-preserved
loop-index-preserved g c =
    let slot =
    slice_get_read c.args.slots.now _ c.loop-index.index _ refl (omega (arith, c.requires.0, c.loop-index-test.true))
    c.index-slots-index.is in
    let token =
    slice_get_read c.args.tokens.now _ c.loop-index.index _ refl (omega (arith, c.requires.1, c.loop-index-test.true))
    c.index-tokens-index.is in
    no_match_before c.args.slots.now c.args.tokens.now c.args.front c.args.locs.now c.loop-index.index _ _ slot token
    (λ overflow. true≢false (sym (c.overflows.ensures.1 overflow) ∙ c.if-overflows.false)) c.loop-index.invariant

pub returns : goal.returns
returns g c k overflow = c.loop-index.invariant k (omega (arith, overflow.before, c.loop-index-test.false)) overflow
