-- `jump_target` promises the target of a statement's label, if it has one, or that the label is lost. The
-- label is the token at this index, and `target` says whether a later statement has it.
use Rattle.lw_statements.proofs.Common.{refl, sym, slice_get_read, Err-clause_known}
use Rattle.lw_statements.proofs.column.jump_target.Goals as goal

pub returns-in_ok-target-in-Some : goal.returns-in_ok-target-in-Some
returns-in_ok-target-in-Some g c = rw c.in-Some.is (
  _,
  c.in_ok-target-in-Some.field-0,
  slice_get_read c.args.tokens.now _ c.in-Some.index _ refl (rw c.in-Some.is at c.requires) c.index-tokens-index.is,
  refl,
  c.in_ok-target-in-Some.ensures.found.0,
  c.in_ok-target-in-Some.ensures.found.1,
)

pub returns-in_err-target-in-Some : goal.returns-in_err-target-in-Some
returns-in_err-target-in-Some g c = Err-clause_known _ _ _ c.from_residual.ensures.1 (record {
  index = c.in-Some.index;
  token = _;
  labelled = c.in-Some.is;
  token_at = slice_get_read c.args.tokens.now _ c.in-Some.index _ refl (rw c.in-Some.is at c.requires) c.index-tokens-index.is;
  begins = sym c.in_err-target-in-Some.ensures.place;
  because = c.in_err-target-in-Some.ensures.cause;
})
