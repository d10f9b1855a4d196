-- `draft` promises the draft of the statement that these bindings make, or that its location has no room. The
-- token of the location is that at the found index, which is in range and a name by the contract's premise.
use Rattle.lw_statements.proofs.Common.{refl, slice_get_read, Err-clause_known}
use Rattle.lw_statements.proofs.statement_parser.draft.Goals as goal

pub bounds-tokens-index : goal.bounds-tokens-index
bounds-tokens-index g c = let name = rw c.in-Some.is at c.requires in name.0

pub location-requires : goal.location-requires
location-requires g c =
    let name = rw c.in-Some.is at c.requires in
    name.1 _ (slice_get_read c.args.tokens.now _ c.in-Some.index _ refl name.0 c.index-tokens-index.is)

-- If the token is no location with room, the bindings have no draft.
pub returns-in_err-loc : goal.returns-in_err-loc
returns-in_err-loc g c =
    let name = rw c.in-Some.is at c.requires in
    Err-clause_known _ _ _ c.from_residual.ensures.1 (record {
      index = c.in-Some.index;
      name = c.in-Some.is;
      token = _;
      token_at = slice_get_read c.args.tokens.now _ c.in-Some.index _ refl name.0 c.index-tokens-index.is;
      refused = c.in_err-loc.ensures;
    })

pub returns : goal.returns
returns g c = rw c.in-Some.is (
  _,
  c.in_ok-loc.loc,
  slice_get_read c.args.tokens.now _ c.in-Some.index _ refl (rw c.in-Some.is at c.requires).0 c.index-tokens-index.is,
  c.in_ok-loc.ensures,
  c.draft_on-2.ensures,
)
