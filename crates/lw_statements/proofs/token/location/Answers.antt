-- `location` promises the index of the token's location, or that there is no room for it. If the table has no
-- room, it is full and does not have the name (`full_and_new-if_no_room`); a refused allocation has no place.
use Rattle.lw_statements.proofs.Common.{most_locations, ◌≡◌, ◌<◌, ◌≤◌, [], ◌∷◌, length, length-append, refl}
use Rattle.lw_statements.proofs.Common.{sym, ap, arith, Contains, slice_get_read, insert_name, Bytes}
use Rattle.lw_statements.proofs.Common.{NameTable, insert_name-if_in_table, insert_name-if_new}
use Rattle.lw_statements.proofs.Exits.{MatchResult-out_of_memory}
use Rattle.lw_statements.proofs.Causes.{FaultClaim-Memory, FaultClaim-TooMany, Refused-Memory}
use Rattle.lw_statements.proofs.token.location.Goals as goal

-- If inserting a name makes the table longer than it may be, the table is full and does not have the name.
full_and_new-if_no_room : (names : NameTable) (n : Bytes)
    → length names ≤ most_locations
    → 8 < length (insert_name names n)
    → (length names ≡ most_locations) × (Contains names n → ⊥)
full_and_new-if_no_room names n few many =
    let fresh : Contains names n → ⊥ = λ h.
    let at = slice_get_read names (length names) h.0 n refl h.1 (sym h.2) in
    omega (arith, few, many, ap length (insert_name-if_in_table names n h.0 at)) in
    (omega (arith, few, many, ap length (insert_name-if_new names n fresh), length-append names (n ∷ [])), fresh)

pub returns-in-Some : goal.returns-in-Some
returns-in-Some g c = record {
  is_location = c.requires;
  names = rw c.in-Some.is at c.in_ok-loc.ensures.names;
  index = rw c.in-Some.is at c.in_ok-loc.ensures.index;
}

pub returns-in-None : goal.returns-in-None
returns-in-None g c =
    let full = rw c.in-None.is at c.in_ok-loc.ensures.index in
    let n = full_and_new-if_no_room _ _ c.len-known.ensures.table.bounded full in
    record {
      none = λ known (loc, few). omega (arith, few, full);
      cause = FaultClaim-TooMany (refl, c.requires, n.0, n.1);
      place = λ len within. within;
    }

pub returns-in_err-loc : goal.returns-in_err-loc
returns-in_err-loc g c =
    MatchResult-out_of_memory _ _ _ c.from_residual.ensures.1 (λ f. Refused-Memory f (λ at. FaultClaim-Memory))
