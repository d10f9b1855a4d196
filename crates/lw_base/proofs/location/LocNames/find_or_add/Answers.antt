-- Proves `LocNames::find_or_add`, which returns the location with a name, after the name was inserted if it
-- was new. A known name leaves the table unchanged (`insert_name-if_in_table`), a new one is appended
-- (`insert_name-if_new`); a ninth does not fit.
use Rattle.lw_base.proofs.Common.{most_locations, [], ◌∷◌, ◌<◌, length, sym, ◌∙◌, length-append, arith}
use Rattle.lw_base.proofs.api.Tables.{insert_name-if_in_table, insert_name-if_new, position_of_name-at}
use Rattle.lw_base.proofs.api.Tables.{position_of_name-new}
use Rattle.lw_base.proofs.location.LocNames.find_or_add.Goals as goal

pub returns-in-Some-clause-index : goal.returns-in-Some-clause-index
returns-in-Some-clause-index g c = sym (position_of_name-at _ _ _ c.len-len.ensures.table.without_duplicates c.in-Some.ensures)

pub returns-in-Some-clause-names : goal.returns-in-Some-clause-names
returns-in-Some-clause-names g c = sym (insert_name-if_in_table _ _ _ c.in-Some.ensures)

pub returns-then-len-eq-MAX_LOCATIONS-clause-index : goal.returns-then-len-eq-MAX_LOCATIONS-clause-index
returns-then-len-eq-MAX_LOCATIONS-clause-index g c =
    rw (insert_name-if_new c.args.self.now c.args.name.now c.in_default.ensures)
    (omega (arith, length-append c.args.self.now (c.args.name.now ∷ [])))

pub returns-in-Ok-clause-index : goal.returns-in-Ok-clause-index
returns-in-Ok-clause-index g c =
    rw c.in-Ok.ensures.ok (c.in-Ok.ensures.index ∙ sym (position_of_name-new _ c.args.name.now c.in_default.ensures))

pub returns-in-Ok-clause-names : goal.returns-in-Ok-clause-names
returns-in-Ok-clause-names g c = c.in-Ok.ensures.ok ∙ sym (insert_name-if_new _ _ c.in_default.ensures)

pub add-requires-clause-bounded : goal.add-requires-clause-bounded
add-requires-clause-bounded g c =
    let free : length c.args.self.now < most_locations =
    omega (arith, c.len-len.ensures.table.bounded, c.len-len.ensures.len, c.if-len-eq-MAX_LOCATIONS.false) in
    free

pub add-requires-clause-name : goal.add-requires-clause-name
add-requires-clause-name g c = c.requires

pub add-requires-clause-fresh : goal.add-requires-clause-fresh
add-requires-clause-fresh g c = c.in_default.ensures
