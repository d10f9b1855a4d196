-- `enter` promises the index of a location's name, which it inserts if there is room, or why not.
-- `insert_name-get` says that an inserted name is at its index; without room the table already has eight others.
use Rattle.lw_text.proofs.Common.{arith, refl, inr}
use Rattle.lw_text.proofs.NameTables.{insert_name-get}
use Rattle.lw_text.proofs.site.enter.Goals as goal

pub returns-in-None : goal.returns-in-None
returns-in-None g c =
    let many = rw c.in-None.is at c.in_ok-loc.ensures.index in
    λ _. (
      λ _ few. absurd (omega (arith, many, few)),
      refl,
      inr (c.if-not-is_unreserved_name.ensures.0 refl, λ few. absurd (omega (arith, many, few)), refl),
    )

pub returns-in-Some : goal.returns-in-Some
returns-in-Some g c =
    let index = rw c.in-Some.is at c.in_ok-loc.ensures.index in
    let names = rw c.in-Some.is at c.in_ok-loc.ensures.names in (
      c.if-not-is_unreserved_name.ensures.0 refl,
      insert_name-get c.args.locs.now c.find_or_add.new.self c.in-Some.loc c.args.name.now names index,
      names,
      c.in_ok-loc.ensures.table.bounded,
    )
