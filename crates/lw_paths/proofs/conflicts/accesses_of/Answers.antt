-- Proves `accesses_of`, which returns the accesses of the items, in their order. `accesses_from-push` appends the
-- next item's access, or nothing if the item has none.
use Rattle.lw_paths.proofs.Common.{◌++◌, ◌∙◌, Vec, ap, sym, append-nil, option_to_list, drop_all, Access}
use Rattle.lw_paths.proofs.AccessPairs.{accesses_from-push}
use Rattle.lw_paths.proofs.conflicts.accesses_of.Goals.{in-Some+in_ok-push, in_default}
use Rattle.lw_paths.proofs.conflicts.accesses_of.Goals as goal

-- The access of one more item is appended, if it has one.
pub loop-index-preserved : goal.loop-index-preserved
loop-index-preserved g c =
    let found = c.loop-index.accesses.items in
    let items_in = λ (v : Vec Access g.row.A.Denot). v.items in
    accesses_from-push g.S.Statement.language c.args.program.now c.args.items.now c.loop-index.index found
    (record { item_in_range = c.loop-index-test.true; item_is = c.index-items-index.is; access_is = c.access_of.ensures })
    c.loop-index.invariant (elim c.match-access_of.branch [
      | in-Some+in_ok-push w ↦
          ap items_in w.accesses-is ∙ (w.in_ok-push.ensures.items ∙ ap (λ o. found ++ option_to_list o) (sym w.in-Some.is))
      | in_default w ↦
          ap items_in w.accesses-is ∙ (sym (append-nil found) ∙ ap (λ o. found ++ option_to_list o) (sym w.in_default.is))
    ])

pub returns : goal.returns
returns g c = rw (drop_all c.loop-index.index c.args.items.now c.loop-index-test.false, append-nil) at c.loop-index.invariant
