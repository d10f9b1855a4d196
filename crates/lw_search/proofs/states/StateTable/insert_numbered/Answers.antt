-- Proves `StateTable::insert_numbered`, which appends a key and its origin unless the table has the key. For a new key, by `not-slice_get-if_absent` the set's
-- test, that no key compares equal, means that no row has it.
use Rattle.lw_search.proofs.Common.{◌≡◌, ◌∙◌, Bool, false, ◌++◌, ◌∷◌, [], if◌then◌else◌, sym, ap, refl, inl}
use Rattle.lw_search.proofs.Common.{nat_eq, unsigned_Decides, pointwise, pointwise_decides, list_any}
use Rattle.lw_search.proofs.Rows.{not-slice_get-if_absent, false-if_not_true, IsPrefix-refl}
use Rattle.lw_search.proofs.states.StateTable.insert_numbered.Goals as goal

-- If the key is new, it is appended with its origin.
pub returns-in_ok-push : goal.returns-in_ok-push
returns-in_ok-push g c =
    let keys = c.self.inside.keys.keys in
    let new : list_any (pointwise nat_eq c.args.key) keys ≡ false =
    false-if_not_true _ (sym c.in_ok-is_new.ensures.added ∙ c.if-is_new.true) in
    rw (← c.self.view_is) (λ events row. inl (
      not-slice_get-if_absent (pointwise nat_eq) (pointwise_decides unsigned_Decides) keys c.args.key new,
      c.in_ok-is_new.ensures.keys ∙ ap (λ (b : Bool). if b then keys else (keys ++ c.args.key ∷ [])) new,
      record { origin = _; parent_is = refl; origins = c.in_ok-push.ensures.items; runs = IsPrefix-refl _; run_row = row },
    ))
