-- Proves `StateTable::insert`, which appends a key and its origin unless the table has the key. This is the case
-- of a new key: by `not-slice_get-if_absent` the set's test, that no key compares equal, means that no row has it.
use Rattle.lw_search.proofs.Common.{◌≡◌, ◌∙◌, Bool, false, ◌++◌, ◌∷◌, [], if◌then◌else◌, sym, ap, inl, nat_eq}
use Rattle.lw_search.proofs.Common.{on_ok_weaker, unsigned_Decides, pointwise, pointwise_decides, list_any}
use Rattle.lw_search.proofs.Rows.{not-slice_get-if_absent, false-if_not_true}
use Rattle.lw_search.proofs.states.StateTable.insert.Goals as goal

-- If the key is new, it is appended with its origin.
pub returns-then-is_new : goal.returns-then-is_new
returns-then-is_new g c =
    let keys = c.self.inside.keys.keys in
    let new : list_any (pointwise nat_eq c.args.key) keys ≡ false =
    false-if_not_true _ (sym c.in_ok-is_new.ensures.added ∙ c.if-is_new.true) in
    rw (← c.self.view_is)
    (on_ok_weaker c.push_origin.result (λ h. inl (
      not-slice_get-if_absent (pointwise nat_eq) (pointwise_decides unsigned_Decides) keys c.args.key new,
      h.0 ∙ c.in_ok-is_new.ensures.keys ∙ ap (λ (b : Bool). if b then keys else (keys ++ c.args.key ∷ [])) new,
      record { origin = h.1.origin; parent_is = h.1.parent_is; origins = h.1.origins; runs = h.1.runs; run_row = h.1.run_row },
    )) c.push_origin.ensures)
