-- Proves `LocNames::add`, which appends a new valid name and returns its location. `IsNameTable-push`: the
-- result is still a table of at most eight different valid names, so the number of old names fits as a location
-- (`index-of_pushed_name`).
use Rattle.lw_base.proofs.Common.{sym, ◌∙◌, ap, ◌++◌, ◌∷◌, [], arith, length, string_bytes, length-map}
use Rattle.lw_base.proofs.api.Tables.{map_names-push, IsNameTable-push, index-of_pushed_name}
use Rattle.lw_base.proofs.api.Tables.{IsSome-if_table_has_room}
use Rattle.lw_base.proofs.location.LocNames.add.Goals as goal

pub invariant_of-self : goal.invariant_of-self
invariant_of-self g c = rw c.in_err-push.ensures.items c.self.invariant

pub invariant_of-self-2 : goal.invariant_of-self-2
invariant_of-self-2 g c =
    let more = map_names-push string_bytes _ _ _ _ c.in_ok-push.ensures.items c.in_ok-text.ensures.ok in
    let fresh = rw (← c.self.view_is) at c.requires.fresh in
    rw more (IsNameTable-push _ _ (rw (← c.self.view_is) at c.requires.bounded) c.requires.name fresh c.self.invariant)

pub returns-clause-index : goal.returns-clause-index
returns-clause-index g c =
    let count =
    c.len-index.ensures
    ∙ c.self.inside.names.ok.0
    ∙ sym (length-map c.self.inside.names.items string_bytes)
    ∙ ap length c.self.view_is in
    index-of_pushed_name c.new.result _ c.unwrap.result _ c.new.ensures count c.requires.bounded c.unwrap.ensures

pub returns-clause-ok : goal.returns-clause-ok
returns-clause-ok g c =
    let more = map_names-push string_bytes _ _ _ _ c.in_ok-push.ensures.items c.in_ok-text.ensures.ok in
    more ∙ ap (λ names. names ++ c.args.name.now ∷ []) c.self.view_is

pub returns-clause-table : goal.returns-clause-table
returns-clause-table g c = invariant_of-self-2 g c

pub unwrap-requires : goal.unwrap-requires
unwrap-requires g c =
    let count =
    c.len-index.ensures
    ∙ c.self.inside.names.ok.0
    ∙ sym (length-map c.self.inside.names.items string_bytes)
    ∙ ap length c.self.view_is in
    IsSome-if_table_has_room c.new.result c.len-index.result _ c.new.ensures count c.requires.bounded

pub overflow_cast-index : goal.overflow_cast-index
overflow_cast-index g c =
    let count =
    c.len-index.ensures
    ∙ c.self.inside.names.ok.0
    ∙ sym (length-map c.self.inside.names.items string_bytes)
    ∙ ap length c.self.view_is in
    omega (arith, count, c.requires.bounded)
