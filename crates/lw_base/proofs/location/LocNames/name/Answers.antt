-- Proves `LocNames::name`, which returns the name of a location. The location is in the table, so it can be
-- read, and what is read is the contract's (`slice_get-entry_name`).
use Rattle.lw_base.proofs.Common.{◌∙◌, ap, length, sym, arith, string_bytes, length-map}
use Rattle.lw_base.proofs.api.Tables.{slice_get-entry_name}
use Rattle.lw_base.proofs.location.LocNames.name.Goals as goal

-- The name that is read at the location's index is the table's name there.
pub returns : goal.returns
returns g c =
    slice_get-entry_name string_bytes _ c.index.result _ (record {
      entry = c.index-2.result.now;
      index_in_range =
          omega (
            arith,
            c.index.ensures.value,
            c.requires,
            length-map c.self.inside.names.items string_bytes,
            ap length c.self.view_is,
          );
      entry_is = c.index-2.ensures;
      named = c.as_str.ensures.value;
    }) c.self.view_is c.index.ensures.value

pub index-requires-2 : goal.index-requires-2
index-requires-2 g c =
    let count = c.self.inside.names.ok.0 ∙ sym (length-map c.self.inside.names.items string_bytes) ∙ ap length c.self.view_is in
    omega (arith, c.index.ensures.value, count, c.requires)
