-- Proves `LocNames::copy`, which returns an equal table. Each round copies one name (`copied_names-push`).
use Rattle.lw_base.proofs.Common.{◌∙◌, map, ap, sym, subst, arith, take_all, string_bytes, IsNameTable}
use Rattle.lw_base.proofs.api.Tables.{copied_names-push}
use Rattle.lw_base.proofs.location.LocNames.copy.Goals as goal

pub loop-name-preserved : goal.loop-name-preserved
loop-name-preserved g c =
    copied_names-push string_bytes _ _ _ _ (record {
      entry = c.name-item.result;
      index_in_range = omega arith;
      entry_is = c.name-item.is;
      named = c.in_ok-from_str.ensures.ok ∙ c.as_str.ensures.value;
    }) c.loop-name.invariant c.in_ok-push.ensures.items

pub loop-name-init : goal.loop-name-init
loop-name-init g c = ap (map string_bytes) c.new-names.ensures.items

pub returns : goal.returns
returns g c =
    c.loop-name.invariant
    ∙ ap (map string_bytes)
    (take_all c.loop-name.name-index c.deref-name-items.result.now c.loop-name-test.false ∙ c.deref-name-items.ensures.value)
    ∙ c.self.view_is

pub invariant_of-result : goal.invariant_of-result
invariant_of-result g c =
    let same =
    take_all c.loop-name.name-index c.deref-name-items.result.now c.loop-name-test.false ∙ c.deref-name-items.ensures.value in
    subst IsNameTable (sym (c.loop-name.invariant ∙ ap (map string_bytes) same)) c.self.invariant
