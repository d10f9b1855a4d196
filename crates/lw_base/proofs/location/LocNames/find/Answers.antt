-- Proves `LocNames::find`, which returns the location with a name, or `None` if the table has no such name. Names
-- that were passed are others (`not-found_at_index`); a name that compares equal is at this index, which fits as a
-- location (`found_at_index`).
use Rattle.lw_base.proofs.Common.{arith, ap, sym, ◌∙◌, below_more, get_or, length, map, ◌<◌, [], string_bytes}
use Rattle.lw_base.proofs.Common.{get_or_read, length-map}
use Rattle.lw_base.proofs.api.Tables.{not-found_at_index, found_at_index}
use Rattle.lw_base.proofs.location.LocNames.find.Goals as goal

pub loop-index-preserved : goal.loop-index-preserved
loop-index-preserved g c =
    let within : c.loop-index.index < length c.deref-known-items.result.now = omega arith in
    below_more _ _ c.loop-index.invariant
    (not-found_at_index string_bytes _ _ _
    (record { entry = c.known-item.result; index_in_range = within; entry_is = c.known-item.is; named = c.as_str.ensures.value })
    _ (sym c.eq.ensures ∙ c.if-eq.false))

-- The name at this index compares equal, so it is found there.
pub returns-then-eq : goal.returns-then-eq
returns-then-eq g c =
    let within : c.loop-index.index < length c.deref-known-items.result.now = omega arith in
    let few : length c.deref-known-items.result.now < 9 =
    omega (arith, length-map c.self.inside.names.items string_bytes, c.self.invariant.bounded, c.deref-known-items.ensures) in
    let stands =
    found_at_index string_bytes _ _ _
    (record { entry = c.known-item.result; index_in_range = within; entry_is = c.known-item.is; named = c.as_str.ensures.value })
    _ _ few c.new.ensures (sym c.eq.ensures ∙ c.if-eq.true) in
    rw (← c.self.view_is, ← c.deref-known-items.ensures.value) stands

pub overflow_cast-index : goal.overflow_cast-index
overflow_cast-index g c = omega (
  arith,
  c.loop-index-test.true,
  length-map c.self.inside.names.items string_bytes,
  c.self.invariant.bounded,
  ap length c.deref-known-items.ensures.value,
)

pub returns : goal.returns
returns g c has =
    let known = c.deref-known-items.result.now in
    let table = ap (map string_bytes) c.deref-known-items.ensures.value ∙ c.self.view_is in
    c.loop-index.invariant has.0 (omega (arith, has.1, c.loop-index-test.false, ap length table, length-map known string_bytes))
    (ap (λ names. get_or names has.0 []) table ∙ sym (get_or_read c.args.self.now has.0 c.args.name.now has.1 (sym has.2) []))
