-- Proves `push_locations`, which appends the observed locations. `filter_prefix-push` adds one location if it is
-- observed. The loop goes over the first of all eight locations; that there are not more in the test is an invariant
-- of its table.
use Rattle.lw_report.proofs.Common.{most_locations, ◌<◌, ◌≤◌, ◌∙◌, sym, length, length-take, get_or-take}
use Rattle.lw_report.proofs.Common.{arith, ap, append-nil, Location}
use Rattle.lw_report.proofs.Names.{filter_prefix-push, filter_prefix-all}
use Rattle.lw_report.proofs.projection.push_locations.Goals as goal

pub loop-loc-init : goal.loop-loc-init
loop-loc-init g c = sym (append-nil c.args.names.now)

pub loop-loc-preserved : goal.loop-loc-preserved
loop-loc-preserved g c =
    let k = c.loop-loc.loc-index in
    let taken = length-take c.len.result c.all.result in
    let within : k < c.len.result = omega (arith, c.loop-loc-test.true, taken) in
    let below : k < most_locations = omega (arith, c.loop-loc-test.true, taken, ap length c.all.ensures) in
    filter_prefix-push _ _ k c.args.names.now c.loop-loc.names c.loop-loc.invariant 8 c.all.result _ _ _ c.all.ensures below
    (c.loc-item.is ∙ get_or-take c.len.result c.all.result k _ within) c.in_ok-push_observed.ensures

pub returns : goal.returns
returns g c =
    let k = c.loop-loc.loc-index in
    let taken = length-take c.len.result c.all.result in
    let eight = ap length c.all.ensures in
    let most : k ≤ length c.args.head.now.locs = omega (arith, taken, c.len.ensures.len, c.loop-loc.auto.loc-index-end) in
    let least : length c.args.head.now.locs ≤ k =
    omega (arith, taken, eight, c.len.ensures.len, c.len.ensures.table.bounded, c.loop-loc-test.false) in
    filter_prefix-all _ (λ x. Location x) k c.args.names.now c.loop-loc.names c.loop-loc.invariant _ most least
