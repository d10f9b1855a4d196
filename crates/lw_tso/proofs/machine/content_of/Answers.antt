-- Proves `content_of`, which returns the memory's content as a list. Each round appends the word of the next
-- location; there are at most eight, as the memory system's `location_count` promises, so the list of all
-- locations is long enough.
use Rattle.lw_tso.proofs.Common.{◌<◌, ◌++◌, ◌∷◌, [], ap, ap₂, arith, length, sym, ◌∙◌, length-take, take_all}
use Rattle.lw_tso.proofs.Common.{slice_index, take_more}
use Rattle.lw_tso.proofs.Refilled.{all_locations-at}
use Rattle.lw_tso.proofs.machine.content_of.Goals as goal

pub word_at_end-requires : goal.word_at_end-requires
word_at_end-requires g c =
    let at = all_locations-at _ _ _ c.all.ensures c.loop-loc-test.true c.loc-item.is in
    omega (arith, at, c.loop-loc-test.true, length-take c.location_count.result c.all.result, c.location_count.ensures.count)

pub loop-loc-preserved : goal.loop-loc-preserved
loop-loc-preserved g c =
    let content = g.M.MemorySystem.content c.args.memory.now in
    let at = all_locations-at _ _ _ c.all.ensures c.loop-loc-test.true c.loc-item.is in
    let there : c.loop-loc.loc-index < length content =
    omega (arith, c.loop-loc-test.true, length-take c.location_count.result c.all.result, c.location_count.ensures.count) in
    c.in_ok-push.ensures.ok
    ∙ ap₂ (λ words word. words ++ word ∷ []) c.loop-loc.invariant (c.word_at_end.ensures.word ∙ ap (slice_index content) at)
    ∙ sym (take_more content _ 0 there)

pub returns : goal.returns
returns g c = c.loop-loc.invariant ∙ take_all c.loop-loc.loc-index (g.M.MemorySystem.content c.args.memory.now) (omega (
  arith,
  c.loop-loc-test.false,
  length-take c.location_count.result c.all.result,
  ap length c.all.ensures,
  c.location_count.ensures.count,
  c.location_count.ensures.bounded,
))
