-- Proves `copy_content`, which writes the memory's content over a list of the same length. `take-set_next`
-- extends the part that is right by the word of the next location.
use Rattle.lw_tso.proofs.Common.{◌+◌, ◌<◌, ap, arith, length, length-set, ◌∙◌, length-take, slice_index, take}
use Rattle.lw_tso.proofs.Common.{common_steps}
use Rattle.lw_tso.proofs.Refilled.{all_locations-at, take-set_next}
use Rattle.lw_tso.proofs.machine.copy_content.Goals as goal

-- One more word is that of its location.
pub loop-loc-preserved : goal.loop-loc-preserved
loop-loc-preserved g c =
    let content = g.M.MemorySystem.content c.args.memory.now in
    let words = c.loop-loc.words in
    let at = all_locations-at _ _ _ c.all.ensures c.loop-loc-test.true c.loc-item.is in
    let there : c.loop-loc.loc-index < length content =
    omega (arith, c.loop-loc-test.true, length-take c.location_count.result c.all.result, c.location_count.ensures.count) in
    record {
      many = ap length c.set.ensures ∙ (length-set words c.index.result _ ∙ c.loop-loc.invariant.many);
      words =
          ap (take (c.loop-loc.loc-index + 1)) c.set.ensures
          ∙ take-set_next words content _ _ (c.index.ensures.value ∙ at)
          (omega (arith, there, c.loop-loc.invariant.many, c.requires)) there c.loop-loc.invariant.words
          (c.word_at_end.ensures.word ∙ ap (slice_index content) at);
    }

pub set-requires : goal.set-requires
set-requires g c = grind (arith, common_steps)

pub word_at_end-requires : goal.word_at_end-requires
word_at_end-requires g c = grind (arith, common_steps)
