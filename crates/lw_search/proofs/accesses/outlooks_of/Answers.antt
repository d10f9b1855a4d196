-- Proves `outlooks_of`: each round sets the outlook of one more thread of the program (`HoldsOfFirst-set`).
use Rattle.lw_search.proofs.Common.{◌<◌, ◌∙◌, arith, ap, sym, subst, length, thread_code, HasConflictsOf}
use Rattle.lw_search.proofs.Common.{length-set, refl, [], get_or_from_slice_get}
use Rattle.lw_search.proofs.AccessSets.{HoldsOfFirst-set}
use Rattle.lw_search.proofs.Collected.{slice_get-loop_item}
use Rattle.lw_search.proofs.accesses.outlooks_of.Goals as goal

-- A round sets the outlook of the thread of the loop's index.
pub loop-index-preserved : goal.loop-index-preserved
loop-index-preserved g c =
    let program = c.args.program.now.threads in
    let n = c.loop-index.index in
    let lt : n < length program = omega (arith, c.loop-index-test.true, ap length c.as_slice-code-items.ensures) in
    let formed = c.args.program.now.well_formed in
    let within : n < length c.loop-index.threads =
    omega (arith, lt, formed.as_many, formed.head.bounded, c.loop-index.invariant.size) in
    let coded = slice_get-loop_item program _ n _ c.as_slice-code-items.ensures lt c.code-item.is in
    let at =
    slice_get-loop_item c.loop-index.threads c.loop-index.threads n c.index-threads-index.result refl within
    c.index-threads-index.is in
    record {
      size = length-set c.loop-index.threads n c.new.result ∙ c.loop-index.invariant.size;
      holds =
          HoldsOfFirst-set (λ u o. HasConflictsOf (thread_code program u) c.args.thread.now o.conflicts) c.loop-index.threads n
          c.index-threads-index.result c.new.result at c.loop-index.invariant.holds
          (subst (λ code. HasConflictsOf code c.args.thread.now c.new.result.conflicts)
          (c.as_slice.ensures ∙ sym (get_or_from_slice_get program n c.code-item.result [] coded)) c.new.ensures);
    }

pub returns : goal.returns
returns g c u lt =
    c.loop-index.invariant.holds u (omega (arith, lt, c.loop-index-test.false, ap length c.as_slice-code-items.ensures))
