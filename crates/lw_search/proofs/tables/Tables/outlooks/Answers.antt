-- Proves `Tables::outlooks`: each round sets the outlook of one more thread (`HoldsOfFirst-set`), which is right of each state that the
-- key represents.
use Rattle.lw_search.proofs.Common.{◌≡◌, ◌<◌, ◌+◌, ◌∙◌, arith, ap, sym, refl, subst, Some, length, length-set}
use Rattle.lw_search.proofs.Common.{slice_get, slice_index, slice_get_within, thread_code, Processor}
use Rattle.lw_search.proofs.Common.{Components, HasConflictsOf}
use Rattle.lw_search.proofs.AccessSets.{HoldsOfFirst-set}
use Rattle.lw_search.proofs.Collected.{slice_get-loop_item}
use Rattle.lw_search.proofs.tables.Tables.outlooks.Goals as goal

-- A round sets the outlook of the thread of the loop's index.
pub loop-index-preserved : goal.loop-index-preserved
loop-index-preserved g c =
    let tables = c.args.self.now in
    let n = c.loop-index.index in
    let formed = c.self.inside.program.now.well_formed in
    let within : n < length c.loop-index.threads =
    omega (
      arith,
      c.loop-index-test.true,
      c.len-index-end.ensures,
      formed.as_many,
      formed.head.bounded,
      c.loop-index.invariant.size,
    ) in
    let at =
    slice_get-loop_item c.loop-index.threads c.loop-index.threads n c.index-threads-index.result refl within
    c.index-threads-index.is in
    record {
      size = length-set c.loop-index.threads n c.outlook.result ∙ c.loop-index.invariant.size;
      holds =
          HoldsOfFirst-set (λ u o.
          (p : Processor)
          → u < length tables.program
          → slice_get tables.threads (slice_index c.args.key.now (u + 1)) ≡ Some p
          → HasConflictsOf (thread_code tables.program u) p o.conflicts) c.loop-index.threads n c.index-threads-index.result
          c.outlook.result at c.loop-index.invariant.holds (rw c.cpu_at.ensures at c.outlook.ensures);
    }

pub returns : goal.returns
returns g c s is_represented as_many u p at =
    let tables = c.args.self.now in
    let lt : u < length tables.program = subst (λ k. u < k) as_many (slice_get_within s.processors u p at) in
    let few : length tables.program ≡ length c.self.inside.program.now.threads =
    ap (λ (t : Components). length t.program) (sym c.self.view_is) in
    let o = c.loop-index.invariant.holds u (omega (arith, lt, few, c.loop-index-test.false, c.len-index-end.ensures)) in
    let formed = c.self.inside.program.now.well_formed in
    (omega (arith, lt, few, formed.as_many, formed.head.bounded), o.0, o.1, o.2 p lt (is_represented.threads u p at))
