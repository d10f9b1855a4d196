-- Proves `counts_of`, which returns the numbers of states in which the proposition is true, and in which it is
-- false. `count_true-suc` counts one state; the false ones are all others (`count_false-negative`). Neither sum nor
-- difference overflows, since no count exceeds the index.
use Rattle.lw_report.proofs.Common.{ap, refl, arith, ListedState}
use Rattle.lw_report.proofs.Counted.{from_bool-le_one, count_true-suc, count_all-positive}
use Rattle.lw_report.proofs.Counted.{count_false-negative}
use Rattle.lw_report.proofs.report.counts_of.Goals as goal

pub loop-state-init : goal.loop-state-init
loop-state-init g c = record { counted = refl; bounded = omega arith }

-- One more state is counted.
pub loop-state-preserved : goal.loop-state-preserved
loop-state-preserved g c = record {
  counted =
      count_true-suc _ c.loop-state.state-index c.loop-state-test.true c.state-item.is
      (ap (λ (s : ListedState). s.holds) c.state.view_is) c.loop-state.invariant.counted c.from-positive.ensures;
  bounded = omega (
    arith,
    c.loop-state.invariant.bounded,
    from_bool-le_one c.state.inside.holds c.from-positive.result c.from-positive.ensures,
  );
}

pub returns-clause-positive : goal.returns-clause-positive
returns-clause-positive g c = count_all-positive _ _ _ c.loop-state-test.false c.loop-state.invariant.counted

pub returns-clause-negative : goal.returns-clause-negative
returns-clause-negative g c = count_false-negative c.args.states.now _ (returns-clause-positive g c)

pub overflow_sub-result : goal.overflow_sub-result
overflow_sub-result g c = omega (arith, c.loop-state.invariant.bounded, c.loop-state.auto.state-index-end)

pub overflow_add-positive : goal.overflow_add-positive
overflow_add-positive g c =
    omega (
      arith,
      c.loop-state.invariant.bounded,
      from_bool-le_one c.state.inside.holds c.from-positive.result c.from-positive.ensures,
    )
