-- Proves `run`: if it returns `true`, all found states are visited; if `false`, more are found than the
-- budget allows. The state to expand exists, since the invariant bounds `at`. The exits compare the number of
-- keys with `at` and with the budget, which gives the claim.
use Rattle.lw_search.proofs.Common.{◌≡◌, ◌∙◌, ◌+◌, arith, subst, length, SearchInvariant}
use Rattle.lw_search.proofs.search.Search.run.Goals as goal

pub expand-requires : goal.expand-requires
expand-requires g c =
    let a = c.loop-at.invariant.expands _ c.requires.started.0 c.requires.started.1 in
    record {
      found = omega (arith, a.1.within, a.1.key_count, c.if-at-len.false, c.len.ensures);
      kept = rw (← c.loop-at.invariant.program_is) at c.loop-at.invariant.kept;
    }

pub loop-at-preserved : goal.loop-at-preserved
loop-at-preserved g c = record {
  program_is = c.in_ok-expand.ensures.program ∙ c.loop-at.invariant.program_is;
  expands = λ start found invariant.
      let a = c.loop-at.invariant.expands start found invariant in
      (rw c.loop-at.invariant.program_is at c.in_ok-expand.ensures.expanded) start a.0 a.1;
  kept = rw c.loop-at.invariant.program_is at c.in_ok-expand.ensures.kept;
}

-- If the index is the number of keys, all states found are expanded.
pub returns-then-at-len-clause-progress : goal.returns-then-at-len-clause-progress
returns-then-at-len-clause-progress g c =
    let end : c.loop-at.at ≡ length c.loop-at.self.states.keys = c.if-at-len.true ∙ c.len.ensures in (
      λ start found invariant.
          (let a = c.loop-at.invariant.expands start found invariant in (
            a.0,
            subst
                (λ n. SearchInvariant c.args.self.now.program.now.threads start c.loop-at.self.tables c.loop-at.self.states a.0 n)
                end a.1,
          )),
      omega (arith, end, c.loop-at-test.true),
    )

pub returns-then-budget-len-clause-progress : goal.returns-then-budget-len-clause-progress
returns-then-budget-len-clause-progress g c = λ start found invariant.
    let a = c.loop-at.invariant.expands start found invariant in
    let b = (rw c.loop-at.invariant.program_is at c.in_ok-expand.ensures.expanded) start a.0 a.1 in
    (b.0, c.loop-at.at + 1, b.1, omega (arith, b.1.key_count, c.len-in-loop-at.ensures, c.if-budget-len.true))

pub returns-then-budget-len-2-clause-progress : goal.returns-then-budget-len-2-clause-progress
returns-then-budget-len-2-clause-progress g c = λ start found invariant.
    let a = c.loop-at.invariant.expands start found invariant in
    (a.0, c.loop-at.at, a.1, omega (arith, a.1.key_count, c.len-2.ensures, c.if-budget-len-2.true))

-- If the loop ends within the budget, all states found are expanded.
pub returns-clause-progress : goal.returns-clause-progress
returns-clause-progress g c = (
  λ start found invariant.
      (let a = c.loop-at.invariant.expands start found invariant in
      let end : c.loop-at.at ≡ length c.loop-at.self.states.keys = omega (
        arith,
        a.1.key_count,
        a.1.within,
        c.len-2.ensures,
        c.if-budget-len-2.false,
        c.loop-at-test.false,
        c.loop-at.auto.at-end,
      ) in (
        a.0,
        subst (λ n. SearchInvariant c.args.self.now.program.now.threads start c.loop-at.self.tables c.loop-at.self.states a.0 n)
            end a.1,
      )),
  omega (arith, c.len-2.ensures, c.if-budget-len-2.false),
)
