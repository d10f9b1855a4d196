-- Proves the source runner's `run`: if it returns `true`, the order follows its paths, and `end` is its only
-- outcome; if `false`, it has none. `RunsContinueFrom-next` adds one executed item, since an item has at most one successor
-- state. An item that is not executed leaves the order without a run (`not-Ran-if_not_enabled`). After the last item
-- `FollowsPathsToEnd-if_final` and `outcome_at_end-unique` say that the outcome is the order's, and the only one.
use Rattle.lw_finals.proofs.Common.{arith, ◌≡◌, ◌∙◌, ℕ, List, Ok, ap, sym, subst, true, true≢false}
use Rattle.lw_finals.proofs.Common.{length-map, Stmt, FinalState, State, is_source_final, source_outcome}
use Rattle.lw_finals.proofs.Common.{Item, SourceTest, source_of, source_item_system, SourceFollowsPathsToEnd}
use Rattle.lw_finals.proofs.Common.{RunnerState, CompiledSource, refl, common_steps, SourceItemTransition}
use Rattle.lw_finals.proofs.OrderSteps.{not-Ran-if_not_enabled, RunsContinueFrom-next, outcome_at_end-unique}
use Rattle.lw_finals.proofs.OrderSteps.{FollowsPathsToEnd-if_final}
use Rattle.lw_finals.proofs.source_runner.SourceRunnerOrderRunner.run.Goals as goal

-- If an item leads from a state to two states, they are the same.
SourceItemTransition-unique : (program : List (List Stmt)) (item : Item) (now next other : State)
    → SourceItemTransition program item now next
    → SourceItemTransition program item now other
    → other ≡ next
SourceItemTransition-unique program item now next other one two = let both : Ok other ≡ Ok next = sym two.1 ∙ one.1 in cc

-- If `given` is the test, and `end` is o, the order's only outcome by the test, then `end` is its only outcome by `given`.
outcome-unique : (items : List Item) (order : List ℕ) (test given : SourceTest) (o end : FinalState)
    → test ≡ given
    → end ≡ o
    → SourceFollowsPathsToEnd test items order o
    → ((p : FinalState) → SourceFollowsPathsToEnd test items order p → p ≡ o)
    → SourceFollowsPathsToEnd given items order end × ((p : FinalState) → SourceFollowsPathsToEnd given items order p → p ≡ end)
outcome-unique items order test given o end same is run alone = (
  subst (λ (t : SourceTest). SourceFollowsPathsToEnd t items order end) same
      (subst (λ (p : FinalState). SourceFollowsPathsToEnd test items order p) (sym is) run),
  λ p h. alone p (subst (λ (t : SourceTest). SourceFollowsPathsToEnd t items order p) (sym same) h) ∙ sym is,
)

pub bounds-items-from : goal.bounds-items-from
bounds-items-from g c = rw c.from.ensures (c.requires c.loop-index.index-index 0 c.loop-index-test.true)

-- One more item was executed.
pub loop-index-preserved : goal.loop-index-preserved
loop-index-preserved g c =
    let source = c.self.inside.source.now in
    let item = c.index-items-from.result in
    let now = c.loop-index.self-inside.run.state in
    let next = c.carry_out.new.run.state in
    let carried =
    subst (λ (p : List (List Stmt)). SourceItemTransition p item now next) c.loop-index.invariant.program
    (c.carry_out.ensures.done c.if-not-carry_out.false) in
    record {
      source = c.loop-index.invariant.source;
      compiled = c.loop-index.invariant.compiled;
      end = c.loop-index.invariant.end;
      program = c.carry_out.ensures.program ∙ c.loop-index.invariant.program;
      start = c.carry_out.ensures.start ∙ c.loop-index.invariant.start;
      many = c.carry_out.ensures.threads ∙ c.loop-index.invariant.many;
      words = c.carry_out.ensures.words ∙ c.loop-index.invariant.words;
      ran =
          RunsContinueFrom-next _ c.args.items.now c.args.order.now c.loop-index.index-index item now next (record {
            index = c.from.result;
            past = 0;
            place_in_range = c.loop-index-test.true;
            is_number = c.from.ensures;
            item_in_range = rw c.from.ensures (c.requires c.loop-index.index-index 0 c.loop-index-test.true);
            is_item = c.index-items-from.is;
          }) carried (λ other. SourceItemTransition-unique source.threads item now next other carried) c.loop-index.invariant.ran;
    }

-- All items were executed, but the state is not final.
pub returns-then-not-is_final-clause-ends : goal.returns-then-not-is_final-clause-ends
returns-then-not-is_final-clause-ends g c o stays =
    let source = source_of c.self.inside.source.now in
    let run : SourceFollowsPathsToEnd source c.args.items.now c.args.order.now o =
    subst (λ (s : SourceTest). SourceFollowsPathsToEnd s c.args.items.now c.args.order.now o)
    (sym (ap (λ (r : RunnerState CompiledSource). r.test.source) c.self.view_is)) stays in
    let at_end = outcome_at_end-unique _ c.args.items.now c.loop-index-test.false c.loop-index.invariant.ran o run in
    let final =
    subst (λ (p : List (List Stmt)). is_source_final p c.loop-index.self-inside.run.state ≡ true)
    (sym c.loop-index.invariant.program) at_end.1 in
    true≢false (sym final ∙ sym c.is_final.ensures ∙ c.if-not-is_final.true)

-- All items were executed and the state is final, so its outcome is the order's only one.
pub returns-clause-ends : goal.returns-clause-ends
returns-clause-ends g c =
    let source = source_of c.self.inside.source.now in
    let now = c.loop-index.self-inside.run.state in
    let final =
    subst (λ (p : List (List Stmt)). is_source_final p now ≡ true) c.loop-index.invariant.program
    (sym c.is_final.ensures ∙ c.if-not-is_final.false) in
    outcome-unique _ _ source _ (source_outcome now) _ (ap (λ r. r.test.source) c.self.view_is) c.write_outcome.ensures
    (FollowsPathsToEnd-if_final (source_item_system source) c.args.items.now c.loop-index-test.false c.loop-index.invariant.ran
    final) (λ o run. (outcome_at_end-unique _ _ c.loop-index-test.false c.loop-index.invariant.ran o run).0)

-- An item could not be executed.
pub returns-then-not-carry_out-clause-ends : goal.returns-then-not-carry_out-clause-ends
returns-then-not-carry_out-clause-ends g c o stays =
    let source = c.self.inside.source.now in
    let items = c.args.items.now in
    let order = c.args.order.now in
    let k = c.loop-index.index-index in
    let now = c.loop-index.self-inside.run.state in
    let run : SourceFollowsPathsToEnd (source_of source) items order o =
    subst (λ s. SourceFollowsPathsToEnd s items order o) (sym (ap (λ r. r.test.source) c.self.view_is)) stays in
    let none =
    subst (λ (p : List (List Stmt)). (next : State) → SourceItemTransition p c.index-items-from.result now next → ⊥)
    c.loop-index.invariant.program (c.carry_out.ensures.left c.if-not-carry_out.true) in
    not-Ran-if_not_enabled _ items order k c.index-items-from.result now (record {
      index = c.from.result;
      past = 0;
      place_in_range = c.loop-index-test.true;
      is_number = c.from.ensures;
      item_in_range = rw c.from.ensures (c.requires k 0 c.loop-index-test.true);
      is_item = c.index-items-from.is;
    }) none c.loop-index.invariant.ran run.end run.ran

pub carry_out-requires : goal.carry_out-requires
carry_out-requires g c = c.len-threads.ensures ∙ sym c.loop-index.invariant.many

-- The runner's test is unchanged, and its run is of the source.
pub invariant_of-self : goal.invariant_of-self
invariant_of-self g c =
    let kept = c.loop-index.invariant in
    let done = c.carry_out.ensures in
    rw (kept.source, kept.compiled, kept.end) (
      c.self.invariant.0,
      done.program ∙ kept.program,
      done.start ∙ kept.start,
      done.threads ∙ kept.many,
      done.words ∙ kept.words,
      c.self.invariant.5,
      c.self.invariant.6,
    )

pub invariant_of-self-then-not-is_final : goal.invariant_of-self-then-not-is_final
invariant_of-self-then-not-is_final g c =
    let kept = c.loop-index.invariant in
    rw (kept.source, kept.compiled, kept.end)
    (c.self.invariant.0, kept.program, kept.start, kept.many, kept.words, c.self.invariant.5, c.self.invariant.6)

pub invariant_of-self-2 : goal.invariant_of-self-2
invariant_of-self-2 g c =
    let kept = c.loop-index.invariant in
    let state = c.loop-index.self-inside.run.state in
    rw (kept.source, kept.compiled, c.write_outcome.ensures)
    (c.self.invariant.0, kept.program, kept.start, kept.many, kept.words, length-map state.threads _ ∙ kept.many, kept.words)

pub write_outcome-requires-clause-threads : goal.write_outcome-requires-clause-threads
write_outcome-requires-clause-threads g c = rw c.loop-index.invariant.end (c.self.invariant.5 ∙ sym c.loop-index.invariant.many)

pub write_outcome-requires-clause-words : goal.write_outcome-requires-clause-words
write_outcome-requires-clause-words g c = rw c.loop-index.invariant.end (c.self.invariant.6 ∙ sym c.loop-index.invariant.words)

pub offset_bounds-items-from : goal.offset_bounds-items-from
offset_bounds-items-from g c = omega (arith, c.from.ensures, c.type_inv.order c.loop-index.index-index)

-- Before the first item the run is in its initial state.
pub loop-index-init : goal.loop-index-init
loop-index-init g c =
    let run = c.restart.ensures in
    let at_start = run.state ∙ c.self.invariant.2 in
    record {
      source = refl;
      compiled = refl;
      end = refl;
      program = run.program ∙ c.self.invariant.1;
      start = run.start ∙ c.self.invariant.2;
      many = grind (arith, common_steps);
      words = grind (arith, common_steps);
      ran = rw at_start (record { rest_runs = λ end ran. ran; whole_runs = λ end ran. ran });
    }
