-- Proves the x86 runner's `run`: if it returns `true`, the order follows its paths over flat memory, and `end` is
-- its only outcome; if `false`, it has none. The code runs over MESI caches; the law `events_are_flat` says
-- that each event does the same over flat memory. `HasFlatRuns-next` adds one item; `not-outcome_if_refused` is for an item that
-- is refused.
use Rattle.lw_finals.proofs.Common.{IsWellScoped-well_formed, x86_language, arith, ◌≡◌, ◌∙◌, ℕ, List, Err, ap}
use Rattle.lw_finals.proofs.Common.{subst, sym, true, true≢false, FinalState, Stop, flat_memory, caches_by}
use Rattle.lw_finals.proofs.Common.{caches_invariant, Mesi, IsAtPosition, MachineTransition, InitialWords}
use Rattle.lw_finals.proofs.Common.{is_final, Instr, X86Test, program_of, Item, RunnerState, event_of}
use Rattle.lw_finals.proofs.Common.{X86ItemTransition, common_steps, x86_item_system, X86FollowsPathsToEnd}
use Rattle.lw_finals.proofs.OrderSteps.{outcome_at_end-unique, FollowsPathsToEnd-if_final}
use Rattle.lw_finals.proofs.X86Runners.{IsInitialMemory-after_reset, HasFlatRuns-next, not-outcome_if_refused}
use Rattle.lw_finals.proofs.x86_runner.X86RunnerOrderRunner.run.Goals as goal

-- If `given` is the test, and `end` is o, the order's only outcome by the test, then `end` is its only outcome by `given`.
outcome-unique : (items : List Item) (order : List ℕ) (test given : X86Test) (o end : FinalState)
    → test ≡ given
    → end ≡ o
    → X86FollowsPathsToEnd flat_memory test test.head.init_words items order o
    → ((p : FinalState) → X86FollowsPathsToEnd flat_memory test test.head.init_words items order p → p ≡ o)
    → X86FollowsPathsToEnd flat_memory given given.head.init_words items order end
    × ((p : FinalState) → X86FollowsPathsToEnd flat_memory given given.head.init_words items order p → p ≡ end)
outcome-unique items order test given o end same is run alone = (
  subst (λ (t : X86Test). X86FollowsPathsToEnd flat_memory t t.head.init_words items order end) same
      (subst (λ (p : FinalState). X86FollowsPathsToEnd flat_memory test test.head.init_words items order p) (sym is) run),
  λ p h. alone p (subst (λ t. X86FollowsPathsToEnd flat_memory t t.head.init_words items order p) (sym same) h) ∙ sym is,
)

-- An event of the machine over caches, reset to the initial state, is one over flat memory.
pub loop-index-preserved : goal.loop-index-preserved
loop-index-preserved g c =
    let mem = caches_by Mesi in
    let test = program_of c.self.inside.program.now in
    let m = c.restart.new.self.state.memory in
    let start =
    IsInitialMemory-after_reset mem test m (caches_invariant Mesi) c.restart.ensures.sound c.restart.ensures.cpus
    c.restart.ensures.words c.restart.ensures.program c.self.invariant.0
    (ap (λ (i : InitialWords). i.words) c.self.invariant.1) in
    let item = c.index-items-from.result in
    let carried =
    subst
    (λ (p : List (List Instr)). X86ItemTransition mem p item c.loop-index.self-inside.machine.state c.carry_out.new.machine.state)
    c.loop-index.invariant.threads (c.carry_out.ensures.done c.if-not-carry_out.false) in
    record {
      program = c.loop-index.invariant.program;
      end = c.loop-index.invariant.end;
      threads = c.carry_out.ensures.program ∙ c.loop-index.invariant.threads;
      initial = c.carry_out.ensures.initial ∙ c.loop-index.invariant.initial;
      processors = c.carry_out.ensures.processors ∙ c.loop-index.invariant.processors;
      words = c.carry_out.ensures.words ∙ c.loop-index.invariant.words;
      ran =
          HasFlatRuns-next _ _ m c.args.items.now (λ events s after e answer.
          c.events_are_flat.ensures.over_flat test m events s after e answer
          (IsWellScoped-well_formed x86_language c.self.inside.program.now.well_formed) start) c.args.order.now
          c.loop-index.index-index item _ _ (record {
            index = c.from.result;
            past = 0;
            place_in_range = c.loop-index-test.true;
            is_number = c.from.ensures;
            item_in_range = rw c.from.ensures (c.requires c.loop-index.index-index 0 c.loop-index-test.true);
            is_item = c.index-items-from.is;
          }) c.loop-index.invariant.ran carried;
    }

-- An item could not be executed.
pub returns-then-not-carry_out-clause-ends : goal.returns-then-not-carry_out-clause-ends
returns-then-not-carry_out-clause-ends g c o stays =
    let mem = caches_by Mesi in
    let test = program_of c.self.inside.program.now in
    let m = c.restart.new.self.state.memory in
    let start =
    IsInitialMemory-after_reset mem test m (caches_invariant Mesi) c.restart.ensures.sound c.restart.ensures.cpus
    c.restart.ensures.words c.restart.ensures.program c.self.invariant.0
    (ap (λ (i : InitialWords). i.words) c.self.invariant.1) in
    let item = c.index-items-from.result in
    let now = c.loop-index.self-inside.machine.state in
    let run =
    subst (λ (t : X86Test). X86FollowsPathsToEnd flat_memory t t.head.init_words c.args.items.now c.args.order.now o)
    (sym (ap (λ (r : RunnerState X86Test). r.test) c.self.view_is)) stays in
    let refused =
    subst (λ (p : List (List Instr)).
    IsAtPosition (event_of item) item.position now
    → (stop : Stop) × MachineTransition mem p (event_of item) now (Err stop) c.carry_out.new.machine.state)
    c.loop-index.invariant.threads (c.carry_out.ensures.left c.if-not-carry_out.true) in
    not-outcome_if_refused mem _ m c.args.items.now (λ events s after e answer.
    c.events_are_flat.ensures.over_flat test m events s after e answer
    (IsWellScoped-well_formed x86_language c.self.inside.program.now.well_formed) start) c.args.order.now c.loop-index.index-index
    item now c.carry_out.new.machine.state (record {
      index = c.from.result;
      past = 0;
      place_in_range = c.loop-index-test.true;
      is_number = c.from.ensures;
      item_in_range = rw c.from.ensures (c.requires c.loop-index.index-index 0 c.loop-index-test.true);
      is_item = c.index-items-from.is;
    }) c.loop-index.invariant.ran refused o run

-- All items were executed, but the state is not final.
pub returns-then-not-is_final-clause-ends : goal.returns-then-not-is_final-clause-ends
returns-then-not-is_final-clause-ends g c o stays =
    let test = program_of c.self.inside.program.now in
    let run =
    subst (λ (t : X86Test). X86FollowsPathsToEnd flat_memory t t.head.init_words c.args.items.now c.args.order.now o)
    (sym (ap (λ (r : RunnerState X86Test). r.test) c.self.view_is)) stays in
    let at_end = outcome_at_end-unique _ _ c.loop-index-test.false c.loop-index.invariant.ran.first o run in
    let final =
    subst (λ (p : List (List Instr)). is_final p c.loop-index.self-inside.machine.state ≡ true)
    (sym c.loop-index.invariant.threads) at_end.1 in
    true≢false (sym final ∙ sym c.is_final.ensures ∙ c.if-not-is_final.true)

-- All items were executed and the state is final, so its outcome is the order's only one.
pub returns-clause-ends : goal.returns-clause-ends
returns-clause-ends g c =
    let test = program_of c.self.inside.program.now in
    let system = x86_item_system flat_memory test test.head.init_words in
    let now = c.loop-index.self-inside.machine.state in
    let final =
    subst (λ (p : List (List Instr)). is_final p now ≡ true) c.loop-index.invariant.threads
    (sym c.is_final.ensures ∙ c.if-not-is_final.false) in
    outcome-unique _ _ test _ _ _ (ap (λ r. r.test) c.self.view_is) c.write_outcome.ensures
    (FollowsPathsToEnd-if_final system _ c.loop-index-test.false c.loop-index.invariant.ran.first final)
    (λ o run. (outcome_at_end-unique system c.args.items.now c.loop-index-test.false c.loop-index.invariant.ran.first o run).0)

pub bounds-items-from : goal.bounds-items-from
bounds-items-from g c = rw c.from.ensures (c.requires c.loop-index.index-index 0 c.loop-index-test.true)

-- The runner's program is unchanged, and its machine is of the program.
pub invariant_of-self : goal.invariant_of-self
invariant_of-self g c =
    let kept = c.loop-index.invariant in
    let done = c.carry_out.ensures in
    rw (kept.program, kept.end) (
      done.program ∙ kept.threads,
      done.initial ∙ kept.initial ∙ c.restart.ensures.initial ∙ c.self.invariant.1,
      c.self.invariant.2,
      c.self.invariant.3,
    )

pub invariant_of-self-then-not-is_final : goal.invariant_of-self-then-not-is_final
invariant_of-self-then-not-is_final g c =
    let kept = c.loop-index.invariant in
    rw (kept.program, kept.end)
    (kept.threads, kept.initial ∙ c.restart.ensures.initial ∙ c.self.invariant.1, c.self.invariant.2, c.self.invariant.3)

pub offset_bounds-items-from : goal.offset_bounds-items-from
offset_bounds-items-from g c = omega (arith, c.from.ensures, c.type_inv.order c.loop-index.index-index)

pub invariant_of-self-2 : goal.invariant_of-self-2
invariant_of-self-2 g c = grind (arith, common_steps)

pub write_outcome-requires-clause-threads : goal.write_outcome-requires-clause-threads
write_outcome-requires-clause-threads g c = grind (arith, common_steps)

pub loop-index-init : goal.loop-index-init
loop-index-init g c = grind (arith, common_steps)

pub carry_out-requires : goal.carry_out-requires
carry_out-requires g c = grind (arith, common_steps)
