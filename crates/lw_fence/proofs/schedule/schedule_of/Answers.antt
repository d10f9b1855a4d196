-- Proves `schedule_of`, which returns the compiled program's schedule for a source run. The run is made once
-- more, to know each thread's position: `NextThreadStep-of_run` says that the next step is enabled, so `unwrap` cannot
-- panic, and `compiled_schedule-append_events` appends its statement's events.
use Rattle.lw_fence.proofs.Common.{IsWellScoped-well_formed, source_language, ◌≡◌, ◌+◌, ◌++◌, ◌∙◌, ℕ, List}
use Rattle.lw_fence.proofs.Common.{map, drop, ap, ap₂, sym, subst, append-nil, drop_all, slice_get_within}
use Rattle.lw_fence.proofs.Common.{Event, Step, flat_memory, Stmt, State, SourceRunsTo, source_step}
use Rattle.lw_fence.proofs.Common.{program_of, ReturnsEventResult-ok, ReplaysTo, compiled_schedule}
use Rattle.lw_fence.proofs.Scheduling.{IsOk-if_enabled, NextThreadStep-of_run, read_position-eq}
use Rattle.lw_fence.proofs.Scheduling.{compiled_schedule-append_events}
use Rattle.lw_fence.proofs.SourceToMachine.{schedule_replays}
use Rattle.lw_fence.proofs.schedule.schedule_of.Goals as goal

pub position-index-requires : goal.position-index-requires
position-index-requires g c =
    let turn = NextThreadStep-of_run c.loop-cpu-test.true c.cpu-item.is c.loop-cpu.invariant.possible in
    slice_get_within c.loop-cpu.run.state.threads c.cpu-item.result turn.thread turn.was

pub push_next-requires-clause-in_range : goal.push_next-requires-clause-in_range
push_next-requires-clause-in_range g c =
    let turn = NextThreadStep-of_run c.loop-cpu-test.true c.cpu-item.is c.loop-cpu.invariant.possible in
    rw (read_position-eq c.loop-cpu-test.true c.cpu-item.is turn c.position-index.ensures) turn.position_in_range

-- The events of the next thread's statement are appended, and its step is made.
pub loop-cpu-preserved : goal.loop-cpu-preserved
loop-cpu-preserved g c =
    let program = c.loop-cpu.invariant.program in
    let turn = NextThreadStep-of_run c.loop-cpu-test.true c.cpu-item.is c.loop-cpu.invariant.possible in
    let one = ReturnsEventResult-ok _ _ c.step.ensures.done c.unwrap.ensures in
    let step = ap (λ codes. source_step codes c.cpu-item.result c.loop-cpu.run.state) (sym program) ∙ one in
    let same : turn.mid ≡ c.step.new.self.state = cc in
    record {
      program = c.step.ensures.program ∙ program;
      possible =
          let rest = map Step (drop (c.loop-cpu.cpu-index + 1) c.args.order.now) in
          subst (λ s. (end : State) × SourceRunsTo c.args.source.now.threads rest s end) same turn.more;
      so_far =
          compiled_schedule-append_events _ _ _ _ c.loop-cpu-test.true c.cpu-item.is _ _ _ _ _ c.position-index.ensures step
          c.in_ok-push_next.ensures.ok c.loop-cpu.invariant.so_far;
    }

-- At the start no event is appended, and the whole order can be run.
pub loop-cpu-init : goal.loop-cpu-init
loop-cpu-init g c =
    let program = c.args.source.now.threads in
    let order = c.args.order.now in
    let begun = λ (s : State). (end : State) × SourceRunsTo program (map Step order) s end in
    record {
      program = c.in_ok-run.ensures.program;
      possible = subst begun (sym c.in_ok-run.ensures.state) c.requires.possible;
      so_far =
          ap₂ (λ (es : List Event) (s : State). es ++ compiled_schedule program c.args.compiled.now.starts order s)
          c.new-events.ensures.items c.in_ok-run.ensures.state;
    }

pub bounds-order-cpu-index : goal.bounds-order-cpu-index
bounds-order-cpu-index g c = c.loop-cpu-test.true

pub returns-clause-schedule : goal.returns-clause-schedule
returns-clause-schedule g c =
    let events = c.loop-cpu.events.items in
    let rest =
    λ (order : List ℕ). compiled_schedule c.args.source.now.threads c.args.compiled.now.starts order c.loop-cpu.run.state in
    sym (append-nil events)
    ∙ ap (λ (order : List ℕ). events ++ rest order) (sym (drop_all _ c.args.order.now c.loop-cpu-test.false))
    ∙ c.loop-cpu.invariant.so_far

-- The schedule is that of the whole order, which replays on the compiled program.
pub returns-clause-replays : goal.returns-clause-replays
returns-clause-replays g c = λ o runs.
    let events = c.loop-cpu.events.items in
    let program = program_of c.args.compiled.now.program in
    let none = drop_all c.loop-cpu.cpu-index c.args.order.now c.loop-cpu-test.false in
    let rest =
    λ (order : List ℕ). compiled_schedule c.args.source.now.threads c.args.compiled.now.starts order c.loop-cpu.run.state in
    let all = sym (append-nil events) ∙ ap (λ (order : List ℕ). events ++ rest order) (sym none) ∙ c.loop-cpu.invariant.so_far in
    let ok = IsWellScoped-well_formed source_language c.args.source.now.well_formed in
    let replays = schedule_replays program _ o ok c.requires.compiled runs in
    subst (λ (es : List Event). ReplaysTo flat_memory program program.head.init_words es o) (sym all) replays

pub unwrap-requires : goal.unwrap-requires
unwrap-requires g c =
    let turn = NextThreadStep-of_run c.loop-cpu-test.true c.cpu-item.is c.loop-cpu.invariant.possible in
    let step =
    ap (λ (codes : List (List Stmt)). source_step codes c.cpu-item.result c.loop-cpu.run.state) c.loop-cpu.invariant.program
    ∙ turn.step in
    IsOk-if_enabled _ c.step.result _ _ turn.mid c.step.ensures.done step

pub push_next-requires-clause-compiled : goal.push_next-requires-clause-compiled
push_next-requires-clause-compiled g c = c.requires.compiled
