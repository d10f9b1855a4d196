-- At each round the run has made the first steps of the order and can make the others; the events so far,
-- followed by the schedule of the others, are the whole schedule.
use Rattle.lw_fence.proofs.Common.{◌≡◌, ◌++◌, map, drop, Step, State, SourceRunsTo, initial_state, source_of}
use Rattle.lw_fence.proofs.Common.{compiled_schedule}
use Rattle.lw_fence.proofs.schedule.schedule_of.Given as goal

abbrev pub invariant-loop-cpu : goal.invariant-loop-cpu
invariant-loop-cpu g l = record {
  program : l.run.program ≡ l.source.threads;
  possible : (end : State) × SourceRunsTo l.source.threads (map Step (drop l.cpu-index l.order)) l.run.state end;
  so_far :
      l.events.items ++ compiled_schedule l.source.threads l.compiled.starts (drop l.cpu-index l.order) l.run.state
      ≡ compiled_schedule l.source.threads l.compiled.starts l.order (initial_state (source_of l.source));
}
