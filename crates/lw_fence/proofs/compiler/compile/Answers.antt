-- Proves `compile`: the result is the compilation of the source, a well-formed program with exactly the
-- source's outcomes over flat memory, whose runs can all be extended to a final state.
-- `SourceOutcome-of_machine` and `schedule_replays` are the two directions of the outcomes;
-- `IsCompiled-of_threads` puts the compiled threads together.
use Rattle.lw_fence.proofs.Common.{source_language, source_of, initial_state, compiled_schedule}
use Rattle.lw_fence.proofs.Common.{IsWellScoped-well_formed}
use Rattle.lw_fence.proofs.Endings.{CanTerminate-compiled}
use Rattle.lw_fence.proofs.MachineToSource.{SourceOutcome-of_machine}
use Rattle.lw_fence.proofs.Programs.{IsCompiled-of_threads, IsWellFormedProgram-compiled}
use Rattle.lw_fence.proofs.SourceToMachine.{schedule_replays}
use Rattle.lw_fence.proofs.compiler.compile.Goals as goal

-- The compiled program is well-formed, since the source is.
pub invariant_of-result : goal.invariant_of-result
invariant_of-result g c =
    let codes_compiled = c.in_ok-codes.ensures in
    let codes = c.in_ok-codes.codes in
    let compiled =
    IsCompiled-of_threads c.in_ok-head.ensures codes_compiled.as_many codes_compiled.as_many_starts codes_compiled.threads in
    record {
      well_formed =
          IsWellFormedProgram-compiled (source_of c.args.source.now) _ codes.starts c.args.source.now.well_formed compiled;
    }

-- The compiled program has the source's outcomes, by both directions, and each of its runs can be brought to an end.
pub returns : goal.returns
returns g c =
    let codes_compiled = c.in_ok-codes.ensures in
    let codes = c.in_ok-codes.codes in
    let source = source_of c.args.source.now in
    let compiled =
    IsCompiled-of_threads c.in_ok-head.ensures codes_compiled.as_many codes_compiled.as_many_starts codes_compiled.threads in
    let ok = IsWellScoped-well_formed source_language c.args.source.now.well_formed in
    record {
      compiled = compiled;
      outcomes = λ o. (
        SourceOutcome-of_machine source _ codes.starts o ok compiled,
        λ run. (
          compiled_schedule source.threads codes.starts run.0 (initial_state source),
          schedule_replays _ run.0 o ok compiled run.1,
        ),
      );
      ends = CanTerminate-compiled source _ codes.starts ok compiled;
    }
