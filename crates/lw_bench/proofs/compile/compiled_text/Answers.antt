-- `compiled_text` promises that the text is that of the source test's compiled program, with the same
-- outcomes on the machine and over caches. The text is what `write_program` ensures, the outcomes what
-- `compile` ensures; `OutcomeOverCaches-iff_SourceOutcome` adds the caches.
use Rattle.lw_bench.proofs.Common.{IfOk-weaker, source_of, program_of, IsCompiledText}
use Rattle.lw_bench.proofs.Compilations.{OutcomeOverCaches-iff_SourceOutcome}
use Rattle.lw_bench.proofs.compile.compiled_text.Goals as goal

-- The text is that of the compiled program, which has the source's outcomes over caches too.
pub returns : goal.returns
returns g c =
    let compiled = c.in_ok-compiled.compiled in
    let told = c.in_ok-compiled.ensures in
    let source = source_of c.args.source.now in
    let program = program_of compiled.program in
    IfOk-weaker c.write_program-text.result _ (IsCompiledText source) (λ text is. record {
      program = program;
      starts = compiled.starts;
      compiled = told.compiled;
      text_is = is;
      outcomes =
          OutcomeOverCaches-iff_SourceOutcome source program c.outcomes_over_caches_are_flat.ensures compiled.program.well_formed
          told.outcomes;
    }) c.write_program-text.ensures.text
