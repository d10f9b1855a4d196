-- Law: a source test in which no load follows a waiting store needs no fence: compiled without fences it has
-- its outcomes. The compiler inserts none there, so the program without fences is the compiled one
-- (`IsCompiled-iff_without_fences`).
use Rattle.lw_bench.proofs.Common.{IsCompiled-iff_without_fences}
use Rattle.lw_bench.proofs.fence_laws.no_fence_is_needed_if_no_store_waits.Goals as goal

-- The program without fences is the compiled one, to which the laws of compiled programs apply.
pub returns : goal.returns
returns c =
    let compiled = c.compiled_programs_have_their_sources_outcomes.ensures in
    record {
      same_program = IsCompiled-iff_without_fences;
      flat_memory = λ source program starts o ok needless without.
          compiled.flat_memory source program starts o ok
          ((IsCompiled-iff_without_fences source program starts needless).1 without);
      caches = λ source program starts protocol o ok needless without fits.
          compiled.caches source program starts protocol o ok
          ((IsCompiled-iff_without_fences source program starts needless).1 without) fits;
    }
