-- Law: a source test compiled with more fences has no further outcomes, on the machine and over caches; so
-- without fences it has the most. If one set of fences is among another, the second program is the first with
-- fences inserted (`HasInsertedFences-more_fences`); the laws of inserted fences apply.
use Rattle.lw_bench.proofs.Common.{IsWellScopedProgram-with_fences, [], HasInsertedFences-more_fences}
use Rattle.lw_bench.proofs.Common.{AreSubset-nil}
use Rattle.lw_bench.proofs.fence_laws.more_fences_have_no_more_outcomes.Goals as goal

-- Each clause is the law of inserted fences; without fences the set is empty, and so among every other.
pub returns : goal.returns
returns c =
    let flat_law = c.fences_only_remove_outcomes.ensures in
    let law = c.fences_only_remove_outcomes_over_caches.ensures in
    record {
      are_inserted = HasInsertedFences-more_fences;
      flat_memory = λ fences others source program other starts begins o among one more.
          flat_law program other o
          (HasInsertedFences-more_fences fences others source program other starts begins among one more);
      caches = λ fences others source program other starts begins protocol o ok fits among one more.
          law protocol program other o (IsWellScopedProgram-with_fences others source other begins ok more) fits
          (HasInsertedFences-more_fences fences others source program other starts begins among one more);
      without = λ fences source program other starts begins protocol o ok fits one more.
          law protocol program other o (IsWellScopedProgram-with_fences fences source other begins ok more) fits
          (HasInsertedFences-more_fences [] fences source program other starts begins (AreSubset-nil fences) one more);
    }
