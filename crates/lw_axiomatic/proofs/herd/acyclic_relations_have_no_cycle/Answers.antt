-- Law: an axiom by ranks is an axiom by cycles, for coherence, global happens-before and sequential
-- consistency. Ranks exclude cycles at once. Back, the relations of an execution are decidable and its events
-- finitely many, so ranks can be computed where there is no cycle.
use Rattle.lw_axiomatic.proofs.Common.{x86_language, source_language}
use Rattle.lw_axiomatic.proofs.Cycles.{Coherence-iff_no_cycle, GlobalHappensBefore-iff_no_cycle}
use Rattle.lw_axiomatic.proofs.Cycles.{IsSequentiallyConsistent-iff_no_cycle}
use Rattle.lw_axiomatic.proofs.herd.acyclic_relations_have_no_cycle.Goals as goal

pub returns : goal.returns
returns c = record {
  coherence = Coherence-iff_no_cycle;
  happens_before = GlobalHappensBefore-iff_no_cycle;
  x86_sequence = IsSequentiallyConsistent-iff_no_cycle x86_language;
  source_sequence = IsSequentiallyConsistent-iff_no_cycle source_language;
}
