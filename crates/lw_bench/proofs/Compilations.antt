-- Outcomes of a compiled program over caches, from those over flat memory. The contract of `compiled_text`
-- needs both.
use Rattle.lw_bench.proofs.Common.{IsWellScopedProgram, FitsCaches, IsWellScoped-well_formed, x86_language}
use Rattle.lw_bench.proofs.Common.{◌↔◌, FinalState, flat_memory, Protocol, SourceOutcome, SourceTest, X86Test}
use Rattle.lw_bench.proofs.Common.{IsMachineOutcome, IsWellFormedProgram, OutcomeOverCaches}

-- If a program has its source's outcomes over flat memory, and outcomes over caches are those over flat memory, it has its source's over
-- caches.
pub OutcomeOverCaches-iff_SourceOutcome : (test : SourceTest) (program : X86Test)
    → ((protocol : Protocol) (p : X86Test) (o : FinalState)
    → IsWellScopedProgram p
    → FitsCaches p
    → OutcomeOverCaches protocol p o ↔ IsMachineOutcome flat_memory p p.head.init_words o)
    → IsWellFormedProgram program
    → ((o : FinalState) → IsMachineOutcome flat_memory program program.head.init_words o ↔ SourceOutcome test o)
    → (protocol : Protocol) (o : FinalState)
    → OutcomeOverCaches protocol program o ↔ SourceOutcome test o
OutcomeOverCaches-iff_SourceOutcome test program caches ok outcomes protocol o =
    let over = caches protocol program o (IsWellScoped-well_formed x86_language ok) ok.head.bounded in
    let same = outcomes o in
    ((λ outcome. same.0 (over.0 outcome)), (λ outcome. over.1 (same.1 outcome)))
