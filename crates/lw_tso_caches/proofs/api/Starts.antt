-- Caches that hold nothing are memories on which a test can start. By this the laws of lw_tso for every
-- lawful memory apply to caches.
use Rattle.std.proofs.Common.{◌≡◌, ℕ, ◌≤◌, List, arith}
use Rattle.lw_base.specs.Limits.{most_threads}
use Rattle.lw_mesi.specs.CacheLines.{coherent_words, empty_caches}
use Rattle.lw_mesi.specs.Protocols.{caches_by}
use Rattle.lw_mesi.specs.Coherence.{SatisfiesProtocol, caches_invariant}
use Rattle.lw_mesi.specs.declared.protocol.Protocol.{Protocol}
use Rattle.lw_tso.specs.Starts.{IsInitialMemory}
use Rattle.lw_litmus.specs.WellScopedTests.{IsWellScopedProgram}
use Rattle.lw_litmus.specs.Tests.{X86Test}
use Rattle.lw_tso_caches.specs.OverCaches.{FitsCaches, initial_caches}

-- Caches by each protocol that hold nothing are a memory on which a well-scoped test can start that fits them.
pub IsInitialMemory-empty_caches :
    ((p : Protocol) (cpus : ℕ) (words : List ℕ) → cpus ≤ most_threads → SatisfiesProtocol p (empty_caches cpus words))
    → ((cpus : ℕ) (words : List ℕ) → coherent_words (empty_caches cpus words) ≡ words)
    → (p : Protocol) (test : X86Test)
    → IsWellScopedProgram test
    → FitsCaches test
    → IsInitialMemory (caches_by p) (caches_invariant p) test (initial_caches test)
IsInitialMemory-empty_caches kept content p test ok fits = record {
  sound = kept p test.head.threads test.head.init_words fits;
  cpus = omega (arith, ok.as_many);
  words = content test.head.threads test.head.init_words;
}
