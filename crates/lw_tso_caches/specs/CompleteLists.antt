-- Complete lists: the content of a test's list, by whatever algorithm it is made.
use Rattle.std.specs.Prelude.{◌↔◌, ℕ, All, Contains, List, length}
use Rattle.lw_base.specs.ListedOutcomes.{IsListedOutcome}
use Rattle.lw_base.specs.Outcomes.{FinalState, HasOutcomeShape}
use Rattle.lw_fence.specs.Compiling.{IsCompiled}
use Rattle.lw_mesi.specs.declared.protocol.Protocol.{Protocol}
use Rattle.lw_litmus.specs.Tests.{SourceTest, X86Test}
use Rattle.lw_outcome_map.specs.Listings.{OutcomeEntries, outcomes_of}
use Rattle.lw_tso_caches.specs.OverCaches.{ReplaysToOverCaches, OutcomeOverCaches}

-- The list of a source test has exactly the outcomes that its compiled program reaches on the whole machine, over all schedules of steps,
-- drains and evictions, and each schedule replays there to its outcome.
pub record ListsMachine (test : SourceTest) (entries : OutcomeEntries) : Type 0 where
  pub program : X86Test
  pub starts : List (List ℕ)
  pub compiled : IsCompiled test program starts
  pub outcomes : (protocol : Protocol) (o : FinalState) → Contains (outcomes_of entries) o ↔ OutcomeOverCaches protocol program o
  pub replays : (protocol : Protocol) → All (λ e. ReplaysToOverCaches protocol program e.1 e.0) entries

-- The outcomes are exactly those of which Has holds; these are those of a program over caches of each protocol, and have its threads and
-- locations. For the crates that make lists; no public call cites it.
pub record AreAllOutcomes (Has : FinalState → Type 0) (program : X86Test) (outcomes : List FinalState) : Type 0 where
  pub exactly : (o : FinalState) → Contains outcomes o ↔ Has o
  pub over_caches : (protocol : Protocol) (o : FinalState) → Contains outcomes o ↔ OutcomeOverCaches protocol program o
  pub shapes : All (HasOutcomeShape program.head.threads (length program.head.locs)) outcomes

-- The list has all these outcomes, and its schedules replay to them over caches of each protocol. For the crates that make lists; no public
-- call cites it.
pub record IsComplete (Has : FinalState → Type 0) (program : X86Test) (entries : OutcomeEntries) : Type 0 where
  pub has_all_outcomes : AreAllOutcomes Has program (outcomes_of entries)
  pub replays : (protocol : Protocol) → All (λ e. ReplaysToOverCaches protocol program e.1 e.0) entries
  pub of_program : All (IsListedOutcome program.head) entries
