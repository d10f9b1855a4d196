-- The runs and the outcomes of an x86 test on the whole machine: store buffers over caches on a bus.
use Rattle.std.specs.Prelude.{◌≤◌, List}
use Rattle.lw_base.specs.Limits.{most_threads}
use Rattle.lw_base.specs.Outcomes.{FinalState}
use Rattle.lw_base.specs.declared.event.Event.{Event}
use Rattle.lw_mesi.specs.CacheLines.{Caches, empty_caches}
use Rattle.lw_mesi.specs.Protocols.{caches_by}
use Rattle.lw_mesi.specs.declared.protocol.Protocol.{Protocol}
use Rattle.lw_tso.specs.Machines.{MachineState}
use Rattle.lw_tso.specs.Runs.{MachineRunsTo, ReplaysTo, IsMachineOutcome, initial_machine_state}
use Rattle.lw_litmus.specs.Tests.{X86Test}

-- The empty caches with which a test starts.
abbrev pub initial_caches : X86Test → Caches
initial_caches test = empty_caches test.head.threads test.head.init_words

-- A test fits the caches: it has at most four threads, since a cache line has four copies (`unheld_cache_line`). The caches have a processor
-- for each thread.
abbrev pub FitsCaches : X86Test → Type 0
FitsCaches test = test.head.threads ≤ most_threads

-- These steps, drains and evictions lead from the initial state to this one, each being enabled in its turn.
abbrev pub RunsToOverCaches : Protocol → X86Test → List Event → MachineState Caches → Type 0
RunsToOverCaches protocol test events = MachineRunsTo (caches_by protocol) test.threads events (initial_machine_state test (initial_caches test))

-- These steps, drains and evictions replay to the outcome.
abbrev pub ReplaysToOverCaches : Protocol → X86Test → List Event → FinalState → Type 0
ReplaysToOverCaches protocol test = ReplaysTo (caches_by protocol) test (initial_caches test)

-- Some list of steps, drains and evictions replays to the outcome.
abbrev pub OutcomeOverCaches : Protocol → X86Test → FinalState → Type 0
OutcomeOverCaches protocol test = IsMachineOutcome (caches_by protocol) test (initial_caches test)
