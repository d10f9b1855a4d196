-- The replay of a test.
use Rattle.std.specs.Prelude.{◌≡◌, ℕ, List}
use Rattle.lw_base.specs.Types.{Bytes}
use Rattle.lw_base.specs.declared.event.Event.{Event}
use Rattle.lw_base.specs.declared.stop.End.{End}
use Rattle.lw_base.specs.declared.stop.Replay.{Replay}
use Rattle.lw_base.specs.Schedules.{IsSchedule}
use Rattle.lw_mesi.specs.declared.protocol.Protocol.{Protocol}
use Rattle.lw_memory.specs.Memory.{Memory}
use Rattle.lw_mesi.specs.CacheLines.{memory_words_of}
use Rattle.lw_mesi.specs.Protocols.{caches_by}
use Rattle.lw_interleaving.specs.Runs.{State, initial_state, IsSourceReplay}
use Rattle.lw_litmus.specs.Tests.{SourceTest, X86Test}
use Rattle.lw_tso.specs.Machines.{MachineState}
use Rattle.lw_tso.specs.Runs.{initial_machine_state, IsMachineReplay}
use Rattle.lw_bench.specs.LitmusTests.{LitmusTest, Of_source, Of_x86, head_of_test}
use Rattle.lw_tso_caches.specs.OverCaches.{initial_caches}
use Rattle.lw_bench.specs.Pages.{source_page, machine_page}

-- The page is of the state that the events reach from a source test's initial state, on one memory, or the events before the first that is
-- rejected.
pub record SourcePage (test : SourceTest) (events : List Event) (page : Bytes) (end : End) : Type 0 where
  pub replay : Replay
  pub state : State
  pub replayed : IsSourceReplay test.threads events (initial_state test) replay state
  pub end_is : replay.end ≡ end
  pub page_is : page ≡ source_page test.head replay state

-- The page is of the state that the events reach from an x86 test's initial state, on the machine over a memory with the
-- initial state m, or the events before the first that is rejected; `words` are memory's words without the caches.
pub record MachinePage
    {M : Type 0} (mem : Memory M) (words : M → List ℕ) (test : X86Test) (m : M) (events : List Event) (page : Bytes) (end : End) : Type 0 where
  pub replay : Replay
  pub state : MachineState M
  pub replayed : IsMachineReplay mem test.threads events (initial_machine_state test m) replay state
  pub end_is : replay.end ≡ end
  -- The page is the text of this state.
  pub page_is :
      page ≡ machine_page test.head replay state.processors (mem.state state.memory) (words state.memory) (mem.content state.memory)

-- The page is of an x86 test's replay by these events over caches of a protocol, empty at the start.
abbrev pub CachesPage : Protocol → X86Test → List Event → Bytes → End → Type 0
CachesPage protocol test = MachinePage (caches_by protocol) memory_words_of test (initial_caches test)

-- The page is of the replay of a test by these events, which ended like this: of a source test on one memory, of an x86 test over caches.
abbrev pub IsPageOf : Protocol → LitmusTest → List Event → Bytes → End → Type 0
IsPageOf protocol (Of_source test) = SourcePage test
IsPageOf protocol (Of_x86 test) = CachesPage protocol test

-- The schedule is one of events, and the page is of the test's replay by these.
pub record IsReplayPage (protocol : Protocol) (test : LitmusTest) (schedule page : Bytes) (end : End) : Type 0 where
  pub events : List Event
  pub is_schedule : IsSchedule (head_of_test test).locs schedule events
  pub is_page : IsPageOf protocol test events page end
