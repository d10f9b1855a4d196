-- The film of a replay: the pages of all prefixes of a schedule.
use Rattle.std.specs.Prelude.{◌≡◌, ℕ, zero, suc, List, [], ◌++◌, length, take, codes}
use Rattle.lw_base.specs.Types.{Bytes}
use Rattle.lw_base.specs.declared.event.Event.{Event}
use Rattle.lw_base.specs.declared.stop.End.{End}
use Rattle.lw_base.specs.Schedules.{IsSchedule}
use Rattle.lw_mesi.specs.declared.protocol.Protocol.{Protocol}
use Rattle.lw_bench.specs.LitmusTests.{LitmusTest, head_of_test}
use Rattle.lw_bench.specs.Replays.{IsPageOf}

-- The film of the first n prefixes of events: the film of the first n - 1, followed by the page of the test's replay by the prefix of
-- n - 1 events, and an empty line.
abbrev pub IsFilmOf : Protocol → LitmusTest → List Event → ℕ → Bytes → Type 0
IsFilmOf protocol test events zero film = film ≡ []
IsFilmOf protocol test events (suc n) film =
    (before page : Bytes) × (end : End) × IsFilmOf protocol test events n before × IsPageOf protocol test (take n events) page end
    × (film ≡ before ++ (page ++ codes "\n"))

-- The schedule is one of events, and the film has the pages of the test's replays by all of its prefixes, the empty one and the whole
-- one included.
pub record IsFilm (protocol : Protocol) (test : LitmusTest) (schedule film : Bytes) : Type 0 where
  pub events : List Event
  pub is_schedule : IsSchedule (head_of_test test).locs schedule events
  pub pages : IsFilmOf protocol test events (suc (length events)) film
