-- The words of a command line, and the task that they name.
use Rattle.std.specs.Prelude.{◌≡◌, ◌⊎◌, List, [], ◌∷◌, codes}
use Rattle.lw_base.specs.Types.{Bytes}
use Rattle.lw_mesi.specs.declared.protocol.Protocol.{Protocol}
use Rattle.lw_mesi.specs.declared.protocol.Protocol.TheVariants.{Mesi}
use Rattle.lw_mesi.specs.Protocols.{protocol_name}
use Rattle.lw_bench.specs.declared.command.Task.{Task}
use Rattle.lw_bench.specs.declared.command.Task.TheVariants.{States, Compile, Schedules, Replay}

-- The words name this protocol: `--protocol` and its name, or nothing for MESI.
abbrev pub IsProtocolOption : List Bytes → Protocol → Type 0
IsProtocolOption words protocol =
    (words ≡ codes "--protocol" ∷ protocol_name protocol ∷ []) ⊎ ((words ≡ []) × (protocol ≡ Mesi))

-- The words name this task: `states`, `compile` or `schedules`; or `replay`, a schedule, and optionally a protocol.
abbrev pub IsCommand : List Bytes → Task → Type 0
IsCommand words States = words ≡ codes "states" ∷ []
IsCommand words Compile = words ≡ codes "compile" ∷ []
IsCommand words Schedules = words ≡ codes "schedules" ∷ []
IsCommand words (Replay schedule protocol) =
    (option : List Bytes) × (words ≡ codes "replay" ∷ schedule.now ∷ option) × IsProtocolOption option protocol
