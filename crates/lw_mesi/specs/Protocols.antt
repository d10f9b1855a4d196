-- The protocols by name: the column of each one's table that differs, and the memory system of its caches. The source and the notation are
-- those of Snooping.
use Rattle.std.specs.Prelude.{codes}
use Rattle.lw_base.specs.Types.{Bytes}
use Rattle.lw_mesi.specs.declared.protocol.Protocol.{Protocol}
use Rattle.lw_mesi.specs.declared.protocol.Protocol.TheVariants.{Mesi, Moesi}
use Rattle.lw_memory.specs.Memory.{Memory, memory_of}
use Rattle.lw_mesi.specs.CacheLines.{Copy, Modified, Owned, Exclusive, Shared, Caches, coherent_word, coherent_words, line_state}
use Rattle.lw_mesi.specs.Snooping.{ProtocolTable, ProtocolTransition}

-- The name of a protocol, as it is written in a command.
abbrev pub protocol_name : Protocol → Bytes
protocol_name Mesi = codes "mesi"
protocol_name Moesi = codes "moesi"

-- MESI: a copy after another cache's GetS.
abbrev pub mesi_on_other_get_s : Copy → Copy
mesi_on_other_get_s (Modified w) = Shared w  -- send data to requestor and memory / S
mesi_on_other_get_s (Exclusive w) = Shared w  -- send data to requestor and memory / S (memory has this word already)
mesi_on_other_get_s other = other  -- S, I: / the same

-- MOESI: a copy after another cache's GetS. Memory is not written.
abbrev pub moesi_on_other_get_s : Copy → Copy
moesi_on_other_get_s (Modified w) = Owned w  -- send data to requestor / O
moesi_on_other_get_s (Exclusive w) = Shared w  -- send data to requestor and memory / S (memory has this word already)
moesi_on_other_get_s other = other  -- O: send data to requestor / O; S, I: / the same

-- The column of the protocol's table that differs: MESI's GetS writes the coherent word to memory, MOESI's does not.
abbrev pub table_of : Protocol → ProtocolTable
table_of Mesi = record { on_other_get_s = mesi_on_other_get_s; memory_after_get_s = coherent_word }
table_of Moesi = record { on_other_get_s = moesi_on_other_get_s; memory_after_get_s = λ line. line.memory }

-- The memory system of caches of a protocol.
abbrev pub caches_by : Protocol → Memory Caches
caches_by p = memory_of coherent_words line_state (ProtocolTransition (table_of p))
