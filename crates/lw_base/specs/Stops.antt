-- The printed codes and names of the causes for which an event is rejected.
use Rattle.std.specs.Prelude.{ℕ, codes}
use Rattle.lw_base.specs.Types.{Bytes}
use Rattle.lw_base.specs.declared.stop.Stop.{Stop}
use Rattle.lw_base.specs.declared.stop.Stop.TheVariants.{NoCpu, NoLocation, Ended, FenceWaits, SwapWaits, BufferEmpty, NotHeld, Memory}

-- The printed code of the cause.
abbrev pub stop_code : Stop → ℕ
stop_code NoCpu = 1
stop_code NoLocation = 2
stop_code Ended = 3
stop_code FenceWaits = 4
stop_code SwapWaits = 5
stop_code BufferEmpty = 6
stop_code NotHeld = 7
stop_code Memory = 8

-- The printed name of the cause.
abbrev pub stop_name : Stop → Bytes
stop_name NoCpu = codes "NoCpu"
stop_name NoLocation = codes "NoLocation"
stop_name Ended = codes "Ended"
stop_name FenceWaits = codes "FenceWaits"
stop_name SwapWaits = codes "SwapWaits"
stop_name BufferEmpty = codes "BufferEmpty"
stop_name NotHeld = codes "NotHeld"
stop_name Memory = codes "Memory"
