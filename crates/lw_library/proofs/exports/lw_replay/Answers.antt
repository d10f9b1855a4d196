-- `lw_replay` promises the page of the replay or a true fault, if the schedule is UTF-8. Then the schedule is
-- read as its bytes, and the caller's number determines the protocol; both are put into what `run` ensures.
use Rattle.std.proofs.Common.{subst}
use Rattle.lw_base.specs.Types.{Bytes}
use Rattle.lw_mesi.specs.declared.protocol.Protocol.{Protocol}
use Rattle.lw_bench.specs.FaultTruth.{ReplayFaultIsTrue}
use Rattle.lw_library.specs.CallResults.{IsReplayed, IsCallResult}
use Rattle.lw_library.proofs.exports.lw_replay.Goals as goal

pub returns-in-Ok-clause-call_result : goal.returns-in-Ok-clause-call_result
returns-in-Ok-clause-call_result c = λ utf8.
    subst (λ (w : Bytes × Protocol).
    IsCallResult (IsReplayed w.0 w.1) (ReplayFaultIsTrue w.0) c.args.text.now c.run.result c.args.room.now c.run.new.room)
    (λ i. (c.in-Ok.ensures.cases.0 i, c.protocol_of-protocol.ensures i)) c.run.ensures.call_result
