-- `run_film` promises a result that reports the film or the line of a true fault. The film is what `film`
-- returned (`IsCallResult-answer`), with status 0. If memory runs out for a fault's line, the line of `Memory` is returned
-- (`IsCallResult-fault_line_or_Memory`).
use Rattle.std.proofs.Common.{ℕ, sym, subst, ◌∙◌}
use Rattle.lw_base.specs.Types.{Bytes}
use Rattle.lw_bench.specs.FaultTruth.{ReplayFaultIsTrue}
use Rattle.lw_library.specs.CallResults.{IsFilmed, IsAnswer}
use Rattle.lw_library.proofs.Calls.{IsCallResult-answer, IsCallResult-fault_line_or_Memory}
use Rattle.lw_library.proofs.films.run_film.Goals as goal

-- If the film was made, the call returns it with kind 0 and status 0.
pub returns-in-Ok : goal.returns-in-Ok
returns-in-Ok c =
    let made = c.in-Ok.ensures.made in
    let schedule = c.args.schedule.now in
    let protocol = c.args.protocol in
    let is : IsAnswer (IsFilmed schedule protocol) (ReplayFaultIsTrue schedule) c.args.text.now c.write_result.result.status
    c.in-Ok.film =
    record { test = made.test; has_test = made.has_test; is_made = (made.is_made, c.write_result.ensures.status) } in
    IsCallResult-answer (IsFilmed schedule protocol) (ReplayFaultIsTrue schedule) c.args.text.now c.write_result.result _ _
    c.as_bytes.result.now
    (subst (λ (t : Bytes).
    IsAnswer (IsFilmed schedule protocol) (ReplayFaultIsTrue schedule) c.args.text.now c.write_result.result.status t)
    (sym (c.as_bytes.ensures.value ∙ c.as_str.ensures)) is) c.write_result.ensures.bytes

pub returns-in-Err : goal.returns-in-Err
returns-in-Err c =
    IsCallResult-fault_line_or_Memory (IsFilmed c.args.schedule.now c.args.protocol) (ReplayFaultIsTrue c.args.schedule.now)
    c.args.text.now c.write_fault.result _ _ c.in-Err.fault c.in-Err.ensures.fault c.in-Err.ensures.device c.write_fault.ensures
