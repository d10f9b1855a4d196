-- `run` promises a result that reports the task's output or the line of a true fault. The output is what
-- `answer` returned (`IsCallResult-answer`). The line of a fault may itself run out of memory, and then the line of
-- `Memory` is returned (`IsCallResult-fault_line_or_Memory`).
use Rattle.std.proofs.Common.{ℕ, sym, subst, ◌∙◌}
use Rattle.lw_base.specs.Types.{Bytes}
use Rattle.lw_bench.specs.Tasks.{IsTaskOutput, TaskFaultIsTrue}
use Rattle.lw_library.specs.CallResults.{IsAnswer}
use Rattle.lw_library.proofs.Calls.{IsCallResult-answer, IsCallResult-fault_line_or_Memory}
use Rattle.lw_library.proofs.exports.run.Goals as goal

pub returns-in-Ok-clause-call_result : goal.returns-in-Ok-clause-call_result
returns-in-Ok-clause-call_result c =
    let bytes_are = sym (c.as_bytes.ensures.value ∙ c.as_str.ensures) in
    let status_is = sym c.write_result.ensures.status in
    IsCallResult-answer (IsTaskOutput c.args.task) (TaskFaultIsTrue c.args.task) c.args.text.now c.write_result.result _ _
    c.as_bytes.result.now
    (subst (λ (w : ℕ × Bytes). IsAnswer (IsTaskOutput c.args.task) (TaskFaultIsTrue c.args.task) c.args.text.now w.0 w.1)
    (λ i. (status_is i, bytes_are i)) c.in-Ok.ensures.made) c.write_result.ensures.bytes

pub returns-in-Err-clause-call_result : goal.returns-in-Err-clause-call_result
returns-in-Err-clause-call_result c =
    IsCallResult-fault_line_or_Memory (IsTaskOutput c.args.task) (TaskFaultIsTrue c.args.task) c.args.text.now
    c.write_fault.result _ _ c.in-Err.fault c.in-Err.ensures.fault c.in-Err.ensures.device c.write_fault.ensures
