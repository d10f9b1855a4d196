-- `run_request` promises a result that reports the request's output or the line of a true fault. The output is
-- what `answer_request` returned (`IsReachResult-answer`). A fault's line is returned (`IsReachResult-fault`), or that of `Memory`
-- if memory runs out for it (`IsReachResult-Memory`).
use Rattle.std.proofs.Common.{◌≡◌, sym, subst, ◌∙◌, inl, inr}
use Rattle.lw_base.specs.Types.{Bytes}
use Rattle.lw_bench.specs.Outputs.{IsOutputOf}
use Rattle.lw_beyond.specs.Requests.{IsMadeFor}
use Rattle.lw_library.proofs.Calls.{IsReachResult-answer, IsReachResult-fault, IsReachResult-Memory}
use Rattle.lw_library.proofs.reached.run_request.Goals as goal

-- If the request was answered, the call returns the output with kind 0.
pub returns-in-Ok-clause-call_result : goal.returns-in-Ok-clause-call_result
returns-in-Ok-clause-call_result c =
    let made = c.in-Ok.ensures.made in
    let output = c.args.request.now.output in
    let makes : IsOutputOf (IsMadeFor output) c.args.text.now c.in-Ok.answer.text =
    record { test = made.test; has_test = made.has_test; is_made = made.is_made.0 } in
    IsReachResult-answer c.args.request.now c.args.text.now c.write_result.result _ _ c.as_bytes.result.now
    c.write_result.ensures.status
    (subst (IsOutputOf (IsMadeFor output) c.args.text.now) (sym (c.as_bytes.ensures.value ∙ c.as_str.ensures)) makes)
    c.write_result.ensures.bytes

pub returns-in-Err-clause-call_result : goal.returns-in-Err-clause-call_result
returns-in-Err-clause-call_result c = elim c.refuse_request.ensures [
  | inl line ↦
      IsReachResult-fault c.args.request.now c.args.text.now c.refuse_request.result _ _ c.in-Err.fault c.in-Err.ensures.refused
      c.in-Err.ensures.device line.0 line.1
  | inr memory ↦ IsReachResult-Memory c.args.request.now c.args.text.now c.refuse_request.result _ _ memory.0 memory.1
]
