-- When the result of a call is right: from the output or the fault that its bytes are. The answers for lw_library's functions cite these
-- lemmas.
use Rattle.std.proofs.Common.{◌≡◌, ◌⊎◌, ℕ, refl, inl, inr, arith}
use Rattle.lw_base.specs.Types.{Bytes}
use Rattle.lw_bench.specs.declared.fault.BenchFault.{BenchFault}
use Rattle.lw_bench.specs.declared.fault.BenchFault.TheVariants.{Memory}
use Rattle.lw_bench.specs.Faults.{fault_text}
use Rattle.lw_bench.specs.LitmusTests.{LitmusTest}
use Rattle.lw_bench.specs.FaultTruth.{RunFaultIsTrue, IsNotDeviceFault}
use Rattle.lw_beyond.specs.Faults as beyond
use Rattle.lw_beyond.specs.Requests.{IsMadeFor, RefusesText, IsNoDevice as IsNoDeviceFault}
use Rattle.lw_beyond.specs.declared.fault.BeyondFault.{BeyondFault}
use Rattle.lw_beyond.specs.declared.fault.BeyondFault.TheVariants.{Bench}
use Rattle.lw_beyond.specs.declared.lists.Request.{Request}
use Rattle.lw_bench.specs.Outputs.{IsOutputOf}
use Rattle.lw_library.specs.Reached.{IsReached, IsRefused, IsReachResult}
use Rattle.lw_library.specs.declared.call_result.CallResult.{CallResult}
use Rattle.lw_library.specs.CallResults.{ReturnsBytes, ReturnsFaultLine, ReturnsAnswerOrFault, IsAnswer, IsFault, IsCallResult}

module _ (IsAnswer IsFault : ℕ → Bytes → Type 0) (call_result : CallResult) (before after : Bytes) where
  -- If a call returns the bytes of an answer with kind 0, its result satisfies ReturnsAnswerOrFault.
  pub ReturnsAnswerOrFault-answer : (made : Bytes)
      → IsAnswer call_result.status made
      → ReturnsBytes 0 made call_result before after
      → ReturnsAnswerOrFault IsAnswer IsFault call_result before after
  ReturnsAnswerOrFault-answer made is tells = elim tells [
    | inl written ↦ record {
      kinds = omega (arith, written.0);
      answer = λ _. (made, is, written.1);
      fault = λ other. absurd (omega (arith, written.0, other));
      small = λ other. absurd (omega (arith, written.0, other));
    }
    | inr small ↦ record {
      kinds = omega (arith, small.0);
      answer = λ other. absurd (omega (arith, small.0, other));
      fault = λ other. absurd (omega (arith, small.0, other));
      small = λ _. (made, inl is, small.1);
    }
  ]

  -- If a call returns the line of a fault with kind 1, its result satisfies ReturnsAnswerOrFault.
  pub ReturnsAnswerOrFault-fault : (line : Bytes)
      → IsFault call_result.status line
      → ReturnsBytes 1 line call_result before after
      → ReturnsAnswerOrFault IsAnswer IsFault call_result before after
  ReturnsAnswerOrFault-fault line is tells = elim tells [
    | inl written ↦ record {
      kinds = omega (arith, written.0);
      answer = λ other. absurd (omega (arith, written.0, other));
      fault = λ _. (line, is, written.1);
      small = λ other. absurd (omega (arith, written.0, other));
    }
    | inr small ↦ record {
      kinds = omega (arith, small.0);
      answer = λ other. absurd (omega (arith, small.0, other));
      fault = λ other. absurd (omega (arith, small.0, other));
      small = λ _. (line, inr is, small.1);
    }
  ]

module _ (IsMade : LitmusTest → Bytes → ℕ → Type 0) (FaultIsTrue : LitmusTest → BenchFault → Type 0) (text : Bytes)
    (call_result : CallResult) (before after : Bytes) where
  -- The result of the call is right for this task and text.
  abbrev IsRightResult : Type 0
  IsRightResult = IsCallResult IsMade FaultIsTrue text call_result before after

  -- If a task succeeds and the call returns its output with kind 0, the result is right.
  pub IsCallResult-answer : (made : Bytes)
      → IsAnswer IsMade FaultIsTrue text call_result.status made
      → ReturnsBytes 0 made call_result before after
      → IsRightResult
  IsCallResult-answer =
      ReturnsAnswerOrFault-answer (IsAnswer IsMade FaultIsTrue text) (IsFault IsMade FaultIsTrue text) call_result before after

  -- If a fault is true of the text and not a device's, and the call returns its line, the result is right.
  pub IsCallResult-fault_line : (f : BenchFault)
      → RunFaultIsTrue FaultIsTrue text f
      → IsNotDeviceFault f
      → ReturnsFaultLine f call_result before after
      → IsRightResult
  IsCallResult-fault_line f so no_device tells =
      ReturnsAnswerOrFault-fault (IsAnswer IsMade FaultIsTrue text) (IsFault IsMade FaultIsTrue text) call_result before after
      (fault_text f) (record { fault = f; is_true = so; no_device = no_device; line_is = refl; status_is = tells.0 }) tells.1

  -- If a fault is true of the text and not a device's, and the call returns its line, or that of Memory since memory ran out
  -- for this line, the result is right.
  pub IsCallResult-fault_line_or_Memory : (f : BenchFault)
      → RunFaultIsTrue FaultIsTrue text f
      → IsNotDeviceFault f
      → ReturnsFaultLine f call_result before after ⊎ ReturnsFaultLine Memory call_result before after
      → IsRightResult
  IsCallResult-fault_line_or_Memory f so no_device tells = elim tells [
    | inl line ↦ IsCallResult-fault_line f so no_device line
    | inr memory ↦ IsCallResult-fault_line Memory (inl tt) (λ same. cc, λ same. cc) memory
  ]

-- ---- lists of any size

module _ (request : Request) (text : Bytes) (call_result : CallResult) (before after : Bytes) where
  -- If a request is answered and the call returns the output with kind 0, the result satisfies IsReachResult.
  pub IsReachResult-answer : (made : Bytes)
      → call_result.status ≡ 0
      → IsOutputOf (IsMadeFor request.output) text made
      → ReturnsBytes 0 made call_result before after
      → IsReachResult request text call_result before after
  IsReachResult-answer made status made_of tells =
      ReturnsAnswerOrFault-answer (IsReached request text) (IsRefused request text) call_result before after made
      (status, made_of) tells

  -- If a request is rejected and the call returns the fault's line with kind 1, the result satisfies IsReachResult.
  pub IsReachResult-fault : (f : BeyondFault)
      → RefusesText request text f
      → IsNoDeviceFault f
      → call_result.status ≡ beyond.fault_status f
      → ReturnsBytes 1 (beyond.fault_text f) call_result before after
      → IsReachResult request text call_result before after
  IsReachResult-fault f refuses no_device status tells =
      ReturnsAnswerOrFault-fault (IsReached request text) (IsRefused request text) call_result before after (beyond.fault_text f)
      (record { fault = f; refuses = refuses; no_device = no_device; line_is = refl; status_is = status }) tells

  -- If memory runs out and the call returns the line of Memory, the result satisfies IsReachResult.
  pub IsReachResult-Memory : call_result.status ≡ beyond.fault_status (Bench Memory)
      → ReturnsBytes 1 (beyond.fault_text (Bench Memory)) call_result before after
      → IsReachResult request text call_result before after
  IsReachResult-Memory = IsReachResult-fault (Bench Memory) tt (λ same. cc, λ same. cc)
