-- The result of a call for a list of any size.
use Rattle.std.specs.Prelude.{◌≡◌, ℕ, false}
use Rattle.lw_base.specs.Types.{Bytes}
use Rattle.lw_bench.specs.Outputs.{IsOutputOf}
use Rattle.lw_beyond.specs.Faults.{fault_text, fault_status}
use Rattle.lw_beyond.specs.Requests.{IsMadeFor, RefusesText, IsNoDevice}
use Rattle.lw_beyond.specs.declared.fault.BeyondFault.{BeyondFault}
use Rattle.lw_beyond.specs.declared.lists.Output.{Output}
use Rattle.lw_beyond.specs.declared.lists.Request.{Request}
use Rattle.lw_library.specs.CallResults.{ReturnsBytes, ReturnsAnswerOrFault}
use Rattle.lw_library.specs.declared.call_result.CallResult.{CallResult}

-- The line of this fault is returned, with kind 1 and the fault's exit status.
abbrev pub ReturnsFault : BeyondFault → CallResult → Bytes → Bytes → Type 0
ReturnsFault fault call_result before after = (call_result.status ≡ fault_status fault) × ReturnsBytes 1 (fault_text fault) call_result before after

module _ (request : Request) (text : Bytes) where
  -- The bytes are the output on the test of the text, with the exit status 0.
  abbrev pub IsReached : ℕ → Bytes → Type 0
  IsReached exit_status made = (exit_status ≡ 0) × IsOutputOf (IsMadeFor request.output) text made

  -- The bytes are the line of a fault, which is true of the text and not the failure of a device, with its exit status.
  pub record IsRefused (exit_status : ℕ) (line : Bytes) : Type 0 where
    pub fault : BeyondFault
    pub refuses : RefusesText request text fault
    pub no_device : IsNoDevice fault
    pub line_is : line ≡ fault_text fault
    pub status_is : exit_status ≡ fault_status fault

  -- The result of the call: the output, or a fault.
  abbrev pub IsReachResult : CallResult → Bytes → Bytes → Type 0
  IsReachResult = ReturnsAnswerOrFault IsReached IsRefused

-- The request for an output within a budget: by orders within the limits of lists, and by a search past them.
abbrev pub request_of : Output → ℕ → Request
request_of output budget = record { output = output; search = false; budget = budget }
