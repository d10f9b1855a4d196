-- `page_of` promises the page of the replay by the schedule, or a true fault of the schedule. The events are
-- those of the schedule (`IsReplayPage-IsPageOf`). A rejected schedule is none of the test's, as `read_schedule` ensures,
-- for the head's table of names.
use Rattle.lw_bench.proofs.Common.{◌≡◌, ◌⊎◌, inl, inr, ap, refl, IfOk-weaker, IfErr-weaker}
use Rattle.lw_bench.proofs.Common.{Err-clause_propagated, TestHead, litmus_test_of, IsReplayPage}
use Rattle.lw_bench.proofs.Common.{ReplayFaultIsTrue, Memory}
use Rattle.lw_bench.proofs.Replays.{IsReplayPage-IsPageOf}
use Rattle.lw_bench.proofs.FaultTruths.{holds-schedule_run_fault, IsNotDeviceFault-schedule_run_fault}
use Rattle.lw_bench.proofs.FaultTruths.{IsNotDeviceFault-of_memory}
use Rattle.lw_bench.proofs.replay.page_of.Goals as goal

-- A fault of the schedule, unless memory ran out, is a true fault of the replay.
pub returns-in_err-events-clause-fault : goal.returns-in_err-events-clause-fault
returns-in_err-events-clause-fault g c =
    let test = litmus_test_of c.args.test.now in
    let table = ap (λ (h : TestHead). h.locs) c.head.ensures.head in
    Err-clause_propagated _ _ c.from_residual.ensures.1
    (holds-schedule_run_fault (λ f. (f ≡ Memory) ⊎ ReplayFaultIsTrue c.args.schedule.now test f) (inl refl) _
    (λ known. inr (record {
      none = λ events is. c.in_err-events.ensures.fault known events (rw table is);
      first = rw table at (c.in_err-events.ensures.first known);
    })))

pub returns-in_err-events-clause-device : goal.returns-in_err-events-clause-device
returns-in_err-events-clause-device g c =
    Err-clause_propagated _ _ c.from_residual.ensures.1 (IsNotDeviceFault-schedule_run_fault _)

pub returns-clause-found : goal.returns-clause-found
returns-clause-found g c =
    let test = litmus_test_of c.args.test.now in
    let table = ap (λ (h : TestHead). h.locs) c.head.ensures.head in
    IfOk-weaker c.page_of_events-page.result _ (λ x. IsReplayPage c.args.protocol test c.args.schedule.now x.0 x.1) (λ x tells.
    IsReplayPage-IsPageOf c.args.protocol test c.args.schedule.now x.0 x.1 table c.in_ok-events.ensures.found c.as_slice.ensures
    tells) c.page_of_events-page.ensures.found

pub returns-clause-fault : goal.returns-clause-fault
returns-clause-fault g c = IfErr-weaker _ _ _ (λ f is. inl is) c.page_of_events-page.ensures.fault

pub returns-clause-device : goal.returns-clause-device
returns-clause-device g c = IfErr-weaker _ _ _ IsNotDeviceFault-of_memory c.page_of_events-page.ensures.fault
