-- The endings of runs: an ending that reports a fault is one of a task that has the fault. The contract of
-- the whole command (`end_task`) says it of each task.
use Rattle.lw_bench.proofs.Common.{◌≡◌, Some, None, inl, inr, Bytes, BenchFault, Memory, RunFaultIsTrue}
use Rattle.lw_bench.proofs.Common.{IsNotDeviceFault, Task, Ending, Answer, Refusal, EndsTask, Reports}
use Rattle.lw_bench.proofs.Common.{TaskFaultIsTrue}

-- An ending that reports a true fault, not a device's, is an ending of the task.
pub EndsTask-Reports : {A : Type 0} (task : Task) (text : Bytes) (f : BenchFault) (e : Ending A)
    → RunFaultIsTrue (TaskFaultIsTrue task) text f
    → IsNotDeviceFault f
    → Reports f e
    → EndsTask task text e
EndsTask-Reports task text f (Answer output s) tells apart (inl w) = absurd (let line = w.line_is in cc)
EndsTask-Reports task text f (Answer output s) tells apart (inr w) = absurd (let line = w.line_is in cc)
EndsTask-Reports task text f (Refusal line s) tells apart (inl w) = (f, tells, apart, w)
EndsTask-Reports task text f (Refusal line s) tells apart (inr w) = (Memory, inl tt, ((λ e. cc), (λ e. cc)), w)
