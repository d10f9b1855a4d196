-- What a run over devices promises, whatever its output is: one definition for all runs.
use Rattle.std.specs.Prelude.{◌≡◌, ◌≢◌, ◌↔◌, Bool, true, Option, Result, Err, IfOk, IfErr, OnOk}
use Rattle.std.specs.Option.{IfSome}
use Rattle.lw_base.specs.Types.{Bytes}
use Rattle.lw_bench.specs.declared.fault.BenchFault.{BenchFault}
use Rattle.lw_bench.specs.declared.fault.BenchFault.TheVariants.{Read, Write}
use Rattle.lw_bench.specs.Devices.{TakesInput}
use Rattle.lw_bench.specs.LitmusTests.{LitmusTest}
use Rattle.lw_bench.specs.Lists.{IsReachedOnMachine, IsReachedOverCaches}
use Rattle.lw_bench.specs.Outputs.{Writes}
use Rattle.lw_bench.specs.FaultTruth.{InputFaultIsTrue, TakesBeforeFault}

-- A kind of devices: the bytes that remain in a reader or that a writer holds, if they are known; and whether a device has failed.
pub record Devices (D : Type 0) : Type 0 where
  pub bytes : D → Option Bytes
  pub failed : D → Bool

-- The kind of devices with these members.
abbrev pub devices : {D : Type 0} → (D → Option Bytes) → (D → Bool) → Devices D
devices bytes failed = record { bytes = bytes; failed = failed }

-- A run reads a test, renders its output, as `IsMade` says with its answer, and writes it; `TestFaultIsTrue` says what a fault states of
-- the test. The run changes the reader from `r` to `s`, and the writer from `w` to `v`.
pub record IsRun {R W T : Type 0} (readers : Devices R) (writers : Devices W) (IsMade : T → LitmusTest → Bytes → Type 0)
    (TestFaultIsTrue : LitmusTest → BenchFault → Type 0) (r s : R) (w v : W) (result : Result T BenchFault) : Type 0 where
  -- If the run returns an answer, the output of the test has been written, and nothing else.
  pub written : IfOk result (λ answer. Writes (IsMade answer) (readers.bytes r) (writers.bytes w) (writers.bytes v))
  -- For every test of the input, its outcomes are those that its x86 program reaches on the machine, and over caches.
  pub machine : IfSome (readers.bytes r) IsReachedOnMachine
  pub caches : IfSome (readers.bytes r) IsReachedOverCaches
  -- What a fault states is true.
  pub fault : IfErr result (InputFaultIsTrue TestFaultIsTrue (readers.bytes r))
  -- The run consumes the whole input, or its first 65,537 bytes; or some of these if the reader failed or memory ran out.
  pub taken : OnOk result (TakesInput (readers.bytes r) (readers.bytes s))
  pub left : IfErr result (λ f. TakesBeforeFault f (readers.bytes r) (readers.bytes s))
  -- The faults of devices are reported if and only if the devices failed, and after any other fault the writer is unchanged.
  pub read : result ≡ Err Read ↔ readers.failed s ≡ true
  pub write : result ≡ Err Write ↔ writers.failed v ≡ true
  pub untouched : IfErr result (λ f. f ≢ Write → v ≡ w)
