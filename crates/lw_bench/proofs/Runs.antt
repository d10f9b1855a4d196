-- What a run over devices promises, for each of its endings: from what reading, rendering and writing
-- promise. `run_text` has one lemma for each way to end; the functions for single tasks weaken its result.
use Rattle.lw_bench.proofs.Common.{◌≡◌, ◌↔◌, Bool, true, false, if◌then◌else◌, Result, Ok, Err, refl, inl, ap}
use Rattle.lw_bench.proofs.Common.{Bytes, Option, Some, None, IfSome, Appends, BenchFault, Memory, Read}
use Rattle.lw_bench.proofs.Common.{Write, LitmusTest, IsInput, TakesInput, TakesSome, IsReachedOnMachine}
use Rattle.lw_bench.proofs.Common.{IsOutputOf, Writes, RunFaultIsTrue, IsNotDeviceFault, IsReachedOverCaches}
use Rattle.lw_bench.proofs.Common.{Devices, IsRun}
use Rattle.lw_bench.proofs.DeviceFaults.{Read-iff_failed, input_fault_ne_Write, Write_fault-reader_not_failed}
use Rattle.lw_bench.proofs.DeviceFaults.{other_fault-iff_not_failed, no_device_fault-of_success}
use Rattle.lw_bench.proofs.DeviceFaults.{Err-injective, not-Ok_eq_Err}
use Rattle.lw_bench.proofs.Outputs.{Writes-of_output}
use Rattle.lw_bench.proofs.Taken.{TakesBeforeFault-TakesInput, TakesBeforeFault-TakesSome}
use Rattle.lw_bench.proofs.FaultTruths.{IfSome-of_input_fault, IfSome-of_all, InputFaultIsTrue-RunFaultIsTrue}

module _ {R W : Type 0} (readers : Devices R) (writers : Devices W) (TestFaultIsTrue : LitmusTest → BenchFault → Type 0) (r s : R)
    (w : W) where
  module _ {T : Type 0} (IsMade : T → LitmusTest → Bytes → Type 0) (machine : IfSome (readers.bytes r) IsReachedOnMachine)
      (caches : IfSome (readers.bytes r) IsReachedOverCaches) where
    -- If the reader failed, or memory ran out before everything was read, the run satisfies its contract: it reports that fault.
    pub IsRun-unread : (f : BenchFault)
        → f ≡ (if readers.failed s then Read else Memory)
        → TakesSome (readers.bytes r) (readers.bytes s)
        → writers.failed w ≡ false
        → IsRun readers writers IsMade TestFaultIsTrue r s w w (Err f)
    IsRun-unread f is some writing = record {
      written = tt;
      machine = machine;
      caches = caches;
      fault =
          IfSome-of_input_fault (RunFaultIsTrue TestFaultIsTrue) (readers.bytes r) f (readers.failed s) (λ bytes. inl tt)
          (λ bytes. inl tt) is;
      taken = tt;
      left = TakesBeforeFault-TakesSome _ _ f (readers.failed s) is some;
      read = Read-iff_failed (Err f) f f (readers.failed s) refl refl is;
      write = other_fault-iff_not_failed (Err f) f f Write _ refl refl (input_fault_ne_Write f _ is) writing;
      untouched = λ other. refl;
    }

    module _ (bytes : Bytes) (input : IsInput (readers.bytes r) bytes) (taken : TakesInput (readers.bytes r) (readers.bytes s))
        (reading : readers.failed s ≡ false) where
      -- If everything was read, but nothing can be rendered from the text, the run satisfies its contract: it reports why.
      pub IsRun-no_output : (f : BenchFault)
          → RunFaultIsTrue TestFaultIsTrue bytes f
          → IsNotDeviceFault f
          → writers.failed w ≡ false
          → IsRun readers writers IsMade TestFaultIsTrue r s w w (Err f)
      IsRun-no_output f told device writing = record {
        written = tt;
        machine = machine;
        caches = caches;
        fault = InputFaultIsTrue-RunFaultIsTrue TestFaultIsTrue _ bytes f input told;
        taken = tt;
        left = TakesBeforeFault-TakesInput _ _ f taken;
        read = other_fault-iff_not_failed (Err f) f f Read _ refl refl device.0 reading;
        write = other_fault-iff_not_failed (Err f) f f Write _ refl refl device.1 writing;
        untouched = λ other. refl;
      }

      -- If the writer failed, the run satisfies its contract: it reports the writer's fault.
      pub IsRun-unwritten : (v : W) → writers.failed v ≡ true → IsRun readers writers IsMade TestFaultIsTrue r s w v (Err Write)
      IsRun-unwritten v failed = record {
        written = tt;
        machine = machine;
        caches = caches;
        fault = IfSome-of_all (RunFaultIsTrue TestFaultIsTrue) _ Write (λ bytes. inl tt);
        taken = tt;
        left = TakesBeforeFault-TakesInput _ _ Write taken;
        read = Write_fault-reader_not_failed _ reading;
        write = (λ same. failed, λ yes. refl);
        untouched = λ other. absurd (other refl);
      }

      -- If the output of the test was written, the run satisfies its contract: it succeeds.
      pub IsRun-written : (v : W) (answer : T) (made : Bytes)
          → IsOutputOf (IsMade answer) bytes made
          → Appends (writers.bytes w) (writers.bytes v) made
          → writers.failed v ≡ false
          → IsRun readers writers IsMade TestFaultIsTrue r s w v (Ok answer)
      IsRun-written v answer made makes appended writing = record {
        written = Writes-of_output (IsMade answer) _ _ _ bytes made input makes appended;
        machine = machine;
        caches = caches;
        fault = tt;
        taken = taken;
        left = tt;
        read = no_device_fault-of_success answer Read _ reading;
        write = no_device_fault-of_success answer Write _ writing;
        untouched = tt;
      }

-- If what was written satisfies a rule P of the test, it satisfies each rule Q that P implies.
Writes-weakened : (P Q : LitmusTest → Bytes → Type 0)
    → ((test : LitmusTest) (made : Bytes) → P test made → Q test made)
    → (known before after : Option Bytes)
    → Writes P known before after
    → Writes Q known before after
Writes-weakened P Q weaker None before after writes = tt
Writes-weakened P Q weaker (Some text) before after (made, makes, appended) =
    (made, record { test = makes.test; has_test = makes.has_test; is_made = weaker makes.test made makes.is_made }, appended)

-- A run whose result is computed from that of another.
module _ {R W T U : Type 0} (readers : Devices R) (writers : Devices W) (P : T → LitmusTest → Bytes → Type 0)
    (Q : U → LitmusTest → Bytes → Type 0) (TestFaultIsTrue : LitmusTest → BenchFault → Type 0) (r s : R) (w v : W) where
  -- If a run reports a device's fault if and only if that device failed, so does a run with the same fault and another type of
  -- answer.
  same_fault : (f other : BenchFault) (failed : Bool)
      → ((let a : Result T BenchFault = Err f in a) ≡ Err other ↔ failed ≡ true)
      → (let b : Result U BenchFault = Err f in b) ≡ Err other ↔ failed ≡ true
  same_fault f other failed told =
      (λ same. told.0 (ap (λ e. Err e) (Err-injective same)), λ yes. ap (λ e. Err e) (Err-injective (told.1 yes)))

  -- If a run consists of another that fails, its fault is that one's.
  pub IsRun-same_fault : (f : BenchFault)
      → IsRun readers writers P TestFaultIsTrue r s w v (Err f)
      → IsRun readers writers Q TestFaultIsTrue r s w v (Err f)
  IsRun-same_fault f run = record {
    written = tt;
    machine = run.machine;
    caches = run.caches;
    fault = run.fault;
    taken = tt;
    left = run.left;
    read = same_fault f Read _ run.read;
    write = same_fault f Write _ run.write;
    untouched = run.untouched;
  }

  -- If a run succeeds, and reports a device's fault if and only if that device failed, so does a run that succeeds with another
  -- answer.
  no_device_fault-other_answer : (answer : T) (other_answer : U) (other : BenchFault) (failed : Bool)
      → ((let a : Result T BenchFault = Ok answer in a) ≡ Err other ↔ failed ≡ true)
      → (let b : Result U BenchFault = Ok other_answer in b) ≡ Err other ↔ failed ≡ true
  no_device_fault-other_answer answer other_answer other failed told =
      (λ same. absurd (not-Ok_eq_Err same), λ yes. absurd (not-Ok_eq_Err (told.1 yes)))

  -- If a run consists of another that succeeds, so does it, and its output satisfies its own rule Q, which P implies.
  pub IsRun-weakened : (answer : T) (other : U)
      → ((test : LitmusTest) (made : Bytes) → P answer test made → Q other test made)
      → IsRun readers writers P TestFaultIsTrue r s w v (Ok answer)
      → IsRun readers writers Q TestFaultIsTrue r s w v (Ok other)
  IsRun-weakened answer other weaker run = record {
    written = Writes-weakened (P answer) (Q other) weaker _ _ _ run.written;
    machine = run.machine;
    caches = run.caches;
    fault = tt;
    taken = run.taken;
    left = tt;
    read = no_device_fault-other_answer answer other Read _ run.read;
    write = no_device_fault-other_answer answer other Write _ run.write;
    untouched = tt;
  }
