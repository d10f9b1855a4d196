-- What a failed run reports is true: a fault is reported as it was found, or as memory that ran out; and what
-- is true of the bytes read is true of the whole input. Each exit by `?` in reading and rendering goes by one
-- of these lemmas.
use Rattle.lw_bench.proofs.Common.{most_read_bytes, ◌≡◌, ◌≢◌, ◌⊎◌, inl, inr, Bool, true, false, ℕ, Option}
use Rattle.lw_bench.proofs.Common.{Some, None, List, [], ◌++◌, length, ap, ◌∙◌, subst, length-append}
use Rattle.lw_bench.proofs.Common.{if◌then◌else◌, arith, IfSome, append-nil, CellCause, CellFault}
use Rattle.lw_bench.proofs.Common.{ScheduleCause, ScheduleFault, TextCause, TextFault, BenchFault, Text, Cell}
use Rattle.lw_bench.proofs.Common.{Schedule, Limit, Memory, Read, IsInput, text_fault, text_run_fault}
use Rattle.lw_bench.proofs.Common.{cell_fault, cell_run_fault, schedule_fault, schedule_run_fault, LitmusTest}
use Rattle.lw_bench.proofs.Common.{HasTest, TextFaultIsTrue, CellFaultIsTrueOf, ReadFaultIsTrue}
use Rattle.lw_bench.proofs.Common.{RunFaultIsTrue, InputFaultIsTrue, IsNotDeviceFault}
use Rattle.lw_bench.proofs.Outputs.{input_is_whole, HasTest-in_whole_input}
use Rattle.lw_base.specs.declared.fault.CellCause.TheVariants as cell
use Rattle.lw_base.specs.declared.fault.ScheduleCause.TheVariants as schedule
use Rattle.lw_text.specs.declared.fault.TextCause.TheVariants as text

-- A fault that is reported as it is, unless memory ran out.
module _ (P : BenchFault → Type 0) (memory : P Memory) where
  -- By the cause of a text's fault: P holds of the reported fault.
  holds-text_fault : (f : TextFault) (cause : TextCause) → (cause ≢ text.Memory → P (Text f)) → P (text_fault f cause)
  holds-text_fault f text.Memory known = memory
  holds-text_fault f _ known = known (λ same. cc)

  -- What holds of `Memory`, and of a text's fault whose cause is not memory, holds of the fault reported for a text.
  pub holds-text_run_fault : (f : TextFault) → (f.cause ≢ text.Memory → P (Text f)) → P (text_run_fault f)
  holds-text_run_fault f known = holds-text_fault f f.cause known

  -- By the cause of a cell's fault: P holds of the reported fault.
  holds-cell_fault : (f : CellFault) (cause : CellCause) → (cause ≢ cell.Memory → P (Cell f)) → P (cell_fault f cause)
  holds-cell_fault f cell.Memory known = memory
  holds-cell_fault f _ known = known (λ same. cc)

  -- What holds of `Memory`, and of a cell's fault whose cause is not memory, holds of the fault reported for a cell.
  pub holds-cell_run_fault : (f : CellFault) → (f.cause ≢ cell.Memory → P (Cell f)) → P (cell_run_fault f)
  holds-cell_run_fault f known = holds-cell_fault f f.cause known

  -- By the cause of a schedule's fault: P holds of the reported fault.
  holds-schedule_fault : (f : ScheduleFault) (cause : ScheduleCause)
      → (cause ≢ schedule.Memory → P (Schedule f))
      → P (schedule_fault f cause)
  holds-schedule_fault f schedule.Memory known = memory
  holds-schedule_fault f _ known = known (λ same. cc)

  -- What holds of `Memory`, and of a schedule's fault whose cause is not memory, holds of the fault reported for a schedule.
  pub holds-schedule_run_fault : (f : ScheduleFault) → (f.cause ≢ schedule.Memory → P (Schedule f)) → P (schedule_run_fault f)
  holds-schedule_run_fault f known = holds-schedule_fault f f.cause known

-- `Memory` is no device's fault.
pub IsNotDeviceFault-Memory : IsNotDeviceFault Memory
IsNotDeviceFault-Memory = (λ same. cc, λ same. cc)

-- The fault reported for a text is no device's.
pub IsNotDeviceFault-text_run_fault : (f : TextFault) → IsNotDeviceFault (text_run_fault f)
IsNotDeviceFault-text_run_fault f =
    holds-text_run_fault IsNotDeviceFault IsNotDeviceFault-Memory f (λ known. (λ same. cc, λ same. cc))

-- The fault reported for a cell is no device's.
pub IsNotDeviceFault-cell_run_fault : (f : CellFault) → IsNotDeviceFault (cell_run_fault f)
IsNotDeviceFault-cell_run_fault f =
    holds-cell_run_fault IsNotDeviceFault IsNotDeviceFault-Memory f (λ known. (λ same. cc, λ same. cc))

-- The fault reported for a schedule is no device's.
pub IsNotDeviceFault-schedule_run_fault : (f : ScheduleFault) → IsNotDeviceFault (schedule_run_fault f)
IsNotDeviceFault-schedule_run_fault f =
    holds-schedule_run_fault IsNotDeviceFault IsNotDeviceFault-Memory f (λ known. (λ same. cc, λ same. cc))

-- A fault that equals `Memory` is no device's.
pub IsNotDeviceFault-of_memory : (f : BenchFault) → f ≡ Memory → IsNotDeviceFault f
IsNotDeviceFault-of_memory f is = rw is IsNotDeviceFault-Memory

-- If a test was read, `Memory`, or a fault that is true of the test, is one that a run may report of the bytes.
pub RunFaultIsTrue-of_test : (TestFaultIsTrue : LitmusTest → BenchFault → Type 0) (bytes : List ℕ) (test : LitmusTest)
    (f : BenchFault)
    → HasTest bytes test
    → (f ≡ Memory) ⊎ TestFaultIsTrue test f
    → RunFaultIsTrue TestFaultIsTrue bytes f
RunFaultIsTrue-of_test TestFaultIsTrue bytes test f has (inl is) = rw is (inl tt)
RunFaultIsTrue-of_test TestFaultIsTrue bytes test f has (inr told) = inr (test, has, told)

-- Bytes that were read: the whole input, or more than a test has.
module _ (input bytes : List ℕ)
    (is : (rest : List ℕ) × (input ≡ bytes ++ rest) × ((rest ≡ []) ⊎ (length bytes ≡ most_read_bytes))) where
  -- If 65,537 bytes were read, a text's fault that is true of them is true of the whole input.
  TextFaultIsTrue-too_long : (f : TextFault) → length bytes ≡ most_read_bytes → TextFaultIsTrue bytes f → TextFaultIsTrue input f
  TextFaultIsTrue-too_long f long told =
      let total = ap length is.1 ∙ length-append bytes is.0 in
      record {
        none = λ frame has. omega (arith, has.short, total, long);
        place = omega (arith, told.place, total);
        too_long = λ more. (told.too_long (omega (arith, long)));
        only_too_long = λ same. omega (arith, total, long);
        not_utf8 = λ short other. absurd (omega (arith, short, total, long));
        only_not_utf8 = λ same. absurd (omega (arith, (told.only_not_utf8 same).0, long));
        not_out_of_memory = told.not_out_of_memory;
        fails = λ short. absurd (short (ap (λ (g : TextFault). g.cause) (told.too_long (omega (arith, long)))));
      }

  -- If a text's fault is true of the bytes read, it is true of the whole input.
  pub TextFaultIsTrue-in_whole_input : (f : TextFault) → TextFaultIsTrue bytes f → TextFaultIsTrue input f
  TextFaultIsTrue-in_whole_input f told = go is.2
    where
      -- By whether the input has ended, or has as many bytes as are read.
      go : (is.0 ≡ []) ⊎ (length bytes ≡ most_read_bytes) → TextFaultIsTrue input f
      go (inl none) = rw (← is.1 ∙ ap (λ rest. bytes ++ rest) none ∙ append-nil bytes) at told
      go (inr long) = TextFaultIsTrue-too_long f long told

  -- If a cell's fault is true of the bytes read, it is true of the whole input.
  pub CellFaultIsTrueOf-in_whole_input : (f : CellFault) → CellFaultIsTrueOf bytes f → CellFaultIsTrueOf input f
  CellFaultIsTrueOf-in_whole_input f told =
      subst (λ t. CellFaultIsTrueOf t f) (input_is_whole input bytes is told.has_frame.short) told

  -- If a fault of reading a test is true of the bytes read, it is true of the whole input.
  pub ReadFaultIsTrue-in_whole_input : (f : BenchFault) → ReadFaultIsTrue bytes f → ReadFaultIsTrue input f
  ReadFaultIsTrue-in_whole_input (Text f) told = TextFaultIsTrue-in_whole_input f told
  ReadFaultIsTrue-in_whole_input (Cell f) told = CellFaultIsTrueOf-in_whole_input f told
  ReadFaultIsTrue-in_whole_input (Schedule f) told = told
  ReadFaultIsTrue-in_whole_input (Limit f) told = told
  ReadFaultIsTrue-in_whole_input _ told = tt

  -- If a run's fault is true of the bytes read, it is true of the whole input.
  pub RunFaultIsTrue-in_whole_input : (TestFaultIsTrue : LitmusTest → BenchFault → Type 0) (f : BenchFault)
      → RunFaultIsTrue TestFaultIsTrue bytes f
      → RunFaultIsTrue TestFaultIsTrue input f
  RunFaultIsTrue-in_whole_input TestFaultIsTrue f (inl told) = inl (ReadFaultIsTrue-in_whole_input f told)
  RunFaultIsTrue-in_whole_input TestFaultIsTrue f (inr (test, has, told)) =
      inr (test, HasTest-in_whole_input input bytes is test has, told)

-- If a run's fault is true of the bytes read, it is true of the input, if that is known.
pub InputFaultIsTrue-RunFaultIsTrue : (TestFaultIsTrue : LitmusTest → BenchFault → Type 0) (known : Option (List ℕ))
    (bytes : List ℕ) (f : BenchFault)
    → IsInput known bytes
    → RunFaultIsTrue TestFaultIsTrue bytes f
    → InputFaultIsTrue TestFaultIsTrue known f
InputFaultIsTrue-RunFaultIsTrue TestFaultIsTrue None bytes f is told = tt
InputFaultIsTrue-RunFaultIsTrue TestFaultIsTrue (Some input) bytes f is told =
    RunFaultIsTrue-in_whole_input input bytes is TestFaultIsTrue f told

-- What holds of all bytes holds of a reader's, if these are known.
pub IfSome-of_all : (FaultIsTrue : List ℕ → BenchFault → Type 0) (known : Option (List ℕ)) (f : BenchFault)
    → ((bytes : List ℕ) → FaultIsTrue bytes f)
    → IfSome known (λ bytes. FaultIsTrue bytes f)
IfSome-of_all FaultIsTrue None f told = tt
IfSome-of_all FaultIsTrue (Some input) f told = told input

-- If a device failed or memory ran out before the bytes were read, a fault claims nothing of them.
module _ (FaultIsTrue : List ℕ → BenchFault → Type 0) (known : Option (List ℕ)) where
  -- If the reader failed or memory ran out, what holds of all bytes at these faults holds of a reader's known bytes.
  pub IfSome-of_input_fault : (f : BenchFault) (failed : Bool)
      → ((bytes : List ℕ) → FaultIsTrue bytes Read)
      → ((bytes : List ℕ) → FaultIsTrue bytes Memory)
      → f ≡ (if failed then Read else Memory)
      → IfSome known (λ bytes. FaultIsTrue bytes f)
  IfSome-of_input_fault f true read memory is = rw is (IfSome-of_all FaultIsTrue known Read read)
  IfSome-of_input_fault f false read memory is = rw is (IfSome-of_all FaultIsTrue known Memory memory)
