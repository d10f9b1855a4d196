-- A run reports the reader's or the writer's fault if and only if that device has failed: for each way in
-- which a run ends. The contract of `run_text` has a clause for each device.
use Rattle.lw_bench.proofs.Common.{Bool, true, false, ◌↔◌, ◌≡◌, ◌≢◌, sym, ap, ◌∙◌, Result, Ok, Err}
use Rattle.lw_bench.proofs.Common.{if◌then◌else◌, refl, BenchFault, Memory, Read, Write}

-- Equal failures have the same fault.
pub Err-injective : {T E : Type 0} {a b : E} → (let e : Result T E = Err a in e) ≡ Err b → a ≡ b
Err-injective same = cc

-- A success is not a failure.
pub not-Ok_eq_Err : {T E : Type 0} {a : T} {b : E} → (let r : Result T E = Ok a in r) ≡ Err b → ⊥
not-Ok_eq_Err same = cc

-- False is not true.
not-false_eq_true : {b : Bool} → b ≡ false → b ≡ true → ⊥
not-false_eq_true is_no is_yes = cc

-- If the run reports a fault other than a device's, and the device has not failed, the run reports the device's fault if and only if that
-- failed: neither holds.
pub other_fault-iff_not_failed : {T : Type 0} (result : Result T BenchFault) (given fault other : BenchFault) (failed : Bool)
    → result ≡ Err given
    → given ≡ fault
    → fault ≢ other
    → failed ≡ false
    → result ≡ Err other ↔ failed ≡ true
other_fault-iff_not_failed result given fault other failed is same apart working =
    (λ told. absurd (apart (sym same ∙ Err-injective (sym is ∙ told))), λ yes. absurd (not-false_eq_true working yes))

-- `Memory` is not the reader's fault.
Memory_ne_Read : (let f : BenchFault = Memory in f) ≢ Read
Memory_ne_Read same = cc

-- If the run reports the fault of an input that was not read completely, it reports the reader's if and only if the reader failed.
pub Read-iff_failed : {T : Type 0} (result : Result T BenchFault) (given fault : BenchFault) (failed : Bool)
    → result ≡ Err given
    → given ≡ fault
    → fault ≡ (if failed then Read else Memory)
    → result ≡ Err Read ↔ failed ≡ true
Read-iff_failed result given fault true is same told = (λ known. refl, λ yes. is ∙ ap (λ f. Err f) (same ∙ told))
Read-iff_failed result given fault false is same told =
    other_fault-iff_not_failed result given fault Read false is same (λ other. Memory_ne_Read (sym told ∙ other)) refl

-- The fault of an input that was not read completely, `Read` or `Memory`, is not the writer's.
pub input_fault_ne_Write : (fault : BenchFault) (failed : Bool) → fault ≡ (if failed then Read else Memory) → fault ≢ Write
input_fault_ne_Write fault true told same = Read_ne_Write (sym told ∙ same)
  where
    -- The reader's fault is not the writer's.
    Read_ne_Write : (let f : BenchFault = Read in f) ≢ Write
    Read_ne_Write same = cc
input_fault_ne_Write fault false told same = Memory_ne_Write (sym told ∙ same)
  where
    -- `Memory` is not the writer's fault.
    Memory_ne_Write : (let f : BenchFault = Memory in f) ≢ Write
    Memory_ne_Write same = cc

-- The writer's fault is not the reader's.
Write_ne_Read : (let f : BenchFault = Write in f) ≢ Read
Write_ne_Read same = cc

-- If the run reports the writer's fault, and the reader has not failed, it reports the reader's if and only if that failed: neither holds.
pub Write_fault-reader_not_failed : {T : Type 0} (failed : Bool)
    → failed ≡ false
    → (let r : Result T BenchFault = Err Write in r) ≡ Err Read ↔ failed ≡ true
Write_fault-reader_not_failed failed working =
    other_fault-iff_not_failed (Err Write) Write Write Read failed refl refl Write_ne_Read working

-- If the run succeeds, and a device has not failed, it reports that device's fault if and only if that failed: neither holds.
pub no_device_fault-of_success : {T : Type 0} (answer : T) (other : BenchFault) (failed : Bool)
    → failed ≡ false
    → (let r : Result T BenchFault = Ok answer in r) ≡ Err other ↔ failed ≡ true
no_device_fault-of_success answer other failed working =
    (λ told. absurd (not-Ok_eq_Err told), λ yes. absurd (not-false_eq_true working yes))
