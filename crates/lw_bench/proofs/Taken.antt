-- A run reads from its reader what it may read, whichever fault it reports. A part of what Runs proves.
use Rattle.lw_bench.proofs.Common.{◌≡◌, Bool, true, false, ℕ, Option, List, if◌then◌else◌, subst, sym}
use Rattle.lw_bench.proofs.Common.{TakesInput, TakesSome, TakesBeforeFault, BenchFault, Memory, Read}
use Rattle.lw_bench.proofs.Devices.{TakesSome-TakesInput}

module _ (before after : Option (List ℕ)) where
  -- If the whole input was consumed, a run that reports any fault has consumed what it may at that fault.
  pub TakesBeforeFault-TakesInput : (f : BenchFault) → TakesInput before after → TakesBeforeFault f before after
  TakesBeforeFault-TakesInput Memory taken = TakesSome-TakesInput before after taken
  TakesBeforeFault-TakesInput Read taken = TakesSome-TakesInput before after taken
  TakesBeforeFault-TakesInput _ taken = taken

  -- If a part of the input was consumed, and the reader failed or memory ran out, the run has consumed what it may at that fault.
  pub TakesBeforeFault-TakesSome : (f : BenchFault) (failed : Bool)
      → f ≡ (if failed then Read else Memory)
      → TakesSome before after
      → TakesBeforeFault f before after
  TakesBeforeFault-TakesSome f true is taken = subst (λ (x : BenchFault). TakesBeforeFault x before after) (sym is) taken
  TakesBeforeFault-TakesSome f false is taken = subst (λ (x : BenchFault). TakesBeforeFault x before after) (sym is) taken
