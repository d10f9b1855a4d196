-- Data races of an x86 test, in its runs by interleaving. The source is Adve and Hill ('Weak ordering: a new definition', ISCA 1990). C++
-- and Java have notions of their own, of accesses that are not atomic or volatile; here every load and store counts that is not a locked
-- instruction.
use Rattle.std.specs.Prelude.{◌≢◌, ◌||◌, ℕ, Bool, List}
use Rattle.lw_litmus.specs.declared.operation.Operation.{Operation}
use Rattle.lw_litmus.specs.Operations.{is_store, is_load, writes}
use Rattle.lw_litmus.specs.Programs.{x86_language}
use Rattle.lw_litmus.specs.Tests.{X86Test}
use Rattle.lw_axiomatic.specs.Interleavings.{Interleaved, InterleavedRunsTo, start}
use Rattle.lw_axiomatic.specs.Races.{IsNext}

-- Tests whether an operation is a plain load or store.
abbrev pub is_plain : Operation → Bool
is_plain o = is_load o || is_store o

-- In some run by interleaving, the next instruction of thread q is a load or a store of a location, which the next instruction of
-- another thread p writes.
pub record HasDataRace (test : X86Test) : Type 0 where
  pub q : ℕ
  pub p : ℕ
  pub threads_differ : p ≢ q
  pub order_before : List ℕ
  pub state_now : Interleaved
  pub run_before : InterleavedRunsTo x86_language test.threads order_before (start x86_language test) state_now
  pub l : ℕ
  pub access_is_next : IsNext test is_plain l q state_now
  pub write_is_next : IsNext test writes l p state_now
