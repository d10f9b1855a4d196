-- Coherence order as in herd: a relation of writes, which is a total order of those of each location.
use Rattle.std.specs.Prelude.{◌≡◌, ◌≢◌, ℕ, ◌⊎◌, Bool, true}
use Rattle.lw_litmus.specs.Languages.{Language}
use Rattle.lw_litmus.specs.Tests.{Test}
use Rattle.lw_axiomatic.specs.Executions.{MemoryEvent, Execution, Writes}

-- The relation `before` is a strict total order of the writes of each location.
pub record IsCoherenceOrder {S : Type 0} (language : Language S) (test : Test S) (x : Execution)
    (before : MemoryEvent → MemoryEvent → Bool) : Type 0 where
  pub irreflexive : (w : MemoryEvent) (l : ℕ) → Writes language test x w l → before w w ≡ true → ⊥
  pub transitive :
      (u v w : MemoryEvent) (l : ℕ) → Writes language test x u l → Writes language test x v l → Writes language test x w l
      → before u v ≡ true → before v w ≡ true → before u w ≡ true
  pub total :
      (v w : MemoryEvent) (l : ℕ) → Writes language test x v l → Writes language test x w l
      → v ≢ w → (before v w ≡ true) ⊎ (before w v ≡ true)
