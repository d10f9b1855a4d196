-- The final states of runs.
use Rattle.std.specs.Prelude.{◌≡◌, ℕ, List, length}
use Rattle.std.specs.List.{AllByRecursion}
use Rattle.std.specs.Cmp.Lexicographic.{slice_cmp}
use Rattle.std.specs.Ordering.{nat_cmp, ordering_then}
use Rattle.std.specs.declared.cmp.Ordering.{Ordering}
use Rattle.lw_base.specs.Limits.{registers}

-- An outcome: six words for each thread, and one word for each location.
pub record FinalState : Type 0 where
  pub regs : List (List ℕ)
  pub words : List ℕ

-- The outcome has these numbers of threads and locations, and six registers for each thread.
pub record HasOutcomeShape (threads locs : ℕ) (o : FinalState) : Type 0 where
  pub regs_of : length o.regs ≡ threads
  pub register_counts : AllByRecursion (λ row. length row ≡ registers) o.regs
  pub words_of : length o.words ≡ locs

-- The order of outcomes: by the registers, then by the words. Lists are compared lexicographically; a list comes before its extensions.
abbrev pub final_state_cmp : FinalState → FinalState → Ordering
final_state_cmp o p =
    ordering_then (slice_cmp (slice_cmp nat_cmp) o.regs p.regs) (slice_cmp nat_cmp o.words p.words)
