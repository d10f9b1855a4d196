-- The effect of a step by interleaving on memory and the registers, in either language. Walks and
-- FromInterleaving compare a step by interleaving with that of an execution's thread by this.
use Rattle.lw_axiomatic.proofs.Common.{◌≡◌, ℕ, ◌⊎◌, inl, inr, true, false, List, Some, length, refl, ap}
use Rattle.lw_axiomatic.proofs.Common.{length-set, slice_set, slice_index, Operation, Set, Sum, Compare}
use Rattle.lw_axiomatic.proofs.Common.{Store, Load, FetchAdd, Fence, Branch, location_of, writes}
use Rattle.lw_axiomatic.proofs.Common.{length-set_word_if_some, word_or_zero, read_value, words_after}
use Rattle.lw_axiomatic.proofs.Common.{ThreadState, state_after, word_written}

-- An operation that writes changes only the word at its location; any other preserves memory.
pub memory_case : (o : Operation) (regs m : List ℕ)
    → ((writes o ≡ true)
    × (l : ℕ)
    × (location_of o ≡ Some l)
    × (words_after o regs m ≡ slice_set m l (word_written o regs (read_value o m))))
    ⊎ ((writes o ≡ false) × (words_after o regs m ≡ m))
memory_case (Set d v) regs m = inr (refl, refl)
memory_case (Sum d a v) regs m = inr (refl, refl)
memory_case (Compare a v) regs m = inr (refl, refl)
memory_case (Load d x) regs m = inr (refl, refl)
memory_case Fence regs m = inr (refl, refl)
memory_case (Branch c to) regs m = inr (refl, refl)
memory_case _ regs m = inl (refl, _, refl, refl)

-- The word that an operation finds is the one at its location.
pub read_value-location_of : (o : Operation) (l : ℕ) (m : List ℕ) → location_of o ≡ Some l → read_value o m ≡ slice_index m l
read_value-location_of o l m location_is = ap (λ q. word_or_zero q m) location_is

-- An operation preserves the number of registers.
pub state_after-register_count : (o : Operation) (s : ThreadState) (w : ℕ) → length (state_after o s w).regs ≡ length s.regs
state_after-register_count (Set d v) s w = length-set s.regs d _
state_after-register_count (Sum d a v) s w = length-set s.regs d _
state_after-register_count (Compare a v) s w = refl
state_after-register_count (Store x v) s w = refl
state_after-register_count (FetchAdd d x v) s w = length-set_word_if_some s.regs d w
state_after-register_count Fence s w = refl
state_after-register_count (Branch c to) s w = refl
state_after-register_count _ s w = length-set s.regs _ w
