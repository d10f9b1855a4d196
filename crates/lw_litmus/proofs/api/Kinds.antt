-- What one answer about an operation says of another. A catch-all row is for the locked operations, or for those that write.
use Rattle.lw_litmus.proofs.Common.{◌≡◌, ℕ, true, false, true≢false, List, Some, None, refl, sym}
use Rattle.lw_litmus.proofs.Common.{written_change, is_locked, is_store, location_of, writes, Operation, Set}
use Rattle.lw_litmus.proofs.Common.{Sum, Compare, Store, Load, Fence, Branch}

-- An operation that does not write makes no change of a word.
pub written_change-none : (o : Operation) (regs : List ℕ) → writes o ≡ false → written_change o regs ≡ None
written_change-none (Set d v) regs e = refl
written_change-none (Sum d a v) regs e = refl
written_change-none (Compare a v) regs e = refl
written_change-none (Load d x) regs e = refl
written_change-none Fence regs e = refl
written_change-none (Branch c to) regs e = refl
written_change-none _ regs e = absurd (true≢false e)

-- A locked operation has a location.
pub location_of-if_locked : (o : Operation) → is_locked o ≡ true → (x : ℕ) × (location_of o ≡ Some x)
location_of-if_locked (Set d v) e = absurd (true≢false (sym e))
location_of-if_locked (Sum d a v) e = absurd (true≢false (sym e))
location_of-if_locked (Compare a v) e = absurd (true≢false (sym e))
location_of-if_locked (Store x v) e = absurd (true≢false (sym e))
location_of-if_locked (Load d x) e = absurd (true≢false (sym e))
location_of-if_locked Fence e = absurd (true≢false (sym e))
location_of-if_locked (Branch c to) e = absurd (true≢false (sym e))
location_of-if_locked _ e = (_, refl)

-- A locked operation is no plain store.
pub is_store-false_if_locked : (o : Operation) → is_locked o ≡ true → is_store o ≡ false
is_store-false_if_locked (Store x v) e = absurd (true≢false (sym e))
is_store-false_if_locked _ e = refl
