-- The registers and locations of a test, in their order. Lists of observed names are filtered from it, and so
-- are ascending.
use Rattle.lw_base.proofs.Common.{◌≡◌, ℕ, zero, suc, ◌+◌, inl, inr, Bool, true, false, List, [], ◌∷◌, ◌++◌}
use Rattle.lw_base.proofs.Common.{map, refl, arith, filter, flat_map, AllByRecursion, range_with_len, Seen}
use Rattle.lw_base.proofs.Common.{Register, Location, IsSeenInRange, IsSeenLess, IsAscending}
use Rattle.lw_base.proofs.Common.{thread_registers, all_registers, locations}
use Rattle.lw_base.proofs.api.Elements.{AllByRecursion-append, AllByRecursion-filter}
use Rattle.lw_base.proofs.api.Elements.{AllByRecursion-map_range, AllByRecursion-flat_map_range}

-- The concatenation of two ascending lists is ascending, if every item of the first is less than every item of the second.
pub IsAscending-append : (xs ys : List Seen)
    → IsAscending xs
    → IsAscending ys
    → AllByRecursion (λ x. AllByRecursion (IsSeenLess x) ys) xs
    → IsAscending (xs ++ ys)
IsAscending-append [] ys h k all = k
IsAscending-append (x ∷ xs) ys h k all = (AllByRecursion-append _ xs ys h.0 all.0, IsAscending-append xs ys h.1 k all.1)

-- A filtered ascending list is ascending.
pub IsAscending-filter : (p : Seen → Bool) (xs : List Seen) → IsAscending xs → IsAscending (filter p xs)
IsAscending-filter p [] h = tt
IsAscending-filter p (x ∷ xs) h = one (p x) refl (IsAscending-filter p xs h.1)
  where
    -- By whether the head passes the filter's test.
    one : (b : Bool) → p x ≡ b → IsAscending (filter p xs) → IsAscending (filter p (x ∷ xs))
    one true e k = rw e (AllByRecursion-filter (IsSeenLess x) p xs h.0, k)
    one false e k = rw e k

-- Locations are ascending by index.
pub IsAscending-locations : (a n : ℕ) → IsAscending (map (λ x. Location x) (range_with_len a n))
IsAscending-locations a zero = tt
IsAscending-locations a (suc n) = (
  AllByRecursion-map_range (IsSeenLess (Location a)) (λ x. Location x) (a + 1) n (λ k le lt. omega (arith, le)),
  IsAscending-locations (a + 1) n,
)

-- The registers of one thread are ascending.
pub IsAscending-registers_of_thread : (t a n : ℕ) → IsAscending (map (λ r. Register t r) (range_with_len a n))
IsAscending-registers_of_thread t a zero = tt
IsAscending-registers_of_thread t a (suc n) = (
  AllByRecursion-map_range _ (λ r. Register t r) (a + 1) n (λ k le lt. inr (refl, omega (arith, le))),
  IsAscending-registers_of_thread t (a + 1) n,
)

-- The registers of all threads are ascending, thread by thread.
pub IsAscending-all_registers : (a n : ℕ) → IsAscending (flat_map thread_registers (range_with_len a n))
IsAscending-all_registers a zero = tt
IsAscending-all_registers a (suc n) =
    IsAscending-append (thread_registers a) (flat_map thread_registers (range_with_len (a + 1) n))
    (IsAscending-registers_of_thread a 0 6) (IsAscending-all_registers (a + 1) n)
    (AllByRecursion-map_range (λ x. AllByRecursion (IsSeenLess x) (flat_map thread_registers (range_with_len (a + 1) n)))
    (λ r. Register a r) 0 6
    (λ r le lt.
    AllByRecursion-flat_map_range (IsSeenLess (Register a r)) thread_registers (a + 1) n
    (λ t le lt.
    AllByRecursion-map_range (IsSeenLess (Register a r)) (λ s. Register t s) 0 6 (λ s le2 lt2. inl (omega (arith, le))))))

-- All registers and locations of a test are in range.
pub IsSeenInRange-all_seen : (threads locs : ℕ)
    → AllByRecursion (IsSeenInRange threads locs) (all_registers threads ++ locations locs)
IsSeenInRange-all_seen threads locs =
    AllByRecursion-append (IsSeenInRange threads locs) (all_registers threads) (locations locs)
    (AllByRecursion-flat_map_range (IsSeenInRange threads locs) thread_registers 0 threads
    (λ t le lt.
    AllByRecursion-map_range (IsSeenInRange threads locs) (λ r. Register t r) 0 6
    (λ r le2 lt2. (omega (arith, lt), omega (arith, lt2)))))
    (AllByRecursion-map_range (IsSeenInRange threads locs) (λ x. Location x) 0 locs (λ x le lt. omega (arith, lt)))

-- All registers and locations of a test are ascending, registers first.
pub IsAscending-all_seen : (threads locs : ℕ) → IsAscending (all_registers threads ++ locations locs)
IsAscending-all_seen threads locs =
    IsAscending-append (all_registers threads) (locations locs) (IsAscending-all_registers 0 _) (IsAscending-locations 0 locs)
    (AllByRecursion-flat_map_range (λ x. AllByRecursion (IsSeenLess x) (locations locs)) thread_registers 0 threads
    (λ t le lt.
    AllByRecursion-map_range (λ x. AllByRecursion (IsSeenLess x) (locations locs)) (λ r. Register t r) 0 6
    (λ r le2 lt2. AllByRecursion-map_range (IsSeenLess (Register t r)) (λ x. Location x) 0 locs (λ x le3 lt3. tt))))
