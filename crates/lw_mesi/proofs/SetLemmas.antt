-- Sets of processors, represented by bits. Lemmas for `cpu_set.rt`.
use Rattle.lw_mesi.proofs.Common.{and_le_l, ◌≡◌, ℕ, ◌-◌, ◌*◌, ◌/◌, ◌%◌, ◌^◌, ◌<◌, true, false, eqb, set}
use Rattle.lw_mesi.proofs.Common.{get_or, bit_and, bit_or, ap, ◌∙◌, sym, arith, w8, bit_at, or_lt, pow_below}
use Rattle.lw_mesi.proofs.Common.{shr_and_one, bit_at_set_same, bit_at_set_other, bit_at_clear_same}
use Rattle.lw_mesi.proofs.Common.{bit_at_clear_other, most_threads, cpu_set_of_bits}
use Rattle.lw_mesi.proofs.IndexLemmas.{at_each-differs_at_one, get_or-at_each}

-- For a processor t, the test of bit t of n says whether t is in the set whose bits are n.
pub get_or-cpu_set_of_bits : (n t : ℕ) → t < most_threads → eqb (bit_and (n / 2 ^ t) 1) 1 ≡ get_or (cpu_set_of_bits n) t false
get_or-cpu_set_of_bits n t lt = ap (λ b. eqb b 1) (shr_and_one n t) ∙ sym (get_or-at_each (λ i. eqb (bit_at n i) 1) t false lt)

-- For a processor t, setting bit t of n adds t to the set whose bits are n.
pub cpu_set_of_bits-insert : (n t : ℕ)
    → t < most_threads
    → cpu_set_of_bits (bit_or n (1 * 2 ^ t % 256)) ≡ set (cpu_set_of_bits n) t true
cpu_set_of_bits-insert n t lt =
    at_each-differs_at_one (λ i. eqb (bit_at (bit_or n (1 * 2 ^ t % 256)) i) 1) (λ i. eqb (bit_at n i) 1) t true lt
    (ap (λ b. eqb b 1) (bit_at_set_same w8 n t (omega arith)))
    (λ u lu ne. ap (λ b. eqb b 1) (bit_at_set_other w8 n t (omega arith) u ne))

-- For a processor t, clearing bit t of n removes t from the set whose bits are n.
pub cpu_set_of_bits-remove : (n t : ℕ)
    → t < most_threads
    → cpu_set_of_bits (bit_and n (255 - 1 * 2 ^ t % 256)) ≡ set (cpu_set_of_bits n) t false
cpu_set_of_bits-remove n t lt =
    at_each-differs_at_one _ _ t false lt (ap (λ b. eqb b 1) (bit_at_clear_same w8 n t (omega arith)))
    (λ u lu ne. ap (λ b. eqb b 1) (bit_at_clear_other w8 n t (omega arith) u (omega arith) ne))

-- If n fits into `most_threads` bits, so does n with a processor's bit set.
pub bit_or-fits : (n t : ℕ) → n < 2 ^ most_threads → t < most_threads → bit_or n (1 * 2 ^ t % 256) < 2 ^ most_threads
bit_or-fits n t lt l = or_lt most_threads n (1 * 2 ^ t % 256) lt (omega (arith, (pow_below t most_threads l)))

-- If n fits into `most_threads` bits, so does n with some bits cleared.
pub bit_and-fits : (n others : ℕ) → n < 2 ^ most_threads → bit_and n others < 2 ^ most_threads
bit_and-fits n others lt = omega (arith, and_le_l n others)
