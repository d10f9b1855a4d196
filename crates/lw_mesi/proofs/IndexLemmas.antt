-- Lists with one item for each processor: the item at an index, and the list after one item is replaced. The
-- copies of a line and the sharers are such lists.
use Rattle.lw_mesi.proofs.Common.{◌≡◌, ◌≢◌, ℕ, ◌<◌, List, length, set, get_or, sym, ◌∙◌, arith, zero-add}
use Rattle.lw_mesi.proofs.Common.{length-set, get_or-set_same, get_or-set_other, length-map-range_with_len}
use Rattle.lw_mesi.proofs.Common.{get_or-map-range_with_len, fill_by_all, most_threads, at_each, at_index}

-- A list with one item for each processor has `most_threads` items.
pub length-at_each : {A : Type 0} (f : ℕ → A) → length (at_each f) ≡ most_threads
length-at_each f = length-map-range_with_len f 0 most_threads

-- The item at a processor's index is the function's value there.
pub get_or-at_each : {A : Type 0} (f : ℕ → A) (t : ℕ) (d : A) → t < most_threads → get_or (at_each f) t d ≡ f t
get_or-at_each f t d lt = get_or-map-range_with_len f 0 most_threads t t d lt (zero-add t)

-- If xs has an item for each processor, f gives a at a processor t, and xs' item at every other one, then the list of f's
-- values is xs with a at index t.
pub at_each-set_of_list : {A : Type 0} (f : ℕ → A) (xs : List A) (t : ℕ) (a d : A)
    → length xs ≡ most_threads
    → t < most_threads
    → f t ≡ a
    → ((u : ℕ) → u < most_threads → u ≢ t → f u ≡ get_or xs u d)
    → at_each f ≡ set xs t a
at_each-set_of_list f xs t a d long lt here there =
    sym (fill_by_all f (set xs t a) most_threads d (length-set xs t a ∙ long)
    (at_index t _ (λ within. get_or-set_same xs t a d (omega (arith, long, lt)) ∙ sym here)
    (λ u ne within. get_or-set_other xs t u a d (λ e. ne (sym e)) ∙ sym (there u within (λ e. ne (sym e))))))

-- If f and g differ only at t, and f gives a there, then the list of f's values is that of g's with a at index t.
pub at_each-differs_at_one : {A : Type 0} (f g : ℕ → A) (t : ℕ) (a : A)
    → t < most_threads
    → f t ≡ a
    → ((u : ℕ) → u < most_threads → u ≢ t → f u ≡ g u)
    → at_each f ≡ set (at_each g) t a
at_each-differs_at_one f g t a lt here there =
    at_each-set_of_list f (at_each g) t a a (length-at_each g) lt here
    (λ u within ne. there u within ne ∙ sym (get_or-at_each g u a within))
