-- Loops over indices: how a computed list grows with the index, and what holds at the loop's end.
use Rattle.lw_text.proofs.Common.{◌≡◌, ℕ, ◌+◌, Bool, List, [], ◌∷◌, ◌++◌, length, map, take, refl, sym, ap}
use Rattle.lw_text.proofs.Common.{◌∙◌, append_assoc, zero-add, filter, flat_map, map-id, append-nil, ◌≤◌}
use Rattle.lw_text.proofs.Common.{take_all, range_with_len, flat_map-append, map_push, filter-append}
use Rattle.lw_text.proofs.Common.{map-range_with_len_more, Seen, thread_registers, all_registers}

-- The images of the first `n + 1` indices that pass a test are those of the first n that do, followed by the last, if it does.
pub filter-push : {X : Type 0} (p : X → Bool) (f : ℕ → X) (n : ℕ)
    → filter p (map f (range_with_len 0 (n + 1))) ≡ filter p (map f (range_with_len 0 n)) ++ filter p (f n ∷ [])
filter-push p f n = ap (filter p) (map-range_with_len_more f 0 n n (zero-add n)) ∙ filter-append p _ _

-- If a list is h of f of the first n indices, with h of f of index n appended it is that of the first `n + 1`.
pub map-push : {X Y : Type 0} (h : X → Y) (f : ℕ → X) (before after : List Y) (n : ℕ) (y : Y)
    → before ≡ map h (map f (range_with_len 0 n))
    → after ≡ before ++ y ∷ []
    → y ≡ h (f n)
    → after ≡ map h (map f (range_with_len 0 (n + 1)))
map-push h f before after n y e p q =
    rw (map-range_with_len_more f 0 n n (zero-add n), map_push h (map f (range_with_len 0 n)) (f n), ← e, ← q) p

-- Appending the image of index n, if it passes a test, extends the filtered images of the first n indices to `n + 1`.
pub filtered_seen-push : {X : Type 0} (p : X → Bool) (before seen after : List X) (f : ℕ → X) (n : ℕ)
    → seen ≡ before ++ filter p (map f (range_with_len 0 n))
    → after ≡ seen ++ filter p (f n ∷ [])
    → after ≡ before ++ filter p (map f (range_with_len 0 (n + 1)))
filtered_seen-push p before seen after f n e h =
    h
    ∙ ap (λ l. l ++ filter p (f n ∷ [])) e
    ∙ append_assoc before (filter p (map f (range_with_len 0 n))) (filter p (f n ∷ []))
    ∙ ap (λ l. before ++ l) (sym (filter-push p f n))

-- The `n + 1` indices from a are the n from a, followed by `a + n`.
range-more : (a n : ℕ) → range_with_len a (n + 1) ≡ range_with_len a n ++ (a + n) ∷ []
range-more a n =
    sym (map-id (range_with_len a (n + 1)))
    ∙ map-range_with_len_more (λ k. k) a n (a + n) refl
    ∙ ap (λ l. l ++ (a + n) ∷ []) (map-id (range_with_len a n))

-- Appending the registers of thread n that pass a test extends those of the first n threads to `n + 1`.
pub registers-push : (p : Seen → Bool) (seen after : List Seen) (n : ℕ)
    → seen ≡ filter p (all_registers n)
    → after ≡ seen ++ filter p (thread_registers n)
    → after ≡ filter p (all_registers (n + 1))
registers-push p seen after n e f =
    let more =
    ap (flat_map thread_registers) (range-more 0 n ∙ ap (λ (k : ℕ). range_with_len 0 n ++ k ∷ []) (zero-add n))
    ∙ flat_map-append thread_registers (range_with_len 0 n) (n ∷ [])
    ∙ ap (λ l. all_registers n ++ l) (append-nil (thread_registers n)) in
    f ∙ ap (λ l. l ++ filter p (thread_registers n)) e ∙ sym (ap (filter p) more ∙ filter-append p _ _)

-- ---- the whole list

-- If f has the value y of the first i items, and i is not below the length, f has the value y of the whole list.
pub whole_list-at_end : {X Y : Type 0} (f : List X → Y) (xs : List X) (i : ℕ) (y : Y)
    → length xs ≤ i
    → f (take i xs) ≡ y
    → f xs ≡ y
whole_list-at_end f xs i y le all = ap f (sym (take_all i xs le)) ∙ all
