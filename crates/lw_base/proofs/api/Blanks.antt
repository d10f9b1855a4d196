-- Lemmas on blanks, on name bytes, on the bytes of tests' names, and on the results of searches in lists.
use Rattle.lw_base.proofs.Common.{byte, ◌≡◌, ℕ, zero, suc, ◌<◌, ◌==◌, inl, inr, Bool, true, List, [], ◌∷◌}
use Rattle.lw_base.proofs.Common.{subst, arith, slice_index_or, eqb-true, list_any, list_all, AllByRecursion}
use Rattle.lw_base.proofs.Common.{or_cases, and_parts, nat_tests, Bytes, is_blank, is_name_byte, IsTestName}
use Rattle.lw_base.proofs.Common.{is_ascii_graphic}

-- If all items of a list pass a test q, and b is found among them by a comparison that holds only of equal items, then b passes
-- q.
pub list_all-member : {X : Type 0} (same : X → X → Bool)
    → ((x y : X) → same x y ≡ true → x ≡ y)
    → (q : X → Bool) (xs : List X) (b : X)
    → list_all q xs ≡ true
    → list_any (λ s. same s b) xs ≡ true
    → q b ≡ true
list_all-member same decides q [] b all any = absurd cc
list_all-member same decides q (x ∷ xs) b all any =
    let each = and_parts (q x) (list_all q xs) all in
    elim (or_cases (same x b) (list_any (λ s. same s b) xs) any) [
      | inl e ↦ subst (λ y. q y ≡ true) (decides x b e) each.0
      | inr h ↦ list_all-member same decides q xs b each.1 h
    ]

-- Bytes that compare equal are equal.
pub byte_eq-sound : (x y : ℕ) → (x == y) ≡ true → x ≡ y
byte_eq-sound x y h = eqb-true x y h

-- If each of the four blanks passes a test, so does every byte that is blank.
pub is_blank-passes : (q : ℕ → Bool) (b : ℕ)
    → list_all q (byte " " ∷ byte "\t" ∷ byte "\n" ∷ byte "\r" ∷ []) ≡ true
    → is_blank b ≡ true
    → q b ≡ true
is_blank-passes q b all h =
    list_all-member (λ x y. x == y) byte_eq-sound q (byte " " ∷ byte "\t" ∷ byte "\n" ∷ byte "\r" ∷ []) b all h

-- If all bytes of a text pass a test, and whatever passes it is below 128, all bytes of the text are below 128.
pub slice_index_or-ascii : (q : ℕ → Bool)
    → ((b : ℕ) → q b ≡ true → b < 128)
    → (w : Bytes)
    → AllByRecursion (λ b. q b ≡ true) w
    → (i : ℕ)
    → slice_index_or w i 0 < 128
slice_index_or-ascii q low [] all i = omega arith
slice_index_or-ascii q low (b ∷ w) all zero = low b all.0
slice_index_or-ascii q low (b ∷ w) all (suc i) = slice_index_or-ascii q low w all.1 i

-- A name byte is below 128.
name_byte_ascii : (b : ℕ) → is_name_byte b ≡ true → b < 128
name_byte_ascii b is = grind (arith, nat_tests)

-- A text of name bytes has only bytes below 128.
pub name_bytes_ascii : (w : Bytes) → AllByRecursion (λ b. is_name_byte b ≡ true) w → (i : ℕ) → slice_index_or w i 0 < 128
name_bytes_ascii w all = slice_index_or-ascii is_name_byte name_byte_ascii w all

-- A visible ASCII character is below 128.
graphic_ascii : (b : ℕ) → is_ascii_graphic b ≡ true → b < 128
graphic_ascii b is = grind (arith, nat_tests)

-- The name of a test has only bytes below 128.
pub name_ascii : (name : Bytes) → IsTestName name → (i : ℕ) → slice_index_or name i 0 < 128
name_ascii name is = slice_index_or-ascii is_ascii_graphic graphic_ascii name is.are_graphic_bytes
