-- Sets of accesses as bits: what a set has after an access is added, and after two sets are joined. Lemmas for `accesses.rt`.
use Rattle.lw_search.proofs.Common.{most_locations, ◌≡◌, ◌∙◌, ◌+◌, ◌*◌, ◌%◌, ◌^◌, ◌<◌, ◌≤◌, ℕ, Bool, true}
use Rattle.lw_search.proofs.Common.{false, inl, inr, sym, ap, subst, arith, zero, suc, cases_eq, List, length}
use Rattle.lw_search.proofs.Common.{slice_get, Some, Instr, access_bit, Lacks, w32, bit_or, bit_at, bit_at_or}
use Rattle.lw_search.proofs.Common.{bit_at_set_same, bit_at_set_other, bit_at-lt, and_pow, one_shl, pow_pos}
use Rattle.lw_search.proofs.Common.{bit_and, nat_eq, unsigned_Decides, refl, Outlook, Outlooks, Processor, []}
use Rattle.lw_search.proofs.Common.{◌∷◌, ◌++◌, take, if◌then◌else◌, slice_get-append_cases, DescribeRows}
use Rattle.lw_search.proofs.Common.{DescribeThread, length-append, length-take-le, slice_set}
use Rattle.lw_search.proofs.Common.{slice_get-slice_set_same, slice_get-slice_set_other, le-max_left}
use Rattle.lw_search.proofs.Common.{le-max_right, slice_get_within}

-- If a set lacks an access after one more access was added, it lacked it before.
pub Lacks-before : (set k x : ℕ) (w : Bool) → k < 32 → Lacks (bit_or set (1 * 2 ^ k % 4294967296)) x w → Lacks set x w
Lacks-before set k x w within lacks = elim (cases_eq (access_bit x w) k) [
  | inl same ↦
      absurd (let one = bit_at_set_same w32 set k within in
      let none = ap (λ i. bit_at (bit_or set (1 * 2 ^ k % 4294967296)) i) (sym same) ∙ lacks in
      omega (arith, one, none))
  | inr apart ↦ sym (bit_at_set_other w32 set k within (access_bit x w) apart) ∙ lacks
]

-- In a set to which an access was added, the access's bit is not 0.
pub not-Lacks-added : (set k : ℕ) → k < 32 → bit_at (bit_or set (1 * 2 ^ k % 4294967296)) k ≡ 0 → ⊥
not-Lacks-added set k within none = let one = bit_at_set_same w32 set k within in omega (arith, one, none)

-- What two sets together lack, each of them lacks.
pub Lacks-union : (a b x : ℕ) (w : Bool) → Lacks (bit_or a b) x w → Lacks a x w × Lacks b x w
Lacks-union a b x w lacks =
    let i = access_bit x w in
    let both = sym (bit_at_or a b i) ∙ lacks in
    let left = le-max_left (bit_at a i) (bit_at b i) in
    let right = le-max_right (bit_at a i) (bit_at b i) in
    (omega (arith, both, left), omega (arith, both, right))

-- The bit of an access of a location in range is below 32.
pub access_bit-lt : (x : ℕ) (w : Bool) → x < most_locations → access_bit x w < 32
access_bit-lt x true lt = omega arith
access_bit-lt x false lt = omega arith

-- If the code's test of a bit finds 0, the bit is not set.
pub bit_at-zero_if_tested : (set k : ℕ) → k < 32 → nat_eq (bit_and set (1 * 2 ^ k % 4294967296)) 0 ≡ true → bit_at set k ≡ 0
bit_at-zero_if_tested set k within test =
    let none : bit_and set (2 ^ k) ≡ 0 = ap (bit_and set) (sym (one_shl k 32 within)) ∙ (unsigned_Decides _ _).0 test in
    go (bit_at set k) (bit_at-lt set k) (sym (and_pow set k) ∙ none)
  where
    -- A binary digit that is 0 when it is shifted is 0.
    go : (b : ℕ) → b < 2 → b * 2 ^ k ≡ 0 → b ≡ 0
    go zero lt e = refl
    go (suc zero) lt e = absurd (let positive = pow_pos k in omega (arith, e, positive))
    go (suc (suc b)) lt e = absurd (omega (arith, lt))

-- ---- outlooks

module _ (Holds : ℕ → Outlook → Type 0) where
  -- The outlook at each of the first n indices satisfies `Holds`.
  abbrev pub HoldsOfFirst : List Outlook → ℕ → Type 0
  HoldsOfFirst outlooks n = (u : ℕ) → u < n → (o : Outlook) × (slice_get outlooks u ≡ Some o) × Holds u o

  -- If the outlook at index n is set to one that satisfies `Holds`, those at the first n + 1 indices do.
  pub HoldsOfFirst-set : (outlooks : List Outlook) (n : ℕ) (old new : Outlook)
      → slice_get outlooks n ≡ Some old
      → HoldsOfFirst outlooks n
      → Holds n new
      → HoldsOfFirst (slice_set outlooks n new) (n + 1)
  HoldsOfFirst-set outlooks n old new at first holds u lt = elim (cases_eq u n) [
    | inl same ↦
        subst (λ v. (o : Outlook) × (slice_get (slice_set outlooks n new) v ≡ Some o) × Holds v o) (sym same)
        (new, slice_get-slice_set_same outlooks n new old at, holds)
    | inr apart ↦
        let before = first u (omega (arith, lt, apart)) in
        (before.0, slice_get-slice_set_other outlooks n u new (λ e. apart (sym e)) ∙ before.1, before.2)
  ]

-- ---- rows of outlooks

-- An item of the first n is the list's.
slice_get-of_take : {X : Type 0} (n : ℕ) (xs : List X) (i : ℕ) (x : X)
    → slice_get (take n xs) i ≡ Some x
    → slice_get xs i ≡ Some x
slice_get-of_take zero xs i x at = absurd cc
slice_get-of_take (suc n) [] i x at = absurd cc
slice_get-of_take (suc n) (y ∷ xs) zero x at = at
slice_get-of_take (suc n) (y ∷ xs) (suc i) x at = slice_get-of_take n xs i x at

-- The rows after those of the known states were dropped and one was appended describe the states, with one more if it is new.
pub DescribeRows-appended : (program : List (List Instr)) (states new : List Processor) (rows : List Outlooks) (p : Processor)
    (row : Outlooks) (is_known : Bool)
    → new ≡ (if is_known then states else (states ++ p ∷ []))
    → DescribeRows program states rows
    → DescribeThread program p row.threads
    → DescribeRows program new (take (length states) rows ++ row ∷ [])
DescribeRows-appended program states new rows p row is_known is before describes =
    record { enough = subst (λ n. length new ≤ n) (sym size) (at_most is_known is); describe = describe is_known is }
  where
    -- As many rows remain as states were known.
    length_of_taken : length (take (length states) rows) ≡ length states
    length_of_taken = length-take-le (length states) rows before.enough

    -- With the appended row there is one row more than known states.
    size : length (take (length states) rows ++ row ∷ []) ≡ length states + 1
    size = length-append (take (length states) rows) (row ∷ []) ∙ ap (λ n. n + 1) length_of_taken

    -- There is at most one new state more than known states; b says that the state is known.
    at_most : (b : Bool) → new ≡ (if b then states else (states ++ p ∷ [])) → length new ≤ length states + 1
    at_most true e = let l = ap length e in omega (arith, l)
    at_most false e = let l = ap length e ∙ length-append states (p ∷ []) in omega (arith, l)

    -- Rows of known states are as before.
    of_known : (i : ℕ) (q : Processor) (r : Outlooks)
        → slice_get states i ≡ Some q
        → slice_get (take (length states) rows ++ row ∷ []) i ≡ Some r
        → DescribeThread program q r.threads
    of_known i q r at and = elim (slice_get-append_cases (take (length states) rows) row r i and) [
      | inl old ↦ before.describe i q r at (slice_get-of_take (length states) rows i r old)
      | inr new ↦ absurd (let lt = slice_get_within states i q at in omega (arith, lt, new.0, length_of_taken))
    ]

    -- By whether the state is known: the row at the index of each new state describes it.
    describe : (b : Bool)
        → new ≡ (if b then states else (states ++ p ∷ []))
        → (i : ℕ) (q : Processor) (r : Outlooks)
        → slice_get new i ≡ Some q
        → slice_get (take (length states) rows ++ row ∷ []) i ≡ Some r
        → DescribeThread program q r.threads
    describe true e i q r at and = of_known i q r (ap (λ l. slice_get l i) (sym e) ∙ at) and
    describe false e i q r at and = elim (slice_get-append_cases states p q i (ap (λ l. slice_get l i) (sym e) ∙ at)) [
      | inl old ↦ of_known i q r old and
      | inr new ↦ elim (slice_get-append_cases (take (length states) rows) row r i and) [
        | inl old ↦
            absurd (let lt = slice_get_within (take (length states) rows) i r old in omega (arith, lt, new.0, length_of_taken))
        | inr last ↦
            subst (λ (z : Outlooks). DescribeThread program q z.threads) last.1
            (subst (λ (z : Processor). DescribeThread program z row.threads) new.1 describes)
      ]
    ]
