-- The newest word for a location, searched from the newest entry on. Lemmas for the loop of `newest_in` in
-- `buffer.rt`.
use Rattle.lw_tso.proofs.Common.{IsSome, Bor, refl, option_copied, slice_get-some, length, ◌≡◌, ℕ, suc, ◌-◌}
use Rattle.lw_tso.proofs.Common.{◌<◌, true, false, List, ◌∷◌, slice_get, drop, Option, Some, None, ◌==◌}
use Rattle.lw_tso.proofs.Common.{if◌then◌else◌, ap, sym, ◌∙◌, subst, arith, drop-cons, option_or}
use Rattle.lw_tso.proofs.Common.{slice_get_within, get_or_from_slice_get, newest_buffered}

-- If what was read is what a list has at i, and i is in range, then something was read.
pub IsSome-index_in_range : {X : Type 0} (read : Option (Bor X)) (xs : List X) (i : ℕ)
    → option_copied read ≡ slice_get xs i
    → i < length xs
    → IsSome read
IsSome-index_in_range (Some x) xs i is within = refl
IsSome-index_in_range None xs i is within = let (x, at) = slice_get-some xs i within in absurd cc

-- The word of an entry, if the entry is for the location.
abbrev word_for : ℕ → ℕ × ℕ → Option ℕ
word_for x entry = if entry.0 == x then Some entry.1 else None

-- If the entries from index k on have a newest word w for x, it is the newest of all.
newest_buffered-of_newer : (x k w : ℕ) (entries : List (ℕ × ℕ))
    → newest_buffered (drop k entries) x ≡ Some w
    → newest_buffered entries x ≡ Some w
newest_buffered-of_newer x (suc k) w (entry ∷ entries) h =
    ap (λ q. option_or q (word_for x entry)) (newest_buffered-of_newer x k w entries h)
newest_buffered-of_newer x _ w _ h = h

-- If the entry at k is `entry`, and none after it is for x, the newest word for x from k on is that of `entry`, if it is for x.
newest_buffered-at_index : (x k : ℕ) (entries : List (ℕ × ℕ)) (entry : ℕ × ℕ)
    → slice_get entries k ≡ Some entry
    → newest_buffered (drop (suc k) entries) x ≡ None
    → newest_buffered (drop k entries) x ≡ word_for x entry
newest_buffered-at_index x k entries entry at h =
    let parts =
    drop-cons entries k entry (slice_get_within entries k entry at)
    ∙ ap (λ y. y ∷ drop (suc k) entries) (get_or_from_slice_get entries k entry entry at) in
    ap (λ es. newest_buffered es x) parts ∙ ap (λ q. option_or q (word_for x entry)) h

-- If the entry at `p - 1` is `entry`, and none from p on is for x, the newest word for x from `p - 1` on is that of `entry`, if
-- it is for x.
newest_buffered-one_before : (x p : ℕ) (entries : List (ℕ × ℕ)) (entry : ℕ × ℕ)
    → 0 < p
    → slice_get entries (p - 1) ≡ Some entry
    → newest_buffered (drop p entries) x ≡ None
    → newest_buffered (drop (p - 1) entries) x ≡ word_for x entry
newest_buffered-one_before x p entries entry positive at h =
    let back : suc (p - 1) ≡ p = omega arith in
    newest_buffered-at_index x (p - 1) entries entry at
    (subst (λ (n : ℕ). newest_buffered (drop n entries) x ≡ None) (sym back) h)

-- If neither an entry from index p on nor the one before p is for x, there is no word for x from `p - 1` on: the search continues.
pub newest_buffered-none_before : (x p : ℕ) (entries : List (ℕ × ℕ)) (entry : ℕ × ℕ)
    → 0 < p
    → slice_get entries (p - 1) ≡ Some entry
    → (entry.0 == x) ≡ false
    → newest_buffered (drop p entries) x ≡ None
    → newest_buffered (drop (p - 1) entries) x ≡ None
newest_buffered-none_before x p entries entry positive at other h =
    newest_buffered-one_before x p entries entry positive at h ∙ ap (λ b. if b then Some entry.1 else None) other

-- If no entry from index p on is for x, but the one before p is, its word is the newest of all: the search ends.
pub newest_buffered-found : (x p : ℕ) (entries : List (ℕ × ℕ)) (entry : ℕ × ℕ)
    → 0 < p
    → slice_get entries (p - 1) ≡ Some entry
    → (entry.0 == x) ≡ true
    → newest_buffered (drop p entries) x ≡ None
    → newest_buffered entries x ≡ Some entry.1
newest_buffered-found x p entries entry positive at same h =
    newest_buffered-of_newer x (p - 1) entry.1 entries
    (newest_buffered-one_before x p entries entry positive at h ∙ ap (λ b. if b then Some entry.1 else None) same)
