-- The effects of operations on a thread's state. Lemmas for `thread_state.rt` and `queue.rt`: what is
-- refused, and the newest word in a buffer.
use Rattle.lw_search.proofs.Common.{◌≡◌, ℕ, zero, suc, ◌+◌, ◌<◌, true, false, true≢false, List, [], ◌∷◌, ◌++◌}
use Rattle.lw_search.proofs.Common.{length, take, drop, ◌==◌, refl, sym, ap, ◌∙◌, Stop, Processor}
use Rattle.lw_search.proofs.Common.{EventEffect, Refused, if_buffer_empty, drain_effect, Option, Some, None}
use Rattle.lw_search.proofs.Common.{newest_buffered, option_or, if◌then◌else◌, slice_get, slice_index, get_or}
use Rattle.lw_search.proofs.Common.{take_more, BufferEmpty, arith, eqb-true}

-- An effect that waits for an empty buffer is refused while the buffer has an entry.
pub if_buffer_empty-refused : (buffer : List (ℕ × ℕ)) (stop : Stop) (act : EventEffect)
    → (length buffer == 0) ≡ false
    → if_buffer_empty buffer stop act ≡ Refused stop
if_buffer_empty-refused [] stop act full = absurd (true≢false full)
if_buffer_empty-refused (entry ∷ newer) stop act full = refl

-- A drain is refused if there is no entry.
pub drain_effect-refused : (buffer : List (ℕ × ℕ)) (p : Processor)
    → slice_get buffer 0 ≡ None
    → (stop : Stop) × (drain_effect buffer p ≡ Refused stop)
drain_effect-refused [] p none = (BufferEmpty, refl)
drain_effect-refused (entry ∷ newer) p none = absurd cc

-- A drain is refused if the length of the store buffer is 0.
pub drain_effect-empty : (buffer : List (ℕ × ℕ)) (p : Processor)
    → (length buffer == 0) ≡ true
    → (stop : Stop) × (drain_effect buffer p ≡ Refused stop)
drain_effect-empty [] p empty = (BufferEmpty, refl)
drain_effect-empty (entry ∷ newer) p empty = absurd (omega (arith, eqb-true (length (entry ∷ newer)) 0 empty))

-- Removing the first item from an empty list leaves it empty.
pub drop_one-none : {X : Type 0} (xs : List X) → slice_get xs 0 ≡ None → drop 1 xs ≡ xs
drop_one-none [] none = refl
drop_one-none (x ∷ xs) none = absurd cc

-- Past the end of a list of numbers `slice_index` gives 0.
pub slice_index-past : (xs : List ℕ) (i : ℕ) → slice_get xs i ≡ None → slice_index xs i ≡ 0
slice_index-past [] i none = refl
slice_index-past (x ∷ xs) zero none = absurd cc
slice_index-past (x ∷ xs) (suc i) none = slice_index-past xs i none

-- ---- the newest word

-- The word of an entry, if the entry is for the location.
abbrev word_of_entry : ℕ × ℕ → ℕ → Option ℕ
word_of_entry entry x = if entry.0 == x then Some entry.1 else None

-- An optional word, or otherwise none, is the optional word.
option_or-None : (v : Option ℕ) → option_or v None ≡ v
option_or-None None = refl
option_or-None (Some w) = refl

-- The choice of the first word that exists is associative.
option_or-assoc : (a b c : Option ℕ) → option_or (option_or a b) c ≡ option_or a (option_or b c)
option_or-assoc None b c = refl
option_or-assoc (Some w) b c = refl

-- The newest word after an entry is appended is that entry's, if it is for the location.
pub newest_buffered-append : (x : ℕ) (es : List (ℕ × ℕ)) (e : ℕ × ℕ)
    → newest_buffered (es ++ e ∷ []) x ≡ option_or (word_of_entry e x) (newest_buffered es x)
newest_buffered-append x [] e = sym (option_or-None (word_of_entry e x))
newest_buffered-append x (d ∷ es) e =
    ap (λ q. option_or q (word_of_entry d x)) (newest_buffered-append x es e)
    ∙ option_or-assoc (word_of_entry e x) (newest_buffered es x) (word_of_entry d x)

-- The newest word of the first `i + 1` entries, from that of the first i.
pub newest_buffered-take : (x i : ℕ) (es : List (ℕ × ℕ)) (found now : Option ℕ)
    → i < length es
    → found ≡ newest_buffered (take i es) x
    → now ≡ option_or (word_of_entry (get_or es i (0, 0)) x) found
    → now ≡ newest_buffered (take (i + 1) es) x
newest_buffered-take x i es found now lt before is =
    is
    ∙ ap (option_or (word_of_entry (get_or es i (0, 0)) x)) before
    ∙ sym (newest_buffered-append x (take i es) (get_or es i (0, 0)))
    ∙ ap (λ l. newest_buffered l x) (sym (take_more es i (0, 0) lt))
