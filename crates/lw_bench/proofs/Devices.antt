-- The bytes read from a reader and written to a writer, with one more piece; and how they relate to the whole
-- input, of which a run reads at most 65,537 bytes. The loops of `read_input` and `write_output` go by these
-- lemmas.
use Rattle.lw_bench.proofs.Common.{most_read_bytes, arith, inl, inr, refl, ◌≡◌, ◌≢◌, ℕ, zero, suc, ◌-◌, ◌<◌}
use Rattle.lw_bench.proofs.Common.{◌≤◌, Option, Some, None, List, [], ◌∷◌, ◌++◌, length, length-append, take}
use Rattle.lw_bench.proofs.Common.{drop, sym, ap, ◌∙◌, subst, append_assoc, length-take-le, take-append-drop}
use Rattle.lw_bench.proofs.Common.{take-append-le, Appends, Consumes, IsAtEnd, Keeps, IsInput, TakesInput}
use Rattle.lw_bench.proofs.Common.{TakesSome, ReadsMore, LosesInput, WritesPrefix}

-- Appending some bytes, and then more, appends the concatenation.
Appends-more : (a b c : Option (List ℕ)) (xs ys : List ℕ) → Appends a b xs → Appends b c ys → Appends a c (xs ++ ys)
Appends-more None b c xs ys h k = tt
Appends-more (Some x) None c xs ys h k = absurd h
Appends-more (Some x) (Some y) None xs ys h k = absurd k
Appends-more (Some x) (Some y) (Some z) xs ys h k = k ∙ ap (λ w. w ++ ys) h ∙ append_assoc x xs ys

-- Consuming some bytes, and then more, consumes the concatenation.
Consumes-more : (a b c : Option (List ℕ)) (xs ys : List ℕ) → Consumes a b xs → Consumes b c ys → Consumes a c (xs ++ ys)
Consumes-more None b c xs ys h k = tt
Consumes-more (Some x) None c xs ys h k = absurd h
Consumes-more (Some x) (Some y) None xs ys h k = absurd k
Consumes-more (Some x) (Some y) (Some z) xs ys h k = h ∙ ap (λ w. xs ++ w) k ∙ sym (append_assoc xs ys z)

-- If the first n bytes of the rest are written too, what remains to be written is the rest after them.
pub WritesPrefix-more : (a b c : Option (List ℕ)) (bytes rest : List ℕ) (n : ℕ)
    → WritesPrefix a b bytes rest
    → Appends b c (take n rest)
    → WritesPrefix a c bytes (drop n rest)
WritesPrefix-more a b c bytes rest n puts more = record {
  written = puts.written ++ take n rest;
  parts =
      puts.parts
      ∙ ap (λ r. puts.written ++ r) (sym (take-append-drop n rest))
      ∙ sym (append_assoc puts.written (take n rest) (drop n rest));
  appended = Appends-more a b c puts.written (take n rest) puts.appended more;
}

-- The first `count` bytes of a buffer were read, after the bytes `before`; the buffer is no larger than what may still be read.
pub record IsFront (before buffer : List ℕ) (count : ℕ) : Type 0 where
  pub room : ℕ
  pub short : length before < most_read_bytes
  pub has_room : 0 < room
  pub is_room : room ≤ most_read_bytes - length before
  pub whole : length buffer ≡ room
  pub count_in_range : count ≤ length buffer

-- If the first bytes of a buffer were read and appended to those before, the reader supplied these bytes.
pub ReadsMore-front : {before after : List ℕ} (known left : Option (List ℕ)) (buffer later : List ℕ) (count : ℕ)
    → IsFront before buffer count
    → Consumes known left (take count buffer) × (count ≡ 0 → 0 < length buffer → IsAtEnd left)
    → after ≡ before ++ take count (buffer ++ later)
    → ReadsMore known left before after count
ReadsMore-front {before} known left buffer later count front consumed added =
    let new_bytes = take count buffer in
    let many : length new_bytes ≡ count = length-take-le count buffer front.count_in_range in
    let more = added ∙ ap (λ t. before ++ t) (take-append-le count buffer later front.count_in_range) in
    record {
      new_bytes = new_bytes;
      as_many = many;
      added = more;
      limit = omega (
        arith,
        ap length more,
        length-append before new_bytes,
        many,
        front.count_in_range,
        front.whole,
        front.is_room,
        front.short,
      );
      consumed = consumed.0;
      ended = λ none. consumed.1 none (omega (arith, front.whole, front.has_room));
    }

-- At the start no bytes have been consumed.
pub Consumes-none : (known : Option (List ℕ)) (bytes : List ℕ) → bytes ≡ [] → Consumes known known bytes
Consumes-none None bytes none = tt
Consumes-none (Some x) bytes none = ap (λ (b : List ℕ). b ++ x) (sym none)

-- Bytes that were read after those consumed are consumed with them: all bytes read so far were consumed since the start.
pub Consumes-more_read : (a b c : Option (List ℕ)) (before after : List ℕ) (n : ℕ)
    → Consumes a b before
    → ReadsMore b c before after n
    → Consumes a c after
Consumes-more_read a b c before after n before_that gets =
    subst (Consumes a c) (sym gets.added) (Consumes-more a b c before gets.new_bytes before_that gets.consumed)

-- What was consumed up to the end is the input.
pub IsInput-at_end : (a b : Option (List ℕ)) (bytes : List ℕ) → Consumes a b bytes → IsAtEnd b → IsInput a bytes
IsInput-at_end None b bytes h end = tt
IsInput-at_end (Some x) None bytes h end = absurd h
IsInput-at_end (Some x) (Some y) bytes h end = (y, h, inl end)

-- If 65,537 bytes were consumed, they are the input as far as it may be read.
pub IsInput-if_full : (a b : Option (List ℕ)) (bytes : List ℕ)
    → Consumes a b bytes
    → length bytes ≡ most_read_bytes
    → IsInput a bytes
IsInput-if_full None b bytes h full = tt
IsInput-if_full (Some x) None bytes h full = absurd h
IsInput-if_full (Some x) (Some y) bytes h full = (y, h, inr full)

-- ---- what was consumed

-- A concatenation without the first text is the second.
drop-append : (bytes rest : List ℕ) → drop (length bytes) (bytes ++ rest) ≡ rest
drop-append [] rest = refl
drop-append (b ∷ bytes) rest = drop-append bytes rest

-- If an input is some bytes followed by a rest, what remains without these bytes is the rest.
drop-of_prefix : (input bytes rest : List ℕ) → input ≡ bytes ++ rest → drop (length bytes) input ≡ rest
drop-of_prefix input bytes rest is = ap (drop (length bytes)) is ∙ drop-append bytes rest

-- Nothing remains of an input of at most n bytes without its first n.
drop-at_end : (n : ℕ) (input : List ℕ) → length input ≤ n → drop n input ≡ []
drop-at_end n [] le = drop-nil n
  where
    -- The empty list without its first items is empty.
    drop-nil : (k : ℕ) → drop {A = ℕ} k [] ≡ []
    drop-nil zero = refl
    drop-nil (suc k) = refl
drop-at_end zero (b ∷ input) le = absurd (omega arith)
drop-at_end (suc n) (b ∷ input) le = drop-at_end n input (omega (arith, le))

-- If the end was reached, the whole input was consumed.
pub TakesInput-ended : (a b : Option (List ℕ)) (bytes : List ℕ)
    → Consumes a b bytes
    → IsAtEnd b
    → length bytes ≤ most_read_bytes
    → TakesInput a b
TakesInput-ended None b bytes h end le = tt
TakesInput-ended (Some x) None bytes h end le = absurd h
TakesInput-ended (Some x) (Some y) bytes h end le =
    let short : length x ≤ most_read_bytes = omega (arith, ap length h, length-append bytes y, ap length end, le) in
    ap Some (end ∙ sym (drop-at_end most_read_bytes x short))

-- If 65,537 bytes were consumed, all was consumed that a run reads of its input.
pub TakesInput-full : (a b : Option (List ℕ)) (bytes : List ℕ)
    → Consumes a b bytes
    → length bytes ≡ most_read_bytes
    → TakesInput a b
TakesInput-full None b bytes h full = tt
TakesInput-full (Some x) None bytes h full = absurd h
TakesInput-full (Some x) (Some y) bytes h full = ap Some (sym (subst (λ n. drop n x ≡ y) full (drop-of_prefix x _ y h)))

-- If at most 65,537 bytes were consumed, a part of what a run may read of its input was consumed.
TakesSome-ReadsMore : (a b : Option (List ℕ)) (bytes : List ℕ)
    → Consumes a b bytes
    → length bytes ≤ most_read_bytes
    → TakesSome a b
TakesSome-ReadsMore None b bytes h le = tt
TakesSome-ReadsMore (Some x) None bytes h le = absurd h
TakesSome-ReadsMore (Some x) (Some y) bytes h le = (length bytes, le, ap Some (sym (drop-of_prefix x bytes y h)))

-- If bytes were consumed, and then more were read and lost, a part of what a run may read of its input was consumed.
pub TakesSome-lost : (a b c : Option (List ℕ)) (bytes : List ℕ) → Consumes a b bytes → LosesInput b c bytes → TakesSome a c
TakesSome-lost a b c bytes h loses =
    TakesSome-ReadsMore a c (bytes ++ loses.new_bytes) (Consumes-more a b c bytes loses.new_bytes h loses.consumed)
    (omega (arith, length-append bytes loses.new_bytes, loses.limit))

-- If the whole input was consumed, a part of it was.
pub TakesSome-TakesInput : (a b : Option (List ℕ)) → TakesInput a b → TakesSome a b
TakesSome-TakesInput None b h = tt
TakesSome-TakesInput (Some x) b h = (most_read_bytes, omega arith, h)

-- If a reader keeps its bytes, none were consumed.
Consumes-Keeps : (a b : Option (List ℕ)) → Keeps a b → Consumes a b []
Consumes-Keeps None b h = tt
Consumes-Keeps (Some x) None h = absurd h
Consumes-Keeps (Some x) (Some y) h = sym h

-- A reader that failed and kept its bytes lost none.
pub LosesInput-none : (known left : Option (List ℕ)) (before : List ℕ)
    → length before < most_read_bytes
    → Keeps known left
    → LosesInput known left before
LosesInput-none known left before short kept =
    record { new_bytes = []; limit = omega (arith, short); consumed = Consumes-Keeps known left kept }

-- Bytes that were read into a buffer may be lost: with those before they are no more than may be read.
pub LosesInput-front : (known left : Option (List ℕ)) (before buffer : List ℕ) (count : ℕ)
    → IsFront before buffer count
    → Consumes known left (take count buffer)
    → LosesInput known left before
LosesInput-front known left before buffer count front consumed = record {
  new_bytes = take count buffer;
  limit =
      omega (
        arith,
        length-take-le count buffer front.count_in_range,
        front.count_in_range,
        front.whole,
        front.is_room,
        front.short,
      );
  consumed = consumed;
}

-- If some bytes were read, fewer remain to be read.
pub unread_count-decreases : (known left : Option (List ℕ)) (before after : List ℕ) (count : ℕ)
    → ReadsMore known left before after count
    → count ≢ 0
    → most_read_bytes - length after < most_read_bytes - length before
unread_count-decreases known left before after count gets some =
    omega (arith, some, gets.limit, gets.as_many, ap length gets.added, length-append before gets.new_bytes)
