-- Quoted texts and lines `Key=value` have unique ends, and so have sequences of them, the notes; and a loop
-- finds the end. A step of the proof that a text has one frame; the loop of `after_notes` goes by `NotesContinueAt`.
use Rattle.lw_text.proofs.Common.{byte, ◌≡◌, ℕ, ◌<◌, ◌≤◌, inl, inr, Bool, true, false, not, [], ◌∷◌, ◌++◌}
use Rattle.lw_text.proofs.Common.{length, length-append, append_assoc, refl, sym, ap, ◌∙◌, subst, arith, ◌==◌}
use Rattle.lw_text.proofs.Common.{eqb-true, AllByRecursion, list_all, not-true, not-false, HoldsOfNothing}
use Rattle.lw_text.proofs.Common.{Bytes, first_byte_is, is_key_byte, is_space, begins_trivia, Trivia, Quoted}
use Rattle.lw_text.proofs.Common.{KeyLine, Note, Notes, note, IsSuffix, list_all-member, byte_eq-sound}
use Rattle.lw_text.proofs.Common.{All-mono, none}
use Rattle.lw_text.proofs.Lists.{IsSuffix-join}
use Rattle.lw_text.proofs.TriviaLemmas.{Trivia-unique, Trivia-suffix, Trivia-shorter}
use Rattle.lw_text.proofs.NameRuns.{IsLongestPrefix-unique, no_trivia-first_byte}

-- ---- quoted texts

-- No byte is c.
abbrev pub HasNoByte : ℕ → Bytes → Type 0
HasNoByte c bytes = AllByRecursion (λ b. not (b == c) ≡ true) bytes

-- Bytes that all differ from c satisfy `HasNoByte`.
pub HasNoByte-of_all : (c : ℕ) (bytes : Bytes) → AllByRecursion (λ b. (b == c) ≡ false) bytes → HasNoByte c bytes
HasNoByte-of_all c bytes all = All-mono (λ b. (b == c) ≡ false) _ (λ b e. ap not e) bytes all

-- Bytes that satisfy `HasNoByte` all differ from c.
HasNoByte-inv : (c : ℕ) (bytes : Bytes) → HasNoByte c bytes → AllByRecursion (λ b. (b == c) ≡ false) bytes
HasNoByte-inv c bytes all = All-mono _ (λ b. (b == c) ≡ false) (λ b e. not-true (b == c) e) bytes all

-- The parts of a text that starts with a quote: the bytes up to the next quote, and the rest.
module _ (text inside quoted rest : Bytes) (e : text ≡ byte "\"" ∷ inside) (f : inside ≡ quoted ++ rest)
    (all : HasNoByte (byte "\"") quoted) (longest : first_byte_is (λ b. not (b == byte "\"")) rest ≡ false) where
  -- The rest starts with the quote that ends the quoted text.
  pub Quoted-rest : (end : Bytes) → Quoted text end → rest ≡ byte "\"" ∷ end
  Quoted-rest end q =
      let p = q.parts in
      let g : inside ≡ q.inside ++ byte "\"" ∷ end = cc in
      sym (IsLongestPrefix-unique (λ b. not (b == byte "\"")) q.inside quoted
      (record { parts = g; bytes_pass = HasNoByte-of_all (byte "\"") q.inside q.plain; longest = refl })
      (record { parts = f; bytes_pass = all; longest = longest })).1

  -- If no quote follows, there is no quoted text.
  pub no_quoted_text-if_no_quote : rest ≡ [] → HoldsOfNothing (Quoted text)
  no_quoted_text-if_no_quote gone end q = let k = Quoted-rest end q in cc

  -- If a quote follows, there is a quoted text up to it.
  pub Quoted-up_to_quote : (b : ℕ) (after : Bytes) → rest ≡ b ∷ after → Quoted text after
  Quoted-up_to_quote b after g =
      let h : not (b == byte "\"") ≡ false = subst (λ x. first_byte_is (λ c. not (c == byte "\"")) x ≡ false) g longest in
      let i : b ≡ byte "\"" = eqb-true b (byte "\"") (not-false (b == byte "\"") h) in
      let j : rest ≡ byte "\"" ∷ after = cc in
      record {
        inside = quoted;
        parts = e ∙ ap (λ x. byte "\"" ∷ x) (f ∙ ap (λ x. quoted ++ x) j);
        plain = HasNoByte-inv (byte "\"") quoted all;
      }

-- A quoted text starts with a quote.
pub Quoted-front : (text end : Bytes) → Quoted text end → first_byte_is (λ b. b == byte "\"") text ≡ true
Quoted-front text end q = ap (first_byte_is (λ b. b == byte "\"")) q.parts

-- The end of a quoted text is unique.
pub Quoted-unique : (text a b : Bytes) → Quoted text a → Quoted text b → a ≡ b
Quoted-unique text a b p q =
    let k : byte "\"" ∷ b ≡ byte "\"" ∷ a =
    Quoted-rest text (q.inside ++ byte "\"" ∷ b) q.inside (byte "\"" ∷ b) q.parts refl
    (HasNoByte-of_all (byte "\"") q.inside q.plain) refl a p in
    cc

-- ---- lines `Key=value`

-- Every byte may be in a key.
abbrev pub AreKeyBytes : Bytes → Type 0
AreKeyBytes bytes = AllByRecursion (λ b. is_key_byte b ≡ true) bytes

-- Every byte is a space or a tab.
abbrev pub AreSpaces : Bytes → Type 0
AreSpaces bytes = AllByRecursion (λ b. is_space b ≡ true) bytes

-- A space or a tab is no byte of a key.
space_no_key : (b : ℕ) → is_space b ≡ true → is_key_byte b ≡ false
space_no_key b h =
    not-true (is_key_byte b)
    (list_all-member (λ x y. x == y) byte_eq-sound (λ x. not (is_key_byte x)) (byte " " ∷ byte "\t" ∷ []) b refl h)

-- Spaces followed by `=` do not begin with a byte of a key.
after_key : (spaces more : Bytes) → AreSpaces spaces → first_byte_is is_key_byte (spaces ++ byte "=" ∷ more) ≡ false
after_key [] more all = refl
after_key (b ∷ spaces) more all = space_no_key b all.0

-- The two groupings of the parts of a line `Key=value` are equal.
line_parts : (key spaces value rest : Bytes)
    → key ++ spaces ++ byte "=" ∷ value ++ rest ≡ key ++ (spaces ++ byte "=" ∷ (value ++ rest))
line_parts key spaces value rest =
    append_assoc (key ++ spaces) (byte "=" ∷ value) rest ∙ append_assoc key spaces (byte "=" ∷ (value ++ rest))

-- The parts of a text after its longest key: spaces, and the rest.
module _ (text key rest spaces left : Bytes) (e : text ≡ key ++ rest) (all : AreKeyBytes key)
    (longest : first_byte_is is_key_byte rest ≡ false) (f : rest ≡ spaces ++ left) (spaced : AreSpaces spaces)
    (stop : first_byte_is is_space left ≡ false) where
  -- If a line `Key=value` begins here, its key is this key, and `=` and its value follow the spaces.
  pub KeyLine-parts : (end : Bytes) → (p : KeyLine text end) → (p.key ≡ key) × (left ≡ byte "=" ∷ p.value ++ end)
  KeyLine-parts end p =
      let outer =
      IsLongestPrefix-unique is_key_byte p.key key (record {
        parts = p.parts ∙ line_parts p.key p.spaces p.value end;
        bytes_pass = p.are_key_bytes;
        longest = after_key p.spaces (p.value ++ end) p.spaced;
      }) (record { parts = e; bytes_pass = all; longest = longest }) in
      let inner =
      IsLongestPrefix-unique is_space p.spaces spaces (record { parts = sym outer.1; bytes_pass = p.spaced; longest = refl })
      (record { parts = f; bytes_pass = spaced; longest = stop }) in
      (outer.0, sym inner.1)

  -- If no `=` follows the spaces, there is no line `Key=value`.
  pub no_key_line-if_no_equals : first_byte_is (λ b. b == byte "=") left ≡ false → HoldsOfNothing (KeyLine text)
  no_key_line-if_no_equals other end p =
      let k = KeyLine-parts end p in
      let h = ap (first_byte_is (λ b. b == byte "=")) k.1 in
      cc

  -- If `=` follows the key, there is a line `Key=value`, up to the end of the line.
  pub KeyLine-of_parts : (more value end : Bytes)
      → 0 < length key
      → left ≡ byte "=" ∷ more
      → more ≡ value ++ end
      → HasNoByte (byte "\n") value
      → first_byte_is (λ b. not (b == byte "\n")) end ≡ false
      → KeyLine text end
  KeyLine-of_parts more value end some g h one last = record {
    key = key;
    spaces = spaces;
    value = value;
    parts =
        e ∙ ap (λ x. key ++ x) (f ∙ ap (λ x. spaces ++ x) (g ∙ ap (λ x. byte "=" ∷ x) h)) ∙ sym (line_parts key spaces value end);
    not_empty = some;
    are_key_bytes = all;
    spaced = spaced;
    one_line = HasNoByte-inv (byte "\n") value one;
    longest = last;
  }

-- The end of a line `Key=value` is unique.
pub KeyLine-unique : (text a b : Bytes) → KeyLine text a → KeyLine text b → a ≡ b
KeyLine-unique text a b p q =
    let k =
    KeyLine-parts text q.key (q.spaces ++ byte "=" ∷ (q.value ++ b)) q.spaces (byte "=" ∷ (q.value ++ b))
    (q.parts ∙ line_parts q.key _ q.value b) q.are_key_bytes (after_key q.spaces _ q.spaced) refl q.spaced refl a p in
    let ends : p.value ++ a ≡ q.value ++ b = cc in
    (IsLongestPrefix-unique (λ b. not (b == byte "\n")) p.value q.value {text = p.value ++ a}
    (record { parts = refl; bytes_pass = HasNoByte-of_all (byte "\n") _ p.one_line; longest = p.longest })
    (record { parts = ends; bytes_pass = HasNoByte-of_all (byte "\n") q.value q.one_line; longest = q.longest })).1

-- A text that starts with a key starts with a byte of a key.
pub key_front : (key more : Bytes) → 0 < length key → AreKeyBytes key → first_byte_is is_key_byte (key ++ more) ≡ true
key_front [] more some all = absurd (omega (arith, some))
key_front (b ∷ key) more some all = all.0

-- A line `Key=value` starts with a byte of a key.
pub KeyLine-front : (text end : Bytes) → KeyLine text end → first_byte_is is_key_byte text ≡ true
KeyLine-front text end p =
    let e = p.parts ∙ line_parts p.key p.spaces p.value end in
    ap (first_byte_is is_key_byte) e ∙ key_front p.key (p.spaces ++ byte "=" ∷ (p.value ++ end)) p.not_empty p.are_key_bytes

-- If the text does not start with a byte of a key, there is no line `Key=value`.
pub no_key_line-if_key_is_empty : (text key rest : Bytes)
    → text ≡ key ++ rest
    → first_byte_is is_key_byte rest ≡ false
    → length key ≡ 0
    → HoldsOfNothing (KeyLine text)
no_key_line-if_key_is_empty text [] rest e longest gone end p =
    let h = KeyLine-front text end p in
    let k = ap (first_byte_is is_key_byte) e in
    cc
no_key_line-if_key_is_empty text (b ∷ key) rest e longest gone end p = omega (arith, gone)

-- ---- one note

-- No text starts with a byte that passes p and one that passes q, if no byte passes both.
not-both_tests-first_byte : (p q : ℕ → Bool) (text : Bytes)
    → first_byte_is p text ≡ true
    → first_byte_is q text ≡ true
    → ((b : ℕ) → p b ≡ true → q b ≡ false)
    → ⊥
not-both_tests-first_byte p q [] h k never = cc
not-both_tests-first_byte p q (b ∷ text) h k never = let n = never b h in cc

-- If c is no byte of a key, no byte that equals c is.
byte_no_key : (c b : ℕ) → is_key_byte c ≡ false → (b == c) ≡ true → is_key_byte b ≡ false
byte_no_key c b other h = ap is_key_byte (eqb-true b c h) ∙ other

-- No text starts both with a quoted text and with a line `Key=value`.
pub not-KeyLine-if_quoted : (text a b : Bytes) → Quoted text a → KeyLine text b → ⊥
not-KeyLine-if_quoted text a b q p =
    not-both_tests-first_byte (λ x. x == byte "\"") is_key_byte text (Quoted-front text a q) (KeyLine-front text b p)
    (λ x h. byte_no_key (byte "\"") x refl h)

-- The end of a note is unique.
pub Note-unique : (text a b : Bytes) → Note text a → Note text b → a ≡ b
Note-unique text a b (inl p) (inl q) = Quoted-unique text a b p q
Note-unique text a b (inl p) (inr q) = absurd (not-KeyLine-if_quoted text a b p q)
Note-unique text a b (inr p) (inl q) = absurd (not-KeyLine-if_quoted text b a q p)
Note-unique text a b (inr p) (inr q) = KeyLine-unique text a b p q

-- No trivia starts at a byte that passes a test which no blank and no `(` passes.
trivia_free : (p : ℕ → Bool) (text : Bytes)
    → list_all (λ x. not (p x)) (byte " " ∷ byte "\t" ∷ byte "\n" ∷ byte "\r" ∷ []) ≡ true
    → p (byte "(") ≡ false
    → first_byte_is p text ≡ true
    → begins_trivia text ≡ false
trivia_free p [] blanks bracket h = refl
trivia_free p (b ∷ text) blanks bracket h = no_trivia-first_byte p b text blanks bracket h

-- No trivia starts where a note does.
pub note_no_trivia : (text end : Bytes) → Note text end → begins_trivia text ≡ false
note_no_trivia text end (inl q) = trivia_free (λ b. b == byte "\"") text refl refl (Quoted-front text end q)
note_no_trivia text end (inr p) = trivia_free is_key_byte text refl refl (KeyLine-front text end p)

-- No trivia starts with `{`.
pub block_no_trivia : (text : Bytes) → first_byte_is (λ b. b == byte "{") text ≡ true → begins_trivia text ≡ false
block_no_trivia text h = trivia_free (λ b. b == byte "{") text refl refl h

-- No note starts with `{`.
pub no_note-at_block : (text end : Bytes) → first_byte_is (λ b. b == byte "{") text ≡ true → Note text end → ⊥
no_note-at_block text end h (inl q) =
    not-both_tests-first_byte (λ b. b == byte "\"") (λ b. b == byte "{") text (Quoted-front text end q) h
    (λ b k. ap (λ x. x == byte "{") (eqb-true b (byte "\"") k))
no_note-at_block text end h (inr p) =
    not-both_tests-first_byte _ _ text h (KeyLine-front _ end p) (λ b k. byte_no_key (byte "{") b refl k)

-- A text that starts with no quote and with no line `Key=value` starts with no note.
pub no_note-if_neither_kind : (text : Bytes)
    → first_byte_is (λ b. b == byte "\"") text ≡ false
    → HoldsOfNothing (KeyLine text)
    → HoldsOfNothing (Note text)
no_note-if_neither_kind text other never end (inl q) = let h = Quoted-front text end q in cc
no_note-if_neither_kind text other never end (inr p) = never end p

-- A text that starts with a quote but with no quoted text starts with no note.
pub no_note-if_quote_is_unclosed : (text : Bytes)
    → first_byte_is (λ b. b == byte "\"") text ≡ true
    → HoldsOfNothing (Quoted text)
    → HoldsOfNothing (Note text)
no_note-if_quote_is_unclosed text here never end (inl q) = never end q
no_note-if_quote_is_unclosed text here never end (inr p) =
    not-both_tests-first_byte (λ b. b == byte "\"") is_key_byte text here (KeyLine-front text end p)
    (λ b h. byte_no_key (byte "\"") b refl h)

-- A note takes at least one byte, and what follows it is a suffix of the text.
pub Note-suffix : (text end : Bytes) → Note text end → (front : Bytes) × (text ≡ front ++ end) × (0 < length front)
Note-suffix text end (inl q) = (
  byte "\"" ∷ q.inside ++ byte "\"" ∷ [],
  q.parts ∙ ap (λ x. byte "\"" ∷ x) (sym (append_assoc q.inside (byte "\"" ∷ []) end)),
  omega arith,
)
Note-suffix text end (inr p) = (
  p.key ++ p.spaces ++ byte "=" ∷ p.value,
  p.parts,
  omega (arith, p.not_empty, length-append (p.key ++ p.spaces) (byte "=" ∷ p.value)),
)

-- ---- sequences of notes

-- If notes start with trivia and a note, the others follow these.
pub Notes-note_inv : {text mid after rest : Bytes} → Notes text rest → Trivia text mid → Note mid after → Notes after rest
Notes-note_inv {mid = mid} {after} (none {rest = rest} t h) g n =
    absurd (let e : mid ≡ rest = Trivia-unique g t (note_no_trivia mid after n) (block_no_trivia rest h) in
    no_note-at_block mid after (subst (λ x. first_byte_is (λ b. b == byte "{") x ≡ true) (sym e) h) n)
Notes-note_inv {mid = mid} {after} {rest} (note {mid = m} {after = a} t f more) g n =
    let e : m ≡ mid = Trivia-unique t g (note_no_trivia m a f) (note_no_trivia mid after n) in
    subst (λ x. Notes x rest) (Note-unique mid a after (subst (λ x. Note x a) e f) n) more

-- If `{` follows the trivia, the notes have ended.
Notes-block_inv : {text start rest : Bytes}
    → Notes text rest
    → Trivia text start
    → first_byte_is (λ b. b == byte "{") start ≡ true
    → start ≡ rest
Notes-block_inv {start = start} (none {rest = rest} t k) g h =
    Trivia-unique g t (block_no_trivia start h) (block_no_trivia rest k)
Notes-block_inv {start = start} (note {mid = m} {after = a} t f more) g h =
    absurd (let e : start ≡ m = Trivia-unique g t (block_no_trivia start h) (note_no_trivia m a f) in
    no_note-at_block m a (subst (λ x. first_byte_is (λ b. b == byte "{") x ≡ true) e h) f)

-- The end of a sequence of notes is unique.
pub Notes-unique : {text a b : Bytes} → Notes text a → Notes text b → a ≡ b
Notes-unique (none g h) q = Notes-block_inv q g h
Notes-unique (note g n m) q = Notes-unique m (Notes-note_inv q g n)

-- What follows a sequence of notes is a suffix of the text.
pub Notes-suffix : {text rest : Bytes} → Notes text rest → IsSuffix text rest
Notes-suffix (none g h) = Trivia-suffix g
Notes-suffix (note {mid = mid} {after = after} g n m) =
    let t = Note-suffix mid after n in IsSuffix-join (Trivia-suffix g) (IsSuffix-join (t.0, t.1) (Notes-suffix m))

-- ---- what the reader of notes must prove

-- The invariant of the loop over notes: the notes at the start of the bytes end where those at the start of the rest do.
pub record NotesContinueAt (bytes rest : Bytes) : Type 0 where
  pub whole_if_rest : (end : Bytes) → Notes rest end → Notes bytes end
  pub rest_if_whole : (end : Bytes) → Notes bytes end → Notes rest end
  pub bound : length rest ≤ length bytes

-- After trivia and a note, the invariant holds again.
pub NotesContinueAt-after_note : {bytes rest start after : Bytes}
    → NotesContinueAt bytes rest
    → Trivia rest start
    → Note start after
    → NotesContinueAt bytes after
NotesContinueAt-after_note {bytes} {rest} {start} {after} p g n =
    let t = Note-suffix start after n in
    record {
      whole_if_rest = λ end m. p.whole_if_rest end (note g n m);
      rest_if_whole = λ end m. Notes-note_inv (p.rest_if_whole end m) g n;
      bound = omega (arith, p.bound, Trivia-shorter g, ap length t.1, length-append t.0 after);
    }

-- Trivia and a note take at least one byte.
pub Note-shorter : {rest start after : Bytes} → Trivia rest start → Note start after → length after < length rest
Note-shorter {rest} {start} {after} g n =
    let t = Note-suffix start after n in omega (arith, Trivia-shorter g, ap length t.1, length-append t.0 after, t.2)

-- If `{` follows the notes read and trivia, the notes end there.
pub Notes-at_brace : {bytes rest start : Bytes}
    → NotesContinueAt bytes rest
    → Trivia rest start
    → first_byte_is (λ b. b == byte "{") start ≡ true
    → Notes bytes start
Notes-at_brace {start = start} p g h = p.whole_if_rest start (none g h)

-- Notes start with trivia that no more trivia follows.
pub Notes-trivia_first : {text rest : Bytes}
    → Notes text rest
    → (start : Bytes) × Trivia text start × (begins_trivia start ≡ false)
Notes-trivia_first (none {rest = rest} t h) = (rest, t, block_no_trivia rest h)
Notes-trivia_first (note {mid = mid} {after = after} t n m) = (mid, t, note_no_trivia mid after n)

-- If a comment among the notes is not closed, there is no sequence of notes.
pub no_notes-if_comment_is_open : {bytes rest : Bytes}
    → NotesContinueAt bytes rest
    → ((start : Bytes) → begins_trivia start ≡ false → Trivia rest start → ⊥)
    → HoldsOfNothing (Notes bytes)
no_notes-if_comment_is_open p never end m = let k = Notes-trivia_first (p.rest_if_whole end m) in never k.0 k.2 k.1

-- If neither `{` nor a note follows the trivia, there is no sequence of notes.
pub no_notes-if_no_note : {bytes rest start : Bytes}
    → NotesContinueAt bytes rest
    → Trivia rest start
    → begins_trivia start ≡ false
    → first_byte_is (λ b. b == byte "{") start ≡ false
    → HoldsOfNothing (Note start)
    → HoldsOfNothing (Notes bytes)
no_notes-if_no_note {bytes} {rest} {start} p g stop other never end m = no_notes-by_first_start (p.rest_if_whole end m)
  where
    -- The rest begins no notes.
    no_notes-by_first_start : {text : Bytes} → Notes rest text → ⊥
    no_notes-by_first_start (none {rest = last} t h) =
        let e : start ≡ last = Trivia-unique g t stop (block_no_trivia last h) in cc
    no_notes-by_first_start (note {mid = m} {after = a} t f more) =
        never a (subst (λ x. Note x a) (Trivia-unique t g (note_no_trivia m a f) stop) f)
