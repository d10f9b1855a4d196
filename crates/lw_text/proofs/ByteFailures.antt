-- A text fails at one place only, and for one cause, before the tokens of its body: in a token, and in its
-- preamble. The first half of the law that a text fails at one place (OneFault).
use Rattle.lw_text.proofs.Common.{byte, ◌≡◌, ℕ, ◌<◌, inl, inr, Bool, true, false, not, [], ◌∷◌, ◌++◌, length}
use Rattle.lw_text.proofs.Common.{refl, sym, ap, ◌∙◌, subst, arith, ◌==◌, AllByRecursion, All-mono, Arch}
use Rattle.lw_text.proofs.Common.{Bytes, first_byte_is, is_ascii_digit, is_blank, is_key_byte, is_name_byte}
use Rattle.lw_text.proofs.Common.{is_space, IsFirstToken, IsName, IsNameOrNumber, IsNumber, IsSymbol}
use Rattle.lw_text.proofs.Common.{IsTestName, IsToken, Trivia, begins_trivia, ParsesTestName, KeyLine, Note}
use Rattle.lw_text.proofs.Common.{Notes, note, Quoted, Preamble, arch_keyword, not-true, not-false}
use Rattle.lw_text.proofs.Common.{false≢true, append-nil, length-append, nat_tests, IsLongestRun}
use Rattle.lw_text.proofs.Common.{FailsInToken, no_number_run, no_name_run, no_symbol, HasOpenComment}
use Rattle.lw_text.proofs.Common.{FailsInFirstToken, open_comment, in_token, FailsInTestName, no_name}
use Rattle.lw_text.proofs.Common.{no_blank, bad_name, FailsInKeyLine, no_equals_sign, none, FailsInNote}
use Rattle.lw_text.proofs.Common.{open_quote, in_key_line, FailsInNotes, open_comment_in_notes, in_note}
use Rattle.lw_text.proofs.Common.{after_note, IsNoteCause, FailsInPreamble, in_keyword, no_keyword}
use Rattle.lw_text.proofs.Common.{other_keyword, in_test_name, in_notes, TextCause}
use Rattle.lw_text.proofs.NoteRows.{HasNoByte-of_all, Quoted-front, no_quoted_text-if_no_quote, KeyLine-front}
use Rattle.lw_text.proofs.NoteRows.{no_key_line-if_no_equals, no_note-if_neither_kind}
use Rattle.lw_text.proofs.NoteRows.{no_note-if_quote_is_unclosed, Note-unique, note_no_trivia}
use Rattle.lw_text.proofs.NoteRows.{block_no_trivia, Notes-note_inv, Notes-trivia_first, key_front}
use Rattle.lw_text.proofs.api.Numbers.{number_first}
use Rattle.lw_text.proofs.NameRuns.{IsLongestPrefix-unique, run_front, symbol_front, token_no_trivia}
use Rattle.lw_text.proofs.NameRuns.{token_nonempty}
use Rattle.lw_text.proofs.Preambles.{graphic_no_blank, ParsesTestName-parts, ParsesTestName-unique}
use Rattle.lw_text.proofs.Preambles.{arch_keyword-unique}
use Rattle.lw_text.proofs.TokenRows.{IsFirstToken-unique, no_first_token-if_only_trivia}
use Rattle.lw_text.proofs.TriviaLemmas.{Trivia-unique}
use Rattle.lw_text.specs.TextFailures.{no_key as no_key_byte}

-- Two failures are at the same place, and for the same cause.
abbrev pub IsSameFault : Bytes → TextCause → Bytes → TextCause → Type 0
IsSameFault rest cause other because = (rest ≡ other) × (cause ≡ because)

-- ---- Tokens.

-- The first byte of a text is not both a digit and no name byte.
not-digit_without_name_byte : (bytes : Bytes)
    → first_byte_is is_ascii_digit bytes ≡ true
    → first_byte_is is_name_byte bytes ≡ false
    → ⊥
not-digit_without_name_byte [] p q = cc
not-digit_without_name_byte (b ∷ bytes) p q = grind (arith, nat_tests)

-- A token fails for one cause.
FailsInToken-unique : (bytes : Bytes) (cause because : TextCause)
    → FailsInToken bytes cause
    → FailsInToken bytes because
    → cause ≡ because
FailsInToken-unique bytes c d (no_number_run w r run digit never p) (no_number_run v s too also lacks q) = p ∙ sym q
FailsInToken-unique bytes c d (no_number_run w r run digit never p) (no_name_run v s too name other lacks q) =
    absurd (false≢true (sym other ∙ digit))
FailsInToken-unique bytes c d (no_number_run w r run digit never p) (no_symbol some other lacks q) =
    absurd (not-digit_without_name_byte bytes digit other)
FailsInToken-unique bytes c d (no_name_run w r run name other never p) (no_number_run v s too digit lacks q) =
    absurd (false≢true (sym other ∙ digit))
FailsInToken-unique bytes c d (no_name_run w r run name other never p) (no_name_run v s too also another lacks q) = p ∙ sym q
FailsInToken-unique bytes c d (no_name_run w r run name other never p) (no_symbol some off lacks q) =
    absurd (false≢true (sym off ∙ name))
FailsInToken-unique bytes c d (no_symbol some other lacks p) (no_number_run w r run digit never q) =
    absurd (not-digit_without_name_byte bytes digit other)
FailsInToken-unique bytes c d (no_symbol some other lacks p) (no_name_run w r run name off never q) =
    absurd (false≢true (sym other ∙ name))
FailsInToken-unique bytes c d (no_symbol some other lacks p) (no_symbol also off never q) = p ∙ sym q

-- A text that begins with a token does not fail in a token.
not-FailsInToken-if_parsed : (t rest : Bytes) (cause : TextCause) → FailsInToken (t ++ rest) cause → IsToken t rest → ⊥
not-FailsInToken-if_parsed t rest cause (no_number_run w r run digit never c) (inl name) =
    let same =
    IsLongestPrefix-unique is_name_byte t w {text = t ++ rest}
    (record { parts = refl; bytes_pass = name.are_name_bytes; longest = name.longest })
    (record { parts = run.parts; bytes_pass = run.bytes_pass; longest = run.longest }) in
    elim name.kind [
      | inl is ↦ false≢true (sym (no_digit_first-of_append t rest is.0.not_empty is.0.front) ∙ digit)
      | inr number ↦ never number.0 (subst (λ x. IsNumber x number.0) same.0 number.1)
    ]
  where
    -- If a text that is not empty does not begin with a digit, neither does it with more appended.
    no_digit_first-of_append : (t rest : Bytes)
        → 0 < length t
        → first_byte_is is_ascii_digit t ≡ false
        → first_byte_is is_ascii_digit (t ++ rest) ≡ false
    no_digit_first-of_append [] rest some e = absurd (omega (arith, some))
    no_digit_first-of_append (b ∷ t) rest some e = e
not-FailsInToken-if_parsed t rest cause (no_number_run w r run digit never c) (inr symbol) =
    not-digit_without_name_byte (t ++ rest) digit (symbol_front t rest symbol)
not-FailsInToken-if_parsed t rest cause (no_name_run w r run first other never c) (inl name) =
    let same =
    IsLongestPrefix-unique is_name_byte t w {text = t ++ rest}
    (record { parts = refl; bytes_pass = name.are_name_bytes; longest = name.longest })
    (record { parts = run.parts; bytes_pass = run.bytes_pass; longest = run.longest }) in
    elim name.kind [
      | inl is ↦ never (subst IsName same.0 is)
      | inr number ↦ false≢true (sym other ∙ number_start t rest number.0 number.1)
    ]
  where
    -- A number begins with a digit, whatever follows.
    number_start : (t rest : Bytes) (n : ℕ) → IsNumber t n → first_byte_is is_ascii_digit (t ++ rest) ≡ true
    number_start [] rest n is = let k = number_first [] n is in cc
    number_start (b ∷ t) rest n is = number_first (b ∷ t) n is
not-FailsInToken-if_parsed t rest cause (no_name_run w r run first other never c) (inr symbol) =
    false≢true (sym (symbol_front t rest symbol) ∙ first)
not-FailsInToken-if_parsed t rest cause (no_symbol some other never c) (inl name) = false≢true (sym other ∙ run_front t rest name)
not-FailsInToken-if_parsed t rest cause (no_symbol some other never c) (inr symbol) = never t rest refl symbol

-- The empty text does not fail in a token.
not-FailsInToken-if_at_end : (cause : TextCause) → FailsInToken [] cause → ⊥
not-FailsInToken-if_at_end cause (no_number_run w r run digit never c) = cc digit
not-FailsInToken-if_at_end cause (no_name_run w r run first other never c) = cc first
not-FailsInToken-if_at_end cause (no_symbol some other never c) = omega (arith, some)

-- The first token fails at one place only, and for one cause.
pub FailsInFirstToken-unique : (text r s : Bytes) (c d : TextCause)
    → FailsInFirstToken text r c
    → FailsInFirstToken text s d
    → IsSameFault r c s d
FailsInFirstToken-unique text r s c d (open_comment never end p) (open_comment lacks is q) = (end ∙ sym is, p ∙ sym q)
FailsInFirstToken-unique text r s c d (open_comment never end p) (in_token trivia stop fails) = absurd (never s stop trivia)
FailsInFirstToken-unique text r s c d (in_token trivia stop fails) (open_comment never end p) = absurd (never r stop trivia)
FailsInFirstToken-unique text r s c d (in_token trivia stop fails) (in_token also too q) =
    let same = Trivia-unique trivia also stop too in
    (same, FailsInToken-unique r c d fails (subst (λ x. FailsInToken x d) (sym same) q))

-- A text that has a first token does not fail in its first token.
pub not-FailsInFirstToken-if_parsed : (text r t after : Bytes) (c : TextCause)
    → FailsInFirstToken text r c
    → IsFirstToken text t after
    → ⊥
not-FailsInFirstToken-if_parsed text r t after c (open_comment never end p) is =
    never (t ++ after) (token_no_trivia t after is.1) is.0
not-FailsInFirstToken-if_parsed text r t after c (in_token trivia stop fails) is =
    not-FailsInToken-if_parsed t after c
    (subst (λ x. FailsInToken x c) (Trivia-unique trivia is.0 stop (token_no_trivia t after is.1)) fails) is.1

-- A text that is only trivia does not fail in its first token.
pub not-FailsInFirstToken-if_only_trivia : (text r : Bytes) (c : TextCause) → FailsInFirstToken text r c → Trivia text [] → ⊥
not-FailsInFirstToken-if_only_trivia text r c (open_comment never end p) is = never [] refl is
not-FailsInFirstToken-if_only_trivia text r c (in_token trivia stop fails) is =
    not-FailsInToken-if_at_end c (subst (λ x. FailsInToken x c) (Trivia-unique trivia is stop refl) fails)

-- ---- The test's name.

-- A text of blanks that is not empty begins with a blank.
first_byte-of_blanks : (text : Bytes)
    → AllByRecursion (λ b. is_blank b ≡ true) text
    → 0 < length text
    → first_byte_is is_blank text ≡ true
first_byte-of_blanks [] all some = absurd (omega (arith, some))
first_byte-of_blanks (b ∷ text) all some = all.0

-- If a name is not empty and has no blank, it does not begin with a blank, whatever follows it.
plain_front : (name after : Bytes)
    → AllByRecursion (λ b. is_blank b ≡ false) name
    → 0 < length name
    → first_byte_is is_blank (name ++ after) ≡ false
plain_front [] after all some = absurd (omega (arith, some))
plain_front (b ∷ name) after all some = all.0

-- If a name is not empty and has no blank, a text that contains it is not all blanks.
not-all_blank-before_name : (blanks name after : Bytes)
    → AllByRecursion (λ b. is_blank b ≡ true) (blanks ++ (name ++ after))
    → AllByRecursion (λ b. is_blank b ≡ false) name
    → 0 < length name
    → ⊥
not-all_blank-before_name [] name after all plain some =
    false≢true (sym (plain_front name after plain some)
    ∙ first_byte-of_blanks (name ++ after) all (omega (arith, some, length-append name after)))
not-all_blank-before_name (b ∷ blanks) name after all plain some = not-all_blank-before_name blanks name after all.1 plain some

-- If a text begins with one or more blanks, its first byte is a blank.
blank_first : (text blanks rest : Bytes)
    → text ≡ blanks ++ rest
    → 0 < length blanks
    → AllByRecursion (λ b. is_blank b ≡ true) blanks
    → first_byte_is is_blank text ≡ true
blank_first text [] rest e some all = absurd (omega (arith, some))
blank_first text (b ∷ blanks) rest e some all = ap (first_byte_is is_blank) e ∙ all.0

-- The test's name fails at one place only, and for one cause.
pub FailsInTestName-unique : (text r s : Bytes) (c d : TextCause)
    → FailsInTestName text r c
    → FailsInTestName text s d
    → IsSameFault r c s d
FailsInTestName-unique text r s c d (no_name all end p) (no_name too is q) = (end ∙ sym is, p ∙ sym q)
FailsInTestName-unique text r s c d (no_name all end p) (no_blank some other at q) =
    absurd (false≢true (sym other ∙ first_byte-of_blanks text all some))
FailsInTestName-unique text r s c d (no_name all end p) (bad_name blanks name after e f some are plain has longest not_name q) =
    absurd (not-all_blank-before_name blanks name after
    (subst (AllByRecursion (λ b. is_blank b ≡ true)) (e ∙ ap (λ x. blanks ++ x) f) all) plain has)
FailsInTestName-unique text r s c d (no_blank some other at p) (no_name all end q) =
    absurd (false≢true (sym other ∙ first_byte-of_blanks text all some))
FailsInTestName-unique text r s c d (no_blank some other at p) (no_blank also off is q) = (at ∙ sym is, p ∙ sym q)
FailsInTestName-unique text r s c d (no_blank some other at p) (bad_name blanks name after e f has are plain too longest not_name q) =
    absurd (false≢true (sym other ∙ blank_first text blanks s e has are))
FailsInTestName-unique text r s c d (bad_name blanks name after e f some are plain has longest not_name p) (no_name all end q) =
    absurd (not-all_blank-before_name blanks name after
    (subst (AllByRecursion (λ b. is_blank b ≡ true)) (e ∙ ap (λ x. blanks ++ x) f) all) plain has)
FailsInTestName-unique text r s c d (bad_name blanks name after e f has are plain too longest not_name p) (no_blank some other at q) =
    absurd (false≢true (sym other ∙ blank_first text blanks r e has are))
FailsInTestName-unique text r s c d (bad_name blanks name after e f some are plain has longest not_name p) (bad_name spaces word later g h many blank also too last off q) = (
  (IsLongestPrefix-unique is_blank blanks spaces {text = text}
      (record { parts = e; bytes_pass = are; longest = ap (first_byte_is is_blank) f ∙ plain_front name after plain has })
      (record { parts = g; bytes_pass = blank; longest = ap (first_byte_is is_blank) h ∙ plain_front word later also too })).1,
  p ∙ sym q,
)

-- A text that begins with blanks and a test's name does not fail in the test's name.
pub not-FailsInTestName-if_parsed : (text r name after : Bytes) (c : TextCause)
    → FailsInTestName text r c
    → ParsesTestName text name after
    → ⊥
not-FailsInTestName-if_parsed text r name after c (no_name all end p) is =
    not-all_blank-before_name is.blanks name after (subst (AllByRecursion (λ b. is_blank b ≡ true)) is.parts all)
    (All-mono _ _ (λ b e. graphic_no_blank b e) name is.is_name.are_graphic_bytes) is.is_name.not_empty
not-FailsInTestName-if_parsed text r name after c (no_blank some other at p) is =
    false≢true (sym other ∙ blank_first text is.blanks (name ++ after) is.parts is.blanks_not_empty is.blank)
not-FailsInTestName-if_parsed text r name after c (bad_name blanks word later e f some are plain has longest not_name p) is =
    not_name (subst IsTestName
    (ParsesTestName-parts text blanks r word later e are (ap (first_byte_is is_blank) f ∙ plain_front word later plain has) f
    (All-mono _ _ (λ b e. ap not e) word plain) longest name after is).1 is.is_name)

-- ---- The notes.

-- A test of a text's first byte is not both true and false.
not-both-first_byte : (p : ℕ → Bool) (text : Bytes) → first_byte_is p text ≡ true → first_byte_is p text ≡ false → ⊥
not-both-first_byte p text holds other = false≢true (sym other ∙ holds)

-- A line `Key=value` fails at one place only.
FailsInKeyLine-unique : (text r s : Bytes) → FailsInKeyLine text r → FailsInKeyLine text s → r ≡ s
FailsInKeyLine-unique text r s (no_key_byte other at) (no_key_byte off is) = at ∙ sym is
FailsInKeyLine-unique text r s (no_key_byte other at) (no_equals_sign key spaces e some all blank after stop sign) =
    absurd (not-both-first_byte is_key_byte text (ap (first_byte_is is_key_byte) e ∙ key_front key (spaces ++ s) some all) other)
FailsInKeyLine-unique text r s (no_equals_sign key spaces e some all blank after stop sign) (no_key_byte other at) =
    absurd (not-both-first_byte is_key_byte text (ap (first_byte_is is_key_byte) e ∙ key_front key (spaces ++ r) some all) other)
FailsInKeyLine-unique text r s (no_equals_sign key spaces e some all blank after stop sign) (no_equals_sign word room f many every space later end mark) =
    let outer =
    IsLongestPrefix-unique is_key_byte key word {text = text} (record { parts = e; bytes_pass = all; longest = after })
    (record { parts = f; bytes_pass = every; longest = later }) in
    (IsLongestPrefix-unique is_space spaces room {text = spaces ++ r}
    (record { parts = refl; bytes_pass = blank; longest = stop })
    (record { parts = outer.1; bytes_pass = space; longest = end })).1

-- A text that begins with a line `Key=value` does not satisfy `FailsInKeyLine`.
not-FailsInKeyLine-if_parsed : (text r end : Bytes) → FailsInKeyLine text r → KeyLine text end → ⊥
not-FailsInKeyLine-if_parsed text r end (no_key_byte other at) is =
    not-both-first_byte is_key_byte text (KeyLine-front text end is) other
not-FailsInKeyLine-if_parsed text r end (no_equals_sign key spaces e some all blank after stop sign) is =
    no_key_line-if_no_equals text key (spaces ++ r) spaces r e all after refl blank stop sign end is

-- A note fails at one place only.
FailsInNote-unique : (text r s : Bytes) → FailsInNote text r → FailsInNote text s → r ≡ s
FailsInNote-unique text r s (open_quote inside e plain end) (open_quote within f also is) = end ∙ sym is
FailsInNote-unique text r s (open_quote inside e plain end) (in_key_line other q) =
    absurd (not-both-first_byte (λ b. b == byte "\"") text (ap (first_byte_is (λ b. b == byte "\"")) e) other)
FailsInNote-unique text r s (in_key_line other q) (open_quote inside e plain end) =
    absurd (not-both-first_byte (λ b. b == byte "\"") text (ap (first_byte_is (λ b. b == byte "\"")) e) other)
FailsInNote-unique text r s (in_key_line other p) (in_key_line too q) = FailsInKeyLine-unique text r s p q

-- A text that begins with a note does not satisfy `FailsInNote`.
not-FailsInNote-if_parsed : (text r end : Bytes) → FailsInNote text r → Note text end → ⊥
not-FailsInNote-if_parsed text r end (open_quote inside e plain ends) is =
    no_note-if_quote_is_unclosed text (ap (first_byte_is (λ b. b == byte "\"")) e)
    (no_quoted_text-if_no_quote text inside inside [] e (sym (append-nil inside)) (HasNoByte-of_all (byte "\"") inside plain) refl
    refl) end is
not-FailsInNote-if_parsed text r end (in_key_line other q) (inl is) =
    not-both-first_byte (λ b. b == byte "\"") text (Quoted-front text end is) other
not-FailsInNote-if_parsed text r end (in_key_line other q) (inr is) = not-FailsInKeyLine-if_parsed text r end q is

-- Notes fail at one place only.
FailsInNotes-unique : (r s : Bytes) (text : Bytes) → FailsInNotes r text → FailsInNotes s text → r ≡ s
FailsInNotes-unique r s text (open_comment_in_notes never end) (open_comment_in_notes lacks is) = end ∙ sym is
FailsInNotes-unique r s text (open_comment_in_notes never end) (in_note {mid = mid} trivia stop other q) =
    absurd (never mid stop trivia)
FailsInNotes-unique r s text (open_comment_in_notes never end) (after_note {mid = mid} {after = after} trivia is q) =
    absurd (never mid (note_no_trivia mid after is) trivia)
FailsInNotes-unique r s text (in_note {mid = mid} trivia stop other q) (open_comment_in_notes never end) =
    absurd (never mid stop trivia)
FailsInNotes-unique r s text (in_note {mid = mid} trivia stop other p) (in_note {mid = end} also too off q) =
    FailsInNote-unique mid r s p (subst (λ x. FailsInNote x s) (sym (Trivia-unique trivia also stop too)) q)
FailsInNotes-unique r s text (in_note {mid = mid} trivia stop other p) (after_note {mid = end} {after = after} also is q) =
    absurd (not-FailsInNote-if_parsed mid r after p
    (subst (λ x. Note x after) (sym (Trivia-unique trivia also stop (note_no_trivia end after is))) is))
FailsInNotes-unique r s text (after_note {mid = mid} {after = after} trivia is q) (open_comment_in_notes never end) =
    absurd (never mid (note_no_trivia mid after is) trivia)
FailsInNotes-unique r s text (after_note {mid = end} {after = after} also is q) (in_note {mid = mid} trivia stop other p) =
    absurd (not-FailsInNote-if_parsed mid s after p
    (subst (λ x. Note x after) (sym (Trivia-unique trivia also stop (note_no_trivia end after is))) is))
FailsInNotes-unique r s text (after_note {mid = mid} {after = after} trivia is p) (after_note {mid = end} {after = later} also too q) =
    let same = Trivia-unique trivia also (note_no_trivia mid after is) (note_no_trivia end later too) in
    let ends = Note-unique mid after later is (subst (λ x. Note x later) (sym same) too) in
    FailsInNotes-unique r s after p (subst (FailsInNotes s) (sym ends) q)

-- A text that begins with notes and a `{` does not fail in its notes.
not-FailsInNotes-if_parsed : (r : Bytes) (text end : Bytes) → FailsInNotes r text → Notes text end → ⊥
not-FailsInNotes-if_parsed r text end (open_comment_in_notes never ends) is =
    let start = Notes-trivia_first is in never start.0 start.2 start.1
not-FailsInNotes-if_parsed r text end (in_note {mid = mid} trivia stop other p) (none {rest = last} also block) =
    not-both-first_byte (λ b. b == byte "{") mid
    (subst (λ x. first_byte_is (λ b. b == byte "{") x ≡ true) (Trivia-unique also trivia (block_no_trivia last block) stop) block)
    other
not-FailsInNotes-if_parsed r text end (in_note {mid = mid} trivia stop other p) (note {mid = start} {after = after} also is more) =
    not-FailsInNote-if_parsed mid r after p
    (subst (λ x. Note x after) (Trivia-unique also trivia (note_no_trivia start after is) stop) is)
not-FailsInNotes-if_parsed r text end (after_note {mid = mid} {after = after} trivia is p) more =
    not-FailsInNotes-if_parsed r after end p (Notes-note_inv more trivia is)

-- The cause of a failure in the notes is unique: the rest of the text determines it.
IsNoteCause-unique : (rest : Bytes) (c d : TextCause) → IsNoteCause rest c → IsNoteCause rest d → c ≡ d
IsNoteCause-unique [] c d p q = p ∙ sym q
IsNoteCause-unique (b ∷ rest) c d p q = p ∙ sym q

-- ---- The preamble.

-- If the first token of a text is t, and is the keyword of a language, then t is this keyword.
first_token-is_keyword : (text t after mid : Bytes) (arch : Arch)
    → IsFirstToken text t after
    → IsFirstToken text (arch_keyword arch) mid
    → arch_keyword arch ≡ t
first_token-is_keyword text t after mid arch is also = (IsFirstToken-unique text (arch_keyword arch) mid t after also is).0

-- The preamble fails at one place only, and for one cause.
pub FailsInPreamble-unique : (text r s : Bytes) (c d : TextCause)
    → FailsInPreamble text r c
    → FailsInPreamble text s d
    → IsSameFault r c s d
FailsInPreamble-unique text r s c d (in_keyword p) (in_keyword q) = FailsInFirstToken-unique text r s c d p q
FailsInPreamble-unique text r s c d (in_keyword p) (no_keyword end is q) =
    absurd (not-FailsInFirstToken-if_only_trivia text r c p end)
FailsInPreamble-unique text r s c d (in_keyword p) (other_keyword t after is at other q) =
    absurd (not-FailsInFirstToken-if_parsed text r t after c p is)
FailsInPreamble-unique text r s c d (in_keyword p) (in_test_name arch after is q) =
    absurd (not-FailsInFirstToken-if_parsed text r _ after c p is)
FailsInPreamble-unique text r s c d (in_keyword p) (in_notes arch mid name after is names q cause) =
    absurd (not-FailsInFirstToken-if_parsed text r _ mid c p is)
FailsInPreamble-unique text r s c d (no_keyword end is p) (in_keyword q) =
    absurd (not-FailsInFirstToken-if_only_trivia text s d q end)
FailsInPreamble-unique text r s c d (no_keyword end is p) (no_keyword also at q) = (is ∙ sym at, p ∙ sym q)
FailsInPreamble-unique text r s c d (no_keyword end is p) (other_keyword t after first at other q) =
    absurd (no_first_token-if_only_trivia text t after end first)
FailsInPreamble-unique text r s c d (no_keyword end is p) (in_test_name arch after first q) =
    absurd (no_first_token-if_only_trivia text _ after end first)
FailsInPreamble-unique text r s c d (no_keyword end is p) (in_notes arch mid name after first names q cause) =
    absurd (no_first_token-if_only_trivia text _ mid end first)
FailsInPreamble-unique text r s c d (other_keyword t after is at other q) (in_keyword p) =
    absurd (not-FailsInFirstToken-if_parsed text s t after d p is)
FailsInPreamble-unique text r s c d (other_keyword t after first at other q) (no_keyword end is p) =
    absurd (no_first_token-if_only_trivia text t after end first)
FailsInPreamble-unique text r s c d (other_keyword t after is at other p) (other_keyword u later also place another q) =
    let same = IsFirstToken-unique text t after u later is also in
    (at ∙ ap (λ x. x ++ after) same.0 ∙ ap (λ x. u ++ x) same.1 ∙ sym place, p ∙ sym q)
FailsInPreamble-unique text r s c d (other_keyword t after is at other p) (in_test_name arch mid also q) =
    absurd (other arch (first_token-is_keyword text t after mid arch is also))
FailsInPreamble-unique text r s c d (other_keyword t after is at other p) (in_notes arch mid name later also names q cause) =
    absurd (other arch (first_token-is_keyword text t after mid arch is also))
FailsInPreamble-unique text r s c d (in_test_name arch after is q) (in_keyword p) =
    absurd (not-FailsInFirstToken-if_parsed text s _ after d p is)
FailsInPreamble-unique text r s c d (in_test_name arch after first q) (no_keyword end is p) =
    absurd (no_first_token-if_only_trivia text _ after end first)
FailsInPreamble-unique text r s c d (in_test_name arch mid also q) (other_keyword t after is at other p) =
    absurd (other arch (first_token-is_keyword text t after mid arch is also))
FailsInPreamble-unique text r s c d (in_test_name arch after is p) (in_test_name language mid also q) =
    FailsInTestName-unique after r s c d p
    (subst (λ x. FailsInTestName x s d)
    (sym (IsFirstToken-unique text (arch_keyword arch) after (arch_keyword language) mid is also).1) q)
FailsInPreamble-unique text r s c d (in_test_name arch after is p) (in_notes language mid name later also names q cause) =
    absurd (not-FailsInTestName-if_parsed after r name later c p
    (subst (λ x. ParsesTestName x name later)
    (sym (IsFirstToken-unique text (arch_keyword arch) after (arch_keyword language) mid is also).1) names))
FailsInPreamble-unique text r s c d (in_notes arch mid name after is names q cause) (in_keyword p) =
    absurd (not-FailsInFirstToken-if_parsed text s _ mid d p is)
FailsInPreamble-unique text r s c d (in_notes arch mid name after first names q cause) (no_keyword end is p) =
    absurd (no_first_token-if_only_trivia text _ mid end first)
FailsInPreamble-unique text r s c d (in_notes arch mid name later also names q cause) (other_keyword t after is at other p) =
    absurd (other arch (first_token-is_keyword text t after mid arch is also))
FailsInPreamble-unique text r s c d (in_notes language mid name later also names q cause) (in_test_name arch after is p) =
    absurd (not-FailsInTestName-if_parsed after s name later d p
    (subst (λ x. ParsesTestName x name later)
    (sym (IsFirstToken-unique text (arch_keyword arch) after (arch_keyword language) mid is also).1) names))
FailsInPreamble-unique text r s c d (in_notes arch mid name after is names p cause) (in_notes language end word later also called q because) =
    let u = (IsFirstToken-unique text (arch_keyword arch) mid (arch_keyword language) end is also).1 in
    let v = (ParsesTestName-unique mid name after word later names (subst (λ x. ParsesTestName x word later) (sym u) called)).1 in
    let same = FailsInNotes-unique r s after p (subst (FailsInNotes s) (sym v) q) in
    (same, IsNoteCause-unique r c d cause (subst (λ x. IsNoteCause x d) (sym same) because))

-- A text with a preamble does not fail in it.
pub not-FailsInPreamble-if_parsed : (text r rest name : Bytes) (arch : Arch) (c : TextCause)
    → FailsInPreamble text r c
    → Preamble text arch name rest
    → ⊥
not-FailsInPreamble-if_parsed text r rest name arch c (in_keyword p) is = not-FailsInFirstToken-if_parsed text r _ is.0 c p is.2
not-FailsInPreamble-if_parsed text r rest name arch c (no_keyword end at p) is =
    no_first_token-if_only_trivia text _ is.0 end is.2
not-FailsInPreamble-if_parsed text r rest name arch c (other_keyword t after first at other p) is =
    other arch (first_token-is_keyword text t after is.0 arch first is.2)
not-FailsInPreamble-if_parsed text r rest name arch c (in_test_name language after first p) is =
    not-FailsInTestName-if_parsed after r name is.1 c p
    (subst (λ x. ParsesTestName x name is.1)
    (sym (IsFirstToken-unique text (arch_keyword language) after (arch_keyword arch) is.0 first is.2).1) is.3)
not-FailsInPreamble-if_parsed text r rest name arch c (in_notes language mid word after first names p cause) is =
    let u = (IsFirstToken-unique text (arch_keyword language) mid (arch_keyword arch) is.0 first is.2).1 in
    let v = (ParsesTestName-unique mid word after name is.1 names (subst (λ x. ParsesTestName x name is.1) (sym u) is.3)).1 in
    not-FailsInNotes-if_parsed r after rest p (subst (λ x. Notes x rest) (sym v) is.4)
