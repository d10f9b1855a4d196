-- The keyword of a language, blanks, a test's name and its notes have unique parses. A step of the proof that
-- a text has one frame, and what `parse_preamble` proves if a part is absent.
use Rattle.lw_text.proofs.Common.{◌≡◌, ℕ, true, false, not, [], ◌∷◌, ◌++◌, refl, sym, ap, subst, arith, codes}
use Rattle.lw_text.proofs.Common.{AllByRecursion, is_ascii_graphic, not-true, false_from_ne_true}
use Rattle.lw_text.proofs.Common.{HoldsOfNothing, ParsesNothing, Bytes, Arch, Source, X86, arch_keyword}
use Rattle.lw_text.proofs.Common.{is_blank, first_byte_is, IsFirstToken, IsTestName, ParsesTestName, Notes}
use Rattle.lw_text.proofs.Common.{Preamble, is_blank-passes, ◌∙◌, append-nil, false≢true, length}
use Rattle.lw_text.proofs.Common.{nil_from_length, not-false}
use Rattle.lw_text.proofs.Texts.{not-equal-if_bytes_differ}
use Rattle.lw_text.proofs.NameRuns.{IsLongestPrefix-unique}
use Rattle.lw_text.proofs.TokenRows.{IsFirstToken-unique}
use Rattle.lw_text.proofs.NoteRows.{Notes-unique}

-- No byte is a blank.
abbrev HasNoBlank : Bytes → Type 0
HasNoBlank name = AllByRecursion (λ b. not (is_blank b) ≡ true) name

-- A visible ASCII character is no blank.
pub graphic_no_blank : (b : ℕ) → is_ascii_graphic b ≡ true → is_blank b ≡ false
graphic_no_blank b h =
    false_from_ne_true (is_blank b)
    (λ e. let k = not-true (is_ascii_graphic b) (is_blank-passes (λ x. not (is_ascii_graphic x)) b refl e) in cc)

-- Visible ASCII characters contain no blank.
HasNoBlank-graphic : (name : Bytes) → AllByRecursion (λ b. is_ascii_graphic b ≡ true) name → HasNoBlank name
HasNoBlank-graphic [] all = tt
HasNoBlank-graphic (b ∷ name) all = (ap not (graphic_no_blank b all.0), HasNoBlank-graphic name all.1)

-- A test's name does not start with a blank.
name_front : (name rest : Bytes) → IsTestName name → first_byte_is is_blank (name ++ rest) ≡ false
name_front [] rest h = absurd (let k = h.not_empty in omega arith)
name_front (b ∷ name) rest h = graphic_no_blank b h.are_graphic_bytes.0

-- The parts of a text that starts with blanks, followed by a name.
module _ (text space after name rest : Bytes) (e : text ≡ space ++ after) (blank : AllByRecursion (λ b. is_blank b ≡ true) space)
    (stop : first_byte_is is_blank after ≡ false) (f : after ≡ name ++ rest) (plain : HasNoBlank name)
    (longest : first_byte_is (λ b. not (is_blank b)) rest ≡ false) where
  -- A text's parts, its blanks, name and rest, are unique.
  pub ParsesTestName-parts : (n r : Bytes) → (p : ParsesTestName text n r) → (p.blanks ≡ space) × (n ≡ name) × (r ≡ rest)
  ParsesTestName-parts n r p =
      let outer =
      IsLongestPrefix-unique is_blank p.blanks space
      (record { parts = p.parts; bytes_pass = p.blank; longest = name_front n r p.is_name })
      (record { parts = e; bytes_pass = blank; longest = stop }) in
      let inner =
      IsLongestPrefix-unique (λ b. not (is_blank b)) n name
      (record { parts = sym outer.1; bytes_pass = HasNoBlank-graphic n p.is_name.are_graphic_bytes; longest = p.longest })
      (record { parts = f; bytes_pass = plain; longest = longest }) in
      (outer.0, inner.0, inner.1)

-- The name of a text and its end are unique.
pub ParsesTestName-unique : (text n r m s : Bytes) → ParsesTestName text n r → ParsesTestName text m s → (n ≡ m) × (r ≡ s)
ParsesTestName-unique text n r m s p q =
    let k =
    ParsesTestName-parts text q.blanks (m ++ s) m s q.parts q.blank (name_front m s q.is_name) refl
    (HasNoBlank-graphic m q.is_name.are_graphic_bytes) q.longest n r p in
    (k.1, k.2)

-- The keyword of a language is unique.
pub arch_keyword-unique : (a b : Arch) → arch_keyword a ≡ arch_keyword b → a ≡ b
arch_keyword-unique Source X86 e = absurd (not-equal-if_bytes_differ (codes "SRC") (codes "X86") refl e)
arch_keyword-unique X86 Source e = absurd (not-equal-if_bytes_differ (codes "X86") (codes "SRC") refl e)
arch_keyword-unique _ _ e = refl

-- If no name follows a language's keyword, there is no preamble.
pub no_preamble-if_no_name : (text mid : Bytes) (arch : Arch)
    → IsFirstToken text (arch_keyword arch) mid
    → ParsesNothing (ParsesTestName mid)
    → (a : Arch)
    → ParsesNothing (Preamble text a)
no_preamble-if_no_name text mid arch word never a n r p =
    never n p.1
    (subst (λ x. ParsesTestName x n p.1) (IsFirstToken-unique text (arch_keyword a) p.0 (arch_keyword arch) mid p.2 word).1 p.3)

-- If no `{` follows the notes after the name, there is no preamble.
pub no_preamble-if_no_notes : (text mid name after : Bytes) (arch : Arch)
    → IsFirstToken text (arch_keyword arch) mid
    → ParsesTestName mid name after
    → HoldsOfNothing (Notes after)
    → (a : Arch)
    → ParsesNothing (Preamble text a)
no_preamble-if_no_notes text mid name after arch word named never a n r p =
    let e = (IsFirstToken-unique text (arch_keyword a) p.0 (arch_keyword arch) mid p.2 word).1 in
    let f = (ParsesTestName-unique mid n p.1 name after (subst (λ x. ParsesTestName x n p.1) e p.3) named).1 in
    never r (subst (λ x. Notes x r) f p.4)

-- A text has at most one preamble: its language, its name and its end.
pub Preamble-unique : (text : Bytes) (a : Arch) (n r : Bytes) (b : Arch) (m s : Bytes)
    → Preamble text a n r
    → Preamble text b m s
    → (a ≡ b) × (n ≡ m) × (r ≡ s)
Preamble-unique text a n r b m s p q =
    let e = IsFirstToken-unique text (arch_keyword a) p.0 (arch_keyword b) q.0 p.2 q.2 in
    let f = ParsesTestName-unique q.0 n p.1 m q.1 (subst (λ x. ParsesTestName x n p.1) e.1 p.3) q.3 in
    (arch_keyword-unique a b e.0, f.0, Notes-unique (subst (λ x. Notes x r) f.1 p.4) q.4)

-- If the first of some bytes is neither a blank nor another byte, there are no bytes.
is_empty-no_first_byte : (bytes : Bytes)
    → first_byte_is is_blank bytes ≡ false
    → first_byte_is (λ b. not (is_blank b)) bytes ≡ false
    → bytes ≡ []
is_empty-no_first_byte [] p q = refl
is_empty-no_first_byte (b ∷ bytes) p q = absurd (false≢true (sym p ∙ not-false (is_blank b) q))

-- If bytes are an empty front and a rest, they are the rest.
pub append-empty_front : (bytes front rest : Bytes) → bytes ≡ front ++ rest → length front ≡ 0 → bytes ≡ rest
append-empty_front bytes front rest parts none = parts ∙ ap (λ x. x ++ rest) (nil_from_length front none)

-- If no name follows the blanks, the text is blanks.
pub all_blank-no_name : (bytes blanks after name rest : Bytes)
    → bytes ≡ blanks ++ after
    → AllByRecursion (λ b. is_blank b ≡ true) blanks
    → first_byte_is is_blank after ≡ false
    → after ≡ name ++ rest
    → first_byte_is (λ b. not (is_blank b)) rest ≡ false
    → length name ≡ 0
    → AllByRecursion (λ b. is_blank b ≡ true) bytes
all_blank-no_name bytes blanks after name rest parts all longest rest_is other none =
    let same = append-empty_front after name rest rest_is none in
    let end = is_empty-no_first_byte after longest (ap (first_byte_is (λ b. not (is_blank b))) same ∙ other) in
    subst (AllByRecursion (λ b. is_blank b ≡ true)) (sym (parts ∙ ap (λ x. blanks ++ x) end ∙ append-nil blanks)) all
