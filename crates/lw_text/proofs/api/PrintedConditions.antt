-- Printed sites and conditions: their texts spell tokens. The crates that print tests use this.
use Rattle.lw_text.proofs.Common.{byte, registers, most_name_bytes, ◌≡◌, ℕ, suc, ◌+◌, ◌*◌, ◌<◌, ◌≤◌, ◌^◌}
use Rattle.lw_text.proofs.Common.{Bool, true, false, not, List, [], ◌∷◌, ◌++◌, length, refl, sym, ap, ◌∙◌}
use Rattle.lw_text.proofs.Common.{subst, arith, append_assoc, ◌==◌, codes, slice_index_or, flat_map, decimal}
use Rattle.lw_text.proofs.Common.{AllByRecursion, not-true, nat_tests, decimal_nonempty, flat_map-append}
use Rattle.lw_text.proofs.Common.{All-from_recursion, Bytes, NameTable, TokenList, Arch, Source, X86, Quant}
use Rattle.lw_text.proofs.Common.{Exists, NotExists, Forall, Seen, Register, Location, is_name_byte}
use Rattle.lw_text.proofs.Common.{first_byte_is, site_text, assignment, parenthesized, parenthesized_if}
use Rattle.lw_text.proofs.Common.{is_binary, proposition_text, quantifier_text, Formula, Yes, No, Reg_is}
use Rattle.lw_text.proofs.Common.{Word_is, Not, And, Or, nodes, most_threads, IsName, IsUnreservedName}
use Rattle.lw_text.proofs.Common.{register_name, IsSeenInRange, MentionsOnly, is_two_byte_symbol, Terminal}
use Rattle.lw_text.proofs.Common.{Conjunction, Disjunction, Atom, AtomSyntax, Always, Never, Holds}
use Rattle.lw_text.proofs.Common.{is_blank-passes}
use Rattle.lw_text.proofs.api.Spelling.{most_number_bytes, Anything, EndsName, IsBlankNext, HasNoStar}
use Rattle.lw_text.proofs.api.Spelling.{HasNoEquals, Spells, name_by_test, Spells-append}
use Rattle.lw_text.proofs.api.Spelling.{Spells-append_anything, Spells-before, Spells-mono, Spells-space}
use Rattle.lw_text.proofs.api.Spelling.{Spells-symbol, Spells-single_symbol, Spells-pair, Spells-name}
use Rattle.lw_text.proofs.api.Spelling.{Spells-number, decimal_is_name_run}
use Rattle.lw_text.proofs.api.PrintedPropositions.{enclosed, enclosed_if, terminals_of}
use Rattle.lw_text.proofs.api.ConditionTokens.{named_site, site_tokens, value_tokens, named_claim}
use Rattle.lw_text.proofs.api.ConditionTokens.{terminal_tokens, quantifier_tokens}

-- ---- registers

-- The name of a register is a name.
pub register_is_name : (arch : Arch) (r : ℕ) → r < registers → IsName (register_name arch r)
register_is_name Source (suc (suc (suc (suc (suc (suc r)))))) h = absurd (omega arith)
register_is_name X86 (suc (suc (suc (suc (suc (suc r)))))) h = absurd (omega arith)
register_is_name _ _ h = name_by_test _ refl

-- A register's name spells one token, if no name byte follows.
pub Spells-register : (arch : Arch) (r : ℕ)
    → r < registers
    → Spells EndsName most_name_bytes (register_name arch r) (register_name arch r ∷ [])
Spells-register arch r h = Spells-name (register_name arch r) (register_is_name arch r h)

-- A name byte makes no symbol with `:` before it.
is_two_byte_symbol-false_after_colon : (b : ℕ) → is_name_byte b ≡ true → is_two_byte_symbol (byte ":") b ≡ false
is_two_byte_symbol-false_after_colon b h = grind (arith, nat_tests)

-- A name byte is no `*`.
is_star-false_if_name_byte : (b : ℕ) → is_name_byte b ≡ true → (b == byte "*") ≡ false
is_star-false_if_name_byte b h = grind (arith, nat_tests)

-- A name makes no symbol with `:` before it.
HasNoEquals-name : (w rest : Bytes) → IsName w → HasNoEquals (w ++ rest)
HasNoEquals-name [] rest n = absurd (let h = n.0.not_empty in omega arith)
HasNoEquals-name (b ∷ w) rest n = is_two_byte_symbol-false_after_colon b n.0.are_name_bytes.0

-- `:` spells one token, if no `=` follows.
pub Spells-colon : Spells HasNoEquals 1 (byte ":" ∷ []) ((byte ":" ∷ []) ∷ [])
Spells-colon = Spells-symbol (byte ":") refl (λ rest f. f) (λ rest f. refl) (omega arith)

-- A blank after `:` is no `=`.
pub HasNoEquals-blank : (rest : Bytes) → IsBlankNext rest → HasNoEquals rest
HasNoEquals-blank [] h = refl
HasNoEquals-blank (b ∷ rest) h =
    not-true (is_two_byte_symbol (byte ":") b) (is_blank-passes (λ c. not (is_two_byte_symbol (byte ":") c)) b refl h)

-- ---- the texts

-- The text is not empty, and does not start with `*`.
abbrev pub Starts : Bytes → Type 0
Starts text = (b : ℕ) × (more : Bytes) × (text ≡ b ∷ more) × ((b == byte "*") ≡ false)

-- A text that does not start with `*` does not do so with more appended.
Starts-append : (a b : Bytes) → Starts a → Starts (a ++ b)
Starts-append a b s = (s.0, s.1 ++ b, ap (λ t. t ++ b) s.2, s.3)

-- A text that satisfies `Starts` does not start with `*`, so `(` before it opens no comment.
no_star-at_start : (text rest : Bytes) → Starts text → HasNoStar (text ++ rest)
no_star-at_start text rest s = ap (λ t. first_byte_is (λ b. b == byte "*") (t ++ rest)) s.2 ∙ s.3

-- A run of name bytes that is not empty does not start with `*`.
starts_name_run : (w : Bytes) → 0 < length w → AllByRecursion (λ b. is_name_byte b ≡ true) w → Starts w
starts_name_run [] some all = absurd (omega arith)
starts_name_run (b ∷ w) some all = (b, w, refl, is_star-false_if_name_byte b all.0)

-- Each name of a table of locations is a location's name.
pub IsUnreservedName-in_table : (names : NameTable) (x : ℕ)
    → AllByRecursion IsUnreservedName names
    → x < length names
    → IsUnreservedName (slice_index_or names x [])
IsUnreservedName-in_table names x table h = All-from_recursion IsUnreservedName names table x [] h

-- The maximum length of the text of a register or a location, in bytes: a thread's number, `:` and a name.
abbrev pub most_site_bytes : ℕ
most_site_bytes = most_number_bytes + (1 + most_name_bytes)

-- The maximum length of such a text with its word, as in `x=1`, in bytes.
abbrev pub most_assignment_bytes : ℕ
most_assignment_bytes = most_site_bytes + (1 + most_number_bytes)

-- The maximum length of a formula's text for each of its nodes, in bytes: that of an atom, or of a connective between two parts, with two
-- parentheses around a part.
abbrev pub most_node_bytes : ℕ
most_node_bytes = most_assignment_bytes + 6

-- The maximum length of the text of a quantifier, in bytes: `~` and a name.
abbrev pub most_quantifier_bytes : ℕ
most_quantifier_bytes = 1 + most_name_bytes

module _ (arch : Arch) (threads : ℕ) (few : threads ≤ most_threads) (names : NameTable)
    (table : AllByRecursion IsUnreservedName names) where
  -- The text of a site spells its tokens, if no name byte follows.
  pub site_spelled : (s : Seen)
      → IsSeenInRange threads (length names) s
      → Spells EndsName most_site_bytes (site_text arch names s) (site_tokens arch (named_site names s))
  site_spelled (Register t r) h =
      let number = Spells-number t (omega (arith, h.0, few)) in
      (Spells-append (λ rest g. refl) number
      (Spells-append (λ rest g. HasNoEquals-name (register_name arch r) rest (register_is_name arch r h.1)) Spells-colon
      (Spells-register arch r h.1)))
  site_spelled (Location x) h =
      Spells-mono most_site_bytes (omega arith)
      (Spells-name (slice_index_or names x []) (IsUnreservedName-in_table names x table h).0)

  -- The text of a site does not start with `*`.
  site_starts : (s : Seen) → IsSeenInRange threads (length names) s → Starts (site_text arch names s)
  site_starts (Register t r) h =
      let small : t < 2 ^ 32 = omega (arith, h.0, few) in
      Starts-append (decimal t) (codes ":" ++ register_name arch r)
      (starts_name_run (decimal t) (decimal_nonempty t (omega (arith, small))) (decimal_is_name_run t small))
  site_starts (Location x) h =
      let n = (IsUnreservedName-in_table names x table h).0 in
      starts_name_run (slice_index_or names x []) n.0.not_empty n.0.are_name_bytes

  -- If a site is one of the test and n is a word, the text of the site with n, such as `x=1`, spells their tokens.
  pub assignment_spelled : (s : Seen) (n : ℕ)
      → IsSeenInRange threads (length names) s
      → n < 2 ^ 32
      → Spells EndsName most_assignment_bytes (assignment (site_text arch names s) n)
      (site_tokens arch (named_site names s) ++ value_tokens n)
  assignment_spelled s n h small =
      Spells-append (λ rest g. refl) (site_spelled s h)
      (Spells-append_anything (Spells-single_symbol (byte "=") refl (λ c. refl) refl (omega arith)) (Spells-number n small))

  -- ---- propositions

  -- The tokens of terminals.
  abbrev tokens_of : List (Terminal AtomSyntax) → TokenList
  tokens_of ss = flat_map (terminal_tokens arch) ss

  -- The terminals of a formula, named by the table.
  abbrev proposition_terminals : Formula → List (Terminal AtomSyntax)
  proposition_terminals p = terminals_of (named_claim names) p

  -- The text spells the tokens of these terminals, with at most `most` bytes, and does not start with `*`.
  record IsSpelled (text : Bytes) (most : ℕ) (ss : List (Terminal AtomSyntax)) : Type 0 where
    spells : Spells EndsName most text (tokens_of ss)
    starts : Starts text

  -- A text in parentheses spells its tokens in parentheses.
  enclosed_spelled : (text : Bytes) (most : ℕ) (ss : List (Terminal AtomSyntax))
      → IsSpelled text most ss
      → Spells Anything (most + 2) (parenthesized text) (tokens_of (enclosed ss))
  enclosed_spelled text most ss s =
      let opening =
      Spells-symbol {F = HasNoStar} (byte "(") refl (λ rest f. is_two_byte_symbol-false_after_parenthesis _) (λ rest f. f)
      (omega arith) in
      let closing = Spells-single_symbol (byte ")") refl (λ c. refl) refl (omega arith) in
      let whole : Spells Anything (1 + (most + 1)) (parenthesized text) ((codes "(" ∷ []) ++ (tokens_of ss ++ (codes ")" ∷ []))) =
      Spells-append
      (λ rest g. subst HasNoStar (sym (append_assoc text (codes ")") rest)) (no_star-at_start text (codes ")" ++ rest) s.starts))
      opening (Spells-append (λ rest g. refl) s.spells closing) in
      subst (λ (ts : TokenList). Spells Anything (most + 2) (parenthesized text) (codes "(" ∷ ts))
      (sym (flat_map-append (terminal_tokens arch) ss _)) (Spells-mono (most + 2) (omega arith) whole)
    where
      -- A `(` makes no symbol with the next byte.
      is_two_byte_symbol-false_after_parenthesis : (rest : Bytes) → first_byte_is (is_two_byte_symbol (byte "(")) rest ≡ false
      is_two_byte_symbol-false_after_parenthesis [] = refl
      is_two_byte_symbol-false_after_parenthesis (b ∷ rest) = refl

  -- The text of a part, in parentheses or not, spells its tokens.
  part_spelled : (needed : Bool) (text : Bytes) (most : ℕ) (ss : List (Terminal AtomSyntax))
      → IsSpelled text most ss
      → IsSpelled (parenthesized_if needed text) (most + 2) (enclosed_if needed ss)
  part_spelled true text most ss s = record {
    spells = Spells-before EndsName (λ rest g. tt) (enclosed_spelled text most ss s);
    starts = (byte "(", text ++ codes ")", refl, refl);
  }
  part_spelled false text most ss s = record { spells = Spells-mono (most + 2) (omega arith) s.spells; starts = s.starts }

  -- The text of two parts and the connective between them spells their tokens.
  joined_spelled : (a b : Bytes) (m n : ℕ) (ss us : List (Terminal AtomSyntax)) (between : Bytes) (t : Terminal AtomSyntax)
      → ((rest : Bytes) → EndsName (between ++ rest))
      → Spells Anything 4 between (terminal_tokens arch t)
      → IsSpelled a m ss
      → IsSpelled b n us
      → IsSpelled (a ++ (between ++ b)) (m + (4 + n)) (ss ++ (t ∷ us))
  joined_spelled a b m n ss us between t ends mid s u = record {
    spells =
        subst (λ (ts : TokenList). Spells EndsName (m + (4 + n)) (a ++ (between ++ b)) ts)
        (sym (flat_map-append (terminal_tokens arch) ss (t ∷ us)))
        (Spells-append (λ rest g. subst EndsName (sym (append_assoc between b rest)) (ends (b ++ rest))) s.spells
        (Spells-append_anything mid u.spells));
    starts = Starts-append a (between ++ b) s.starts;
  }

  -- A text that spells terminals in at most m bytes does so in at most n, if m ≤ n.
  IsSpelled-mono : (text : Bytes) (m n : ℕ) (ss : List (Terminal AtomSyntax)) → m ≤ n → IsSpelled text m ss → IsSpelled text n ss
  IsSpelled-mono text m n ss le s = record { spells = Spells-mono n le s.spells; starts = s.starts }

  -- ` /\ ` spells the sign of a conjunction.
  Spells-conjunction : Spells Anything 4 (codes " /\\ ") (codes "/\\" ∷ [])
  Spells-conjunction =
      Spells-append_anything Spells-space
      (Spells-append_anything (Spells-pair (byte "/") (byte "\\") refl (omega arith) (omega arith)) Spells-space)

  -- ` \/ ` spells the sign of a disjunction.
  Spells-disjunction : Spells Anything 4 (codes " \\/ ") (codes "\\/" ∷ [])
  Spells-disjunction =
      Spells-append_anything Spells-space
      (Spells-append_anything (Spells-pair (byte "\\") (byte "/") refl (omega arith) (omega arith)) Spells-space)

  -- A keyword spells itself.
  word_spelled : (w : Bytes)
      → IsName w
      → (ss : List (Terminal AtomSyntax))
      → tokens_of ss ≡ w ∷ []
      → IsSpelled w most_node_bytes ss
  word_spelled w name ss e = record {
    spells =
        Spells-mono most_node_bytes (omega arith)
        (subst (λ (ts : TokenList). Spells EndsName most_name_bytes w ts) (sym e) (Spells-name w name));
    starts = starts_name_run w name.0.not_empty name.0.are_name_bytes;
  }

  -- If a site is one of the test and n is a word, the text of the atom that it has the word n spells the atom's tokens.
  claim_spelled : (s : Seen) (n : ℕ)
      → IsSeenInRange threads (length names) s
      → n < 2 ^ 32
      → IsSpelled (assignment (site_text arch names s) n) most_node_bytes (Atom (Holds (named_site names s) n) ∷ [])
  claim_spelled s n h small = record {
    spells =
        subst (λ (ts : TokenList). Spells EndsName most_node_bytes (assignment (site_text arch names s) n) ts)
        (claim_tokens-append_nil s) (Spells-mono most_node_bytes (omega arith) (assignment_spelled s n h small));
    starts = Starts-append (site_text arch names s) (codes "=" ++ decimal n) (site_starts s h);
  }
    where
      -- The tokens of a site and a value are those of the atom.
      claim_tokens-append_nil : (s : Seen)
          → site_tokens arch (named_site names s) ++ value_tokens n ≡ tokens_of (Atom (Holds (named_site names s) n) ∷ [])
      claim_tokens-append_nil (Register t r) = refl
      claim_tokens-append_nil (Location x) = refl

  -- The text of a formula spells its tokens, within `most_node_bytes` for each node.
  proposition_spelled : (p : Formula)
      → MentionsOnly threads (length names) p
      → IsSpelled (proposition_text arch names p) (most_node_bytes * nodes p) (proposition_terminals p)
  proposition_spelled Yes h = word_spelled (codes "true") (name_by_test _ refl) (Atom Always ∷ []) refl
  proposition_spelled No h = word_spelled (codes "false") (name_by_test _ refl) (Atom Never ∷ []) refl
  proposition_spelled (Reg_is t r n) h = claim_spelled (Register t r) n (h.0, h.1) h.2
  proposition_spelled (Word_is x n) h = claim_spelled (Location x) n h.0 h.1
  proposition_spelled (Not p) h =
      let part = part_spelled _ (proposition_text arch names p) _ (proposition_terminals p) (proposition_spelled p h) in
      record {
        spells =
            Spells-mono (most_node_bytes * suc (nodes p)) (omega arith)
            (Spells-append_anything (Spells-single_symbol (byte "~") refl (λ c. refl) refl (omega arith)) part.spells);
        starts = (byte "~", parenthesized_if (is_binary p) (proposition_text arch names p), refl, refl);
      }
  proposition_spelled (And p q) h =
      let left = part_spelled _ (proposition_text arch names p) _ (proposition_terminals p) (proposition_spelled p h.0) in
      let right = part_spelled _ (proposition_text arch names q) _ (proposition_terminals q) (proposition_spelled q h.1) in
      IsSpelled-mono _ _ (most_node_bytes * suc (nodes p + nodes q)) _ (omega arith)
      (joined_spelled _ _ _ _ _ _ (codes " /\\ ") Conjunction (λ rest. refl) Spells-conjunction left right)
  proposition_spelled (Or p q) h =
      let right = part_spelled _ (proposition_text arch names q) _ (proposition_terminals q) (proposition_spelled q h.1) in
      IsSpelled-mono _ _ (most_node_bytes * suc (nodes p + nodes q)) _ (omega arith)
      (joined_spelled _ _ _ _ _ _ (codes " \\/ ") Disjunction (λ rest. refl) Spells-disjunction (proposition_spelled p h.0) right)

  -- The text of a proposition in parentheses spells its tokens.
  pub whole_spelled : (p : Formula)
      → MentionsOnly threads (length names) p
      → Spells Anything (most_node_bytes * nodes p + 2) (parenthesized (proposition_text arch names p))
      (tokens_of (enclosed (proposition_terminals p)))
  whole_spelled p h = enclosed_spelled (proposition_text arch names p) _ (proposition_terminals p) (proposition_spelled p h)

-- The text of a quantifier spells its tokens.
pub quantifier_spelled : (q : Quant) → Spells EndsName most_quantifier_bytes (quantifier_text q) (quantifier_tokens q)
quantifier_spelled Exists = Spells-mono most_quantifier_bytes (omega arith) (Spells-name _ (name_by_test _ refl))
quantifier_spelled NotExists =
    Spells-append_anything (Spells-single_symbol (byte "~") refl (λ c. refl) refl (omega arith))
    (Spells-name (codes "exists") (name_by_test _ refl))
quantifier_spelled Forall = Spells-mono most_quantifier_bytes (omega arith) (Spells-name _ (name_by_test _ refl))
