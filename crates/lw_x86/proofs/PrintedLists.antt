-- The printed list of names and condition: their texts spell tokens, which say them. The last parts of a
-- printed text (PrintedFrames).
use Rattle.lw_x86.proofs.Common.{most_site_bytes, most_name_bytes, most_quantifier_bytes, most_node_bytes}
use Rattle.lw_x86.proofs.Common.{most_nodes, ◌≡◌, ℕ, suc, ◌+◌, ◌*◌, inl, inr, true, false, List, [], ◌∷◌}
use Rattle.lw_x86.proofs.Common.{◌++◌, map, length, refl, arith, append_assoc, append-nil, codes, flat_map}
use Rattle.lw_x86.proofs.Common.{AllByRecursion, NameTable, TokenList, X86, Quant, Exists, Seen}
use Rattle.lw_x86.proofs.Common.{condition_text, TestHead, IsSeenInRange, IsWellFormedHead, SiteSyntax}
use Rattle.lw_x86.proofs.Common.{IsSite, begins_stop, AtomSyntax, Listed, ParsesQuestion, begins_token}
use Rattle.lw_x86.proofs.Common.{Terminal, AllByRecursion-map, All-mono, length_le-ascending_seen}
use Rattle.lw_x86.proofs.Common.{max_seen_count, Anything, Spells, Spells-nothing, Spells-append}
use Rattle.lw_x86.proofs.Common.{Spells-append_anything, Spells-mono, Spells-space, Spells-newline}
use Rattle.lw_x86.proofs.Common.{Spells-single_symbol, Spells-name, name_by_test, enclosed, terminals_of}
use Rattle.lw_x86.proofs.Common.{named_site, site_tokens, terminal_tokens, quantifier_tokens, named_claim}
use Rattle.lw_x86.proofs.Common.{IsPrintable, IsSite-site_tokens, site_exists, Terminals-terminal_tokens}
use Rattle.lw_x86.proofs.Common.{named_printable, condition_is_printable, Quantified-quantifier_tokens}
use Rattle.lw_x86.proofs.Common.{ParsesSepEndBy-tokens, site_spelled, whole_spelled, quantifier_spelled}
use Rattle.lw_x86.proofs.Common.{element_text, listed_text}

-- ---- tokens

-- The tokens of an element of the list of names: its site and a `;`.
abbrev pub element_tokens : SiteSyntax → TokenList
element_tokens s = site_tokens X86 s ++ codes ";" ∷ []

-- Registers and locations as sites, by their names.
abbrev pub named_sites : NameTable → List Seen → List SiteSyntax
named_sites names ss = map (named_site names) ss

-- The tokens of the list of names, if it is not empty.
abbrev pub listed_tokens : NameTable → List Seen → TokenList
listed_tokens names [] = []
listed_tokens names (s ∷ ss) =
    codes "locations" ∷ codes "[" ∷ (flat_map element_tokens (named_sites names (s ∷ ss)) ++ (codes "]" ∷ []))

-- The terminals of a head's condition.
abbrev pub terminals_in : TestHead → List (Terminal AtomSyntax)
terminals_in head = enclosed (terminals_of (named_claim head.locs) head.proposition)

-- The tokens of the condition: its quantifier and its proposition.
abbrev pub condition_tokens : TestHead → TokenList
condition_tokens head = quantifier_tokens head.quant ++ flat_map (terminal_tokens X86) (terminals_in head)

-- The maximum length of an element of the list, in bytes: a register or a location, and `;`.
abbrev most_element_bytes : ℕ
most_element_bytes = most_site_bytes + 1

-- The maximum length of `locations [`, in bytes.
abbrev most_opening_bytes : ℕ
most_opening_bytes = most_name_bytes + 2

-- The maximum length of the line of a list of n names, in bytes: its start, the names, each after a space, and its end.
abbrev most_bytes_of_list : ℕ → ℕ
most_bytes_of_list n = most_opening_bytes + (most_element_bytes + 1) * n + 2

-- The maximum length of the line of the list, in bytes.
abbrev pub listed_bytes : ℕ
listed_bytes = most_bytes_of_list max_seen_count

-- The maximum length of the condition's line, in bytes: its quantifier, a space, its proposition in parentheses, and the line's end.
abbrev pub condition_bytes : ℕ
condition_bytes = most_quantifier_bytes + (most_node_bytes * most_nodes + 2) + 2

module _ (head : TestHead) (well : IsWellFormedHead head) where
  -- The register or location is of the test.
  abbrev IsOfTest : Seen → Type 0
  IsOfTest = IsSeenInRange head.threads (length head.locs)

  -- ---- the texts

  -- The text of an element spells its tokens.
  element_spelled : (s : Seen)
      → IsOfTest s
      → Spells Anything most_element_bytes (element_text head.locs s) (element_tokens (named_site head.locs s))
  element_spelled s h =
      Spells-append (λ rest g. refl) (site_spelled X86 head.threads well.bounded head.locs well.table.are_unreserved s h)
      (Spells-single_symbol 59 refl (λ c. refl) refl (omega arith))

  -- The texts of further elements, each after a space, spell their tokens.
  elements_spelled : (ss : List Seen)
      → AllByRecursion IsOfTest ss
      → Spells Anything ((most_element_bytes + 1) * length ss)
      (flat_map (λ next. codes " " ++ next) (map (element_text head.locs) ss))
      (flat_map element_tokens (named_sites head.locs ss))
  elements_spelled [] h = Spells-mono ((most_element_bytes + 1) * 0) (omega arith) (Spells-nothing Anything)
  elements_spelled (s ∷ ss) h =
      Spells-mono ((most_element_bytes + 1) * suc (length ss)) (omega arith)
      (Spells-append_anything (Spells-append_anything Spells-space (element_spelled s h.0)) (elements_spelled ss h.1))

  -- The word and the bracket spell two tokens.
  Spells-locations : Spells Anything most_opening_bytes (codes "locations [") (codes "locations" ∷ codes "[" ∷ [])
  Spells-locations =
      Spells-append (λ rest g. refl) (Spells-name (codes "locations") (name_by_test (codes "locations") refl))
      (Spells-append_anything Spells-space (Spells-single_symbol 91 refl (λ c. refl) refl (omega arith)))

  -- The text of the list of names, or none, spells its tokens.
  list_spelled : (ss : List Seen)
      → AllByRecursion IsOfTest ss
      → Spells Anything (most_bytes_of_list (length ss)) (listed_text head.locs ss) (listed_tokens head.locs ss)
  list_spelled [] h = Spells-mono (most_bytes_of_list 0) (omega arith) (Spells-nothing Anything)
  list_spelled (s ∷ ss) h =
      Spells-mono (most_bytes_of_list (suc (length ss))) (omega arith)
      (Spells-append_anything Spells-locations
      (Spells-append_anything (Spells-append_anything (element_spelled s h.0) (elements_spelled ss h.1))
      (Spells-append_anything (Spells-single_symbol 93 refl (λ c. refl) refl (omega arith)) Spells-newline)))

  -- The text of the list of names spells its tokens.
  pub listed_spelled : Spells Anything listed_bytes (listed_text head.locs head.listed) (listed_tokens head.locs head.listed)
  listed_spelled =
      Spells-mono listed_bytes (omega (
        arith,
        length_le-ascending_seen head.threads (length head.locs) head.listed well.ascending well.listed_in_range,
        well.bounded,
        well.table.bounded,
      )) (list_spelled head.listed well.listed_in_range)

  -- The text of the condition's line spells its tokens.
  pub condition_spelled : head.arch ≡ X86
      → Spells Anything condition_bytes (condition_text head ++ codes "\n") (condition_tokens head)
  condition_spelled arch =
      let proposition =
      whole_spelled X86 head.threads well.bounded head.locs well.table.are_unreserved head.proposition well.condition in
      let line =
      Spells-append_anything
      (Spells-append {G = Anything} (λ rest g. refl) (quantifier_spelled head.quant)
      (Spells-append_anything Spells-space proposition)) Spells-newline in
      rw (arch, ← append-nil (condition_tokens head)) (Spells-mono condition_bytes (omega (arith, well.nodes_bounded)) line)

  -- ---- what the tokens say

  -- The list of names can be printed.
  pub listed_printable : AllByRecursion (IsPrintable head.threads head.locs) (named_sites head.locs head.listed)
  listed_printable =
      AllByRecursion-map (IsPrintable head.threads head.locs) (named_site head.locs) head.listed
      (All-mono _ _ (named_printable head.threads head.locs well.table.are_unreserved) head.listed well.listed_in_range)

  -- The tokens of the list of names, or none, say the listed sites.
  Listed-listed_tokens : (ss : List Seen) (rest : TokenList)
      → AllByRecursion (IsPrintable head.threads head.locs) (named_sites head.locs ss)
      → begins_token (codes "locations") rest ≡ false
      → Listed X86 (listed_tokens head.locs ss ++ rest) (named_sites head.locs ss) rest
  Listed-listed_tokens [] rest h other = inr (other, refl, refl)
  Listed-listed_tokens (s ∷ ss) rest h other =
      let sites = named_sites head.locs (s ∷ ss) in
      inl (
        (flat_map element_tokens sites ++ (codes "]" ∷ [])) ++ rest,
        refl,
        rw (append_assoc (flat_map element_tokens sites))
            (ParsesSepEndBy-tokens (IsSite X86) (site_tokens X86) (codes ";") (codes "]") sites rest
            (All-mono _ _ (λ site p l. IsSite-site_tokens X86 head.threads well.bounded head.locs site l p) sites h)),
      )

  -- A quantifier starts no list, and ends the rows.
  quantifier_begins : (q : Quant) (rest : TokenList)
      → (begins_token (codes "locations") (quantifier_tokens q ++ rest) ≡ false)
      × (begins_stop (quantifier_tokens q ++ rest) ≡ true)
  quantifier_begins Exists rest = (refl, refl)
  quantifier_begins q rest = (refl, refl)

  -- The tokens of the list and the condition say the list, the quantifier and the terminals.
  pub ParsesQuestion-of_tokens : ParsesQuestion X86 head.threads (listed_tokens head.locs head.listed ++ condition_tokens head)
      (named_sites head.locs head.listed) head.quant (terminals_in head)
  ParsesQuestion-of_tokens = record {
    after_list = condition_tokens head;
    after_quant = flat_map (terminal_tokens X86) (terminals_in head);
    lists = Listed-listed_tokens head.listed (condition_tokens head) listed_printable (quantifier_begins head.quant _).0;
    threads_exist =
        All-mono _ _ (λ site p. site_exists X86 head.threads well.bounded head.locs site p) (named_sites head.locs head.listed)
        listed_printable;
    quantifies = Quantified-quantifier_tokens head.quant (flat_map (terminal_tokens X86) (terminals_in head));
    says =
        Terminals-terminal_tokens X86 head.threads well.bounded head.locs (terminals_in head)
        (condition_is_printable head.threads head.locs well.table.are_unreserved head.proposition well.condition);
  }

  -- If tokens start as an end of the rows does, so do they with the list of names before them.
  list_stops : (ss : List Seen) (rest : TokenList)
      → begins_stop rest ≡ true
      → begins_stop (listed_tokens head.locs ss ++ rest) ≡ true
  list_stops [] rest h = h
  list_stops (s ∷ ss) rest h = refl

  -- The rows end where the list of names or the condition starts.
  pub rows_stop : begins_stop (listed_tokens head.locs head.listed ++ condition_tokens head) ≡ true
  rows_stop =
      list_stops head.listed (condition_tokens head)
      (quantifier_begins head.quant (flat_map (terminal_tokens X86) (terminals_in head))).1
