-- The tokens of sites and of conditions, and that they say them. The crates that print tests use this.
use Rattle.lw_text.proofs.Common.{registers, ◌≡◌, ℕ, ◌<◌, ◌≤◌, ◌^◌, inl, inr, Bool, true, false, List, []}
use Rattle.lw_text.proofs.Common.{◌∷◌, ◌++◌, map, length, refl, sym, ap, ◌∙◌, subst, arith, append_assoc}
use Rattle.lw_text.proofs.Common.{codes, slice_index_or, flat_map, decimal, AllByRecursion, map-append}
use Rattle.lw_text.proofs.Common.{All-from_recursion, slice_get-get_or, Bytes, NameTable, TokenList, Arch}
use Rattle.lw_text.proofs.Common.{Quant, Exists, NotExists, Forall, Seen, Register, Location, is_or}
use Rattle.lw_text.proofs.Common.{is_binary, Formula, No, Reg_is, Word_is, Not, And, Or, most_threads}
use Rattle.lw_text.proofs.Common.{IsDuplicateFree, IsUnreservedName, IsInTable, position_of_name-again}
use Rattle.lw_text.proofs.Common.{register_name, IsSeenInRange, MentionsOnly, SiteSyntax, InMemory, InThread}
use Rattle.lw_text.proofs.Common.{IsSite, ThreadExists, Value, site_names, seen_in, ParsesSepEndBy, Terminal}
use Rattle.lw_text.proofs.Common.{Open, Close, Negation, Conjunction, Disjunction, Atom, AtomSyntax, Always}
use Rattle.lw_text.proofs.Common.{Never, Holds, IsTerminal, Terminals, Quantified, sites_in, resolved}
use Rattle.lw_text.proofs.Common.{AllByRecursion-append}
use Rattle.lw_text.proofs.api.Spelling.{decimal_is_number}
use Rattle.lw_text.proofs.api.PrintedPropositions.{enclosed, enclosed_if, terminals_of}

-- ---- tokens

-- A register or a location as a site, by the names of a table.
abbrev pub named_site : NameTable → Seen → SiteSyntax
named_site names (Register t r) = InThread t r
named_site names (Location x) = InMemory (slice_index_or names x [])

-- The tokens of a site.
abbrev pub site_tokens : Arch → SiteSyntax → TokenList
site_tokens arch (InMemory x) = x ∷ []
site_tokens arch (InThread t r) = decimal t ∷ codes ":" ∷ register_name arch r ∷ []

-- The tokens of `=` and a word.
abbrev pub value_tokens : ℕ → TokenList
value_tokens n = codes "=" ∷ decimal n ∷ []

-- The syntax of an atom, by the names of a table.
abbrev pub named_claim : NameTable → Formula → AtomSyntax
named_claim names No = Never
named_claim names (Reg_is t r n) = Holds (InThread t r) n
named_claim names (Word_is x n) = Holds (InMemory (slice_index_or names x [])) n
named_claim names _ = Always

-- The tokens of an atom.
abbrev pub claim_tokens : Arch → AtomSyntax → TokenList
claim_tokens arch Always = codes "true" ∷ []
claim_tokens arch Never = codes "false" ∷ []
claim_tokens arch (Holds s n) = site_tokens arch s ++ value_tokens n

-- The tokens of a terminal of a proposition.
abbrev pub terminal_tokens : Arch → Terminal AtomSyntax → TokenList
terminal_tokens arch Open = codes "(" ∷ []
terminal_tokens arch Close = codes ")" ∷ []
terminal_tokens arch Negation = codes "~" ∷ []
terminal_tokens arch Conjunction = codes "/\\" ∷ []
terminal_tokens arch Disjunction = codes "\\/" ∷ []
terminal_tokens arch (Atom a) = claim_tokens arch a

-- The tokens of a quantifier.
abbrev pub quantifier_tokens : Quant → TokenList
quantifier_tokens Exists = codes "exists" ∷ []
quantifier_tokens NotExists = codes "~" ∷ codes "exists" ∷ []
quantifier_tokens Forall = codes "forall" ∷ []

-- ---- what the tokens say

-- The site can be printed: it is a location whose name is in the table, or a register of one of the threads.
abbrev pub IsPrintable : ℕ → NameTable → SiteSyntax → Type 0
IsPrintable threads names (InMemory x) = IsUnreservedName x × IsInTable names x
IsPrintable threads names (InThread t r) = (t < threads) × (r < registers)

-- An atom whose site can be printed, with a word.
abbrev pub IsPrintableClaim : ℕ → NameTable → AtomSyntax → Type 0
IsPrintableClaim threads names (Holds s n) = IsPrintable threads names s × (n < 2 ^ 32)
IsPrintableClaim threads names _ = Unit {0}

-- A terminal whose atom, if it is one, can be printed.
abbrev pub IsPrintableTerminal : ℕ → NameTable → Terminal AtomSyntax → Type 0
IsPrintableTerminal threads names (Atom a) = IsPrintableClaim threads names a
IsPrintableTerminal threads names _ = Unit {0}

module _ (arch : Arch) (threads : ℕ) (few : threads ≤ most_threads) (names : NameTable) where
  -- The tokens of a site give this site.
  pub IsSite-site_tokens : (s : SiteSyntax) (rest : TokenList)
      → IsPrintable threads names s
      → IsSite arch (site_tokens arch s ++ rest) s rest
  IsSite-site_tokens (InMemory x) rest h = (h.0, inl refl)
  IsSite-site_tokens (InThread t r) rest h =
      (decimal t, register_name arch r, refl, decimal_is_number t (omega (arith, h.0, few)), (h.1, refl))

  -- The tokens of `=` and a word say that word.
  pub Value-value_tokens : (n : ℕ) (rest : TokenList) → n < 2 ^ 32 → Value (value_tokens n ++ rest) n rest
  Value-value_tokens n rest h = (decimal n, refl, decimal_is_number n h)

  -- A site that can be printed is of a thread that exists.
  pub site_exists : (s : SiteSyntax) → IsPrintable threads names s → ThreadExists threads s
  site_exists (InMemory x) h = tt
  site_exists (InThread t r) h = h.0

  -- The tokens of a terminal give this terminal.
  IsTerminal-terminal_tokens : (s : Terminal AtomSyntax) (rest : TokenList)
      → IsPrintableTerminal threads names s
      → IsTerminal arch threads (terminal_tokens arch s ++ rest) s rest
  IsTerminal-terminal_tokens Negation rest h = inl refl
  IsTerminal-terminal_tokens (Atom (Holds s n)) rest h = (
    value_tokens n ++ rest,
    subst (λ ts. IsSite arch ts s (value_tokens n ++ rest)) (sym (append_assoc (site_tokens arch s) (value_tokens n) rest))
        (IsSite-site_tokens s (value_tokens n ++ rest) h.0),
    site_exists s h.0,
    Value-value_tokens n rest h.1,
  )
  IsTerminal-terminal_tokens _ rest h = refl

  -- The tokens of terminals say them.
  pub Terminals-terminal_tokens : (ss : List (Terminal AtomSyntax))
      → AllByRecursion (IsPrintableTerminal threads names) ss
      → Terminals arch threads (flat_map (terminal_tokens arch) ss) ss
  Terminals-terminal_tokens [] h = refl
  Terminals-terminal_tokens (s ∷ ss) h = (
    flat_map (terminal_tokens arch) ss,
    IsTerminal-terminal_tokens s (flat_map (terminal_tokens arch) ss) h.0,
    Terminals-terminal_tokens ss h.1,
  )

-- If all sites have P, and the name of each location with P has Q, then all locations' names among the sites have Q.
pub site_names-all : (P : SiteSyntax → Type 0) (Q : Bytes → Type 0)
    → ((x : Bytes) → P (InMemory x) → Q x)
    → (ss : List SiteSyntax)
    → AllByRecursion P ss
    → AllByRecursion Q (site_names ss)
site_names-all P Q f [] h = tt
site_names-all P Q f (InMemory x ∷ ss) h = (f x h.0, site_names-all P Q f ss h.1)
site_names-all P Q f (InThread t r ∷ ss) h = site_names-all P Q f ss h.1

-- If all terminals have P, and the site of each atom with P has Q, then all sites of the terminals have Q.
pub sites_in-all : (P : Terminal AtomSyntax → Type 0) (Q : SiteSyntax → Type 0)
    → ((s : SiteSyntax) (n : ℕ) → P (Atom (Holds s n)) → Q s)
    → (ss : List (Terminal AtomSyntax))
    → AllByRecursion P ss
    → AllByRecursion Q (sites_in ss)
sites_in-all P Q f [] h = tt
sites_in-all P Q f (Atom (Holds s n) ∷ ss) h = (f s n h.0, sites_in-all P Q f ss h.1)
sites_in-all P Q f (_ ∷ ss) h = sites_in-all P Q f ss h.1

-- The names of sites that can be printed are in the table.
pub sites_in_table : (threads : ℕ) (names : NameTable) (ss : List SiteSyntax)
    → AllByRecursion (IsPrintable threads names) ss
    → AllByRecursion (IsInTable names) (site_names ss)
sites_in_table threads names = site_names-all (IsPrintable threads names) (IsInTable names) (λ x h. h.1)

-- The sites of terminals that can be printed can be printed.
pub sites_printable : (threads : ℕ) (names : NameTable) (ss : List (Terminal AtomSyntax))
    → AllByRecursion (IsPrintableTerminal threads names) ss
    → AllByRecursion (IsPrintable threads names) (sites_in ss)
sites_printable threads names = sites_in-all _ (IsPrintable threads names) (λ s n h. h.0)

module _ (threads : ℕ) (names : NameTable) (table : AllByRecursion IsUnreservedName names) where
  -- A register or location of a test can be printed by its name.
  pub named_printable : (s : Seen) → IsSeenInRange threads (length names) s → IsPrintable threads names (named_site names s)
  named_printable (Register t r) h = h
  named_printable (Location x) h = (All-from_recursion _ _ table x [] h, (x, slice_get-get_or names x [] h))

  -- All terminals can be printed.
  abbrev ArePrintableTerminals : List (Terminal AtomSyntax) → Type 0
  ArePrintableTerminals ss = AllByRecursion (IsPrintableTerminal threads names) ss

  -- Terminals that can be printed can be printed in parentheses.
  ArePrintableTerminals-enclosed : (ss : List (Terminal AtomSyntax))
      → ArePrintableTerminals ss
      → ArePrintableTerminals (enclosed ss)
  ArePrintableTerminals-enclosed ss h = (tt, AllByRecursion-append (IsPrintableTerminal threads names) ss (Close ∷ []) h (tt, tt))

  -- If terminals can be printed, so can a part made of them, in parentheses or not.
  ArePrintableTerminals-enclosed_if : (needed : Bool) (ss : List (Terminal AtomSyntax))
      → ArePrintableTerminals ss
      → ArePrintableTerminals (enclosed_if needed ss)
  ArePrintableTerminals-enclosed_if true ss h = ArePrintableTerminals-enclosed ss h
  ArePrintableTerminals-enclosed_if false ss h = h

  -- If the terminals of two parts can be printed, so can both parts with a connective between them.
  ArePrintableTerminals-joined : (a b : Bool) (ss us : List (Terminal AtomSyntax)) (t : Terminal AtomSyntax)
      → IsPrintableTerminal threads names t
      → ArePrintableTerminals ss
      → ArePrintableTerminals us
      → ArePrintableTerminals (enclosed_if a ss ++ (t ∷ enclosed_if b us))
  ArePrintableTerminals-joined a b ss us t k h i =
      AllByRecursion-append _ (enclosed_if a ss) _ (ArePrintableTerminals-enclosed_if a ss h)
      (k, ArePrintableTerminals-enclosed_if b us i)

  -- The terminals of a formula over a test's registers and locations can be printed.
  ArePrintableTerminals-terminals_of : (p : Formula)
      → MentionsOnly threads (length names) p
      → ArePrintableTerminals (terminals_of (named_claim names) p)
  ArePrintableTerminals-terminals_of (Reg_is t r n) h = (((h.0, h.1), h.2), tt)
  ArePrintableTerminals-terminals_of (Word_is x n) h = ((named_printable (Location x) h.0, h.1), tt)
  ArePrintableTerminals-terminals_of (Not p) h =
      (tt, ArePrintableTerminals-enclosed_if (is_binary p) _ (ArePrintableTerminals-terminals_of p h))
  ArePrintableTerminals-terminals_of (And p q) h =
      ArePrintableTerminals-joined (is_or p) _ _ _ _ tt (ArePrintableTerminals-terminals_of p h.0)
      (ArePrintableTerminals-terminals_of q h.1)
  ArePrintableTerminals-terminals_of (Or p q) h =
      ArePrintableTerminals-joined false _ _ _ _ tt (ArePrintableTerminals-terminals_of p h.0)
      (ArePrintableTerminals-terminals_of q h.1)
  ArePrintableTerminals-terminals_of _ h = (tt, tt)

  -- All terminals of a test's condition can be printed.
  pub condition_is_printable : (p : Formula)
      → MentionsOnly threads (length names) p
      → ArePrintableTerminals (enclosed (terminals_of (named_claim names) p))
  condition_is_printable p h =
      ArePrintableTerminals-enclosed (terminals_of (named_claim names) p) (ArePrintableTerminals-terminals_of p h)

-- ---- names are resolved to indices

module _ (threads : ℕ) (names : NameTable) (once : IsDuplicateFree names) where
  -- A site's name is resolved to the register or location that was named.
  pub seen_in-named_site : (s : Seen) → IsSeenInRange threads (length names) s → seen_in names (named_site names s) ≡ s
  seen_in-named_site (Register t r) h = refl
  seen_in-named_site (Location x) h = ap (λ (y : ℕ). Location y) (position_of_name-again names once x h)

  -- Resolving terminals in parentheses resolves the terminals.
  resolved-enclosed : (ss : List (Terminal AtomSyntax)) (us : List (Terminal Formula))
      → map (resolved names) ss ≡ us
      → map (resolved names) (enclosed ss) ≡ enclosed us
  resolved-enclosed ss us e =
      ap (λ (l : List (Terminal Formula)). Open ∷ l)
      (map-append (resolved names) ss (Close ∷ []) ∙ ap (λ (l : List (Terminal Formula)). l ++ (Close ∷ [])) e)

  -- Resolving the names in a part, in parentheses or not, resolves its terminals.
  resolved-enclosed_if : (needed : Bool) (ss : List (Terminal AtomSyntax)) (us : List (Terminal Formula))
      → map (resolved names) ss ≡ us
      → map (resolved names) (enclosed_if needed ss) ≡ enclosed_if needed us
  resolved-enclosed_if true ss us e = resolved-enclosed ss us e
  resolved-enclosed_if false ss us e = e

  -- Resolving the names in two parts with a connective between them resolves each part.
  resolved-joined : (a b : Bool) (ss ws : List (Terminal AtomSyntax)) (us vs : List (Terminal Formula)) (t : Terminal AtomSyntax)
      → map (resolved names) ss ≡ us
      → map (resolved names) ws ≡ vs
      → map (resolved names) (enclosed_if a ss ++ (t ∷ enclosed_if b ws))
      ≡ enclosed_if a us ++ (resolved names t ∷ enclosed_if b vs)
  resolved-joined a b ss ws us vs t e f =
      let j = resolved-enclosed_if b ws vs f in
      map-append (resolved names) (enclosed_if a ss) (t ∷ enclosed_if b ws) ∙ cc ((resolved-enclosed_if a ss us e), j)

  -- The terminals of a formula, named by the table.
  abbrev named_terminals : Formula → List (Terminal AtomSyntax)
  named_terminals p = terminals_of (named_claim names) p

  -- The terminals of a formula, with formulas as atoms.
  abbrev formula_terminals : Formula → List (Terminal Formula)
  formula_terminals p = terminals_of (λ q. q) p

  -- Naming and then resolving the terminals gives those of the formula.
  resolved-named_terminals : (p : Formula)
      → MentionsOnly threads (length names) p
      → map (resolved names) (named_terminals p) ≡ formula_terminals p
  resolved-named_terminals (Word_is x n) h = ap (λ (y : ℕ). Atom (Word_is y n) ∷ []) (position_of_name-again names once x h.0)
  resolved-named_terminals (Not p) h =
      ap (λ l. Negation ∷ l) (resolved-enclosed_if (is_binary p) _ _ (resolved-named_terminals p h))
  resolved-named_terminals (And p q) h =
      resolved-joined _ _ _ _ _ _ _ (resolved-named_terminals p h.0) (resolved-named_terminals q h.1)
  resolved-named_terminals (Or p q) h =
      resolved-joined false _ _ _ _ _ _ (resolved-named_terminals p h.0) (resolved-named_terminals q h.1)
  resolved-named_terminals _ h = refl

  -- The terminals of a condition, named and resolved, are those of its formula.
  pub resolved-enclosed_named_terminals : (p : Formula)
      → MentionsOnly threads (length names) p
      → map (resolved names) (enclosed (named_terminals p)) ≡ enclosed (formula_terminals p)
  resolved-enclosed_named_terminals p h =
      resolved-enclosed (named_terminals p) (formula_terminals p) (resolved-named_terminals p h)

-- The tokens of a quantifier give this quantifier.
pub Quantified-quantifier_tokens : (q : Quant) (rest : TokenList) → Quantified (quantifier_tokens q ++ rest) q rest
Quantified-quantifier_tokens Exists rest = refl
Quantified-quantifier_tokens _ rest = refl

-- If the tokens of each element give this element, those of all, each followed by a separator, and the closing token say the list.
pub ParsesSepEndBy-tokens : {X : Type 0} (P : TokenList → X → TokenList → Type 0) (tokens : X → TokenList) (sep close : Bytes)
    (xs : List X) (rest : TokenList)
    → AllByRecursion (λ x. (l : TokenList) → P (tokens x ++ l) x l) xs
    → ParsesSepEndBy P sep close (flat_map (λ x. tokens x ++ sep ∷ []) xs ++ (close ∷ rest)) xs rest
ParsesSepEndBy-tokens P tokens sep close [] rest h = refl
ParsesSepEndBy-tokens P tokens sep close (x ∷ xs) rest h =
    let more = flat_map (λ y. tokens y ++ sep ∷ []) xs in
    let next = more ++ (close ∷ rest) in
    let e : ((tokens x ++ sep ∷ []) ++ more) ++ (close ∷ rest) ≡ tokens x ++ (sep ∷ next) =
    append_assoc (tokens x ++ sep ∷ []) more (close ∷ rest) ∙ append_assoc (tokens x) (sep ∷ []) next in (
      sep ∷ next,
      subst (λ (ts : TokenList). P ts x (sep ∷ next)) (sym e) (h.0 (sep ∷ next)),
      inr (next, refl, ParsesSepEndBy-tokens P tokens sep close xs rest h.1),
    )
