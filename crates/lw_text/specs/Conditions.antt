-- The question of a test, on its tokens: the list of names, and the condition, which is a quantifier and a proposition.
use Rattle.std.specs.Prelude.{◌≡◌, ℕ, ◌⊎◌, Bool, false, Option, Some, None, List, [], ◌∷◌, codes}
use Rattle.std.specs.List.{filter_map, AllByRecursion}
use Rattle.std.specs.Str.{bytes_eq}
use Rattle.lw_base.specs.Types.{NameTable, Bytes, TokenList}
use Rattle.lw_base.specs.declared.head.Arch.{Arch}
use Rattle.lw_base.specs.declared.head.Quant.{Quant}
use Rattle.lw_base.specs.declared.head.Quant.TheVariants.{Exists, NotExists, Forall}
use Rattle.lw_base.specs.Tables.{position_of_name}
use Rattle.lw_base.specs.Formula.{Formula, Yes, No, Reg_is, Word_is}
use Rattle.lw_text.specs.Combinators.{ParsesMany, ParsesSepEndBy}
use Rattle.lw_text.specs.Sites.{SiteSyntax, InMemory, InThread, IsSite, ThreadExists, Value}
use Rattle.lw_text.specs.Propositions.{Terminal, Open, Close, Negation, Conjunction, Disjunction, Atom}

-- The syntax of an atom: true, false, or a site has a word.
pub data AtomSyntax : Type 0 where
  Always : AtomSyntax
  Never : AtomSyntax
  Holds : (site : SiteSyntax) (word : ℕ) → AtomSyntax

-- `true`, `false`, or a site with its word, as in `x = n`, whose thread is below `threads`.
abbrev pub IsAtom : Arch → ℕ → TokenList → AtomSyntax → TokenList → Type 0
IsAtom arch threads ts Always rest = ts ≡ codes "true" ∷ rest
IsAtom arch threads ts Never rest = ts ≡ codes "false" ∷ rest
IsAtom arch threads ts (Holds site n) rest =
    (mid : TokenList) × IsSite arch ts site mid × ThreadExists threads site × Value mid n rest

-- A terminal of a proposition: a parenthesis, a connective (`~` may be spelled `not`), or an atom.
abbrev pub IsTerminal : Arch → ℕ → TokenList → Terminal AtomSyntax → TokenList → Type 0
IsTerminal arch threads ts Open rest = ts ≡ codes "(" ∷ rest
IsTerminal arch threads ts Close rest = ts ≡ codes ")" ∷ rest
IsTerminal arch threads ts Negation rest = (ts ≡ codes "~" ∷ rest) ⊎ (ts ≡ codes "not" ∷ rest)
IsTerminal arch threads ts Conjunction rest = ts ≡ codes "/\\" ∷ rest
IsTerminal arch threads ts Disjunction rest = ts ≡ codes "\\/" ∷ rest
IsTerminal arch threads ts (Atom claim) rest = IsAtom arch threads ts claim rest

-- The tokens are these terminals, to the end of the text.
abbrev pub Terminals : Arch → ℕ → TokenList → List (Terminal AtomSyntax) → Type 0
Terminals arch threads ts ss = ParsesMany (IsTerminal arch threads) ts ss []

-- The site of a terminal's atom, if it has one.
abbrev pub site_of : Terminal AtomSyntax → Option SiteSyntax
site_of Open = None
site_of Close = None
site_of Negation = None
site_of Conjunction = None
site_of Disjunction = None
site_of (Atom Always) = None
site_of (Atom Never) = None
site_of (Atom (Holds site n)) = Some site

-- The sites of the atoms of these terminals, in their order.
abbrev pub sites_in : List (Terminal AtomSyntax) → List SiteSyntax
sites_in ss = filter_map site_of ss

-- The formula of an atom, with each location by its index in the table.
abbrev pub formula_in : NameTable → AtomSyntax → Formula
formula_in names Always = Yes
formula_in names Never = No
formula_in names (Holds (InMemory x) n) = Word_is (position_of_name names x) n
formula_in names (Holds (InThread t r) n) = Reg_is t r n

-- The terminal with the formula of its atom, with each location by its index in the table.
abbrev pub resolved : NameTable → Terminal AtomSyntax → Terminal Formula
resolved names Open = Open
resolved names Close = Close
resolved names Negation = Negation
resolved names Conjunction = Conjunction
resolved names Disjunction = Disjunction
resolved names (Atom claim) = Atom (formula_in names claim)

-- Tests whether the tokens begin with this one.
abbrev pub begins_token : Bytes → TokenList → Bool
begins_token w [] = false
begins_token w (t ∷ ts) = bytes_eq t w

-- Sites, each followed by a `;`, which is optional after the last, and `]`.
abbrev pub Sites : Arch → TokenList → List SiteSyntax → TokenList → Type 0
Sites arch ts sites rest = ParsesSepEndBy (IsSite arch) (codes ";") (codes "]") ts sites rest

-- The list of names: `locations [`, sites and `]`. If no `locations` follows, it is empty, and no token is part of it.
abbrev pub Listed : Arch → TokenList → List SiteSyntax → TokenList → Type 0
Listed arch ts sites rest =
    ((l : TokenList) × (ts ≡ codes "locations" ∷ codes "[" ∷ l) × Sites arch l sites rest)
    ⊎ ((begins_token (codes "locations") ts ≡ false) × (sites ≡ []) × (ts ≡ rest))

-- A quantifier: `exists`, `~exists` or `forall`.
abbrev pub Quantified : TokenList → Quant → TokenList → Type 0
Quantified ts Exists rest = ts ≡ codes "exists" ∷ rest
Quantified ts NotExists rest = ts ≡ codes "~" ∷ codes "exists" ∷ rest
Quantified ts Forall rest = ts ≡ codes "forall" ∷ rest

-- The question of a test, which ends its text: the list of names, a quantifier, and a proposition's terminals, with threads below
-- `threads`.
pub record ParsesQuestion (arch : Arch) (threads : ℕ) (ts : TokenList) (listed : List SiteSyntax) (quant : Quant) (ss : List (Terminal AtomSyntax)) : Type 0 where
  pub after_list : TokenList
  pub after_quant : TokenList
  pub lists : Listed arch ts listed after_list
  pub threads_exist : AllByRecursion (ThreadExists threads) listed
  pub quantifies : Quantified after_list quant after_quant
  pub says : Terminals arch threads after_quant ss
