-- What the parser has parsed between two positions, with the names that it inserted into the table. Used only within the crate.
use Rattle.std.specs.Prelude.{◌≡◌, ◌⊎◌, ℕ, Option, Some, None, true, false, ◌≤◌, List, [], ◌∷◌, ◌++◌, codes, length, map, All}
use Rattle.std.specs.List.{AllByRecursion}
use Rattle.lw_base.specs.Limits.{most_locations}
use Rattle.lw_base.specs.Types.{Bytes, NameTable, TokenList}
use Rattle.lw_base.specs.declared.head.Arch.{Arch}
use Rattle.lw_base.specs.declared.head.Quant.{Quant}
use Rattle.lw_base.specs.declared.proposition.Prop.{Prop}
use Rattle.lw_base.specs.Formula.{Formula}
use Rattle.lw_base.specs.Propositions.{formula_of}
use Rattle.lw_text.specs.declared.cursor.Cursor.{Cursor}
use Rattle.lw_text.specs.declared.token.Token.{Token}
use Rattle.lw_text.specs.Spans.{token_texts, IsSuffix}
use Rattle.lw_text.specs.Rows.{ends_cell}
use Rattle.lw_text.specs.declared.site.Site.{Site}
use Rattle.lw_text.specs.declared.site.Site.TheVariants.{Register}
use Rattle.lw_text.specs.declared.block.Initializer.{Initializer}
use Rattle.lw_text.specs.declared.terminal.Terminal.{Terminal}
use Rattle.lw_text.specs.Sites.{SiteSyntax, InThread, IsSite, ThreadExists, ThreadAllowed, HasRoomFor, with_sites}
use Rattle.lw_text.specs.Propositions as syntax
use Rattle.lw_text.specs.Propositions.{HasFewNodes, IsProposition}
use Rattle.lw_text.specs.Conditions.{AtomSyntax, IsTerminal, Terminals, Listed, ParsesQuestion, sites_in, resolved}
use Rattle.lw_text.specs.Frames.{Block, IsInitializer, TestSyntax, ParsesTest, location_table}
use Rattle.lw_text.specs.Views.{remaining, remaining_texts, AdvancesTo, BeginsAt, FailsFrom}
use Rattle.lw_text.specs.Combinators.{ParsesMany}
use Rattle.lw_text.specs.PlacedTokens.{PlacedToken, IsPlacedToken, texts_of_tokens}
use Rattle.lw_text.specs.Failures.{FailsInTest}
use Rattle.lw_text.specs.declared.fault.Fault.{Fault}
use Rattle.lw_text.specs.declared.fault.TextCause.TheVariants.{Unterminated}
use Rattle.lw_text.specs.TextFailures.{FailsInFirstToken}
use Rattle.lw_text.specs.declared.fault.TextCause.{TextCause}
use Rattle.lw_text.specs.inner.Resolved.{site_by_name, named_initializer, named_terminal, IsIn, TerminalIn}

-- The tokens of a cell were parsed, and the `|` or `;` after them.
pub record ParsedCell (before after : Cursor) (cell : List Token) (mark : Token) : Type 0 where
  pub parts : remaining before ≡ cell ++ mark ∷ remaining after
  pub plain : AllByRecursion (λ t. ends_cell t ≡ false) (token_texts cell)
  pub ends : ends_cell mark.text.now ≡ true

-- A site was parsed, whose thread is allowed; a location's name was inserted into the table.
pub record ParsedSite (arch : Arch) (threads : Option ℕ) (before after : Cursor) (names table : NameTable) (s : Site) : Type 0 where
  pub parsed : IsSite arch (remaining_texts before) (site_by_name table s) (remaining_texts after)
  pub threads_exist : ThreadAllowed threads (site_by_name table s)
  pub names_are : table ≡ with_sites names (site_by_name table s ∷ [])
  pub within : IsIn table s
  pub advances : AdvancesTo before after
  pub bounded : length table ≤ most_locations

-- A terminal of a proposition was parsed; its site's name was inserted into the table.
pub record ParsedTerminal (arch : Arch) (threads : ℕ) (before after : Cursor) (names table : NameTable) (s : Terminal) : Type 0 where
  pub parsed : IsTerminal arch threads (remaining_texts before) (named_terminal table s) (remaining_texts after)
  pub names_are : table ≡ with_sites names (sites_in (named_terminal table s ∷ []))
  pub within : TerminalIn table s
  pub advances : AdvancesTo before after

-- After the initializers in front, each with its `;`, the initializer begins at its place among the remaining tokens, if its site is a
-- register.
pub record BeginsInitializer (arch : Arch) (before : Cursor) (front : List Initializer) (e : Initializer) : Type 0 where
  pub names : NameTable
  pub inside : TokenList
  pub rest : List Token
  pub later : TokenList
  pub opens : remaining_texts before ≡ codes "{" ∷ inside
  pub read : ParsesMany (λ ts e next. IsInitializer arch ts e (codes ";" ∷ next)) inside (map (named_initializer names) front) (token_texts rest)
  pub suffix : IsSuffix (remaining before) rest
  pub place : BeginsAt rest e.at
  pub parsed : (t r : ℕ) → e.site ≡ Register t r → IsInitializer arch (token_texts rest) (record { site = InThread t r; word = e.word }) later

-- After the initializers in front, each initializer begins at its place.
abbrev pub BeginInitializers : Arch → Cursor → List Initializer → List Initializer → Type 0
BeginInitializers arch before front [] = Unit {0}
BeginInitializers arch before front (e ∷ es) =
    BeginsInitializer arch before front e × BeginInitializers arch before (front ++ e ∷ []) es

-- The initial block was parsed; its sites' names were inserted into the table.
pub record ParsedBlock (arch : Arch) (before after : Cursor) (names table : NameTable) (es : List Initializer) : Type 0 where
  pub parsed : Block arch (remaining_texts before) (map (named_initializer table) es) (remaining_texts after)
  pub names_are : table ≡ with_sites names (map (λ e. site_by_name table e.site) es)
  pub within : All (λ e. IsIn table e.site) es
  pub advances : AdvancesTo before after
  pub places : BeginInitializers arch before [] es
  pub bounded : length table ≤ most_locations

-- The list of names was parsed, or none: the threads of its sites exist, and its locations' names were inserted into the table.
pub record ParsedNameList (arch : Arch) (threads : ℕ) (before after : Cursor) (names table : NameTable) (ss : List Site) : Type 0 where
  pub parsed : Listed arch (remaining_texts before) (map (site_by_name table) ss) (remaining_texts after)
  pub threads_exist : AllByRecursion (ThreadExists threads) (map (site_by_name table) ss)
  pub names_are : table ≡ with_sites names (map (site_by_name table) ss)
  pub within : All (IsIn table) ss
  pub advances : AdvancesTo before after
  pub bounded : length table ≤ most_locations

-- The terminals are a proposition with the formula p, of not too many nodes, and the table has room for their names.
pub record Fits (names : NameTable) (ss : List (syntax.Terminal AtomSyntax)) (p : Formula) : Type 0 where
  pub room : HasRoomFor names (sites_in ss)
  pub few_nodes : HasFewNodes ss
  pub says : IsProposition (map (resolved (with_sites names (sites_in ss))) ss) p

-- The tokens are no proposition, on threads below `threads`, for whose names the table has room.
abbrev pub NoProposition : Arch → ℕ → TokenList → NameTable → Type 0
NoProposition arch threads ts names =
    (ss : List (syntax.Terminal AtomSyntax)) (p : Formula) → Terminals arch threads ts ss → Fits names ss p → ⊥

-- The tokens are no question, on threads below `threads`, for whose names the table has room.
abbrev pub NoQuestion : Arch → ℕ → TokenList → NameTable → Type 0
NoQuestion arch threads ts names =
    (listed : List SiteSyntax) (quant : Quant) (ss : List (syntax.Terminal AtomSyntax)) (p : Formula)
    → ParsesQuestion arch threads ts listed quant ss → Fits (with_sites names listed) ss p → ⊥

-- A proposition was parsed, which ends the text; its locations' names were inserted into the table.
pub record ParsedProposition {A : Type 0} (arch : Arch) (threads : ℕ) (before : TokenList) (names table : NameTable) (p : Prop A) : Type 0 where
  pub terminals : List (syntax.Terminal AtomSyntax)
  pub parsed : Terminals arch threads before terminals
  pub names_are : table ≡ with_sites names (sites_in terminals)
  pub few_nodes : HasFewNodes terminals
  pub says : IsProposition (map (resolved table) terminals) (formula_of p)

-- The list of names with these sites was parsed, and then a condition, which ends the text. The names of both were inserted into the table.
pub record ParsedQuestion {A : Type 0} (arch : Arch) (threads : ℕ) (before : TokenList) (names table : NameTable) (ss : List Site) (quant : Quant) (p : Prop A)
    : Type 0 where
  pub terminals : List (syntax.Terminal AtomSyntax)
  pub parsed : ParsesQuestion arch threads before (map (site_by_name table) ss) quant terminals
  pub names_are : table ≡ with_sites (with_sites names (map (site_by_name table) ss)) (sites_in terminals)
  pub few_nodes : HasFewNodes terminals
  pub says : IsProposition (map (resolved table) terminals) (formula_of p)
  pub within : All (IsIn table) ss

-- The rest of a text of this length is these tokens, and then the next token fails, at this offset in the text and for this cause.
pub record StopsAt (len : ℕ) (text : Bytes) (tokens : List PlacedToken) (at : ℕ) (cause : TextCause) : Type 0 where
  pub end : Bytes
  pub read : ParsesMany (IsPlacedToken len) text tokens end
  pub fails : FailsFrom len end FailsInFirstToken at cause

-- The tokens of a stream, which this fault ends or none, fail to be the body of a test in a text of this length: at one of them; at the end
-- of the text; or at the fault, since the tokens before it need more, or are a test already.
pub data StreamFails (arch : Arch) (len : ℕ) (tokens : List PlacedToken) (fault : Option Fault) (at : ℕ) (cause : TextCause) : Type 0 where
  at_stream_token : (before later : List PlacedToken) (token : PlacedToken) → tokens ≡ before ++ token ∷ later → at ≡ token.at
      → FailsInTest arch (texts_of_tokens tokens) (texts_of_tokens (token ∷ later)) cause → StreamFails arch len tokens fault at cause
  at_stream_end : (c : TextCause) → fault ≡ None → FailsInTest arch (texts_of_tokens tokens) [] c → at ≡ len → cause ≡ Unterminated
      → StreamFails arch len tokens fault at cause
  at_stream_fault : (g : Fault) (c : TextCause) → fault ≡ Some g → at ≡ g.at → cause ≡ g.cause
      → FailsInTest arch (texts_of_tokens tokens) [] c
      ⊎ ((s : TestSyntax) × (p : Formula) × ParsesTest arch (texts_of_tokens tokens) s × IsProposition (map (resolved (location_table s)) s.terminals) p)
      → StreamFails arch len tokens fault at cause
