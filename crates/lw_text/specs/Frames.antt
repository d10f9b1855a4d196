-- The frame of a text: a test whose cells are not parsed.
use Rattle.std.specs.Prelude.{◌≡◌, ℕ, ◌≤◌, if◌then◌else◌, List, [], ◌∷◌, ◌++◌, length, map, filter, fold, codes}
use Rattle.std.specs.List.{list_any, range_with_len, AllByRecursion}
use Rattle.std.specs.Str.{IsUtf8}
use Rattle.lw_base.specs.Types.{NameTable, Bytes, TokenList, CellGrid}
use Rattle.lw_base.specs.Limits.{most_locations, most_text_bytes}
use Rattle.lw_base.specs.declared.head.Arch.{Arch}
use Rattle.lw_base.specs.declared.head.Quant.{Quant}
use Rattle.lw_base.specs.declared.head.Seen.{Seen}
use Rattle.lw_base.specs.Formula.{Formula}
use Rattle.lw_base.specs.Heads.{TestHead}
use Rattle.lw_base.specs.SeenLists.{seen_eq, thread_registers, all_registers, locations}
use Rattle.lw_base.specs.Tables.{insert_names}
use Rattle.lw_text.specs.Tokens.{Tokens}
use Rattle.lw_text.specs.Preambles.{Preamble}
use Rattle.lw_text.specs.Combinators.{ParsesSepEndBy}
use Rattle.lw_text.specs.Rows.{Header, Rows, columns}
use Rattle.lw_text.specs.Sites.{SiteSyntax, IsSite, ThreadExists, Value, site_names, seen_in}
use Rattle.lw_text.specs.Propositions.{Terminal, HasFewNodes, IsProposition}
use Rattle.lw_text.specs.Conditions.{AtomSyntax, ParsesQuestion, sites_in, resolved}

-- The syntax of an initializer: a site, and its initial word.
pub record InitializerSyntax : Type 0 where
  pub site : SiteSyntax
  pub word : ℕ

-- An initializer: `x = n`, `[x] = n` or `t : r = n`.
abbrev pub IsInitializer : Arch → TokenList → InitializerSyntax → TokenList → Type 0
IsInitializer arch ts e rest = (mid : TokenList) × IsSite arch ts e.site mid × Value mid e.word rest

-- Initializers, each followed by a `;`, which is optional after the last, and `}`.
abbrev pub Initializers : Arch → TokenList → List InitializerSyntax → TokenList → Type 0
Initializers arch ts initializers rest = ParsesSepEndBy (IsInitializer arch) (codes ";") (codes "}") ts initializers rest

-- The sites of initializers.
abbrev pub sites_of : List InitializerSyntax → List SiteSyntax
sites_of initializers = map (λ e. e.site) initializers

-- The initial block: `{`, initializers, `}`.
abbrev pub Block : Arch → TokenList → List InitializerSyntax → TokenList → Type 0
Block arch ts initializers rest = (l : TokenList) × (ts ≡ codes "{" ∷ l) × Initializers arch l initializers rest

-- The syntax of a test's tokens, before names are resolved.
pub record TestSyntax : Type 0 where
  pub initializers : List InitializerSyntax
  pub threads : ℕ
  pub rows : CellGrid
  pub listed : List SiteSyntax
  pub quant : Quant
  pub terminals : List (Terminal AtomSyntax)

-- The names of the locations, without duplicates, in the order of first appearance.
abbrev pub location_table : TestSyntax → NameTable
location_table s =
    insert_names [] (site_names (map (λ e. e.site) s.initializers ++ s.listed ++ sites_in s.terminals))

-- The initial block, the header, the rows and the question, on existing threads and with registers of the language, and with at most as
-- many locations and nodes as a test may have.
pub record ParsesTest (arch : Arch) (ts : TokenList) (s : TestSyntax) : Type 0 where
  pub after_block : TokenList
  pub after_header : TokenList
  pub after_rows : TokenList
  pub block : Block arch ts s.initializers after_block
  pub header : Header after_block s.threads after_header
  pub threads_exist : AllByRecursion (λ e. ThreadExists s.threads e.site) s.initializers
  pub rows : Rows s.threads after_header s.rows after_rows
  pub question : ParsesQuestion arch s.threads after_rows s.listed s.quant s.terminals
  pub few_names : length (location_table s) ≤ most_locations
  pub few_nodes : HasFewNodes s.terminals

-- The tokens are not those of a test of the language.
abbrev pub ParsesNoTest : Arch → TokenList → Type 0
ParsesNoTest arch ts =
    (s : TestSyntax) (p : Formula) → ParsesTest arch ts s
    → IsProposition (map (resolved (location_table s)) s.terminals) p → ⊥

-- A frame: the head of a test, and for each thread and each row the tokens of the cell.
pub record TestFrame : Type 0 where
  pub head : TestHead
  pub cells : CellGrid

-- The initial word of a register or location: that of its last initializer, or 0.
abbrev pub initial_word_of : NameTable → List InitializerSyntax → Seen → ℕ
initial_word_of names initializers s =
    fold (λ w e. if seen_eq (seen_in names e.site) s then e.word else w) 0 initializers

-- The listed names, without duplicates: registers by thread and index, then locations by index.
abbrev pub listed_in : ℕ → NameTable → List SiteSyntax → List Seen
listed_in threads names sites =
    filter (λ s. list_any (λ site. seen_eq (seen_in names site) s) sites) (all_registers threads ++ locations (length names))

-- The head of a test with this language, name, syntax and proposition.
abbrev pub head_of_syntax : Arch → Bytes → TestSyntax → Formula → TestHead
head_of_syntax arch name s proposition =
    record {
      name = name;
      arch = arch;
      threads = s.threads;
      locs = location_table s;
      init_regs =
          map (λ t. map (initial_word_of (location_table s) s.initializers) (thread_registers t)) (range_with_len 0 s.threads);
      init_words = map (initial_word_of (location_table s) s.initializers) (locations (length (location_table s)));
      listed = listed_in s.threads (location_table s) s.listed;
      quant = s.quant;
      proposition = proposition;
    }

-- The frame of a test with this language, name, syntax and proposition: its head, and its cells by columns.
abbrev pub frame_of_syntax : Arch → Bytes → TestSyntax → Formula → TestFrame
frame_of_syntax arch name s proposition =
    record { head = head_of_syntax arch name s proposition; cells = columns s.threads s.rows }

-- The text, UTF-8 and not too long, is a preamble and a list of tokens with the syntax of this frame.
pub record HasFrame (text : Bytes) (frame : TestFrame) : Type 0 where
  pub short : length text ≤ most_text_bytes
  pub utf8 : IsUtf8 text
  pub arch : Arch
  pub name : Bytes
  pub rest : Bytes
  pub tokens : TokenList
  pub syntax : TestSyntax
  pub proposition : Formula
  pub preamble : Preamble text arch name rest
  pub stream : Tokens rest tokens
  pub parts : ParsesTest arch tokens syntax
  pub is_proposition : IsProposition (map (resolved (location_table syntax)) syntax.terminals) proposition
  pub frame_is : frame ≡ frame_of_syntax arch name syntax proposition
