-- Sites, initializers and terminals in memory, whose locations are resolved to indices, and their names. Used only within the crate.
use Rattle.std.specs.Prelude.{◌≡◌, ℕ, suc, ◌<◌, ◌≤◌, Bool, true, nat_lt, Option, None, Some, List, [], ◌++◌, length, map, filter, fold, if◌then◌else◌}
use Rattle.std.specs.Prelude.{slice_index_or, All}
use Rattle.std.specs.List.{list_any, range_with_len}
use Rattle.lw_base.specs.Types.{NameTable, Bytes, TokenList}
use Rattle.lw_base.specs.declared.head.Arch.{Arch}
use Rattle.lw_base.specs.Propositions.{formula_of}
use Rattle.lw_base.specs.Heads.{TestHead}
use Rattle.lw_base.specs.declared.head.Seen.{Seen}
use Rattle.lw_base.specs.declared.head.Seen.TheVariants as seen
use Rattle.lw_text.specs.declared.site.Site.{Site}
use Rattle.lw_text.specs.declared.site.Site.TheVariants as made
use Rattle.lw_text.specs.declared.block.Initializer.{Initializer}
use Rattle.lw_text.specs.declared.parts.ParsedHead.{ParsedHead}
use Rattle.lw_text.specs.declared.parts.ParsedBody.{ParsedBody}
use Rattle.lw_text.specs.Sites as syntax
use Rattle.lw_text.specs.Frames as frames
use Rattle.lw_base.specs.SeenLists.{seen_eq, thread_registers, all_registers, locations}
use Rattle.lw_text.specs.Frames.{location_table, ParsesTest}
use Rattle.lw_text.specs.declared.terminal.Terminal.{Terminal as MadeTerminal}
use Rattle.lw_text.specs.declared.terminal.Terminal.TheVariants as terminals
use Rattle.lw_text.specs.declared.terminal.Atom.{Atom}
use Rattle.lw_text.specs.declared.terminal.Atom.TheVariants as atoms
use Rattle.lw_text.specs.Propositions.{Terminal, Open, Close, Negation, Conjunction, Disjunction, Atom as Claims, IsProposition}
use Rattle.lw_text.specs.Conditions.{AtomSyntax, Always, Never, Holds, resolved}
use Rattle.lw_text.specs.Places.{all_texts}

-- The syntax of a site in memory, by the names of this table.
abbrev pub site_by_name : NameTable → Site → syntax.SiteSyntax
site_by_name names (made.Location loc) = syntax.InMemory (slice_index_or names loc [])
site_by_name names (made.Register t r) = syntax.InThread t r

-- The register or location of a site in memory.
abbrev pub seen_of : Site → Seen
seen_of (made.Location loc) = seen.Location loc
seen_of (made.Register t r) = seen.Register t r

-- The number of names that a table needs to have the index of the site's location.
abbrev pub names_needed : Site → ℕ
names_needed (made.Location loc) = suc loc
names_needed (made.Register t r) = 0

-- Tests whether a site's thread is below `threads`. True of a location.
abbrev pub thread_exists : ℕ → Site → Bool
thread_exists threads (made.Location loc) = true
thread_exists threads (made.Register t r) = nat_lt t threads

-- Tests whether a number is below `threads`, if their number is known.
abbrev pub is_allowed : Option ℕ → ℕ → Bool
is_allowed None t = true
is_allowed (Some threads) t = nat_lt t threads

-- The table has the index of the site's location. True of a register.
abbrev pub IsIn : NameTable → Site → Type 0
IsIn names site = names_needed site ≤ length names

-- The syntax of an initializer, by the names of this table.
abbrev pub named_initializer : NameTable → Initializer → frames.InitializerSyntax
named_initializer names e = record { site = site_by_name names e.site; word = e.word }

-- The word of the last initializer of a register or a location, or 0.
abbrev pub word_at : List Initializer → Seen → ℕ
word_at initializers s = fold (λ w e. if seen_eq (seen_of e.site) s then e.word else w) 0 initializers

-- Tests whether a register or a location is among the sites.
abbrev pub is_listed : List Site → Seen → Bool
is_listed sites s = list_any (λ site. seen_eq (seen_of site) s) sites

-- The head of parsed parts in memory, of a test of the language with this name. Its locations are indices.
abbrev pub resolved_head : {A : Type 0} → Arch → Bytes → ParsedHead A → TestHead
resolved_head arch name s =
    record {
      name = name;
      arch = arch;
      threads = s.threads;
      locs = s.locs;
      init_regs = map (λ t. map (word_at s.initializers) (thread_registers t)) (range_with_len 0 s.threads);
      init_words = map (word_at s.initializers) (locations (length s.locs));
      listed = filter (is_listed s.listed) (all_registers s.threads ++ locations (length s.locs));
      quant = s.quant;
      proposition = formula_of s.prop;
    }

-- The syntax of a `ParsedBody` in memory, by the names of its table, whose proposition was parsed from these terminals.
abbrev pub syntax_of : {A : Type 0} → ParsedBody A → List (Terminal AtomSyntax) → frames.TestSyntax
syntax_of b terminals =
    record {
      initializers = map (named_initializer b.parts.locs) b.parts.initializers;
      threads = b.parts.threads;
      rows = all_texts b.rows;
      listed = map (site_by_name b.parts.locs) b.parts.listed;
      quant = b.parts.quant;
      terminals = terminals;
    }

-- The body has the syntax and the proposition of these tokens, in the language.
pub record HasSyntax {A : Type 0} (arch : Arch) (ts : TokenList) (b : ParsedBody A) : Type 0 where
  pub terminals : List (Terminal AtomSyntax)
  pub parts : ParsesTest arch ts (syntax_of b terminals)
  pub names : b.parts.locs ≡ location_table (syntax_of b terminals)
  pub proposition : IsProposition (map (resolved b.parts.locs) terminals) (formula_of b.parts.prop)
  pub initializers_in : All (λ e. IsIn b.parts.locs e.site) b.parts.initializers
  pub listed_in : All (IsIn b.parts.locs) b.parts.listed

-- The syntax of an atom in memory, by the names of this table.
abbrev pub named_atom : NameTable → Atom → AtomSyntax
named_atom names atoms.Always = Always
named_atom names atoms.Never = Never
named_atom names (atoms.WordIs loc n) = Holds (syntax.InMemory (slice_index_or names loc [])) n
named_atom names (atoms.RegIs t r n) = Holds (syntax.InThread t r) n

-- The syntax of a terminal in memory, by the names of this table.
abbrev pub named_terminal : NameTable → MadeTerminal → Terminal AtomSyntax
named_terminal names terminals.Open = Open
named_terminal names terminals.Close = Close
named_terminal names terminals.Negation = Negation
named_terminal names terminals.Conjunction = Conjunction
named_terminal names terminals.Disjunction = Disjunction
named_terminal names (terminals.Atom a) = Claims (named_atom names a)

-- The table has the index of an atom's location. True of all other atoms.
abbrev pub AtomIn : NameTable → Atom → Type 0
AtomIn names (atoms.WordIs loc n) = loc < length names
AtomIn names _ = Unit {0}

-- The table has the index of the location of a terminal's atom. True of all other terminals.
abbrev pub TerminalIn : NameTable → MadeTerminal → Type 0
TerminalIn names (terminals.Atom a) = AtomIn names a
TerminalIn names _ = Unit {0}
