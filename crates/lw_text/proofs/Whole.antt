-- The parse of a test's parts is unique. If one of them is absent, the tokens are no test, and the text has
-- no frame. `parse_body` returns by these lemmas where a part is absent.
use Rattle.lw_text.proofs.Common.{most_locations, ◌≡◌, ℕ, zero, suc, ◌≤◌, true, false, List, [], ◌∷◌, ◌++◌}
use Rattle.lw_text.proofs.Common.{length, map, refl, sym, ap, ◌∙◌, subst, arith, Option, Some, None}
use Rattle.lw_text.proofs.Common.{MatchOption, IfNone, codes, All, AllByRecursion, list_all, length-map}
use Rattle.lw_text.proofs.Common.{ltb-false, All-from_recursion, ParsedBlock, ReadsBlock, HoldsOfNothing}
use Rattle.lw_text.proofs.Common.{ParsesNothing, Bytes, NameTable, TokenList, CellGrid, Arch, Quant, Exists}
use Rattle.lw_text.proofs.Common.{NotExists, Forall, AllByRecursion-map, All-mono, length_le-insert_names}
use Rattle.lw_text.proofs.Common.{Cell, Cursor, Token, Tokens, PlacedTokens, token_texts, Preamble}
use Rattle.lw_text.proofs.Common.{ParsesManyTill, Header, Row, Rows, begins_stop, with_sites, HasRoomFor}
use Rattle.lw_text.proofs.Common.{SiteSyntax, ThreadExists, site_names, Terminal, IsProposition, AtomSyntax}
use Rattle.lw_text.proofs.Common.{Quantified, begins_token, sites_in, resolved, InitializerSyntax, sites_of}
use Rattle.lw_text.proofs.Common.{Block, TestSyntax, location_table, ParsesTest, ParsesNoTest, HasFrame}
use Rattle.lw_text.proofs.Common.{all_texts, with_spans, remaining_texts, site_by_name, named_initializer}
use Rattle.lw_text.proofs.Common.{thread_exists, ParsedNameList, NoProposition, NoQuestion, ParsesQuestion}
use Rattle.lw_text.proofs.api.Spelling.{list_all-AllByRecursion}
use Rattle.lw_text.specs.declared.site.Site.{Site as MadeSite}
use Rattle.lw_text.specs.declared.block.Initializer.{Initializer as MadeInitializer}
use Rattle.lw_text.proofs.SiteLists.{Block-unique, Listed-unique}
use Rattle.lw_text.proofs.Cells.{Rows-unique}
use Rattle.lw_text.proofs.Headers.{Names-unique}
use Rattle.lw_text.proofs.Preambles.{Preamble-unique}
use Rattle.lw_text.proofs.Readings.{with_sites-append}
use Rattle.lw_text.proofs.TerminalLists.{Terminals-unique}
use Rattle.lw_text.proofs.Texts.{not-equal-if_bytes_differ, not-token_is_next}
use Rattle.lw_text.proofs.TokenRows.{Tokens-unique, Tokens-with_spans}
use Rattle.lw_text.proofs.Lists.{IsDeterministic}
use Rattle.lw_text.specs.declared.site.Site.TheVariants as made

-- ---- the table of names

-- The table has the sites of the block, then those listed, then those in the proposition.
pub table_parts : (s : TestSyntax)
    → location_table s ≡ with_sites (with_sites (with_sites [] (sites_of s.initializers)) s.listed) (sites_in s.terminals)
table_parts s =
    with_sites-append [] (sites_of s.initializers ++ s.listed) (sites_in s.terminals)
    ∙ ap (λ ns. with_sites ns (sites_in s.terminals)) (with_sites-append [] (sites_of s.initializers) s.listed)

-- The sites of the initializers' syntax are the syntax of their sites.
sites_of_block : (names : NameTable) (es : List MadeInitializer)
    → sites_of (map (named_initializer names) es) ≡ map (λ e. site_by_name names e.site) es
sites_of_block names [] = refl
sites_of_block names (e ∷ es) = ap (λ l. site_by_name names e.site ∷ l) (sites_of_block names es)

-- ---- threads that exist

-- If the thread of a site in memory exists, so does that of its syntax.
ThreadExists-thread_exists : (threads : ℕ) (names : NameTable) (s : MadeSite)
    → thread_exists threads s ≡ true
    → ThreadExists threads (site_by_name names s)
ThreadExists-thread_exists threads names (made.Location loc) h = tt
ThreadExists-thread_exists threads names (made.Register t r) h = grind arith

-- If the thread of a site's syntax exists, so does that of the site in memory.
thread_exists-ThreadExists : (threads : ℕ) (names : NameTable) (s : MadeSite)
    → ThreadExists threads (site_by_name names s)
    → thread_exists threads s ≡ true
thread_exists-ThreadExists threads names (made.Location loc) h = refl
thread_exists-ThreadExists threads names (made.Register t r) h = grind arith

-- If the threads of all initializers in memory exist, so do those of their syntax.
pub ThreadExists-all_initializers : (threads : ℕ) (names : NameTable) (es : List MadeInitializer)
    → list_all (λ e. thread_exists threads e.site) es ≡ true
    → AllByRecursion (λ e. ThreadExists threads e.site) (map (named_initializer names) es)
ThreadExists-all_initializers threads names es h =
    AllByRecursion-map _ _ es (All-mono _ _ (λ e. ThreadExists-thread_exists _ names _) es (list_all-AllByRecursion _ es h))

-- If the threads of the syntax of all initializers exist, so do those of the initializers in memory.
pub thread_exists-all_initializers : (threads : ℕ) (names : NameTable) (es : List MadeInitializer)
    → AllByRecursion (λ e. ThreadExists threads e.site) (map (named_initializer names) es)
    → list_all (λ e. thread_exists threads e.site) es ≡ true
thread_exists-all_initializers threads names [] h = refl
thread_exists-all_initializers threads names (e ∷ es) h =
    rw (thread_exists-ThreadExists threads names e.site h.0, thread_exists-all_initializers threads names es h.1) refl

-- ---- the quantifier

-- The parse of a quantifier is unique.
pub Quantified-unique : IsDeterministic Quantified
Quantified-unique ts Exists NotExists r s e f = absurd (not-equal-if_bytes_differ (codes "exists") (codes "~") refl (cc))
Quantified-unique ts Exists Forall r s e f = absurd (not-equal-if_bytes_differ (codes "exists") (codes "forall") refl (cc))
Quantified-unique ts NotExists Exists r s e f = absurd (not-equal-if_bytes_differ (codes "exists") (codes "~") refl (cc))
Quantified-unique ts NotExists Forall r s e f = absurd (not-equal-if_bytes_differ (codes "forall") (codes "~") refl (cc))
Quantified-unique ts Forall Exists r s e f = absurd (not-equal-if_bytes_differ (codes "exists") (codes "forall") refl (cc))
Quantified-unique ts Forall NotExists r s e f = absurd (not-equal-if_bytes_differ (codes "forall") (codes "~") refl (cc))
Quantified-unique ts _ _ r s e f = (refl, cc)

-- ---- if the block ends early

-- If tokens are the parts of a test, the empty table has room for the names of the initial block.
pub HasRoomFor-initial_block : (arch : Arch) (ts : TokenList) (s : TestSyntax)
    → ParsesTest arch ts s
    → HasRoomFor [] (sites_of s.initializers)
HasRoomFor-initial_block arch ts s p = omega (
  arith,
  p.few_names,
  ap length (table_parts s),
  length_le-insert_names (with_sites [] (sites_of s.initializers)) (site_names s.listed),
  length_le-insert_names (with_sites (with_sites [] (sites_of s.initializers)) s.listed) (site_names (sites_in s.terminals)),
)

-- ---- if the question ends early

-- If no proposition follows the list and the quantifier, there is no question.
pub no_question-if_no_proposition : {arch : Arch} {threads : ℕ} {before later : Cursor} {first names : NameTable}
    {made : List MadeSite}
    → ParsedNameList arch threads before later first names made
    → (quant : Quant) (end : TokenList)
    → Quantified (remaining_texts later) quant end
    → NoProposition arch threads end names
    → NoQuestion arch threads (remaining_texts before) first
no_question-if_no_proposition {arch} {threads} {before} {later} {first} {names} {made} taken quant end quantifies never all q ss p c fits =
    let u =
    Listed-unique arch (remaining_texts before) all (map (site_by_name names) made) c.after_list (remaining_texts later) c.lists
    taken.parsed in
    let v = Quantified-unique (remaining_texts later) q quant c.after_quant end (rw u.1 at c.quantifies) quantifies in
    never ss p (rw v.1 at c.says) (rw (ap (with_sites first) u.0 ∙ sym taken.names_are) at fits)

-- ---- if the parts end early

module _ (arch : Arch) (ts a : TokenList) (initializers : List InitializerSyntax) (block : Block arch ts initializers a) where
  -- If the tokens are a test, its block is this one, and its header follows.
  ParsesTest-header_inv : (s : TestSyntax) (p : ParsesTest arch ts s)
      → (s.initializers ≡ initializers) × Header a s.threads p.after_header
  ParsesTest-header_inv s p =
      let e = Block-unique arch ts s.initializers initializers p.after_block a p.block block in
      (e.0, subst (λ l. Header l s.threads p.after_header) e.1 p.header)

  -- If no header follows the block, the tokens are no test.
  pub no_test-if_no_header : ParsesNothing (Header a) → HoldsOfNothing (ParsesTest arch ts)
  no_test-if_no_header never s p = never s.threads p.after_header (ParsesTest-header_inv s p).1

  module _ (n : ℕ) (b : TokenList) (header : Header a n b) where
    -- If they are a test, its threads are these, and its rows follow.
    ParsesTest-rows_inv : (s : TestSyntax) (p : ParsesTest arch ts s)
        → (s.initializers ≡ initializers)
        × (s.threads ≡ n)
        × Rows n b s.rows p.after_rows
        × ParsesQuestion arch n p.after_rows s.listed s.quant s.terminals
    ParsesTest-rows_inv s p =
        let e = ParsesTest-header_inv s p in
        let u = Names-unique 0 s.threads n a p.after_header b e.1.0 header.0 in
        (e.0, u.0, rw (u.0, u.1) at p.rows, rw u.0 at p.question)

    -- If the thread of an initializer is not one of the header's, the tokens are no test.
    pub no_test-if_thread_is_missing : (names : NameTable) (made : List MadeInitializer)
        → initializers ≡ map (named_initializer names) made
        → list_all (λ e. thread_exists n e.site) made ≡ false
        → HoldsOfNothing (ParsesTest arch ts)
    no_test-if_thread_is_missing names made is none s p =
        let h = ParsesTest-rows_inv s p in
        let all =
        thread_exists-all_initializers n names made
        (subst (λ l. AllByRecursion (λ e. ThreadExists n e.site) l) (h.0 ∙ is)
        (subst (λ k. AllByRecursion (λ e. ThreadExists k e.site) s.initializers) h.1 p.threads_exist)) in
        cc

    -- If no rows follow the header, the tokens are no test.
    pub no_test-if_no_rows : ParsesNothing (Rows n b) → HoldsOfNothing (ParsesTest arch ts)
    no_test-if_no_rows never s p = never s.rows p.after_rows (ParsesTest-rows_inv s p).2

    module _ (rows : CellGrid) (c : TokenList) (are_rows : Rows n b rows c) (first : TokenList)
        (is_first : first ≡ with_sites [] (sites_of initializers)) where
      -- If the tokens are a test, its rows are these, and its question follows.
      ParsesTest-question_inv : (s : TestSyntax)
          → ParsesTest arch ts s
          → (s.initializers ≡ initializers)
          × (s.threads ≡ n)
          × (s.rows ≡ rows)
          × ParsesQuestion arch n c s.listed s.quant s.terminals
      ParsesTest-question_inv s p =
          let h = ParsesTest-rows_inv s p in
          let u = Rows-unique n b p.after_rows c s.rows rows h.2 are_rows in
          (h.0, h.1, u.0, subst (λ l. ParsesQuestion arch n l s.listed s.quant s.terminals) u.1 h.3)

      -- If no question follows the rows, the tokens are no test.
      pub no_test-if_no_question : NoQuestion arch n c first → ParsesNoTest arch ts
      no_test-if_no_question never s f p whole =
          let h = ParsesTest-question_inv s p in
          let names = ap (λ es. with_sites [] (sites_of es)) h.0 ∙ sym is_first in
          let all : location_table s ≡ with_sites (with_sites first s.listed) (sites_in s.terminals) =
          table_parts s ∙ ap (λ ns. with_sites (with_sites ns s.listed) (sites_in s.terminals)) names in
          never s.listed s.quant s.terminals f h.3 (record {
            room = omega (arith, p.few_names, ap length all);
            few_nodes = p.few_nodes;
            says = subst (λ ns. IsProposition (map (resolved ns) s.terminals) f) all whole;
          })

-- The parse of a test's parts is unique.
pub ParsesTest-unique : (arch : Arch) (ts : TokenList) (s t : TestSyntax) → ParsesTest arch ts s → ParsesTest arch ts t → s ≡ t
ParsesTest-unique arch ts s t p q =
    let h = ParsesTest-question_inv arch ts _ t.initializers q.block t.threads _ q.header t.rows _ q.rows _ refl s p in
    let u = Listed-unique arch q.after_rows s.listed t.listed h.3.after_list q.question.after_list h.3.lists q.question.lists in
    let v =
    Quantified-unique q.question.after_list s.quant t.quant h.3.after_quant q.question.after_quant (rw u.1 at h.3.quantifies)
    q.question.quantifies in
    let w = Terminals-unique arch t.threads s.terminals t.terminals _ (rw v.1 at h.3.says) q.question.says in
    let made =
    λ (es : List InitializerSyntax) (n : ℕ) (rows : CellGrid) (ls : List SiteSyntax) (quant : Quant) (ss : List (Terminal AtomSyntax)).
    (let x : TestSyntax = record { initializers = es; threads = n; rows = rows; listed = ls; quant = quant; terminals = ss } in
    x) in
    let same : made s.initializers s.threads s.rows s.listed s.quant s.terminals
    ≡ made t.initializers t.threads t.rows t.listed t.quant t.terminals = cc (h.0, h.1, h.2, u.0, v.0, w) in
    same

-- ---- the syntax of a body

-- A table of the names of the initializers' sites in memory is that of their syntax.
pub names_of_initializers : (names : NameTable) (es : List MadeInitializer)
    → names ≡ with_sites [] (map (λ e. site_by_name names e.site) es)
    → names ≡ with_sites [] (sites_of (map (named_initializer names) es))
names_of_initializers names es e = e ∙ ap (λ l. with_sites [] l) (sym (sites_of_block names es))

-- ---- rows

-- A header names at least one thread.
pub header_has_thread : (ts rest : TokenList) (n : ℕ) → Header ts n rest → 1 ≤ n
header_has_thread ts rest zero h = absurd h.0
header_has_thread ts rest (suc n) h = omega arith

-- Each row up to a token that ends the rows has a cell for each thread.
row_lengths-of_rows : {A : Type 0} (n : ℕ) (rows : List (List (Cell A))) (ts rest : TokenList)
    → ParsesManyTill begins_stop (Row n) ts (all_texts rows) rest
    → AllByRecursion (λ row. length row ≡ n) rows
row_lengths-of_rows n [] ts rest u = tt
row_lengths-of_rows n (row ∷ rows) ts rest u = (sym (length-map row _) ∙ u.1.1.1, row_lengths-of_rows n rows u.1.0 rest u.1.2)

-- Each of a test's rows has a cell for each thread.
pub row_lengths-Rows : {A : Type 0} (n : ℕ) (rows : List (List (Cell A))) (ts rest : TokenList)
    → Rows n ts (all_texts rows) rest
    → All (λ row. length row ≡ n) rows
row_lengths-Rows n rows ts rest r = All-from_recursion (λ row. length row ≡ n) rows (row_lengths-of_rows n rows ts rest r.0)

-- ---- the text

-- If the text has tokens, they are no test.
abbrev HasNoTest : Arch → Bytes → Type 0
HasNoTest arch text = (ts : TokenList) → Tokens text ts → ParsesNoTest arch ts

-- If the tokens after a text's preamble are no test, the text has no frame.
pub no_frame-if_no_test : (text : Bytes) (arch : Arch) (name rest : Bytes)
    → Preamble text arch name rest
    → HasNoTest arch rest
    → HoldsOfNothing (HasFrame text)
no_frame-if_no_test text arch name rest preamble never frame h =
    let e = Preamble-unique text h.arch h.name h.rest arch name rest h.preamble preamble in
    never h.tokens (subst (λ x. Tokens x h.tokens) e.2 h.stream) h.syntax h.proposition
    (subst (λ a. ParsesTest a h.tokens h.syntax) e.0 h.parts) h.is_proposition

-- If a lexical fault ends the tokens, or there is none and they are no test, the text's tokens are no test.
pub HasNoTest-if_no_tokens_or_no_parse : {F : Type 0} (arch : Arch) (o : Option F) (Q : F → Type 0) (len : ℕ) (rest : Bytes)
    (ts : List Token)
    → MatchOption o (PlacedTokens len rest (with_spans ts)) (λ f. HoldsOfNothing (Tokens rest) × Q f)
    → IfNone o (ParsesNoTest arch (token_texts ts))
    → HasNoTest arch rest
HasNoTest-if_no_tokens_or_no_parse arch None Q len rest ts stream never us other s p parts whole =
    never s p
    (subst (λ x. ParsesTest arch x s) (Tokens-unique us (token_texts ts) rest other (Tokens-with_spans len rest ts stream)) parts)
    whole
HasNoTest-if_no_tokens_or_no_parse arch (Some f) Q len rest ts stream never us other s p parts whole = stream.0 us other

-- If tokens start with none of the three quantifiers, there is none.
pub no_quantifier-if_other_word : (ts : TokenList)
    → begins_token (codes "~") ts ≡ false
    → ((rest : TokenList) → ts ≡ codes "exists" ∷ rest → ⊥)
    → ((rest : TokenList) → ts ≡ codes "forall" ∷ rest → ⊥)
    → ParsesNothing (Quantified ts)
no_quantifier-if_other_word ts no_tilde no_first no_second Exists rest f = no_first rest f
no_quantifier-if_other_word ts no_tilde no_first no_second NotExists rest f = not-token_is_next (codes "~") ts _ no_tilde f
no_quantifier-if_other_word ts no_tilde no_first no_second Forall rest f = no_second rest f

-- The site of a thread that does not exist is a register.
pub site_is_register-missing_thread : (site : MadeSite) (threads : ℕ)
    → thread_exists threads site ≡ false
    → (t r : ℕ) × (site ≡ made.Register t r) × (threads ≤ t)
site_is_register-missing_thread (made.Location loc) threads e = absurd cc
site_is_register-missing_thread (made.Register t r) threads e = (t, r, refl, ltb-false t threads e)

-- The block that was read into an empty table has room for its locations.
pub ReadsBlock-ParsedBlock : {arch : Arch} {before after : Cursor} {first table : NameTable} {es : List MadeInitializer}
    → first ≡ []
    → ParsedBlock arch before after first table es
    → ReadsBlock arch (remaining_texts before) (map (named_initializer table) es) (remaining_texts after)
ReadsBlock-ParsedBlock {table = table} {es} none block =
    let names = names_of_initializers table es (rw none at block.names_are) in
    (block.parsed, subst (λ (names : NameTable). length names ≤ most_locations) names block.bounded)
