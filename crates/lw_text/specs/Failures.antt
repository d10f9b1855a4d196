-- Where the tokens of a test fail to parse, and why. `FailsIn.. ts rest cause` means: the tokens of ts before rest begin such a phrase, and
-- the first token of rest does not continue it, for this cause. If rest is empty, the tokens end too early, and the cause means nothing.
use Rattle.std.specs.Prelude.{◌≡◌, ◌≢◌, ℕ, suc, ◌<◌, ◌≤◌, ◌⊎◌, ◌+◌, Bool, true, false, Option, Some, None, List, [], ◌∷◌, length, filter, codes}
use Rattle.std.specs.List.{AllByRecursion}
use Rattle.lw_base.specs.Limits.{most_nodes, most_rows, most_threads}
use Rattle.lw_base.specs.Names.{IsName, IsUnreservedName}
use Rattle.lw_base.specs.Registers.{IsRegisterName}
use Rattle.lw_base.specs.Types.{NameTable, Bytes, TokenList, Cells, CellGrid}
use Rattle.lw_base.specs.declared.head.Arch.{Arch}
use Rattle.lw_base.specs.declared.head.Quant.{Quant}
use Rattle.lw_text.specs.declared.fault.TextCause.{TextCause}
use Rattle.lw_text.specs.declared.fault.TextCause.TheVariants.{Unexpected, Name, Ragged, TooManyThreads, TooManyRows, TooManyLocations, Condition}
use Rattle.lw_text.specs.Combinators.{ParsesMany}
use Rattle.lw_text.specs.Propositions.{Terminal, Open, Close, Negation, Conjunction, Disjunction, Atom, is_node}
use Rattle.lw_text.specs.Conditions.{AtomSyntax, IsTerminal, Listed, Quantified, begins_token, sites_in}
use Rattle.lw_text.specs.Frames.{InitializerSyntax, IsInitializer, Block, sites_of}
use Rattle.lw_text.specs.Rows.{thread_name, begins_stop, Header, Row, RowCells, Rows}
use Rattle.lw_text.specs.Sites.{SiteSyntax, IsSite, ThreadExists, ThreadAllowed, InThread, HasRoomFor, HasRoomForName, Value, with_sites}
use Rattle.lw_text.specs.Tokens.{IsNumber}

-- There is no first token, or P holds of it.
abbrev pub IfFirst : (Bytes → Type 0) → TokenList → Type 0
IfFirst P [] = Unit {0}
IfFirst P (t ∷ ts) = P t

-- Parsing fails at once, for the cause c: the next token is none of these words.
abbrev pub FailsBefore : List Bytes → TextCause → TokenList → TokenList → TextCause → Type 0
FailsBefore words c ts rest cause = (ts ≡ rest) × IfFirst (λ t. AllByRecursion (λ w. t ≢ w) words × (cause ≡ c)) rest

-- The cause of a token that is not the name that is expected: `Name` if it is a name, and c otherwise.
abbrev pub IsMisfitCause : TextCause → Bytes → TextCause → Type 0
IsMisfitCause c t cause = (IsName t × (cause ≡ Name)) ⊎ ((IsName t → ⊥) × (cause ≡ c))

-- ---- Sites.

-- The token is not the name of a location, or it is that of a ninth; the cause says which.
abbrev pub IsNoNewLocation : TextCause → NameTable → Bytes → TextCause → Type 0
IsNoNewLocation c names t cause =
    ((IsUnreservedName t → ⊥) × IsMisfitCause c t cause)
    ⊎ (IsUnreservedName t × (HasRoomForName names t → ⊥) × (cause ≡ TooManyLocations))

-- Where the name of a location is expected, the next token is none, or it is that of a ninth.
abbrev pub FailsInName : NameTable → TextCause → TokenList → TokenList → TextCause → Type 0
FailsInName names c ts rest cause = (ts ≡ rest) × IfFirst (λ t. IsNoNewLocation c names t cause) rest

-- After a `[`, the name of a location fails, or no `]` follows it.
pub data FailsInBrackets (names : NameTable) (c : TextCause) (ts rest : TokenList) (cause : TextCause) : Type 0 where
  in_bracketed_name : FailsInName names c ts rest cause → FailsInBrackets names c ts rest cause
  no_bracket : {x : Bytes} {mid : TokenList} → ts ≡ x ∷ mid → IsUnreservedName x → HasRoomForName names x → FailsBefore (codes "]" ∷ []) c mid rest cause
      → FailsInBrackets names c ts rest cause

-- After the number of a thread, no `:` follows, or no name of a register after it.
pub data FailsInRegister (arch : Arch) (c : TextCause) (ts rest : TokenList) (cause : TextCause) : Type 0 where
  no_colon : FailsBefore (codes ":" ∷ []) c ts rest cause → FailsInRegister arch c ts rest cause
  no_register_name : ts ≡ codes ":" ∷ rest → IfFirst (λ q. ((r : ℕ) → IsRegisterName arch q r → ⊥) × IsMisfitCause c q cause) rest
      → FailsInRegister arch c ts rest cause

-- A site fails: without `[` and number, in the name of a location; after a `[`; at the number of a thread that does not exist; or after
-- the number of one.
pub data FailsInSite
    (arch : Arch) (threads : Option ℕ) (names : NameTable) (c : TextCause) (ts rest : TokenList) (cause : TextCause) : Type 0 where
  in_name : IfFirst (λ t. (t ≢ codes "[") × ((n : ℕ) → IsNumber t n → ⊥)) ts → FailsInName names c ts rest cause
      → FailsInSite arch threads names c ts rest cause
  in_brackets : {inside : TokenList} → ts ≡ codes "[" ∷ inside → FailsInBrackets names c inside rest cause
      → FailsInSite arch threads names c ts rest cause
  no_thread : (p : Bytes) (t : ℕ) {after : TokenList} → ts ≡ p ∷ after → ts ≡ rest → IsNumber p t
      → ((r : ℕ) → ThreadAllowed threads (InThread t r) → ⊥) → cause ≡ Name → FailsInSite arch threads names c ts rest cause
  in_register : (p : Bytes) (t : ℕ) {after : TokenList} → ts ≡ p ∷ after → IsNumber p t → ((r : ℕ) → ThreadAllowed threads (InThread t r))
      → FailsInRegister arch c after rest cause → FailsInSite arch threads names c ts rest cause

-- No `=` follows, or no number after it.
pub data FailsInValue (c : TextCause) (ts rest : TokenList) (cause : TextCause) : Type 0 where
  no_equals : FailsBefore (codes "=" ∷ []) c ts rest cause → FailsInValue c ts rest cause
  no_number : ts ≡ codes "=" ∷ rest → IfFirst (λ w. ((n : ℕ) → IsNumber w n → ⊥) × (cause ≡ c)) rest → FailsInValue c ts rest cause

-- A site with its word fails: the site, or its value.
pub data FailsInAssignment
    (arch : Arch) (threads : Option ℕ) (names : NameTable) (c : TextCause) (ts rest : TokenList) (cause : TextCause) : Type 0 where
  in_site : FailsInSite arch threads names c ts rest cause → FailsInAssignment arch threads names c ts rest cause
  in_value : (site : SiteSyntax) {mid : TokenList} → IsSite arch ts site mid → ThreadAllowed threads site → HasRoomFor names (site ∷ [])
      → FailsInValue c mid rest cause → FailsInAssignment arch threads names c ts rest cause

-- Elements fail, each of which names a site and is followed by a `;`, which is optional after the last, and then `close`: an
-- element fails; or neither a `;` nor `close` follows it; or what follows it and its `;` fails.
pub data FailsInElements {X : Type 0}
    (Parses : TokenList → X → TokenList → Type 0) (site_by : X → SiteSyntax) (Way : NameTable → TokenList → TokenList → TextCause → Type 0)
    (close : Bytes) (c : TextCause) (rest : TokenList) (cause : TextCause) : NameTable → TokenList → Type 0 where
  in_element : {names : NameTable} {ts : TokenList} → begins_token close ts ≡ false → Way names ts rest cause
      → FailsInElements Parses site_by Way close c rest cause names ts
  no_separator : {names : NameTable} {ts mid : TokenList} {x : X} → begins_token close ts ≡ false → Parses ts x mid
      → HasRoomFor names (site_by x ∷ []) → FailsBefore (close ∷ codes ";" ∷ []) c mid rest cause → FailsInElements Parses site_by Way close c rest cause names ts
  in_elements_after : {names : NameTable} {ts next : TokenList} {x : X} → begins_token close ts ≡ false → Parses ts x (codes ";" ∷ next)
      → HasRoomFor names (site_by x ∷ []) → FailsInElements Parses site_by Way close c rest cause (with_sites names (site_by x ∷ [])) next
      → FailsInElements Parses site_by Way close c rest cause names ts

-- The initializers of a block fail: one of them, or what follows one, which is neither `;` nor `}`.
abbrev pub FailsInInitializers : Arch → TokenList → TextCause → NameTable → TokenList → Type 0
FailsInInitializers arch rest cause names ts =
    FailsInElements (IsInitializer arch) (λ e. e.site) (λ names. FailsInAssignment arch None names Unexpected) (codes "}") Unexpected
    rest cause names ts

-- The initial block fails: it does not begin with `{`, or its initializers fail.
pub data FailsInBlock (arch : Arch) (names : NameTable) (ts rest : TokenList) (cause : TextCause) : Type 0 where
  no_brace : FailsBefore (codes "{" ∷ []) Unexpected ts rest cause → FailsInBlock arch names ts rest cause
  in_initializers : {inside : TokenList} → ts ≡ codes "{" ∷ inside → FailsInInitializers arch rest cause names inside
      → FailsInBlock arch names ts rest cause

-- The sites of the list of names fail: one of them, or what follows one, which is neither `;` nor `]`.
abbrev pub FailsInSites : Arch → ℕ → TokenList → TextCause → NameTable → TokenList → Type 0
FailsInSites arch threads rest cause names ts =
    FailsInElements (λ ts site mid. IsSite arch ts site mid × ThreadExists threads site) (λ site. site)
    (λ names. FailsInSite arch (Some threads) names Condition) (codes "]") Condition rest cause names ts

-- The list of names fails: no `[` follows `locations`, or the sites fail.
pub data FailsInList (arch : Arch) (threads : ℕ) (names : NameTable) (ts rest : TokenList) (cause : TextCause) : Type 0 where
  no_list_bracket : {after : TokenList} → ts ≡ codes "locations" ∷ after → FailsBefore (codes "[" ∷ []) Condition after rest cause
      → FailsInList arch threads names ts rest cause
  in_sites : {inside : TokenList} → ts ≡ codes "locations" ∷ codes "[" ∷ inside → FailsInSites arch threads rest cause names inside
      → FailsInList arch threads names ts rest cause

-- ---- The header and the rows.

-- The header fails, from the thread with this index on: its name is not next; or neither `;` nor `|` follows it; or the header fails after
-- it and a `|`; or four threads precede it, and the cause says whether a fifth is next.
pub data FailsInHeader (rest : TokenList) (cause : TextCause) : ℕ → TokenList → Type 0 where
  no_thread_name : {k : ℕ} {ts : TokenList} → k < most_threads → FailsBefore (thread_name k ∷ []) Unexpected ts rest cause
      → FailsInHeader rest cause k ts
  no_thread_separator : {k : ℕ} {ts mid : TokenList} → k < most_threads → ts ≡ thread_name k ∷ mid
      → FailsBefore (codes ";" ∷ codes "|" ∷ []) Unexpected mid rest cause → FailsInHeader rest cause k ts
  in_next_thread : {k : ℕ} {ts next : TokenList} → k < most_threads → ts ≡ thread_name k ∷ codes "|" ∷ next → FailsInHeader rest cause (suc k) next
      → FailsInHeader rest cause k ts
  too_many_threads : {k : ℕ} {ts : TokenList} → k ≡ most_threads → ts ≡ rest
      → IfFirst (λ t. ((t ≡ thread_name most_threads) × (cause ≡ TooManyThreads)) ⊎ ((t ≢ thread_name most_threads) × (cause ≡ Unexpected))) rest
      → FailsInHeader rest cause k ts

-- A row fails: the tokens end in it, or it ends at a `;` with too few or too many cells.
pub data FailsInRow (threads : ℕ) (ts rest : TokenList) (cause : TextCause) : Type 0 where
  no_end : rest ≡ [] → ((cells : Cells) (after : TokenList) → RowCells ts cells after → ⊥) → FailsInRow threads ts rest cause
  ragged : (cells : Cells) {after : TokenList} → RowCells ts cells after → rest ≡ codes ";" ∷ after → length cells ≢ threads → cause ≡ Ragged
      → FailsInRow threads ts rest cause

-- The rows fail, after this number of them: 64 precede the next; or the next fails; or the rows fail after it.
pub data FailsInRows (threads : ℕ) (rest : TokenList) (cause : TextCause) : ℕ → TokenList → Type 0 where
  too_many_rows : {k : ℕ} {ts : TokenList} → k ≡ most_rows → begins_stop ts ≡ false → ts ≡ rest → cause ≡ TooManyRows
      → FailsInRows threads rest cause k ts
  in_row : {k : ℕ} {ts : TokenList} → k < most_rows → begins_stop ts ≡ false → FailsInRow threads ts rest cause
      → FailsInRows threads rest cause k ts
  in_rows_after : {k : ℕ} {ts next : TokenList} (cells : Cells) → k < most_rows → begins_stop ts ≡ false → Row threads ts cells next
      → FailsInRows threads rest cause (suc k) next → FailsInRows threads rest cause k ts

-- ---- The quantifier and the proposition.

-- The quantifier fails: none is next, or no `exists` follows the `~`.
pub data FailsInQuantifier (ts rest : TokenList) (cause : TextCause) : Type 0 where
  no_quantifier : FailsBefore (codes "~" ∷ codes "exists" ∷ codes "forall" ∷ []) Condition ts rest cause → FailsInQuantifier ts rest cause
  no_exists : {mid : TokenList} → ts ≡ codes "~" ∷ mid → FailsBefore (codes "exists" ∷ []) Condition mid rest cause
      → FailsInQuantifier ts rest cause

-- A place in a proposition: whether a part must begin there, and the number of parentheses that are open.
abbrev pub PropositionPlace : Type 0
PropositionPlace = Bool × ℕ

-- The place before a proposition.
abbrev pub first_place : PropositionPlace
first_place = (true, 0)

-- The place after a terminal, or `None` if the terminal is not possible.
abbrev pub next_place : {A : Type 0} → PropositionPlace → Terminal A → Option PropositionPlace
next_place (true, n) Open = Some (true, suc n)
next_place (true, n) Negation = Some (true, n)
next_place (true, n) (Atom a) = Some (false, n)
next_place (false, suc n) Close = Some (false, n)
next_place (false, n) Conjunction = Some (true, n)
next_place (false, n) Disjunction = Some (true, n)
next_place _ _ = None

-- The words and signs that begin a part of a proposition.
abbrev pub opening_words : List Bytes
opening_words = codes "(" ∷ codes "~" ∷ codes "not" ∷ codes "true" ∷ codes "false" ∷ []

-- A terminal fails: one that begins a part is expected, and the next token is no word for it, and begins no atom; or one that follows a
-- part is expected, and the next token is none.
abbrev pub FailsInTerminal : Arch → ℕ → Bool → NameTable → TokenList → TokenList → TextCause → Type 0
FailsInTerminal arch threads true names ts rest cause =
    IfFirst (λ t. AllByRecursion (λ w. t ≢ w) opening_words) ts × FailsInAssignment arch (Some threads) names Condition ts rest cause
FailsInTerminal arch threads false names ts rest cause =
    FailsBefore (codes ")" ∷ codes "/\\" ∷ codes "\\/" ∷ []) Condition ts rest cause

-- There is room for one more node, or a parenthesis is next.
abbrev pub HasRoomForNode : ℕ → TokenList → Type 0
HasRoomForNode nodes ts = nodes ≡ most_nodes → IfFirst (λ t. (t ≡ codes "(") ⊎ (t ≡ codes ")")) ts

-- The proposition fails, at a place, after this number of nodes: the tokens end, and it is not complete; 256 nodes precede what is no
-- parenthesis; a terminal fails; a `)` closes nothing; or the proposition fails after a terminal.
pub data FailsInProposition (arch : Arch) (threads : ℕ) (rest : TokenList) (cause : TextCause)
    : PropositionPlace → ℕ → NameTable → TokenList → Type 0 where
  incomplete : {place : PropositionPlace} {nodes : ℕ} {names : NameTable} {ts : TokenList} → place ≢ (false, 0) → ts ≡ [] → rest ≡ []
      → FailsInProposition arch threads rest cause place nodes names ts
  too_many_nodes : {place : PropositionPlace} {nodes : ℕ} {names : NameTable} {ts : TokenList} → ts ≢ [] → nodes ≡ most_nodes → ts ≡ rest
      → IfFirst (λ t. AllByRecursion (λ w. t ≢ w) (codes "(" ∷ codes ")" ∷ [])) rest → cause ≡ Condition
      → FailsInProposition arch threads rest cause place nodes names ts
  in_terminal : {place : PropositionPlace} {nodes : ℕ} {names : NameTable} {ts : TokenList} → ts ≢ [] → HasRoomForNode nodes ts
      → FailsInTerminal arch threads place.0 names ts rest cause
      → FailsInProposition arch threads rest cause place nodes names ts
  unopened : {place : PropositionPlace} {nodes : ℕ} {names : NameTable} {ts after : TokenList} → place ≡ (false, 0) → ts ≡ codes ")" ∷ after
      → ts ≡ rest → cause ≡ Condition → FailsInProposition arch threads rest cause place nodes names ts
  after_terminal : {place : PropositionPlace} {nodes : ℕ} {names : NameTable} {ts : TokenList} (s : Terminal AtomSyntax) (mid : TokenList)
      (next : PropositionPlace) → HasRoomForNode nodes ts → IsTerminal arch threads ts s mid → HasRoomFor names (sites_in (s ∷ []))
      → next_place place s ≡ Some next
      → FailsInProposition arch threads rest cause next (nodes + length (filter is_node (s ∷ []))) (with_sites names (sites_in (s ∷ []))) mid
      → FailsInProposition arch threads rest cause place nodes names ts

-- The question fails: its list of names, its quantifier or its proposition.
pub data FailsInQuestion (arch : Arch) (threads : ℕ) (names : NameTable) (ts rest : TokenList) (cause : TextCause) : Type 0 where
  in_list : FailsInList arch threads names ts rest cause → FailsInQuestion arch threads names ts rest cause
  in_quantifier : (listed : List SiteSyntax) {mid : TokenList} → Listed arch ts listed mid → AllByRecursion (ThreadExists threads) listed
      → HasRoomFor names listed → FailsInQuantifier mid rest cause
      → FailsInQuestion arch threads names ts rest cause
  in_proposition : (listed : List SiteSyntax) (quant : Quant) {mid after : TokenList} → Listed arch ts listed mid → AllByRecursion (ThreadExists threads) listed
      → HasRoomFor names listed → Quantified mid quant after
      → FailsInProposition arch threads rest cause first_place 0 (with_sites names listed) after
      → FailsInQuestion arch threads names ts rest cause

-- ---- The whole.

-- The initial block is these initializers, and a table has room for their locations.
abbrev pub ReadsBlock : Arch → TokenList → List InitializerSyntax → TokenList → Type 0
ReadsBlock arch ts es rest = Block arch ts es rest × HasRoomFor [] (sites_of es)

-- The tokens begin with a block and a header.
pub record ReadsHeader (arch : Arch) (ts : TokenList) : Type 0 where
  pub initializers : List InitializerSyntax
  pub after_block : TokenList
  pub threads : ℕ
  pub after_header : TokenList
  pub block : ReadsBlock arch ts initializers after_block
  pub header : Header after_block threads after_header

-- The thread of each of these initializers exists, if it is of a register.
abbrev pub HaveThreads : ℕ → List InitializerSyntax → Type 0
HaveThreads threads es = AllByRecursion (λ e. ThreadExists threads e.site) es

-- `rest` begins with the first initializer of a register whose thread does not exist.
pub record HasMissingThread (arch : Arch) (ts rest : TokenList) (threads : ℕ) : Type 0 where
  pub inside : TokenList
  pub earlier : List InitializerSyntax
  pub thread : ℕ
  pub register : ℕ
  pub word : ℕ
  pub after : TokenList
  pub opens : ts ≡ codes "{" ∷ inside
  pub read : ParsesMany (λ ts e next. IsInitializer arch ts e (codes ";" ∷ next)) inside earlier rest
  pub earlier_exist : HaveThreads threads earlier
  pub first : IsInitializer arch rest (record { site = InThread thread register; word = word }) after
  pub missing : threads ≤ thread

-- The tokens fail to be a test's: its block; its header; the first initializer whose thread does not exist; its rows; or its question.
pub data FailsInTest (arch : Arch) (ts rest : TokenList) (cause : TextCause) : Type 0 where
  in_block : FailsInBlock arch [] ts rest cause → FailsInTest arch ts rest cause
  in_header : (es : List InitializerSyntax) (after : TokenList) → ReadsBlock arch ts es after → FailsInHeader rest cause 0 after
      → FailsInTest arch ts rest cause
  no_such_thread : (h : ReadsHeader arch ts) → HasMissingThread arch ts rest h.threads → cause ≡ Name → FailsInTest arch ts rest cause
  in_rows : (h : ReadsHeader arch ts) → HaveThreads h.threads h.initializers → FailsInRows h.threads rest cause 0 h.after_header
      → FailsInTest arch ts rest cause
  in_question : (h : ReadsHeader arch ts) (rows : CellGrid) (after : TokenList) → HaveThreads h.threads h.initializers
      → Rows h.threads h.after_header rows after
      → FailsInQuestion arch h.threads (with_sites [] (sites_of h.initializers)) after rest cause → FailsInTest arch ts rest cause
