-- Tokens fail to be a test at one place only, and for one cause: lists of sites, the header, the rows, the
-- condition, and the whole. A step of the law that a text fails at one place (OneFault).
use Rattle.lw_text.proofs.Common.{most_threads, most_rows, most_locations, cons-head_eq, ◌≡◌, ◌≢◌, ◌⊎◌, ℕ}
use Rattle.lw_text.proofs.Common.{zero, suc, ◌+◌, ◌<◌, ◌≤◌, Option, None, Some, List, [], ◌∷◌, length, map}
use Rattle.lw_text.proofs.Common.{filter, map-id, Bool, true, false, refl, sym, ap, ◌∙◌, subst, inl, inr}
use Rattle.lw_text.proofs.Common.{arith, codes, bytes_eq, begins_token, begins_stop, AllByRecursion, Arch}
use Rattle.lw_text.proofs.Common.{Bytes, NameTable, TokenList, Cells, CellGrid, Quant, Exists, NotExists}
use Rattle.lw_text.proofs.Common.{Forall, InitializerSyntax, IsInitializer, IsSite, SiteSyntax, InThread}
use Rattle.lw_text.proofs.Common.{ThreadExists, ThreadAllowed, HasRoomFor, site_names, with_sites}
use Rattle.lw_text.proofs.Common.{length_le-insert_names, sites_of, Block, Header, Names, Row, RowCells, Rows}
use Rattle.lw_text.proofs.Common.{Listed, Quantified, thread_name, Terminal, Open, Close, Negation}
use Rattle.lw_text.proofs.Common.{Conjunction, Disjunction, Atom, AtomSyntax, Always, Never, Holds}
use Rattle.lw_text.proofs.Common.{IsTerminal, is_node, sites_in, ParsesMany, ParsesManyTill, ParsesSepBy}
use Rattle.lw_text.proofs.Common.{ParsesSepEndBy, Value, IfFirst, FailsBefore, FailsInAssignment, FailsInSite}
use Rattle.lw_text.proofs.Common.{FailsInElements, in_element, no_separator, in_elements_after}
use Rattle.lw_text.proofs.Common.{FailsInInitializers, FailsInBlock, no_brace, in_initializers, FailsInSites}
use Rattle.lw_text.proofs.Common.{FailsInList, no_list_bracket, in_sites, FailsInHeader, no_thread_name}
use Rattle.lw_text.proofs.Common.{no_thread_separator, in_next_thread, too_many_threads, FailsInRow, no_end}
use Rattle.lw_text.proofs.Common.{ragged, FailsInRows, too_many_rows, in_row, in_rows_after}
use Rattle.lw_text.proofs.Common.{FailsInQuantifier, no_quantifier, no_exists, TextCause, Unexpected}
use Rattle.lw_text.proofs.Common.{Condition, TooManyThreads}
use Rattle.lw_text.proofs.SitesAndValues.{IsSite-unique, IsInitializer-unique, IsSite-shorter, brace, bracket}
use Rattle.lw_text.proofs.SitesAndValues.{semicolon}
use Rattle.lw_text.proofs.Cells.{Cell-exact, Row-unique, Rows-unique}
use Rattle.lw_text.proofs.Failures.{cons-tail_unique}
use Rattle.lw_text.proofs.FailureUniqueness.{IsSameFailure, FailsUniquely, IfFirst-cons_inv}
use Rattle.lw_text.proofs.FailureUniqueness.{FailsUniquely-at_first_token, FailsBefore-unique}
use Rattle.lw_text.proofs.FailureUniqueness.{not-FailsBefore-if_parsed, FailsInSite-unique}
use Rattle.lw_text.proofs.FailureUniqueness.{not-FailsInSite-if_parsed, FailsInAssignment-unique}
use Rattle.lw_text.proofs.FailureUniqueness.{not-FailsInAssignment-if_parsed}
use Rattle.lw_text.proofs.Headers.{Names-unique}
use Rattle.lw_text.proofs.Lists.{IsDeterministic, ParsesSepBy-unique}
use Rattle.lw_text.proofs.Readings.{with_sites-append}
use Rattle.lw_text.proofs.SiteLists.{Block-unique, Listed-unique, HasRoomFor-map_same}
use Rattle.lw_text.proofs.TerminalLists.{IsTerminal-unique, IsTerminal-shorter}
use Rattle.lw_text.proofs.Texts.{not-equal-if_bytes_differ, not-bar_is_semicolon, not-token_is_next}
use Rattle.lw_text.proofs.Whole.{Quantified-unique}
use Rattle.lw_text.specs.Rows.{Cell}

-- ---- Lists of elements with sites.

module _ {X : Type 0} (Parses : TokenList → X → TokenList → Type 0) (site_by : X → SiteSyntax)
    (Way : NameTable → TokenList → TokenList → TextCause → Type 0) (close : Bytes) (c : TextCause) (one : IsDeterministic Parses)
    (way_one : (names : NameTable) → FailsUniquely (Way names))
    (way_not : (names : NameTable) (ts rest mid : TokenList) (cause : TextCause) (x : X)
    → Way names ts rest cause
    → Parses ts x mid
    → HasRoomFor names (site_by x ∷ [])
    → ⊥) (apart : codes ";" ≡ close → ⊥) where
  -- Elements fail at one place only, and for one cause.
  FailsInElements-unique : (r s : TokenList) (d e : TextCause) (names : NameTable) (ts : TokenList)
      → FailsInElements Parses site_by Way close c r d names ts
      → FailsInElements Parses site_by Way close c s e names ts
      → IsSameFailure r d s e
  FailsInElements-unique r s d e names ts (in_element go p) (in_element too q) = way_one names ts r s d e p q
  FailsInElements-unique r s d e names ts (in_element go p) (no_separator {x = x} too is room q) =
      absurd (way_not names ts r _ d x p is room)
  FailsInElements-unique r s d e names ts (in_element go p) (in_elements_after {x = x} too is room q) =
      absurd (way_not names ts r _ d x p is room)
  FailsInElements-unique r s d e names ts (no_separator {x = x} go is room p) (in_element too q) =
      absurd (way_not names ts s _ e x q is room)
  FailsInElements-unique r s d e names ts (no_separator {mid = mid} {x = x} go is room p) (no_separator {mid = other} {x = y} too also has q) =
      FailsBefore-unique (close ∷ codes ";" ∷ []) c mid r s d e p
      (subst (λ l. FailsBefore (close ∷ codes ";" ∷ []) c l s e) (sym (one ts x y mid other is also).1) q)
  FailsInElements-unique r s d e names ts (no_separator {mid = mid} {x = x} go is room p) (in_elements_after {next = next} {x = y} too also has q) =
      absurd (not-FailsBefore-if_parsed (close ∷ codes ";" ∷ []) c mid r next d (codes ";") p
      (one ts x y mid (codes ";" ∷ next) is also).1 (λ all. all.1.0 refl))
  FailsInElements-unique r s d e names ts (in_elements_after {x = x} go is room p) (in_element too q) =
      absurd (way_not names ts s _ e x q is room)
  FailsInElements-unique r s d e names ts (in_elements_after {next = next} {x = x} go is room p) (no_separator {mid = mid} {x = y} too also has q) =
      absurd (not-FailsBefore-if_parsed (close ∷ codes ";" ∷ []) c mid s next e (codes ";") q
      (one ts y x mid (codes ";" ∷ next) also is).1 (λ all. all.1.0 refl))
  FailsInElements-unique r s d e names ts (in_elements_after {next = next} {x = x} go is room p) (in_elements_after {next = other} {x = y} too also has q) =
      let same = one ts x y (codes ";" ∷ next) (codes ";" ∷ other) is also in
      FailsInElements-unique r s d e (with_sites names (site_by x ∷ [])) next p
      (subst (λ (y : X). FailsInElements Parses site_by Way close c s e (with_sites names (site_by y ∷ [])) next) (sym same.0)
      (subst (FailsInElements Parses site_by Way close c s e (with_sites names (site_by y ∷ []))) (sym (cons-tail_unique same.1))
      q))

  -- A table with room for sites has room for the first.
  HasRoomFor-first : (names : NameTable) (x : SiteSyntax) (sites : List SiteSyntax)
      → HasRoomFor names (x ∷ sites)
      → HasRoomFor names (x ∷ [])
  HasRoomFor-first names x sites room = omega (
    arith,
    room,
    ap length (with_sites-append names (x ∷ []) sites),
    length_le-insert_names (with_sites names (x ∷ [])) (site_names sites),
  )

  -- Tokens that begin with a closed list of elements, whose locations have room, do not satisfy `FailsInElements`.
  not-FailsInElements-if_parsed : (rest : TokenList) (cause : TextCause) (names : NameTable) (ts after : TokenList) (xs : List X)
      → FailsInElements Parses site_by Way close c rest cause names ts
      → ParsesSepEndBy Parses (codes ";") close ts xs after
      → HasRoomFor names (map site_by xs)
      → ⊥
  not-FailsInElements-if_parsed rest cause names ts after [] (in_element go p) is room = not-token_is_next close ts after go is
  not-FailsInElements-if_parsed rest cause names ts after [] (no_separator go also has p) is room =
      not-token_is_next close ts after go is
  not-FailsInElements-if_parsed rest cause names ts after [] (in_elements_after go also has p) is room =
      not-token_is_next close ts after go is
  not-FailsInElements-if_parsed rest cause names ts after (x ∷ xs) (in_element go p) is room =
      way_not names ts rest is.0 cause x p is.1 (HasRoomFor-first names (site_by x) (map site_by xs) room)
  not-FailsInElements-if_parsed rest cause names ts after (x ∷ xs) (no_separator {mid = mid} {x = y} go also has p) is room =
      let same = (one ts y x mid is.0 also is.1).1 in
      elim is.2 [
        | inl end ↦
            not-FailsBefore-if_parsed (close ∷ codes ";" ∷ []) c mid rest after cause close p (same ∙ end.1) (λ all. all.0 refl)
        | inr more ↦
            not-FailsBefore-if_parsed (close ∷ codes ";" ∷ []) c mid rest more.0 cause (codes ";") p (same ∙ more.1)
            (λ all. all.1.0 refl)
      ]
  not-FailsInElements-if_parsed rest cause names ts after (x ∷ xs) (in_elements_after {next = next} {x = y} go also has p) is room =
      let same = one ts y x (codes ";" ∷ next) is.0 also is.1 in
      elim is.2 [
        | inl end ↦ apart (cons-head_eq _ _ _ _ (same.1 ∙ end.1))
        | inr more ↦
            not-FailsInElements-if_parsed rest cause (with_sites names (site_by x ∷ [])) next after xs
            (subst (λ (y : X). FailsInElements Parses site_by Way close c rest cause (with_sites names (site_by y ∷ [])) next)
            same.0 p)
            (subst (λ l. ParsesSepEndBy Parses (codes ";") close l xs after) (sym (cons-tail_unique (same.1 ∙ more.1))) more.2)
            (subst (λ (table : NameTable). length table ≤ most_locations)
            (with_sites-append names (site_by x ∷ []) (map site_by xs)) room)
      ]

-- ---- The initial block.

-- Tokens that begin with an initializer whose location has room do not satisfy `FailsInAssignment`.
not-FailsInAssignment-if_initializer : (arch : Arch) (names : NameTable) (ts rest after : TokenList) (cause : TextCause)
    (e : InitializerSyntax)
    → FailsInAssignment arch None names Unexpected ts rest cause
    → IsInitializer arch ts e after
    → HasRoomFor names (e.site ∷ [])
    → ⊥
not-FailsInAssignment-if_initializer arch names ts rest after cause e fails is room =
    not-FailsInAssignment-if_parsed arch None names Unexpected ts rest is.0 after cause e.site e.word fails is.1
    (ThreadAllowed-None e.site) room is.2
  where
    -- While the number of threads is not known, each thread is allowed.
    ThreadAllowed-None : (site : SiteSyntax) → ThreadAllowed None site
    ThreadAllowed-None site = tt

-- A `;` is no brace.
not-semicolon_is_brace : codes ";" ≡ codes "}" → ⊥
not-semicolon_is_brace = not-equal-if_bytes_differ (codes ";") (codes "}") refl

-- A `;` is no bracket.
not-semicolon_is_bracket : codes ";" ≡ codes "]" → ⊥
not-semicolon_is_bracket = not-equal-if_bytes_differ (codes ";") (codes "]") refl

module _ (arch : Arch) (names : NameTable) where
  -- The initial block fails at one place only, and for one cause.
  pub FailsInBlock-unique : FailsUniquely (FailsInBlock arch names)
  FailsInBlock-unique ts r s d e (no_brace p) (no_brace q) = FailsBefore-unique (codes "{" ∷ []) Unexpected ts r s d e p q
  FailsInBlock-unique ts r s d e (no_brace p) (in_initializers begins q) =
      absurd (not-FailsBefore-if_parsed (codes "{" ∷ []) Unexpected ts r _ d (codes "{") p begins (λ all. all.0 refl))
  FailsInBlock-unique ts r s d e (in_initializers begins p) (no_brace q) =
      absurd (not-FailsBefore-if_parsed (codes "{" ∷ []) Unexpected ts s _ e (codes "{") q begins (λ all. all.0 refl))
  FailsInBlock-unique ts r s d e (in_initializers {inside = inside} begins p) (in_initializers again q) =
      FailsInElements-unique (IsInitializer arch) (λ e. e.site) (λ names. FailsInAssignment arch None names Unexpected)
      (codes "}") Unexpected (IsInitializer-unique arch) (λ names. FailsInAssignment-unique arch None names Unexpected)
      (not-FailsInAssignment-if_initializer arch) not-semicolon_is_brace r s d e names inside p
      (subst (FailsInInitializers arch s e names) (sym (cons-tail_unique (sym begins ∙ again))) q)

  -- A block that has room for its locations does not fail.
  pub not-FailsInBlock-if_parsed : (ts rest after : TokenList) (cause : TextCause) (es : List InitializerSyntax)
      → FailsInBlock arch names ts rest cause
      → Block arch ts es after
      → HasRoomFor names (sites_of es)
      → ⊥
  not-FailsInBlock-if_parsed ts rest after cause es (no_brace p) is room =
      not-FailsBefore-if_parsed (codes "{" ∷ []) Unexpected ts rest is.0 cause (codes "{") p is.1 (λ all. all.0 refl)
  not-FailsInBlock-if_parsed ts rest after cause es (in_initializers {inside = inside} begins p) is room =
      not-FailsInElements-if_parsed (IsInitializer arch) (λ e. e.site) (λ names. FailsInAssignment arch None names Unexpected)
      (codes "}") Unexpected (IsInitializer-unique arch) (λ names. FailsInAssignment-unique arch None names Unexpected)
      (not-FailsInAssignment-if_initializer arch) not-semicolon_is_brace rest cause names inside after es p
      (subst (λ l. ParsesSepEndBy (IsInitializer arch) (codes ";") (codes "}") l es after)
      (sym (cons-tail_unique (sym begins ∙ is.1))) is.2) room

-- ---- The list of names.

module _ (arch : Arch) (threads : ℕ) where
  -- A site of a thread that exists.
  abbrev IsListed : TokenList → SiteSyntax → TokenList → Type 0
  IsListed ts site mid = IsSite arch ts site mid × ThreadExists threads site

  -- The parse of a listed site is unique.
  IsListed-unique : IsDeterministic IsListed
  IsListed-unique ts x y r s p q = IsSite-unique arch ts x y r s p.0 q.0

  -- A listed site for which there is room does not fail.
  not-FailsInSite-if_listed : (names : NameTable) (ts rest mid : TokenList) (cause : TextCause) (site : SiteSyntax)
      → FailsInSite arch (Some threads) names Condition ts rest cause
      → IsListed ts site mid
      → HasRoomFor names (site ∷ [])
      → ⊥
  not-FailsInSite-if_listed names ts rest mid cause site fails is room =
      not-FailsInSite-if_parsed arch (Some threads) names Condition ts rest mid cause site fails is.0 is.1 room

  -- Sites whose threads exist are listed.
  IsListed-all : (ts after : TokenList) (sites : List SiteSyntax)
      → ParsesSepEndBy (IsSite arch) (codes ";") (codes "]") ts sites after
      → AllByRecursion (ThreadExists threads) sites
      → ParsesSepEndBy IsListed (codes ";") (codes "]") ts sites after
  IsListed-all ts after [] is all = is
  IsListed-all ts after (x ∷ sites) is all = (
    is.0,
    (is.1, all.0),
    elim is.2 [ inl end ↦ inl end | inr more ↦ inr (more.0, more.1, IsListed-all more.0 after sites more.2 all.1) ],
  )

  module _ (names : NameTable) where
    -- The list of names fails at one place only, and for one cause.
    pub FailsInList-unique : FailsUniquely (FailsInList arch threads names)
    FailsInList-unique ts r s d e (no_list_bracket {after = after} begins p) (no_list_bracket again q) =
        FailsBefore-unique (codes "[" ∷ []) Condition after r s d e p
        (subst (λ l. FailsBefore (codes "[" ∷ []) Condition l s e) (sym (cons-tail_unique (sym begins ∙ again))) q)
    FailsInList-unique ts r s d e (no_list_bracket begins p) (in_sites again q) =
        absurd (not-FailsBefore-if_parsed (codes "[" ∷ []) Condition _ r _ d (codes "[") p (cons-tail_unique (sym begins ∙ again))
        (λ all. all.0 refl))
    FailsInList-unique ts r s d e (in_sites begins p) (no_list_bracket again q) =
        absurd (not-FailsBefore-if_parsed (codes "[" ∷ []) Condition _ s _ e (codes "[") q (cons-tail_unique (sym again ∙ begins))
        (λ all. all.0 refl))
    FailsInList-unique ts r s d e (in_sites {inside = inside} begins p) (in_sites again q) =
        FailsInElements-unique IsListed (λ site. site) (λ names. FailsInSite arch (Some threads) names Condition) (codes "]")
        Condition IsListed-unique (λ names. FailsInSite-unique arch (Some threads) names Condition) not-FailsInSite-if_listed
        not-semicolon_is_bracket r s d e names inside p
        (subst (FailsInSites arch threads s e names) (sym (cons-tail_unique (cons-tail_unique (sym begins ∙ again)))) q)

    -- A list on threads that exist, which has room for its locations, does not fail.
    pub not-FailsInList-if_parsed : (ts rest after : TokenList) (cause : TextCause) (sites : List SiteSyntax)
        → FailsInList arch threads names ts rest cause
        → Listed arch ts sites after
        → AllByRecursion (ThreadExists threads) sites
        → HasRoomFor names sites
        → ⊥
    not-FailsInList-if_parsed ts rest after cause sites (no_list_bracket begins p) (inl is) all room =
        not-FailsBefore-if_parsed (codes "[" ∷ []) Condition _ rest is.0 cause (codes "[") p
        (cons-tail_unique (sym begins ∙ is.1)) (λ all. all.0 refl)
    not-FailsInList-if_parsed ts rest after cause sites (no_list_bracket begins p) (inr is) all room =
        not-token_is_next (codes "locations") ts _ is.0 begins
    not-FailsInList-if_parsed ts rest after cause sites (in_sites {inside = inside} begins p) (inl is) all room =
        not-FailsInElements-if_parsed IsListed (λ site. site) (λ names. FailsInSite arch (Some threads) names Condition)
        (codes "]") Condition IsListed-unique (λ names. FailsInSite-unique arch (Some threads) names Condition)
        not-FailsInSite-if_listed not-semicolon_is_bracket rest cause names inside after sites p
        (subst (λ l. ParsesSepEndBy IsListed (codes ";") (codes "]") l sites after)
        (sym (cons-tail_unique (cons-tail_unique (sym begins ∙ is.1)))) (IsListed-all is.0 after sites is.2 all))
        (HasRoomFor-map_same names sites room)
    not-FailsInList-if_parsed ts rest after cause sites (in_sites begins p) (inr is) all room =
        not-token_is_next (codes "locations") ts _ is.0 begins

-- ---- The header.

-- The header fails at one place only, and for one cause, from each thread on.
pub FailsInHeader-unique : (r s : TokenList) (d e : TextCause) (k : ℕ) (ts : TokenList)
    → FailsInHeader r d k ts
    → FailsInHeader s e k ts
    → IsSameFailure r d s e
FailsInHeader-unique r s d e k ts (no_thread_name few p) (no_thread_name also q) =
    FailsBefore-unique (thread_name k ∷ []) Unexpected ts r s d e p q
FailsInHeader-unique r s d e k ts (no_thread_name few p) (no_thread_separator also begins q) =
    absurd (not-FailsBefore-if_parsed (thread_name k ∷ []) Unexpected ts r _ d (thread_name k) p begins (λ all. all.0 refl))
FailsInHeader-unique r s d e k ts (no_thread_name few p) (in_next_thread also begins q) =
    absurd (not-FailsBefore-if_parsed (thread_name k ∷ []) Unexpected ts r _ d (thread_name k) p begins (λ all. all.0 refl))
FailsInHeader-unique r s d e k ts (no_thread_name few p) (too_many_threads full is q) = absurd (omega (arith, few, full))
FailsInHeader-unique r s d e k ts (no_thread_separator few begins p) (no_thread_name also q) =
    absurd (not-FailsBefore-if_parsed (thread_name k ∷ []) Unexpected ts s _ e (thread_name k) q begins (λ all. all.0 refl))
FailsInHeader-unique r s d e k ts (no_thread_separator {mid = mid} few begins p) (no_thread_separator also again q) =
    FailsBefore-unique (codes ";" ∷ codes "|" ∷ []) Unexpected mid r s d e p
    (subst (λ l. FailsBefore (codes ";" ∷ codes "|" ∷ []) Unexpected l s e) (sym (cons-tail_unique (sym begins ∙ again))) q)
FailsInHeader-unique r s d e k ts (no_thread_separator {mid = mid} few begins p) (in_next_thread also again q) =
    absurd (not-FailsBefore-if_parsed (codes ";" ∷ codes "|" ∷ []) Unexpected mid r _ d (codes "|") p
    (cons-tail_unique (sym begins ∙ again)) (λ all. all.1.0 refl))
FailsInHeader-unique r s d e k ts (no_thread_separator few begins p) (too_many_threads full is q) =
    absurd (omega (arith, few, full))
FailsInHeader-unique r s d e k ts (in_next_thread few begins p) (no_thread_name also q) =
    absurd (not-FailsBefore-if_parsed (thread_name k ∷ []) Unexpected ts s _ e (thread_name k) q begins (λ all. all.0 refl))
FailsInHeader-unique r s d e k ts (in_next_thread few begins p) (no_thread_separator {mid = mid} also again q) =
    absurd (not-FailsBefore-if_parsed (codes ";" ∷ codes "|" ∷ []) Unexpected mid s _ e (codes "|") q
    (cons-tail_unique (sym again ∙ begins)) (λ all. all.1.0 refl))
FailsInHeader-unique r s d e k ts (in_next_thread {next = next} few begins p) (in_next_thread also again q) =
    FailsInHeader-unique r s d e (suc k) next p
    (subst (FailsInHeader s e (suc k)) (sym (cons-tail_unique (cons-tail_unique (sym begins ∙ again)))) q)
FailsInHeader-unique r s d e k ts (in_next_thread few begins p) (too_many_threads full is q) = absurd (omega (arith, few, full))
FailsInHeader-unique r s d e k ts (too_many_threads full is p) (no_thread_name few q) = absurd (omega (arith, few, full))
FailsInHeader-unique r s d e k ts (too_many_threads full is p) (no_thread_separator few begins q) =
    absurd (omega (arith, few, full))
FailsInHeader-unique r s d e k ts (too_many_threads full is p) (in_next_thread few begins q) = absurd (omega (arith, few, full))
FailsInHeader-unique r s d e k ts (too_many_threads full is p) (too_many_threads also too q) =
    FailsUniquely-at_first_token (λ t cause.
    ((t ≡ thread_name most_threads) × (cause ≡ TooManyThreads)) ⊎ ((t ≢ thread_name most_threads) × (cause ≡ Unexpected)))
    name_cause-unique ts r s d e (is, p) (too, q)
  where
    -- A token in place of a thread's name fails for one cause: a fifth name for `TooManyThreads`, and any other token for
    -- `Unexpected`.
    name_cause-unique : (t : Bytes) (cause because : TextCause)
        → ((t ≡ thread_name most_threads) × (cause ≡ TooManyThreads)) ⊎ ((t ≢ thread_name most_threads) × (cause ≡ Unexpected))
        → ((t ≡ thread_name most_threads) × (because ≡ TooManyThreads))
        ⊎ ((t ≢ thread_name most_threads) × (because ≡ Unexpected))
        → cause ≡ because
    name_cause-unique t cause because (inl x) (inl y) = x.1 ∙ sym y.1
    name_cause-unique t cause because (inl x) (inr y) = absurd (y.0 x.0)
    name_cause-unique t cause because (inr x) (inl y) = absurd (x.0 y.0)
    name_cause-unique t cause because (inr x) (inr y) = x.1 ∙ sym y.1

-- Tokens that begin with the names of n threads from k on do not satisfy `FailsInHeader` from k on, if `k + n` is at most four.
pub not-FailsInHeader-if_parsed : (rest : TokenList) (cause : TextCause) (k n : ℕ) (ts after : TokenList)
    → FailsInHeader rest cause k ts
    → Names k n ts after
    → k + n ≤ most_threads
    → ⊥
not-FailsInHeader-if_parsed rest cause k zero ts after fails is few = absurd is
not-FailsInHeader-if_parsed rest cause k (suc zero) ts after (no_thread_name low p) is few =
    not-FailsBefore-if_parsed (thread_name k ∷ []) Unexpected ts rest _ cause (thread_name k) p is (λ all. all.0 refl)
not-FailsInHeader-if_parsed rest cause k (suc zero) ts after (no_thread_separator {mid = mid} low begins p) is few =
    not-FailsBefore-if_parsed (codes ";" ∷ codes "|" ∷ []) Unexpected mid rest after cause (codes ";") p
    (cons-tail_unique (sym begins ∙ is)) (λ all. all.0 refl)
not-FailsInHeader-if_parsed rest cause k (suc zero) ts after (in_next_thread low begins p) is few =
    not-bar_is_semicolon (cons-head_eq _ _ _ _ (cons-tail_unique (sym begins ∙ is)))
not-FailsInHeader-if_parsed rest cause k (suc zero) ts after (too_many_threads full at p) is few = omega (arith, full, few)
not-FailsInHeader-if_parsed rest cause k (suc (suc n)) ts after (no_thread_name low p) is few =
    not-FailsBefore-if_parsed (thread_name k ∷ []) Unexpected ts rest _ cause (thread_name k) p is.1 (λ all. all.0 refl)
not-FailsInHeader-if_parsed rest cause k (suc (suc n)) ts after (no_thread_separator {mid = mid} low begins p) is few =
    not-FailsBefore-if_parsed (codes ";" ∷ codes "|" ∷ []) Unexpected mid rest is.0 cause (codes "|") p
    (cons-tail_unique (sym begins ∙ is.1)) (λ all. all.1.0 refl)
not-FailsInHeader-if_parsed rest cause k (suc (suc n)) ts after (in_next_thread {next = next} low begins p) is few =
    not-FailsInHeader-if_parsed rest cause (suc k) (suc n) next after p
    (subst (λ l. Names (suc k) (suc n) l after) (sym (cons-tail_unique (cons-tail_unique (sym begins ∙ is.1)))) is.2)
    (omega (arith, few))
not-FailsInHeader-if_parsed rest cause k (suc (suc n)) ts after (too_many_threads full at p) is few = omega (arith, full, few)

-- ---- The rows.

-- The cells of a row are unique.
RowCells-unique : (ts r s : TokenList) (a b : Cells) → RowCells ts a r → RowCells ts b s → (a ≡ b) × (r ≡ s)
RowCells-unique ts r s a b p q = ParsesSepBy-unique Cell (codes "|") (codes ";") Cell-exact not-bar_is_semicolon a b ts r s p q

module _ (threads : ℕ) where
  -- A row fails at one place only, and for one cause.
  FailsInRow-unique : FailsUniquely (FailsInRow threads)
  FailsInRow-unique ts r s d e (no_end is never) (no_end also none) = (is ∙ sym also, λ some. absurd (some is))
  FailsInRow-unique ts r s d e (no_end is never) (ragged cells line at other because) = absurd (never cells _ line)
  FailsInRow-unique ts r s d e (ragged cells line at other because) (no_end also none) = absurd (none cells _ line)
  FailsInRow-unique ts r s d e (ragged cells {after = after} line at other because) (ragged more {after = later} too also another cause) = (
    at ∙ ap (λ l. codes ";" ∷ l) (RowCells-unique ts after later cells more line too).1 ∙ sym also,
    λ some. because ∙ sym cause,
  )

  -- Tokens that begin with a row of a cell for each thread do not satisfy `FailsInRow`.
  not-FailsInRow-if_parsed : (ts rest after : TokenList) (cause : TextCause) (cells : Cells)
      → FailsInRow threads ts rest cause
      → Row threads ts cells after
      → ⊥
  not-FailsInRow-if_parsed ts rest after cause cells (no_end is never) row = never cells after row.0
  not-FailsInRow-if_parsed ts rest after cause cells (ragged more {after = later} line ends other because) row =
      other (ap length (RowCells-unique ts later after more cells line row.0).0 ∙ row.1)

  -- The rows fail at one place only, and for one cause, after each number of them.
  pub FailsInRows-unique : (r s : TokenList) (d e : TextCause) (k : ℕ) (ts : TokenList)
      → FailsInRows threads r d k ts
      → FailsInRows threads s e k ts
      → IsSameFailure r d s e
  FailsInRows-unique r s d e k ts (too_many_rows full go is because) (too_many_rows also on at cause) =
      (sym is ∙ at, λ some. because ∙ sym cause)
  FailsInRows-unique r s d e k ts (too_many_rows full go is because) (in_row few on q) = absurd (omega (arith, full, few))
  FailsInRows-unique r s d e k ts (too_many_rows full go is because) (in_rows_after cells few on row q) =
      absurd (omega (arith, full, few))
  FailsInRows-unique r s d e k ts (in_row few go p) (too_many_rows full on at cause) = absurd (omega (arith, full, few))
  FailsInRows-unique r s d e k ts (in_row few go p) (in_row also on q) = FailsInRow-unique ts r s d e p q
  FailsInRows-unique r s d e k ts (in_row few go p) (in_rows_after cells also on row q) =
      absurd (not-FailsInRow-if_parsed ts r _ d cells p row)
  FailsInRows-unique r s d e k ts (in_rows_after cells few go row p) (too_many_rows full on at cause) =
      absurd (omega (arith, full, few))
  FailsInRows-unique r s d e k ts (in_rows_after cells few go row p) (in_row also on q) =
      absurd (not-FailsInRow-if_parsed ts s _ e cells q row)
  FailsInRows-unique r s d e k ts (in_rows_after {next = next} cells few go row p) (in_rows_after {next = other} more also on line q) =
      FailsInRows-unique r s d e (suc k) next p
      (subst (FailsInRows threads s e (suc k)) (sym (Row-unique threads ts cells more next other row line).1) q)

  -- Tokens that begin with rows, of which there are at most 64 with the k before them, do not satisfy `FailsInRows`.
  pub not-FailsInRows-if_parsed : (rest : TokenList) (cause : TextCause) (k : ℕ) (ts after : TokenList) (rows : CellGrid)
      → FailsInRows threads rest cause k ts
      → ParsesManyTill begins_stop (Row threads) ts rows after
      → k + length rows ≤ most_rows
      → ⊥
  not-FailsInRows-if_parsed rest cause k ts after [] (too_many_rows full go is because) read few =
      let h = read.1 in cc (sym (ap begins_stop read.0) ∙ go)
  not-FailsInRows-if_parsed rest cause k ts after [] (in_row low go p) read few = let h = read.1 in cc
  not-FailsInRows-if_parsed rest cause k ts after [] (in_rows_after cells low go row p) read few = let h = read.1 in cc
  not-FailsInRows-if_parsed rest cause k ts after (x ∷ rows) (too_many_rows full go is because) read few =
      omega (arith, full, few)
  not-FailsInRows-if_parsed rest cause k ts after (x ∷ rows) (in_row low go p) read few =
      not-FailsInRow-if_parsed ts rest read.1.0 cause x p read.1.1
  not-FailsInRows-if_parsed rest cause k ts after (x ∷ rows) (in_rows_after {next = next} cells low go row p) read few =
      not-FailsInRows-if_parsed rest cause (suc k) next after rows p
      (subst (λ l. ParsesManyTill begins_stop (Row threads) l rows after)
      (sym (Row-unique threads ts cells x next read.1.0 row read.1.1).1) read.1.2) (omega (arith, few))

-- ---- The quantifier.

-- `exists` is not `~`.
not-exists_and_tilde : codes "exists" ≡ codes "~" → ⊥
not-exists_and_tilde = not-equal-if_bytes_differ (codes "exists") (codes "~") refl

-- `forall` is not `~`.
not-forall_and_tilde : codes "forall" ≡ codes "~" → ⊥
not-forall_and_tilde = not-equal-if_bytes_differ (codes "forall") (codes "~") refl

-- The words of quantifiers.
abbrev quantifier_words : List Bytes
quantifier_words = codes "~" ∷ codes "exists" ∷ codes "forall" ∷ []

-- The quantifier fails at one place only, and for one cause.
pub FailsInQuantifier-unique : FailsUniquely FailsInQuantifier
FailsInQuantifier-unique ts r s d e (no_quantifier p) (no_quantifier q) =
    FailsBefore-unique quantifier_words Condition ts r s d e p q
FailsInQuantifier-unique ts r s d e (no_quantifier p) (no_exists begins q) =
    absurd (not-FailsBefore-if_parsed quantifier_words Condition ts r _ d (codes "~") p begins (λ all. all.0 refl))
FailsInQuantifier-unique ts r s d e (no_exists begins p) (no_quantifier q) =
    absurd (not-FailsBefore-if_parsed quantifier_words Condition ts s _ e (codes "~") q begins (λ all. all.0 refl))
FailsInQuantifier-unique ts r s d e (no_exists {mid = mid} begins p) (no_exists again q) =
    FailsBefore-unique (codes "exists" ∷ []) Condition mid r s d e p
    (subst (λ l. FailsBefore (codes "exists" ∷ []) Condition l s e) (sym (cons-tail_unique (sym begins ∙ again))) q)

-- Tokens that begin with a quantifier do not satisfy `FailsInQuantifier`.
pub not-FailsInQuantifier-if_parsed : (ts rest after : TokenList) (cause : TextCause) (quant : Quant)
    → FailsInQuantifier ts rest cause
    → Quantified ts quant after
    → ⊥
not-FailsInQuantifier-if_parsed ts rest after cause Exists (no_quantifier p) is =
    not-FailsBefore-if_parsed quantifier_words Condition ts rest after cause (codes "exists") p is (λ all. all.1.0 refl)
not-FailsInQuantifier-if_parsed ts rest after cause NotExists (no_quantifier p) is =
    not-FailsBefore-if_parsed quantifier_words Condition ts rest _ cause (codes "~") p is (λ all. all.0 refl)
not-FailsInQuantifier-if_parsed ts rest after cause Forall (no_quantifier p) is =
    not-FailsBefore-if_parsed quantifier_words Condition ts rest after cause (codes "forall") p is (λ all. all.1.1.0 refl)
not-FailsInQuantifier-if_parsed ts rest after cause Exists (no_exists begins p) is =
    not-exists_and_tilde (cons-head_eq _ _ _ _ (sym is ∙ begins))
not-FailsInQuantifier-if_parsed ts rest after cause NotExists (no_exists {mid = mid} begins p) is =
    not-FailsBefore-if_parsed (codes "exists" ∷ []) Condition mid rest after cause (codes "exists") p
    (cons-tail_unique (sym begins ∙ is)) (λ all. all.0 refl)
not-FailsInQuantifier-if_parsed ts rest after cause Forall (no_exists begins p) is =
    not-forall_and_tilde (cons-head_eq _ _ _ _ (sym is ∙ begins))
