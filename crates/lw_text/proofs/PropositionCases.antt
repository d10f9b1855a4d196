-- Reading a proposition terminal by terminal, while the table of names grows. The loop of `parse_proposition`
-- goes by `TerminalsRead`.
use Rattle.lw_text.proofs.Common.{most_nodes, most_locations, ◌≡◌, ℕ, ◌+◌, ◌≤◌, inl, inr, Bool, true, false}
use Rattle.lw_text.proofs.Common.{List, [], ◌∷◌, ◌++◌, length, map, get_or, refl, sym, ap, ◌∙◌, subst, arith}
use Rattle.lw_text.proofs.Common.{codes, not, if◌then◌else◌, ◌||◌, ◌==◌, ◌≢◌, Option, Some, None, is_some}
use Rattle.lw_text.proofs.Common.{option_map, eqb-true, AllByRecursion, eqb-false, not-true, not-false}
use Rattle.lw_text.proofs.Common.{or_cases, or_parts, false_from_ne_true, map-append, filter_map-append}
use Rattle.lw_text.proofs.Common.{fold_stays, fold-append, slice_get-get_or, Bytes, NameTable, TokenList}
use Rattle.lw_text.proofs.Common.{Arch, Prop, Formula, Word_is, IsDuplicateFree, formula_of, contains_name}
use Rattle.lw_text.proofs.Common.{insert_name, insert_names, position_of_name-at, length_le-insert_names}
use Rattle.lw_text.proofs.Common.{contains_name-of_inserted, contains_name-insert_names}
use Rattle.lw_text.proofs.Common.{position_of_name-insert_names, IsDuplicateFree-insert_names, Cursor}
use Rattle.lw_text.proofs.Common.{PropositionReader, ParsesMany, with_sites, HasRoomFor, SiteSyntax, InMemory}
use Rattle.lw_text.proofs.Common.{IsSite, site_names, Terminal, Open, Close, Negation, Conjunction}
use Rattle.lw_text.proofs.Common.{Disjunction, Atom, is_node, IsProposition, remaining_texts, GroupState}
use Rattle.lw_text.proofs.Common.{begins_part, initial_reader_state, group_of, reader_state_in, state_of}
use Rattle.lw_text.proofs.Common.{next_state, state_result, terminal_of, AtomSyntax, Holds, IsTerminal}
use Rattle.lw_text.proofs.Common.{Terminals, begins_token, site_of, sites_in, resolved, named_terminal}
use Rattle.lw_text.proofs.Common.{TerminalIn, ParsedTerminal, ParsedProposition, NoProposition, Fits}
use Rattle.lw_text.proofs.Common.{FailsInProposition, HasRoomForNode, after_terminal, place_of, TextCause}
use Rattle.lw_text.proofs.PropositionPlaces.{is_some-option_map, next_place-state}
use Rattle.lw_text.specs.declared.terminal.Terminal.{Terminal as Made}
use Rattle.lw_text.proofs.api.PropositionNodes.{node_count, node_count-append}
use Rattle.lw_text.proofs.SitesAndValues.{no_site, starts_no_site}
use Rattle.lw_text.proofs.Lists.{ParsesMany-push}
use Rattle.lw_text.proofs.PropositionReadings.{state_after_terminals, result_of, result-IsProposition}
use Rattle.lw_text.proofs.PropositionReadings.{IsProposition-result}
use Rattle.lw_text.proofs.Readings.{with_sites-append}
use Rattle.lw_text.proofs.Texts.{bytes_equal}
use Rattle.lw_text.proofs.TerminalLists.{Terminals-peel, Terminals-unique, IsTerminal-unique}
use Rattle.lw_text.specs.declared.terminal.Terminal.TheVariants as made
use Rattle.lw_text.specs.declared.terminal.Atom.TheVariants as atoms

-- ---- a terminal's syntax, with the names of a table

-- The table has the names of all locations in these terminals' atoms.
abbrev pub ContainsAllNames : NameTable → List (Terminal AtomSyntax) → Type 0
ContainsAllNames names ss = AllByRecursion (λ x. contains_name names x ≡ true) (site_names (sites_in ss))

-- Inserted names are in the table.
pub insert_names-contains_all : (names ns : NameTable) → AllByRecursion (λ x. contains_name (insert_names names ns) x ≡ true) ns
insert_names-contains_all names [] = tt
insert_names-contains_all names (n ∷ ns) = (
  contains_name-insert_names (insert_name names n) ns n (contains_name-of_inserted names n),
  insert_names-contains_all (insert_name names n) ns,
)

-- Inserting names preserves the resolved form of terminals whose names are in the table.
map_resolved-along : (names ns : NameTable) (ss : List (Terminal AtomSyntax))
    → ContainsAllNames names ss
    → map (resolved (insert_names names ns)) ss ≡ map (resolved names) ss
map_resolved-along names ns [] h = refl
map_resolved-along names ns (Atom (Holds (InMemory x) n) ∷ ss) h =
    let e = position_of_name-insert_names names ns x h.0 in
    let f = map_resolved-along names ns ss h.1 in
    cc
map_resolved-along names ns (s ∷ ss) h = ap (λ l. resolved names s ∷ l) (map_resolved-along names ns ss h)

-- If a table has no duplicates and has the location of a terminal in memory, the terminal named by the table and resolved by it
-- is the same.
pub resolved_named : (names : NameTable) (s : Made)
    → IsDuplicateFree names
    → TerminalIn names s
    → resolved names (named_terminal names s) ≡ terminal_of s
resolved_named names (made.Atom (atoms.WordIs loc n)) once h =
    ap (λ (k : ℕ). Atom (Word_is k n))
    (position_of_name-at names (get_or names loc []) loc once (slice_get-get_or names loc [] h))
resolved_named names _ once h = refl

-- A terminal in memory is a node if and only if its named form is.
node_named : (names : NameTable) (s : Made) → is_node (named_terminal names s) ≡ is_node (terminal_of s)
node_named names made.Open = refl
node_named names _ = refl

-- A terminal starts a part if and only if its resolved form does.
begins_resolved : (names : NameTable) (s : Terminal AtomSyntax) → begins_part (resolved names s) ≡ begins_part s
begins_resolved names Open = refl
begins_resolved names _ = refl

-- The table after the names of `a ++ b` is that after the names of a and then of b.
pub with_sites_in-append : (names : NameTable) (a b : List (Terminal AtomSyntax))
    → with_sites names (sites_in (a ++ b)) ≡ with_sites (with_sites names (sites_in a)) (sites_in b)
with_sites_in-append names a b =
    ap (with_sites names) (filter_map-append site_of a b) ∙ with_sites-append names (sites_in a) (sites_in b)

-- ---- what has been read

-- The reader has read the terminals from `start` to `here`, with this number of nodes. Their names were inserted into the table `first`.
pub record TerminalsRead {A : Type 0} (arch : Arch) (threads : ℕ) (first names start here : TokenList) (nodes : ℕ)
    (reader : PropositionReader A) : Type 0 where
  pub terminals : List (Terminal AtomSyntax)
  pub parsed : ParsesMany (IsTerminal arch threads) start terminals here
  pub names_are : names ≡ with_sites first (sites_in terminals)
  pub count : nodes ≡ node_count terminals
  pub within_node_limit : nodes ≤ most_nodes
  pub state_is : state_after_terminals (Some initial_reader_state) (map (resolved names) terminals) ≡ Some (state_of reader)

-- A reader in its initial state has read no terminal.
pub TerminalsRead-none : {A : Type 0} (arch : Arch) (threads : ℕ) (names start : TokenList) (reader : PropositionReader A)
    → state_of reader ≡ initial_reader_state
    → TerminalsRead arch threads names names start start 0 reader
TerminalsRead-none arch threads names start reader e = record {
  terminals = [];
  parsed = refl;
  names_are = refl;
  count = refl;
  within_node_limit = omega arith;
  state_is = ap Some (sym e);
}

module _ {A : Type 0} {arch : Arch} {threads : ℕ} {first names start here : TokenList} {nodes : ℕ} {reader : PropositionReader A}
    (read : TerminalsRead arch threads first names start here nodes reader) where
  -- Inserting the names of the terminals read, and then of further ones, into the first table is inserting those of the further
  -- ones into the present table.
  with_sites-of_more_terminals : (more : List (Terminal AtomSyntax))
      → with_sites first (sites_in (read.terminals ++ more)) ≡ with_sites names (sites_in more)
  with_sites-of_more_terminals more =
      with_sites_in-append first read.terminals more ∙ ap (λ ns. with_sites ns (sites_in more)) (sym read.names_are)

  -- Inserting more names into the table does not change the resolved form of the terminals read.
  resolved_read_unchanged : (ns : NameTable)
      → map (resolved (insert_names names ns)) read.terminals ≡ map (resolved names) read.terminals
  resolved_read_unchanged ns =
      map_resolved-along names ns read.terminals
      (subst (λ l. ContainsAllNames l read.terminals) (sym read.names_are)
      (insert_names-contains_all first (site_names (sites_in read.terminals))))

  -- The reader's state after the terminals read and ss is its state after ss from the present one.
  state_after_terminals-of_rest : (ss : List (Terminal Formula))
      → state_after_terminals (Some initial_reader_state) (map (resolved names) read.terminals ++ ss)
      ≡ state_after_terminals (Some (state_of reader)) ss
  state_after_terminals-of_rest ss =
      fold-append _ _ (map (resolved names) read.terminals) ss ∙ ap (λ o. state_after_terminals o ss) read.state_is

  -- If the terminals read and further ones are a proposition, the further ones complete it from the present state.
  result-of_rest : (more : List (Terminal AtomSyntax)) (p : Formula)
      → IsProposition (map (resolved (with_sites first (sites_in (read.terminals ++ more)))) (read.terminals ++ more)) p
      → result_of (state_after_terminals (Some (state_of reader)) (map (resolved (with_sites names (sites_in more))) more))
      ≡ Some p
  result-of_rest more p whole =
      let after = with_sites names (sites_in more) in
      let e : map (resolved (with_sites first (sites_in (read.terminals ++ more)))) (read.terminals ++ more)
      ≡ map (resolved names) read.terminals ++ map (resolved after) more =
      ap (λ ns. map (resolved ns) (read.terminals ++ more)) (with_sites-of_more_terminals more)
      ∙ map-append (resolved after) read.terminals more
      ∙ ap (λ l. l ++ map (resolved after) more) (resolved_read_unchanged (site_names (sites_in more))) in
      sym (ap result_of
      (ap (state_after_terminals (Some initial_reader_state)) e ∙ state_after_terminals-of_rest (map (resolved after) more)))
      ∙ result-IsProposition whole

  -- At the end of the tokens a proposition has been read, if the state has a result.
  pub ParsedProposition-at_end : here ≡ []
      → (p : Prop A)
      → state_result (state_of reader) ≡ Some (formula_of p)
      → ParsedProposition arch threads start first names p
  ParsedProposition-at_end e p is = record {
    terminals = read.terminals;
    parsed = subst (ParsesMany (IsTerminal arch threads) start read.terminals) e read.parsed;
    names_are = read.names_are;
    few_nodes = omega (arith, read.count, read.within_node_limit);
    says = IsProposition-result (ap result_of read.state_is ∙ is);
  }

  -- If the tokens end and the state has no result, the tokens are no proposition.
  pub NoProposition-if_incomplete : here ≡ [] → state_result (state_of reader) ≡ None → NoProposition arch threads start first
  NoProposition-if_incomplete e none all p s fits =
      let k = Terminals-peel arch threads read.terminals all start here read.parsed s in
      let same : [] ≡ k.0 = Terminals-unique arch threads [] k.0 here e k.2 in
      let left = result-of_rest [] p (rw (k.1 ∙ ap (λ l. read.terminals ++ l) (sym same)) at fits).says in
      cc

  -- If no terminal follows that is allowed next and has room, the tokens are no proposition.
  pub NoProposition-if_no_terminal : (here ≡ [] → ⊥)
      → ((s : Terminal AtomSyntax) (rest : TokenList)
      → IsTerminal arch threads here s rest
      → next_state (state_of reader) (resolved (with_sites names (sites_in (s ∷ []))) s) ≢ None
      → HasRoomFor names (sites_in (s ∷ []))
      → nodes + node_count (s ∷ []) ≤ most_nodes
      → ⊥)
      → NoProposition arch threads start first
  NoProposition-if_no_terminal some never all p s whole =
      let k = Terminals-peel arch threads read.terminals all start here read.parsed s in
      go k.0 (subst (λ l. Fits first l p) k.1 whole) k.2
    where
      -- By the terminals after those read: whether there are none or a next one, a premise refutes them.
      go : (more : List (Terminal AtomSyntax)) → Fits first (read.terminals ++ more) p → Terminals arch threads here more → ⊥
      go [] fits q = some q
      go (t ∷ back) fits q =
          let now = with_sites names (sites_in (t ∷ [])) in
          let last = with_sites names (sites_in (t ∷ back)) in
          let after : last ≡ with_sites now (sites_in back) = with_sites_in-append names (t ∷ []) back in
          let left = result-of_rest (t ∷ back) p fits.says in
          let alone : resolved last t ∷ [] ≡ resolved now t ∷ [] =
          ap (λ ns. resolved ns t ∷ []) after
          ∙ map_resolved-along now (site_names (sites_in back)) (t ∷ [])
          (insert_names-contains_all names (site_names (sites_in (t ∷ [])))) in
          let same : resolved last t ≡ resolved now t = cc in
          let room : length now ≤ most_locations = omega (
            arith,
            fits.room,
            ap length (with_sites-of_more_terminals (t ∷ back)),
            ap length after,
            length_le-insert_names now (site_names (sites_in back)),
          ) in
          let few : nodes + node_count (t ∷ []) ≤ most_nodes =
          omega (
            arith,
            fits.few_nodes,
            node_count-append read.terminals (t ∷ back),
            node_count-append (t ∷ []) back,
            read.count,
          ) in
          let more = map (resolved last) back in
          never t q.0 q.1 (λ none.
          let nowhere =
          ap result_of
          (ap (λ o. state_after_terminals o more) (ap (next_state (state_of reader)) same ∙ none)
          ∙ fold_stays _ None (λ s. refl) more) in
          cc) room few

  -- The names of the table have no duplicates, if they had none before.
  pub IsDuplicateFree-names : IsDuplicateFree first → IsDuplicateFree names
  IsDuplicateFree-names once =
      subst IsDuplicateFree (sym read.names_are) (IsDuplicateFree-insert_names first (site_names (sites_in read.terminals)) once)

-- A terminal counts as one node if it is one, and as none otherwise.
pub node_count-of_one : (b : Bool) (t : Terminal AtomSyntax) → is_node t ≡ b → node_count (t ∷ []) ≡ (if b then 1 else 0)
node_count-of_one true t e = rw e refl
node_count-of_one false t e = rw e refl

-- A terminal was read.
module _ {arch : Arch} {threads : ℕ} {before later : Cursor} {names after : NameTable} {s : Made}
    (taken : ParsedTerminal arch threads before later names after s) where
  -- A terminal that was read, named by the table and resolved by it, is the same terminal.
  resolved-named_terminal : IsDuplicateFree names → resolved after (named_terminal after s) ≡ terminal_of s
  resolved-named_terminal once =
      resolved_named after s
      (subst IsDuplicateFree (sym taken.names_are)
      (IsDuplicateFree-insert_names names (site_names (sites_in (named_terminal after s ∷ []))) once)) taken.within

  -- If one more terminal was read that is allowed next and has room, it is one more terminal read.
  pub TerminalsRead-push : {A : Type 0} {first start : TokenList} {nodes : ℕ} {reader reader_after : PropositionReader A}
      → TerminalsRead arch threads first names start (remaining_texts before) nodes reader
      → IsDuplicateFree first
      → next_state (state_of reader) (terminal_of s) ≡ Some (state_of reader_after)
      → (nodes_after : ℕ)
      → nodes_after ≡ nodes + (if is_node (terminal_of s) then 1 else 0)
      → nodes_after ≤ most_nodes
      → TerminalsRead arch threads first after start (remaining_texts later) nodes_after reader_after
  TerminalsRead-push {start = start} read once step nodes_after counts few =
      let t = named_terminal after s in
      let ns = site_names (sites_in (t ∷ [])) in
      let made_more : map (resolved after) (read.terminals ++ t ∷ [])
      ≡ map (resolved names) read.terminals ++ terminal_of s ∷ [] =
      map-append (resolved after) read.terminals (t ∷ [])
      ∙ ap (λ l. l ++ resolved after t ∷ [])
      (ap (λ ns. map (resolved ns) read.terminals) taken.names_are ∙ resolved_read_unchanged read ns)
      ∙ ap (λ x. map (resolved names) read.terminals ++ x ∷ []) (resolved-named_terminal (IsDuplicateFree-names read once)) in
      record {
        terminals = read.terminals ++ t ∷ [];
        parsed =
            ParsesMany-push _ read.terminals start (remaining_texts before) (remaining_texts later) t read.parsed taken.parsed;
        names_are = taken.names_are ∙ sym (with_sites-of_more_terminals read (t ∷ []));
        count = omega (
          arith,
          counts,
          read.count,
          node_count-append read.terminals (t ∷ []),
          node_count-of_one (is_node (terminal_of s)) t (node_named after s),
        );
        within_node_limit = few;
        state_is =
            ap (state_after_terminals (Some initial_reader_state)) made_more
            ∙ state_after_terminals-of_rest read (terminal_of s ∷ [])
            ∙ step;
      }

  -- If a proposition fails after the terminal read, it fails before it.
  pub FailsInProposition-after_terminal : {A : Type 0} (reader reader_after : PropositionReader A) {nodes nodes_after : ℕ}
      {rest : TokenList} {cause : TextCause}
      → HasRoomForNode nodes (remaining_texts before)
      → next_state (state_of reader) (terminal_of s) ≡ Some (state_of reader_after)
      → nodes_after ≡ nodes + (if is_node (terminal_of s) then 1 else 0)
      → length after ≤ most_locations
      → FailsInProposition arch threads rest cause (place_of (state_of reader_after)) nodes_after after (remaining_texts later)
      → FailsInProposition arch threads rest cause (place_of (state_of reader)) nodes names (remaining_texts before)
  FailsInProposition-after_terminal reader reader_after {nodes} {nodes_after} {rest} {cause} room step counts few w =
      let t = named_terminal after s in
      let one = node_count-of_one (is_node (terminal_of s)) t (node_named after s) in
      let same : nodes_after ≡ nodes + node_count (t ∷ []) = counts ∙ ap (λ (n : ℕ). nodes + n) (sym one) in
      after_terminal t (remaining_texts later) _ room taken.parsed
      (subst (λ (table : NameTable). length table ≤ most_locations) taken.names_are few)
      (next_place-state (state_of reader) after s ∙ ap (option_map place_of) step)
      (subst (λ table.
      FailsInProposition arch threads rest cause (place_of (state_of reader_after)) (nodes + node_count (t ∷ [])) table
      (remaining_texts later)) taken.names_are
      (subst
      (λ (n : ℕ). FailsInProposition arch threads rest cause (place_of (state_of reader_after)) n after (remaining_texts later))
      same w))

  -- If the terminal read is not allowed next, no terminal of the same tokens is.
  pub no_next_state-if_refused : {A : Type 0} (reader : PropositionReader A)
      → IsDuplicateFree names
      → next_state (state_of reader) (terminal_of s) ≡ None
      → (t : Terminal AtomSyntax) (rest : TokenList)
      → IsTerminal arch threads (remaining_texts before) t rest
      → next_state (state_of reader) (resolved (with_sites names (sites_in (t ∷ []))) t) ≡ None
  no_next_state-if_refused reader once step t rest is =
      let e : t ≡ named_terminal after s =
      (IsTerminal-unique arch threads (remaining_texts before) t (named_terminal after s) rest (remaining_texts later) is
      taken.parsed).0 in
      let f : resolved (with_sites names (sites_in (t ∷ []))) t ≡ terminal_of s =
      ap (λ (x : Terminal AtomSyntax). resolved (with_sites names (sites_in (x ∷ []))) x) e
      ∙ ap (λ ns. resolved ns (named_terminal after s)) (sym taken.names_are)
      ∙ resolved-named_terminal once in
      ap (next_state (state_of reader)) f ∙ step

-- A terminal that is allowed next starts a part if and only if a part must come next.
next_begins : (o : Option Formula) (l : GroupState) (os : List GroupState) (s : Terminal Formula) (b : Bool)
    → is_some o ≡ not b
    → next_state (reader_state_in o l os) s ≢ None
    → begins_part s ≡ b
next_begins None l os Open true e some = refl
next_begins None l os Negation true e some = refl
next_begins None l os (Atom p) true e some = refl
next_begins (Some x) l os Close false e some = refl
next_begins (Some x) l os Conjunction false e some = refl
next_begins (Some x) l os Disjunction false e some = refl
next_begins None l os _ false e some = absurd cc
next_begins (Some x) l os _ true e some = absurd cc
next_begins _ l os _ _ e some = absurd (some refl)

-- A terminal that is allowed next starts a part if and only if the reader in memory is before one.
pub begins_part-if_allowed : {A : Type 0} (reader : PropositionReader A) (part : Bool)
    → is_some reader.part ≡ not part
    → (names : NameTable) (s : Terminal AtomSyntax)
    → next_state (state_of reader) (resolved names s) ≢ None
    → begins_part s ≡ part
begins_part-if_allowed reader part next names s some =
    sym (begins_resolved names s)
    ∙ next_begins _ (group_of reader.group) _ (resolved names s) part (is_some-option_map formula_of reader.part ∙ next) some

-- ---- parentheses

-- Tests whether the tokens start with a parenthesis.
abbrev pub begins_parenthesis : TokenList → Bool
begins_parenthesis here = begins_token (codes "(") here || begins_token (codes ")") here

-- Tokens that start with a site do not start with a token for which `starts_no_site` is true.
no_site_at_apart_token : (arch : Arch) (w : Bytes)
    → starts_no_site w ≡ true
    → (here rest : TokenList) (site : SiteSyntax)
    → IsSite arch here site rest
    → begins_token w here ≡ false
no_site_at_apart_token arch w apart [] rest site is = refl
no_site_at_apart_token arch w apart (t ∷ here) rest site is =
    false_from_ne_true (begins_token w (t ∷ here))
    (λ e. no_site w apart arch (t ∷ here) here rest site (ap (λ x. x ∷ here) (bytes_equal t w e)) is)

-- A terminal is a node, unless it is a parenthesis.
is_node-not_parenthesis : (arch : Arch) (threads : ℕ) (here rest : TokenList) (s : Terminal AtomSyntax)
    → IsTerminal arch threads here s rest
    → is_node s ≡ not (begins_parenthesis here)
is_node-not_parenthesis arch threads here rest Negation (inl is) = sym (ap (λ l. not (begins_parenthesis l)) is)
is_node-not_parenthesis arch threads here rest Negation (inr is) = sym (ap (λ l. not (begins_parenthesis l)) is)
is_node-not_parenthesis arch threads here rest (Atom (Holds site n)) is =
    rw (
      no_site_at_apart_token arch (codes "(") refl here is.0 site is.1,
      no_site_at_apart_token arch (codes ")") refl here is.0 site is.1,
    ) refl
is_node-not_parenthesis arch threads here rest _ is = sym (ap (λ l. not (begins_parenthesis l)) is)

-- If there is room, the number of nodes with one more terminal is within the limit.
pub node_count_at_most : {arch : Arch} {threads : ℕ} {before later : Cursor} {names after : NameTable} {s : Made}
    → ParsedTerminal arch threads before later names after s
    → (nodes : ℕ)
    → nodes ≤ most_nodes
    → (not (nodes == most_nodes) || begins_parenthesis (remaining_texts before)) ≡ true
    → nodes + (if is_node (terminal_of s) then 1 else 0) ≤ most_nodes
node_count_at_most {arch} {threads} {before} {later} {after = after} {s = s} taken nodes few room =
    rw
    (sym (node_named after s)
    ∙ is_node-not_parenthesis arch threads (remaining_texts before) (remaining_texts later) (named_terminal after s) taken.parsed)
    (go (begins_parenthesis (remaining_texts before)) room)
  where
    -- By whether a parenthesis is next.
    go : (b : Bool) → (not (nodes == most_nodes) || b) ≡ true → nodes + (if not b then 1 else 0) ≤ most_nodes
    go true room = omega (arith, few)
    go false room = elim (or_cases (not (nodes == most_nodes)) false room) [
      | inl h ↦ omega (arith, few, eqb-false nodes most_nodes (not-true (nodes == most_nodes) h))
      | inr h ↦ absurd cc
    ]

-- If 256 nodes precede, and no parenthesis is next, no terminal that is next is within the limit of nodes.
pub no_room_for_node : (arch : Arch) (threads nodes : ℕ) (here rest : TokenList) (s : Terminal AtomSyntax)
    → (not (nodes == most_nodes) || begins_parenthesis here) ≡ false
    → IsTerminal arch threads here s rest
    → nodes + node_count (s ∷ []) ≤ most_nodes
    → ⊥
no_room_for_node arch threads nodes here rest s none is le =
    let e = or_parts (not (nodes == most_nodes)) (begins_parenthesis here) none in
    let one = node_count-of_one true s (is_node-not_parenthesis arch threads here rest s is ∙ ap not e.1) in
    omega (arith, le, one, eqb-true nodes most_nodes (not-false (nodes == most_nodes) e.0))
