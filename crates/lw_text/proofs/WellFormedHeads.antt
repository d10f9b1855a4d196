-- The head of a text's frame is well-formed, and a body in memory has the head that its text says. `finish`
-- returns a frame by it, and the law on a frame's head cites it.
use Rattle.lw_text.proofs.Common.{registers, ◌≡◌, ℕ, ◌<◌, inl, inr, Bool, true, false, List, [], ◌∷◌, ◌++◌}
use Rattle.lw_text.proofs.Common.{length, map, refl, sym, ◌∙◌, subst, arith, fold, if◌then◌else◌, codes, ap}
use Rattle.lw_text.proofs.Common.{filter, AllByRecursion, range_with_len, length-map}
use Rattle.lw_text.proofs.Common.{length-map-range_with_len, Seen, Location, Formula, formula_of}
use Rattle.lw_text.proofs.Common.{IsWordNumber, MentionsOnly, IsWellFormedHead, IsUnreservedName, IsTestName}
use Rattle.lw_text.proofs.Common.{contains_name, insert_name, insert_names, IsDuplicateFree-insert_names}
use Rattle.lw_text.proofs.Common.{position_of_name-within, Arch, ParsesSepEndBy, with_sites, SiteSyntax}
use Rattle.lw_text.proofs.Common.{InMemory, InThread, IsSite, ThreadExists, site_names, seen_in, Terminal}
use Rattle.lw_text.proofs.Common.{Close, Atom, Level, Derives, atom, negated, parens, part, and, conjunction}
use Rattle.lw_text.proofs.Common.{or, IsProposition, AtomSyntax, Holds, IsTerminal, Terminals, Listed}
use Rattle.lw_text.proofs.Common.{sites_in, resolved, InitializerSyntax, IsInitializer, Block}
use Rattle.lw_text.proofs.Common.{initial_word_of, location_table, TestSyntax, ParsesTest, TestFrame}
use Rattle.lw_text.proofs.Common.{HasFrame, head_of_syntax, sites_of, seen_eq, thread_registers}
use Rattle.lw_text.proofs.Common.{all_registers, locations, ParsedBody, syntax_of, HasSyntax, resolved_head}
use Rattle.lw_text.proofs.Common.{IsIn, AllByRecursion-append, AllByRecursion-map, All-append_inv}
use Rattle.lw_text.proofs.Common.{AllByRecursion-filter, AllByRecursion-map_range, AllByRecursion-every_image}
use Rattle.lw_text.proofs.Common.{AllByRecursion-of_All, IsAscending-filter, IsSeenInRange-all_seen}
use Rattle.lw_text.proofs.Common.{IsAscending-all_seen, fun_ext, Bytes, TokenList, IsDuplicateFree}
use Rattle.lw_text.proofs.api.ConditionTokens.{site_names-all, sites_in-all}
use Rattle.lw_text.proofs.api.PropositionNodes.{proposition_nodes, resolved_single, node_count-resolved}
use Rattle.lw_text.proofs.PropositionCases.{ContainsAllNames, insert_names-contains_all}
use Rattle.lw_text.proofs.Whole.{header_has_thread, table_parts}
use Rattle.lw_text.proofs.NameTables.{words-site_by_name, listed-site_by_name}

-- ---- names

-- The site is a location whose name may be one, or one of six registers of a thread.
abbrev IsValidSite : SiteSyntax → Type 0
IsValidSite (InMemory x) = IsUnreservedName x
IsValidSite (InThread t r) = r < registers

-- A site that was read satisfies `IsValidSite`.
IsValidSite-of_read : (arch : Arch) (ts rest : List (List ℕ)) (s : SiteSyntax) → IsSite arch ts s rest → IsValidSite s
IsValidSite-of_read arch ts rest (InMemory x) p = p.0
IsValidSite-of_read arch ts rest (InThread t r) p = p.4.0

-- What holds of each element that can be read holds of all elements of a list that was read.
AllByRecursion-of_each_read : {X : Type 0} {P : List (List ℕ) → X → List (List ℕ) → Type 0} {Q : X → Type 0}
    → ((ts rest : List (List ℕ)) (x : X) → P ts x rest → Q x)
    → (sep close : List ℕ) (xs : List X) (ts rest : List (List ℕ))
    → ParsesSepEndBy P sep close ts xs rest
    → AllByRecursion Q xs
AllByRecursion-of_each_read f sep close [] ts rest e = tt
AllByRecursion-of_each_read {P = P} {Q = Q} f sep close (x ∷ xs) ts rest e = (
  f ts e.0 x e.1,
  elim e.2 [
    | inl g ↦ subst (AllByRecursion Q) (sym g.0) tt
    | inr g ↦ AllByRecursion-of_each_read {P = P} {Q = Q} f sep _ xs g.0 _ g.2
  ],
)

-- All sites of a list of names that was read satisfy `IsValidSite`.
IsValidSite-listed : (arch : Arch) (ts rest : List (List ℕ)) (ss : List SiteSyntax)
    → Listed arch ts ss rest
    → AllByRecursion IsValidSite ss
IsValidSite-listed arch ts rest ss (inl p) = AllByRecursion-of_each_read (IsValidSite-of_read arch) _ (codes "]") ss p.0 rest p.2
IsValidSite-listed arch ts rest ss (inr p) = subst (AllByRecursion IsValidSite) (sym p.1) tt

-- All sites of an initial block that was read satisfy `IsValidSite`.
IsValidSite-block : (arch : Arch) (ts rest : List (List ℕ)) (es : List InitializerSyntax)
    → Block arch ts es rest
    → AllByRecursion IsValidSite (sites_of es)
IsValidSite-block arch ts rest es b =
    AllByRecursion-map IsValidSite (λ e. e.site) es
    (AllByRecursion-of_each_read {P = IsInitializer arch} {Q = λ e. IsValidSite e.site}
    (λ ts rest e p. IsValidSite-of_read arch ts p.0 e.site p.1) (codes ";") (codes "}") es b.0 rest b.2)

-- ---- words

-- The numbers of an initial block that was read are words: below `2 ^ 32`.
block_words : (arch : Arch) (ts rest : List (List ℕ)) (es : List InitializerSyntax)
    → Block arch ts es rest
    → AllByRecursion (λ e. IsWordNumber e.word) es
block_words arch ts rest es b =
    AllByRecursion-of_each_read {P = IsInitializer arch} {Q = λ e. IsWordNumber e.word} (λ ts rest e p. p.2.2.0) _ (codes "}") es
    b.0 rest b.2

-- If two numbers are words, so is the one that a test selects.
IsWordNumber-if : (b : Bool) (v w : ℕ) → IsWordNumber v → IsWordNumber w → IsWordNumber (if b then v else w)
IsWordNumber-if true v w h k = h
IsWordNumber-if false v w h k = k

-- The word of the last initializer for a site, or the default, is a word.
IsWordNumber-word_of_last : (names : List (List ℕ)) (s : Seen) (es : List InitializerSyntax) (w : ℕ)
    → AllByRecursion (λ e. IsWordNumber e.word) es
    → IsWordNumber w
    → IsWordNumber (fold (λ w e. if seen_eq (seen_in names e.site) s then e.word else w) w es)
IsWordNumber-word_of_last names s [] w h k = k
IsWordNumber-word_of_last names s (e ∷ es) w h k =
    let now = seen_eq (seen_in names e.site) s in
    IsWordNumber-word_of_last names s es (if now then e.word else w) h.1 (IsWordNumber-if now e.word w h.0 k)

-- If the values of all initializers are words, the initial value of each register and location is.
IsWordNumber-initial_word : (names : List (List ℕ)) (es : List InitializerSyntax)
    → AllByRecursion (λ e. IsWordNumber e.word) es
    → (s : Seen)
    → IsWordNumber (initial_word_of names es s)
IsWordNumber-initial_word names es h s = IsWordNumber-word_of_last names s es 0 h (omega arith)

-- ---- terminals

-- The terminal's site satisfies `IsValidSite`, its thread exists, and its number is a word.
abbrev IsValidTerminal : ℕ → Terminal AtomSyntax → Type 0
IsValidTerminal threads (Atom (Holds s n)) = IsValidSite s × ThreadExists threads s × IsWordNumber n
IsValidTerminal threads _ = Unit {0}

-- A terminal that was read satisfies `IsValidTerminal`.
IsValidTerminal-of_read : (arch : Arch) (threads : ℕ) (ts rest : List (List ℕ)) (s : Terminal AtomSyntax)
    → IsTerminal arch threads ts s rest
    → IsValidTerminal threads s
IsValidTerminal-of_read arch threads ts rest (Atom (Holds s n)) p = (IsValidSite-of_read arch ts p.0 s p.1, p.2, p.3.2.0)
IsValidTerminal-of_read arch threads ts rest _ p = tt

-- All terminals of a proposition that was read satisfy `IsValidTerminal`.
IsValidTerminal-of_all_read : (arch : Arch) (threads : ℕ) (ts : List (List ℕ)) (ss : List (Terminal AtomSyntax))
    → Terminals arch threads ts ss
    → AllByRecursion (IsValidTerminal threads) ss
IsValidTerminal-of_all_read arch threads ts [] p = tt
IsValidTerminal-of_all_read arch threads ts (s ∷ ss) p =
    (IsValidTerminal-of_read arch _ ts p.0 s p.1, IsValidTerminal-of_all_read arch _ p.0 ss p.2)

-- If all names of a table and all names to be inserted are unreserved, so are all names of the table with these inserted.
pub AreUnreserved-insert_names : (names ns : List (List ℕ))
    → AllByRecursion IsUnreservedName names
    → AllByRecursion IsUnreservedName ns
    → AllByRecursion IsUnreservedName (insert_names names ns)
AreUnreserved-insert_names names [] h k = h
AreUnreserved-insert_names names (n ∷ ns) h k =
    AreUnreserved-insert_names (insert_name names n) ns (IsUnreservedName-insert_name (contains_name names n) refl) k.1
  where
    -- By whether the table has the name.
    IsUnreservedName-insert_name : (b : Bool) → contains_name names n ≡ b → AllByRecursion IsUnreservedName (insert_name names n)
    IsUnreservedName-insert_name true e = rw e h
    IsUnreservedName-insert_name false e = rw e (AllByRecursion-append IsUnreservedName names (n ∷ []) h (k.0, tt))

-- ---- the proposition

-- The terminal's atom, if it is one, mentions only registers of these threads and these locations, and its numbers are words.
abbrev MentionsOnlyIfAtom : ℕ → ℕ → Terminal Formula → Type 0
MentionsOnlyIfAtom threads locs (Atom p) = MentionsOnly threads locs p
MentionsOnlyIfAtom threads locs _ = Unit {0}

module _ (threads locs : ℕ) where
  -- A formula mentions only what its atoms mention.
  MentionsOnly-Derives : {k : Level} {ss : List (Terminal Formula)} {p : Formula}
      → Derives k ss p
      → AllByRecursion (MentionsOnlyIfAtom threads locs) ss
      → MentionsOnly threads locs p
  MentionsOnly-Derives atom h = h.0
  MentionsOnly-Derives (negated d) h = MentionsOnly-Derives d h.1
  MentionsOnly-Derives (parens {ss} d) h =
      MentionsOnly-Derives d (All-append_inv (MentionsOnlyIfAtom threads locs) ss (Close ∷ []) h.1).0
  MentionsOnly-Derives (part d) h = MentionsOnly-Derives d h
  MentionsOnly-Derives (and {ss} {ts} d e) h =
      let k = All-append_inv _ ss _ h in (MentionsOnly-Derives d k.0, MentionsOnly-Derives e k.1.1)
  MentionsOnly-Derives (conjunction d) h = MentionsOnly-Derives d h
  MentionsOnly-Derives (or {ss} {ts} d e) h =
      let k = All-append_inv _ ss _ h in (MentionsOnly-Derives d k.0, MentionsOnly-Derives e k.1.1)

-- If terminals satisfy `IsValidTerminal` and their names are in the table, their resolved forms mention only threads and locations in
-- range.
MentionsOnlyIfAtom-of_valid : (threads : ℕ) (names : List (List ℕ)) (ss : List (Terminal AtomSyntax))
    → AllByRecursion (IsValidTerminal threads) ss
    → ContainsAllNames names ss
    → AllByRecursion (MentionsOnlyIfAtom threads (length names)) (map (resolved names) ss)
MentionsOnlyIfAtom-of_valid threads names [] f n = tt
MentionsOnlyIfAtom-of_valid threads names (Atom (Holds (InMemory x) w) ∷ ss) f n =
    ((position_of_name-within names x n.0, f.0.2), MentionsOnlyIfAtom-of_valid threads names ss f.1 n.1)
MentionsOnlyIfAtom-of_valid threads names (Atom (Holds (InThread t r) w) ∷ ss) f n =
    ((f.0.1, f.0.0, f.0.2), MentionsOnlyIfAtom-of_valid threads names ss f.1 n)
MentionsOnlyIfAtom-of_valid threads names (_ ∷ ss) f n = (tt, MentionsOnlyIfAtom-of_valid threads names ss f.1 n)

-- ---- the head

-- If tokens parse as the parts of a test, with an allowed name and a proposition, the head of these parts is well-formed.
head_well_formed : (arch : Arch) (ts : List (List ℕ)) (name : List ℕ) (s : TestSyntax) (p : Formula)
    → IsTestName name
    → ParsesTest arch ts s
    → IsProposition (map (resolved (location_table s)) s.terminals) p
    → IsWellFormedHead (head_of_syntax arch name s p)
head_well_formed arch ts name s p allowed parts whole =
    let c = parts.question in
    let fit = IsValidTerminal-of_all_read arch s.threads c.after_quant s.terminals c.says in
    let right =
    AllByRecursion-append IsValidSite (sites_of s.initializers ++ s.listed) (sites_in s.terminals)
    (AllByRecursion-append IsValidSite (sites_of s.initializers) s.listed
    (IsValidSite-block arch ts parts.after_block s.initializers parts.block)
    (IsValidSite-listed arch parts.after_rows c.after_list s.listed c.lists))
    (sites_in-all (IsValidTerminal s.threads) IsValidSite (λ s n h. h.0) s.terminals fit) in
    let named =
    rw (← table_parts s) at
    (insert_names-contains_all (with_sites (with_sites [] (sites_of s.initializers)) s.listed)
    (site_names (sites_in s.terminals))) in
    let begins = IsWordNumber-initial_word _ s.initializers (block_words arch ts parts.after_block s.initializers parts.block) in
    record {
      name = allowed;
      has_thread = header_has_thread parts.after_block parts.after_header s.threads parts.header;
      bounded = parts.header.1;
      table = record {
        bounded = parts.few_names;
        are_unreserved =
            AreUnreserved-insert_names [] (site_names (sites_of s.initializers ++ s.listed ++ sites_in s.terminals)) tt
            (site_names-all IsValidSite _ (λ x h. h) (sites_of s.initializers ++ s.listed ++ sites_in s.terminals) right);
        without_duplicates =
            IsDuplicateFree-insert_names [] (site_names (sites_of s.initializers ++ s.listed ++ sites_in s.terminals)) tt;
      };
      regs = length-map-range_with_len (λ t. map (initial_word_of (location_table s) s.initializers) (thread_registers t)) 0 _;
      register_counts =
          AllByRecursion-map_range (λ row. length row ≡ registers)
          (λ t. map (initial_word_of (location_table s) s.initializers) (thread_registers t)) 0 s.threads (λ t le lt. refl);
      register_words =
          AllByRecursion-map_range (AllByRecursion IsWordNumber)
          (λ t. map (initial_word_of (location_table s) s.initializers) (thread_registers t)) 0 s.threads (λ t le lt.
          AllByRecursion-every_image IsWordNumber (initial_word_of (location_table s) s.initializers) begins
          (thread_registers t));
      words =
          length-map (locations (length (location_table s))) (initial_word_of (location_table s) s.initializers)
          ∙ length-map-range_with_len (λ x. Location x) 0 (length (location_table s));
      location_words = AllByRecursion-every_image IsWordNumber _ begins (locations (length (location_table s)));
      listed_in_range =
          AllByRecursion-filter _ _ (all_registers s.threads ++ locations (length (location_table s)))
          (IsSeenInRange-all_seen s.threads _);
      ascending =
          IsAscending-filter _ (all_registers s.threads ++ locations (length (location_table s)))
          (IsAscending-all_seen s.threads (length (location_table s)));
      nodes_bounded = omega (
        arith,
        proposition_nodes whole (resolved_single (location_table s) s.terminals),
        node_count-resolved (location_table s) s.terminals,
        parts.few_nodes,
      );
      condition =
          MentionsOnly-Derives s.threads (length (location_table s)) whole
          (MentionsOnlyIfAtom-of_valid s.threads (location_table s) s.terminals fit named);
    }

-- The head of a text's frame is well-formed.
pub frame_well_formed : (text : List ℕ) (f : TestFrame) → HasFrame text f → IsWellFormedHead f.head
frame_well_formed text f h =
    subst (λ (g : TestFrame). IsWellFormedHead g.head) (sym h.frame_is)
    (head_well_formed h.arch h.tokens h.name h.syntax h.proposition h.preamble.3.is_name h.parts h.is_proposition)

-- ---- bodies in memory

-- The head of a body in memory, computed from locations' indices, is the head that its text says, computed from their names.
pub resolved_head-head_of_syntax : {A : Type 0} (arch : Arch) (name : Bytes) (ts : TokenList) (b : ParsedBody A)
    (says : HasSyntax arch ts b)
    → resolved_head arch name b.parts ≡ head_of_syntax arch name (syntax_of b says.terminals) (formula_of b.parts.prop)
resolved_head-head_of_syntax arch name ts b says =
    let s = b.parts in
    let syntax = syntax_of b says.terminals in
    let es_in = AllByRecursion-of_All s.initializers (λ e. IsIn s.locs e.site) says.initializers_in in
    let ss_in = AllByRecursion-of_All s.listed (IsIn s.locs) says.listed_in in
    let once : IsDuplicateFree s.locs =
    subst IsDuplicateFree (sym says.names)
    (IsDuplicateFree-insert_names []
    (site_names (map (λ e. e.site) syntax.initializers ++ syntax.listed ++ sites_in says.terminals)) tt) in
    let word = fun_ext (λ (x : Seen). sym (words-site_by_name s.locs s.initializers x once es_in)) in
    let is_seen = fun_ext (λ (x : Seen). sym (listed-site_by_name s.locs s.listed x once ss_in)) in
    let regs = ap (λ f. map (λ t. map f (thread_registers t)) (range_with_len 0 s.threads)) word in
    let listed = ap (λ p. filter p (all_registers s.threads ++ locations (length s.locs))) is_seen in
    rw (regs, (ap (λ (f : Seen → ℕ). map f (locations (length s.locs))) word), listed, ← says.names) refl

-- The terminals of a body's text, resolved by the text's table, are the body's proposition.
pub body_proposition : {A : Type 0} (arch : Arch) (ts : List (List ℕ)) (b : ParsedBody A) (says : HasSyntax arch ts b)
    → IsProposition (map (resolved (location_table (syntax_of b says.terminals))) says.terminals) (formula_of b.parts.prop)
body_proposition arch ts b says = rw says.names at says.proposition

-- The resolved head of a body in memory is well-formed.
pub resolved_well_formed : {A : Type 0} (arch : Arch) (ts : List (List ℕ)) (name : List ℕ) (b : ParsedBody A)
    → IsTestName name
    → HasSyntax arch ts b
    → IsWellFormedHead (resolved_head arch name b.parts)
resolved_well_formed arch ts name b allowed says =
    subst IsWellFormedHead (sym (resolved_head-head_of_syntax arch name ts b says))
    (head_well_formed arch ts name (syntax_of b says.terminals) _ allowed says.parts (body_proposition arch ts b says))
