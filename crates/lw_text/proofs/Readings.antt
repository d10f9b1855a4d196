-- Reading lists of initializers and of sites in sequence, while the table of names grows. The loops of
-- `parse_block` and `parse_listed` are of this form; SiteLists says how.
use Rattle.lw_text.proofs.Common.{◌≡◌, ◌≤◌, List, [], ◌∷◌, ◌++◌, length, map, refl, sym, ap, ◌∙◌, subst}
use Rattle.lw_text.proofs.Common.{arith, All, AllByRecursion, append_cancel_left, map-append, map_push}
use Rattle.lw_text.proofs.Common.{filter_map-append, All-from_recursion, ParsesNothing, Bytes, NameTable}
use Rattle.lw_text.proofs.Common.{TokenList, insert_names, AllByRecursion-append, All-append_inv}
use Rattle.lw_text.proofs.Common.{insert_names-append, length_le-insert_names, ParsesSepEndBy, with_sites}
use Rattle.lw_text.proofs.Common.{HasRoomFor, SiteSyntax, site_name, site_names, site_by_name, IsIn}
use Rattle.lw_text.specs.declared.site.Site.{Site as Made}
use Rattle.lw_text.proofs.SitesAndValues.{semicolon}
use Rattle.lw_text.proofs.Lists.{ParsesMany-push, ParsesSepEndBy-unique, AreReadSepEndBy}
use Rattle.lw_text.proofs.Lists.{ParsesSepEndBy-at_close, ParsesSepEndBy-last, IsDeterministic}
use Rattle.lw_text.proofs.Lists.{not-ParsesSepEndBy-if_no_element, not-ParsesSepEndBy-if_no_punctuation}
use Rattle.lw_text.proofs.NameTables.{names_and_sites-insert_names}

-- What holds of all elements of a list and of x holds of all elements of the list with x appended.
pub AllByRecursion-snoc : {X : Type 0} (P : X → Type 0) (xs : List X) (x : X)
    → AllByRecursion P xs
    → P x
    → AllByRecursion P (xs ++ x ∷ [])
AllByRecursion-snoc P xs x all p = AllByRecursion-append P xs (x ∷ []) all (p, tt)

-- Inserting the names of sites a and then of b is inserting those of `a ++ b`.
pub with_sites-append : (names : NameTable) (a b : List SiteSyntax)
    → with_sites names (a ++ b) ≡ with_sites (with_sites names a) b
with_sites-append names a b =
    ap (insert_names names) (filter_map-append site_name a b) ∙ insert_names-append names (site_names a) (site_names b)

-- The names of sites up to one of them need no more room in the table than those of all.
names_up_to : (names : NameTable) (front : List SiteSyntax) (s : SiteSyntax) (back : List SiteSyntax)
    → length (with_sites (with_sites names front) (s ∷ [])) ≤ length (with_sites names (front ++ s ∷ back))
names_up_to names front s back =
    let table = with_sites names front in
    omega (
      arith,
      ap length (with_sites-append names front (s ∷ back)),
      ap length (with_sites-append table (s ∷ []) back),
      length_le-insert_names (with_sites table (s ∷ [])) (site_names back),
    )

-- A kind of list: its opening and closing tokens; how an element parses, as a Y, and what is required of it (`asks`). In memory the element
-- is an X: `at` is its syntax, by the names of a table. Each element has a site, `site` in memory and `syntax` of its syntax. The last
-- three fields say that lists of this kind have unique parses: no element begins with the closing token.
pub record ListKind (X Y : Type 0) : Type 1 where
  pub opening : TokenList
  pub close : Bytes
  pub parses : TokenList → Y → TokenList → Type 0
  pub asks : Y → Type 0
  pub site : X → Made
  pub at : NameTable → X → Y
  pub syntax : Y → SiteSyntax
  pub same : (names : NameTable) (x : X) → syntax (at names x) ≡ site_by_name names (site x)
  pub stable : (names ns : NameTable) (x : X) → IsIn names (site x) → at (insert_names names ns) x ≡ at names x
  pub deterministic : IsDeterministic parses
  pub separator_is_not_close : semicolon ≡ close → ⊥
  pub unlike : (ts r l : TokenList) (x : Y) → ts ≡ close ∷ l → parses ts x r → ⊥

module _ {X Y : Type 0} (kind : ListKind X Y) where
  -- The tokens are a whole list of these elements, from its opening to its close, and `rest` remains.
  abbrev pub ParsesList : TokenList → List Y → TokenList → Type 0
  ParsesList ts ys rest = (l : TokenList) × (ts ≡ kind.opening ++ l) × ParsesSepEndBy kind.parses semicolon kind.close l ys rest

  -- The sites of elements in memory, by the names of a table.
  abbrev pub sites_of : NameTable → List X → List SiteSyntax
  sites_of names xs = map (λ x. site_by_name names (kind.site x)) xs

  -- These elements have been read, and `here` remains. The names of their sites were inserted into the table.
  pub record AreReadElements (first names ts here : TokenList) (xs : List X) : Type 0 where
    pub start : TokenList
    pub begun : ts ≡ kind.opening ++ start
    pub listing : AreReadSepEndBy kind.parses semicolon kind.close start (map (kind.at names) xs) here
    pub names_are : names ≡ with_sites first (sites_of names xs)
    pub within : AllByRecursion (λ x. IsIn names (kind.site x)) xs
    pub fits : AllByRecursion kind.asks (map (kind.at names) xs)

  -- These elements are the whole list, and `rest` remains. The names of their sites were inserted into the table.
  pub record IsReadList (first names ts rest : TokenList) (xs : List X) : Type 0 where
    pub whole : ParsesList ts (map (kind.at names) xs) rest
    pub names_are : names ≡ with_sites first (sites_of names xs)
    pub within : All (λ x. IsIn names (kind.site x)) xs
    pub fits : AllByRecursion kind.asks (map (kind.at names) xs)

  -- After the opening nothing has been read.
  pub AreReadElements-none : (names ts start : TokenList) → ts ≡ kind.opening ++ start → AreReadElements names names ts start []
  AreReadElements-none names ts start e =
      record { start = start; begun = e; listing = refl; names_are = refl; within = tt; fits = tt }

  -- The syntax of elements' sites is that of their sites in memory, by the names of the table.
  syntax_sites : (names : NameTable) (xs : List X) → map kind.syntax (map (kind.at names) xs) ≡ sites_of names xs
  syntax_sites names [] = refl
  syntax_sites names (x ∷ xs) =
      let e = kind.same names x in
      let f = syntax_sites names xs in
      cc

  -- If tokens are the opening of a list and then `start`, the elements of a list of them parse at `start`, with separators and
  -- the closing token.
  ParsesSepEndBy-ParsesList : (ts start : TokenList)
      → ts ≡ kind.opening ++ start
      → (ys : List Y) (rest : TokenList)
      → ParsesList ts ys rest
      → ParsesSepEndBy kind.parses semicolon kind.close start ys rest
  ParsesSepEndBy-ParsesList ts start e ys rest w = rw (append_cancel_left kind.opening w.0 start (sym w.1 ∙ e)) at w.2

  -- The parse of a list is unique.
  pub ParsesList-unique : IsDeterministic ParsesList
  ParsesList-unique ts a b r s p q =
      ParsesSepEndBy-unique kind.parses semicolon kind.close kind.deterministic kind.separator_is_not_close kind.unlike a b p.0 r
      s p.2 (ParsesSepEndBy-ParsesList ts p.0 p.1 b s q)

-- One more element x was read, from `here` to `mid`, and its name inserted into the table.
pub record IsReadElement {X Y : Type 0} (kind : ListKind X Y) (names after : NameTable) (here mid : TokenList)
    (x : X) : Type 0 where
  pub grows : after ≡ with_sites names (site_by_name after (kind.site x) ∷ [])
  pub is_in : IsIn after (kind.site x)
  pub fits : kind.asks (kind.at after x)
  pub parsed : kind.parses here (kind.at after x) mid

module _ {X Y : Type 0} {kind : ListKind X Y} {first names ts here : TokenList} {xs : List X}
    (read : AreReadElements kind first names ts here xs) where
  -- If the closing token follows a separator, the elements are the whole list.
  pub IsReadList-at_close : (rest : TokenList) → here ≡ kind.close ∷ rest → IsReadList kind first names ts rest xs
  IsReadList-at_close rest e = record {
    whole = (read.start, read.begun, ParsesSepEndBy-at_close _ semicolon _ _ read.start here rest read.listing e);
    names_are = read.names_are;
    within = All-from_recursion (λ x. IsIn names (kind.site x)) xs read.within;
    fits = read.fits;
  }

  -- If neither the closing token nor an element whose name has room follows, there is no list.
  pub no_list-if_no_element : ((l : TokenList) → here ≡ kind.close ∷ l → ⊥)
      → ((y : Y) (rest : TokenList) → kind.parses here y rest → kind.asks y → HasRoomFor names (kind.syntax y ∷ []) → ⊥)
      → (ys : List Y) (rest : TokenList)
      → ParsesList kind ts ys rest
      → AllByRecursion kind.asks ys
      → HasRoomFor first (map kind.syntax ys)
      → ⊥
  no_list-if_no_element no_end never ys rest w all few =
      let before = map (kind.at names) xs in
      not-ParsesSepEndBy-if_no_element kind.parses semicolon kind.close kind.deterministic kind.separator_is_not_close kind.unlike
      before ys read.start here rest read.listing (no_end rest) (λ y more mid e p.
      let f =
      ap (map kind.syntax) e
      ∙ map-append kind.syntax before (y ∷ more)
      ∙ ap (λ l. l ++ kind.syntax y ∷ map kind.syntax more) (syntax_sites kind names xs) in
      never y mid p (All-append_inv kind.asks before _ (subst (AllByRecursion kind.asks) e all)).1.0 (omega (
        arith,
        few,
        names_up_to first (sites_of kind names xs) (kind.syntax y) (map kind.syntax more),
        ap (λ l. length (with_sites first l)) f,
        ap (λ ns. length (with_sites ns (kind.syntax y ∷ []))) read.names_are,
      ))) (ParsesSepEndBy-ParsesList kind ts read.start read.begun ys rest w)

  -- If neither a separator nor the closing token follows an element, there is no list.
  pub no_list-if_no_separator : (x : Y) (mid : TokenList)
      → kind.parses here x mid
      → ((l : TokenList) → mid ≡ semicolon ∷ l → ⊥)
      → ((l : TokenList) → mid ≡ kind.close ∷ l → ⊥)
      → ParsesNothing (ParsesList kind ts)
  no_list-if_no_separator x mid p no_sep no_close ys rest w =
      not-ParsesSepEndBy-if_no_punctuation kind.parses semicolon kind.close kind.deterministic kind.separator_is_not_close
      kind.unlike _ ys read.start here mid rest x read.listing p no_sep no_close
      (ParsesSepEndBy-ParsesList kind ts read.start read.begun ys rest w)

  -- One more element.
  module _ {after : NameTable} {x : X} {mid : TokenList} (more : IsReadElement kind names after here mid x) where
    -- The names and sites of the elements read are the same in the new table.
    sites_and_IsIn-unchanged : (map (kind.at after) xs ≡ map (kind.at names) xs)
        × AllByRecursion (λ x. IsIn after (kind.site x)) xs
    sites_and_IsIn-unchanged =
        names_and_sites-insert_names _ _ kind.stable _ _ (site_names (site_by_name after (kind.site x) ∷ [])) xs more.grows
        read.within

    -- The named elements are those, and the new one.
    at-push : map (kind.at after) (xs ++ x ∷ []) ≡ map (kind.at names) xs ++ kind.at after x ∷ []
    at-push = map_push (kind.at after) xs x ∙ ap (λ l. l ++ kind.at after x ∷ []) sites_and_IsIn-unchanged.0

    -- The table has the names of all, in order.
    names-push : after ≡ with_sites first (sites_of kind after (xs ++ x ∷ []))
    names-push =
        let s = site_by_name after (kind.site x) in
        let same = sym (syntax_sites kind _ xs) ∙ ap (map kind.syntax) sites_and_IsIn-unchanged.0 ∙ syntax_sites kind names xs in
        let e = map_push (λ x. site_by_name after (kind.site x)) xs x ∙ ap (λ l. l ++ s ∷ []) same in
        more.grows
        ∙ ap (λ ns. with_sites ns (s ∷ [])) read.names_are
        ∙ sym (ap (λ l. with_sites first l) e ∙ with_sites-append first (sites_of kind names xs) (s ∷ []))

    -- All sites are in the table.
    IsIn-push : AllByRecursion (λ x. IsIn after (kind.site x)) (xs ++ x ∷ [])
    IsIn-push = AllByRecursion-snoc (λ x. IsIn after (kind.site x)) xs x sites_and_IsIn-unchanged.1 more.is_in

    -- All elements satisfy what is asked of them.
    asks-push : AllByRecursion kind.asks (map (kind.at after) (xs ++ x ∷ []))
    asks-push = subst (AllByRecursion kind.asks) (sym at-push) (AllByRecursion-snoc kind.asks _ _ read.fits more.fits)

    -- If a separator follows one more element, it is one more element read.
    pub AreReadElements-next : (next : TokenList)
        → mid ≡ semicolon ∷ next
        → AreReadElements kind first after ts next (xs ++ x ∷ [])
    AreReadElements-next next e = record {
      start = read.start;
      begun = read.begun;
      listing =
          subst (λ l. AreReadSepEndBy kind.parses semicolon kind.close read.start l next) (sym at-push)
          (ParsesMany-push _ _ read.start here next (kind.at after x) read.listing (mid, more.parsed, e));
      names_are = names-push;
      within = IsIn-push;
      fits = asks-push;
    }

    -- If the closing token follows one more element, the whole list has been read.
    pub IsReadList-after_last : (rest : TokenList) → mid ≡ kind.close ∷ rest → IsReadList kind first after ts rest (xs ++ x ∷ [])
    IsReadList-after_last rest e = record {
      whole = (
        read.start,
        read.begun,
        subst (λ l. ParsesSepEndBy kind.parses semicolon kind.close read.start l rest) (sym at-push)
            (ParsesSepEndBy-last kind.parses semicolon kind.close _ read.start here mid rest _ read.listing more.parsed e),
      );
      names_are = names-push;
      within = All-from_recursion (λ x. IsIn after (kind.site x)) (xs ++ x ∷ []) IsIn-push;
      fits = asks-push;
    }
