-- Sites in a growing table of names: their names are unchanged, and agree with their indices. While a test is
-- read, its sites are stored as indices in a table that grows; the grammar has names.
use Rattle.lw_text.proofs.Common.{◌≡◌, ℕ, suc, ◌+◌, inl, inr, true, List, [], ◌∷◌, map, get_or, slice_get}
use Rattle.lw_text.proofs.Common.{Some, refl, sym, ap, ◌∙◌, subst, arith, ◌++◌, append_assoc, append-nil}
use Rattle.lw_text.proofs.Common.{fold, if◌then◌else◌, bytes_eq, AllByRecursion, list_any, get_or-append}
use Rattle.lw_text.proofs.Common.{cases_Bool, bytes_eq-Decides, slice_get-get_or, get_or_from_slice_get}
use Rattle.lw_text.proofs.Common.{Bytes, NameTable, TokenList, IsDuplicateFree, contains_name, insert_name}
use Rattle.lw_text.proofs.Common.{insert_names, position_of_name, Seen, position_of_name-at}
use Rattle.lw_text.proofs.Common.{insert_name-grows, length_le-insert_names, contains_name-of_inserted, Site}
use Rattle.lw_text.proofs.Common.{Initializer, InMemory, seen_in, seen_eq, initial_word_of, site_by_name}
use Rattle.lw_text.proofs.Common.{named_initializer, seen_of, IsIn, word_at, is_listed}
use Rattle.lw_base.specs.declared.head.Seen.TheVariants as seen
use Rattle.lw_text.specs.declared.site.Site.TheVariants as made

-- ---- the index of a name

-- If the table has a name, this name is at its position.
name_at_index : (names : NameTable) (t : Bytes)
    → contains_name names t ≡ true
    → slice_get names (position_of_name names t) ≡ Some t
name_at_index [] t h = absurd cc
name_at_index (y ∷ names) t h = elim (cases_Bool (bytes_eq y t)) [
  | inl e ↦ rw e (ap Some ((bytes_eq-Decides y t).0 e))
  | inr e ↦
      let k = rw e at h in
      rw e
      (subst (λ i. slice_get (y ∷ names) i ≡ Some t)
      (let j : suc (position_of_name names t) ≡ 1 + position_of_name names t = omega arith in j) (name_at_index names t k))
]

-- A name inserted into the table is at its index.
pub insert_name-get : (before after : NameTable) (loc : ℕ) (t : Bytes)
    → after ≡ insert_name before t
    → loc ≡ position_of_name after t
    → slice_get after loc ≡ Some t
insert_name-get before after loc t e f = rw (f, e) (name_at_index _ t (contains_name-of_inserted before t))

-- A location in memory has the name at its index.
pub site_by_name-at : (names : NameTable) (loc : ℕ) (t : Bytes)
    → slice_get names loc ≡ Some t
    → site_by_name names (made.Location loc) ≡ InMemory t
site_by_name-at names loc t e = ap InMemory (get_or_from_slice_get names loc t [] e)

-- ---- in a growing table

-- Inserted names come after those that the table has.
insert_names-grows : (names ns : NameTable) → (more : NameTable) × (insert_names names ns ≡ names ++ more)
insert_names-grows names [] = ([], sym (append-nil names))
insert_names-grows names (n ∷ ns) =
    let g = insert_name-grows names n in
    let h = insert_names-grows (insert_name names n) ns in
    (g.0 ++ h.0, h.1 ∙ ap (λ l. l ++ h.0) g.1 ∙ append_assoc names g.0 h.0)

-- Inserting names preserves the name of a site of the table.
pub site_by_name-insert_names : (names ns : NameTable) (s : Site)
    → IsIn names s
    → site_by_name (insert_names names ns) s ≡ site_by_name names s
site_by_name-insert_names names ns (made.Location loc) h =
    let g = insert_names-grows names ns in ap InMemory (ap (λ l. get_or l loc []) g.1 ∙ get_or-append names g.0 [] loc h)
site_by_name-insert_names names ns (made.Register t r) h = refl

-- Inserting names preserves that a site is in the table.
IsIn-insert_names : (names ns : NameTable) (s : Site) → IsIn names s → IsIn (insert_names names ns) s
IsIn-insert_names names ns s h = omega (arith, h, length_le-insert_names names ns)

-- Lists of items that have sites.
module _ {X Y : Type 0} (site : X → Site) (at : TokenList → X → Y)
    (stable : (names ns : NameTable) (x : X) → IsIn names (site x) → at (insert_names names ns) x ≡ at names x) where
  -- Inserting names preserves the names of all items of a list, and that their sites are in the table.
  pub names_and_sites-insert_names : (names after ns : NameTable) (xs : List X)
      → after ≡ insert_names names ns
      → AllByRecursion (λ x. IsIn names (site x)) xs
      → (map (at after) xs ≡ map (at names) xs) × AllByRecursion (λ x. IsIn after (site x)) xs
  names_and_sites-insert_names names after ns [] e h = (refl, tt)
  names_and_sites-insert_names names after ns (x ∷ xs) e h =
      let k = names_and_sites-insert_names names after ns xs e h.1 in
      let i : at after x ≡ at names x = ap (λ l. at l x) e ∙ stable names ns x h.0 in
      let j = k.0 in
      (cc, (subst (λ l. IsIn l (site x)) (sym e) (IsIn-insert_names names ns (site x) h.0), k.1))

-- Inserting names preserves the named form of an initializer whose site is in the table.
pub named_initializer-insert_names : (names ns : NameTable) (e : Initializer)
    → IsIn names e.site
    → named_initializer (insert_names names ns) e ≡ named_initializer names e
named_initializer-insert_names names ns e h = rw (site_by_name-insert_names names ns e.site h) refl

-- ---- by indices

-- A site's name is resolved to the site, if the names have no duplicates.
pub resolved-site_by_name : (names : NameTable) (s : Site)
    → IsDuplicateFree names
    → IsIn names s
    → seen_in names (site_by_name names s) ≡ seen_of s
resolved-site_by_name names (made.Location loc) once h =
    ap (λ (l : ℕ). seen.Location l) (position_of_name-at names (get_or names loc []) loc once (slice_get-get_or names loc [] h))
resolved-site_by_name names (made.Register t r) once h = refl

-- The words of initializers by names and by indices agree, initializer by initializer.
words-step : (names : NameTable) (es : List Initializer) (s : Seen) (w : ℕ)
    → IsDuplicateFree names
    → AllByRecursion (λ e. IsIn names e.site) es
    → fold (λ w e. if seen_eq (seen_in names e.site) s then e.word else w) w (map (named_initializer names) es)
    ≡ fold (λ w e. if seen_eq (seen_of e.site) s then e.word else w) w es
words-step names [] s w once h = refl
words-step names (e ∷ es) s w once h =
    words-step names es s _ once h.1
    ∙ ap (λ x. fold (λ w e. if seen_eq (seen_of e.site) s then e.word else w) (if seen_eq x s then e.word else w) es)
    (resolved-site_by_name names e.site once h.0)

-- A site has the same initial word by names and by indices.
pub words-site_by_name : (names : NameTable) (es : List Initializer) (s : Seen)
    → IsDuplicateFree names
    → AllByRecursion (λ e. IsIn names e.site) es
    → initial_word_of names (map (named_initializer names) es) s ≡ word_at es s
words-site_by_name names es s once h = words-step names es s 0 once h

-- A site is listed by names if and only if it is listed by indices.
pub listed-site_by_name : (names : NameTable) (sites : List Site) (s : Seen)
    → IsDuplicateFree names
    → AllByRecursion (IsIn names) sites
    → list_any (λ site. seen_eq (seen_in names site) s) (map (site_by_name names) sites) ≡ is_listed sites s
listed-site_by_name names [] s once h = refl
listed-site_by_name names (x ∷ sites) s once h =
    rw (resolved-site_by_name names x once h.0, listed-site_by_name names sites s once h.1) refl
