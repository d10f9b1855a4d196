-- Reading the initializers of an initial block, and the list of names, in sequence. They are the two
-- instances of Readings.
use Rattle.lw_text.proofs.Common.{◌≡◌, false, List, [], ◌∷◌, refl, codes, ℕ, inl, inr, map, sym, ◌∙◌, subst}
use Rattle.lw_text.proofs.Common.{map-id, AllByRecursion, TokenList, Arch, HasRoomFor, SiteSyntax, IsSite}
use Rattle.lw_text.proofs.Common.{ThreadExists, begins_token, Listed, InitializerSyntax, IsInitializer, Block}
use Rattle.lw_text.proofs.Common.{sites_of, named_initializer, site_by_name}
use Rattle.lw_text.specs.declared.block.Initializer.{Initializer as MadeInitializer}
use Rattle.lw_text.proofs.SitesAndValues.{no_site, IsSite-unique, IsInitializer-unique, brace, semicolon}
use Rattle.lw_text.proofs.SitesAndValues.{bracket}
use Rattle.lw_text.proofs.NameTables.{named_initializer-insert_names, site_by_name-insert_names}
use Rattle.lw_text.proofs.Readings.{ListKind, AreReadElements, no_list-if_no_element, ParsesList-unique}
use Rattle.lw_text.proofs.Readings.{ParsesList}
use Rattle.lw_text.proofs.Texts.{not-equal-if_bytes_differ, not-token_is_next}
use Rattle.lw_text.proofs.Lists.{IsDeterministic}
use Rattle.lw_text.specs.declared.site.Site.{Site as MadeSite}

-- ---- the initial block

-- The initial block, as a list of initializers between braces.
abbrev pub initializer_kind : Arch → ListKind MadeInitializer InitializerSyntax
initializer_kind arch = record {
  opening = codes "{" ∷ [];
  close = brace;
  parses = IsInitializer arch;
  asks = λ e. Unit {0};
  site = λ e. e.site;
  at = named_initializer;
  syntax = λ e. e.site;
  same = λ names e. refl;
  stable = named_initializer-insert_names;
  deterministic = IsInitializer-unique arch;
  separator_is_not_close = not-equal-if_bytes_differ semicolon brace refl;
  unlike = λ ts r l e at p. no_site brace refl arch ts l p.0 e.site at p.1;
}

-- Nothing is required of initializers.
AllByRecursion-Unit : (all : List InitializerSyntax) → AllByRecursion (λ e. Unit {0}) all
AllByRecursion-Unit [] = tt
AllByRecursion-Unit (e ∷ all) = (tt, AllByRecursion-Unit all)

-- If neither an initializer nor the closing brace follows, there is no initial block.
pub no_block-if_no_initializer : (arch : Arch) {first names ts here : TokenList} {es : List MadeInitializer}
    → AreReadElements (initializer_kind arch) first names ts here es
    → begins_token brace here ≡ false
    → ((e : InitializerSyntax) (rest : TokenList) → IsInitializer arch here e rest → HasRoomFor names (e.site ∷ []) → ⊥)
    → (all : List InitializerSyntax) (rest : TokenList)
    → Block arch ts all rest
    → HasRoomFor first (sites_of all)
    → ⊥
no_block-if_no_initializer arch {here = here} read h never all rest block few =
    no_list-if_no_element read (λ l. not-token_is_next brace here l h) (λ e rest p none few. never e rest p few) all rest block
    (AllByRecursion-Unit all) few

-- The parse of an initial block is unique.
pub Block-unique : (arch : Arch) → IsDeterministic (Block arch)
Block-unique arch = ParsesList-unique (initializer_kind arch)

-- ---- the list of names

-- The list of names, as a list of sites whose threads exist.
abbrev pub site_kind : Arch → ℕ → ListKind MadeSite SiteSyntax
site_kind arch threads = record {
  opening = codes "locations" ∷ codes "[" ∷ [];
  close = bracket;
  parses = IsSite arch;
  asks = ThreadExists threads;
  site = λ s. s;
  at = site_by_name;
  syntax = λ s. s;
  same = λ names s. refl;
  stable = site_by_name-insert_names;
  deterministic = IsSite-unique arch;
  separator_is_not_close = not-equal-if_bytes_differ semicolon bracket refl;
  unlike = λ ts r l s at p. no_site bracket refl arch ts l r s at p;
}

-- If tokens start with `locations`, they have a list of the kind `site_kind`.
pub ParsesList-Listed : (arch : Arch) (threads : ℕ) (ts after : TokenList)
    → ts ≡ codes "locations" ∷ after
    → (all : List SiteSyntax) (rest : TokenList)
    → Listed arch ts all rest
    → ParsesList (site_kind arch threads) ts all rest
ParsesList-Listed arch threads ts after word all rest (inl p) = p
ParsesList-Listed arch threads ts after word all rest (inr p) = absurd (not-token_is_next _ ts after p.0 word)

-- A table with room for sites has room for their syntax, which are the sites themselves.
pub HasRoomFor-map_same : (names : TokenList) (all : List SiteSyntax) → HasRoomFor names all → HasRoomFor names (map (λ s. s) all)
HasRoomFor-map_same names all few = subst (λ x. HasRoomFor names x) (sym (map-id all)) few

-- The parse of a list of names, or of none, is unique.
pub Listed-unique : (arch : Arch) → IsDeterministic (Listed arch)
Listed-unique arch ts a b r s (inl p) q =
    ParsesList-unique (site_kind arch 0) ts a b r s p (ParsesList-Listed arch 0 ts (codes "[" ∷ p.0) p.1 b s q)
Listed-unique arch ts a b r s (inr p) (inl q) = absurd (not-token_is_next _ ts (codes "[" ∷ q.0) p.0 q.1)
Listed-unique arch ts a b r s (inr p) (inr q) = (p.1 ∙ sym q.1, sym p.2 ∙ q.2)
