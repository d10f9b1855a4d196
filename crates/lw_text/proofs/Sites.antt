-- When tokens start with a site, and when they do not. `parse_site` returns by these lemmas, one for each way
-- to fail.
use Rattle.lw_text.proofs.Common.{most_locations, ◌≡◌, ◌⊎◌, ℕ, ◌<◌, inl, inr, [], ◌∷◌, Option, None, Some}
use Rattle.lw_text.proofs.Common.{true, false, slice_get, subst, sym, ap, ◌∙◌, arith, codes, true≢false}
use Rattle.lw_text.proofs.Common.{ltb-false, ltb-true, length, ◌≤◌, slice_get_within, HoldsOfNothing}
use Rattle.lw_text.proofs.Common.{ParsesNothing, Bytes, NameTable, TokenList, Arch, IsName, IsUnreservedName}
use Rattle.lw_text.proofs.Common.{IsRegisterName, insert_name, Cursor, IsNumber, with_sites, HasRoomFor}
use Rattle.lw_text.proofs.Common.{HasRoomForName, SiteSyntax, InMemory, InThread, IsSite, ThreadExists}
use Rattle.lw_text.proofs.Common.{ThreadAllowed, remaining_texts, AdvancesTo, is_allowed, ParsedSite}
use Rattle.lw_text.proofs.SitesAndValues.{not-number_and_name, bracket_no_name}
use Rattle.lw_text.proofs.api.Numbers.{bracket_no_number, number-unique}
use Rattle.lw_text.proofs.NameTables.{site_by_name-at}
use Rattle.lw_text.specs.declared.site.Site.TheVariants as made

-- A location is allowed for every number of threads.
allowed_location : (threads : Option ℕ) (x : Bytes) → ThreadAllowed threads (InMemory x)
allowed_location None x = tt
allowed_location (Some threads) x = tt

-- A register of an allowed thread is allowed.
pub allowed_thread : (threads : Option ℕ) (t r : ℕ) → is_allowed threads t ≡ true → ThreadAllowed threads (InThread t r)
allowed_thread None t r e = tt
allowed_thread (Some threads) t r e = ltb-true t threads e

-- A register of a thread that is not allowed is not allowed.
pub not-ThreadAllowed-if_above_threads : (threads : Option ℕ) (t r : ℕ)
    → is_allowed threads t ≡ false
    → ThreadAllowed threads (InThread t r)
    → ⊥
not-ThreadAllowed-if_above_threads None t r e there = absurd (true≢false e)
not-ThreadAllowed-if_above_threads (Some threads) t r e there = omega (arith, there, ltb-false t threads e)

-- If a location's name was inserted, and is next with or without brackets, its site was read.
pub location_site_parsed : {arch : Arch} {threads : Option ℕ} {before after : Cursor} {names table : NameTable} {loc : ℕ}
    {t : Bytes}
    → IsUnreservedName t × (slice_get table loc ≡ Some t) × (table ≡ insert_name names t) × (length table ≤ most_locations)
    → AdvancesTo before after
    → (remaining_texts before ≡ t ∷ remaining_texts after)
    ⊎ (remaining_texts before ≡ codes "[" ∷ t ∷ codes "]" ∷ remaining_texts after)
    → ParsedSite arch threads before after names table (made.Location loc)
location_site_parsed {arch} {threads} {before} {after} {names} {table} {loc} {t} made advances e =
    let same = sym (site_by_name-at table loc t made.1) in
    record {
      parsed = subst (λ s. IsSite arch (remaining_texts before) s (remaining_texts after)) same (made.0, e);
      threads_exist = allowed_location threads _;
      names_are = made.2 ∙ ap (λ s. with_sites names (s ∷ [])) same;
      within = slice_get_within table loc t made.1;
      advances = advances;
      bounded = made.3;
    }

module _ (arch : Arch) (names : NameTable) {ts l : TokenList} {t : Bytes} (e : ts ≡ t ∷ l) where
  -- If `[` is next, but no location that has room and `]` follow, no site fits.
  pub no_site-if_no_location_in_brackets : t ≡ codes "["
      → ((x : Bytes) (rest : TokenList) → l ≡ x ∷ codes "]" ∷ rest → IsUnreservedName x → HasRoomForName names x → ⊥)
      → (s : SiteSyntax) (rest : TokenList)
      → IsSite arch ts s rest
      → HasRoomFor names (s ∷ [])
      → ⊥
  no_site-if_no_location_in_brackets b never (InMemory x) rest (p, inl f) few =
      let k : x ≡ codes "[" = cc in bracket_no_name (subst IsName k p.0)
  no_site-if_no_location_in_brackets b never (InMemory x) rest (p, inr f) few =
      let k : l ≡ x ∷ codes "]" ∷ rest = cc in never x rest k p few
  no_site-if_no_location_in_brackets b never (InThread u r) rest p few =
      let f = p.2 in
      let k : p.0 ≡ codes "[" = cc in
      bracket_no_number u (subst (λ w. IsNumber w u) k p.3)

  -- A site that starts with a number is a register of that thread.
  site_after_number : (n : ℕ)
      → IsNumber t n
      → (s : SiteSyntax) (rest : TokenList)
      → IsSite arch ts s rest
      → (q : Bytes) × (r : ℕ) × (s ≡ InThread n r) × (l ≡ codes ":" ∷ q ∷ rest) × IsRegisterName arch q r
  site_after_number n number (InMemory x) rest (p, inl f) =
      absurd (let k : x ≡ t = cc in not-number_and_name t n number (subst IsName k p.0))
  site_after_number n number (InMemory x) rest (p, inr f) =
      absurd (let k : t ≡ codes "[" = cc in bracket_no_number n (subst (λ w. IsNumber w n) k number))
  site_after_number n number (InThread u r) rest p =
      let f = p.2 in
      let k : p.0 ≡ t = cc in
      let same : u ≡ n = number-unique t u n (subst (λ w. IsNumber w u) k p.3) number in
      (p.1, r, ap (λ (v : ℕ). InThread v r) same, cc, p.4)

  -- If the thread's number is not allowed, there is no allowed site.
  pub no_site-if_thread_refused : (n : ℕ)
      → IsNumber t n
      → (threads : Option ℕ)
      → is_allowed threads n ≡ false
      → (s : SiteSyntax) (rest : TokenList)
      → IsSite arch ts s rest
      → ThreadAllowed threads s
      → ⊥
  no_site-if_thread_refused n number None refused s rest p there = absurd (true≢false refused)
  no_site-if_thread_refused n number (Some threads) refused s rest p there =
      let exists : n < threads = subst (ThreadExists threads) ((site_after_number n number s rest p).2) there in
      omega (arith, exists, ltb-false n threads refused)

  -- If no `:` and register follow a number, there is no site.
  pub no_site-if_no_register : (n : ℕ)
      → IsNumber t n
      → ((q : Bytes) (r : ℕ) (rest : TokenList) → l ≡ codes ":" ∷ q ∷ rest → IsRegisterName arch q r → ⊥)
      → ParsesNothing (IsSite arch ts)
  no_site-if_no_register n number never s rest p = let k = site_after_number n number s _ p in never k.0 k.1 rest k.3 k.4

  -- If the token is no `[`, no number and no location that has room, no site fits.
  pub no_site-if_no_location : (t ≡ codes "[" → ⊥)
      → HoldsOfNothing (IsNumber t)
      → (IsUnreservedName t → HasRoomForName names t → ⊥)
      → (s : SiteSyntax) (rest : TokenList)
      → IsSite arch ts s rest
      → HasRoomFor names (s ∷ [])
      → ⊥
  no_site-if_no_location no_bracket no_number never (InMemory x) rest (p, inl f) few =
      let k : x ≡ t = cc in never (subst IsUnreservedName k p) (subst (λ y. HasRoomForName names y) k few)
  no_site-if_no_location no_bracket no_number never (InMemory x) rest (p, inr f) few = let k : t ≡ codes "[" = cc in no_bracket k
  no_site-if_no_location no_bracket no_number never (InThread u r) rest p few =
      let f = p.2 in
      let k : p.0 ≡ t = cc in
      no_number u (subst (λ w. IsNumber w u) k p.3)
