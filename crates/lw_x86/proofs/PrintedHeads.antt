-- The printed head of a test: what its text says is the head. PrintedFrames needs it: reading computes a head
-- from the printed initializers and names.
use Rattle.lw_x86.proofs.Common.{registers, ◌≡◌, ℕ, zero, suc, ◌+◌, ◌<◌, ◌||◌, ◌⊎◌, inl, inr, Bool, true}
use Rattle.lw_x86.proofs.Common.{false, List, [], ◌∷◌, ◌++◌, map, length, refl, sym, ap, ◌∙◌, arith, ◌==◌}
use Rattle.lw_x86.proofs.Common.{if◌then◌else◌, filter, fold, slice_index_or, eqb-true, AllByRecursion}
use Rattle.lw_x86.proofs.Common.{list_any, range_with_len, any-filter_same, map-append, fill_by_all}
use Rattle.lw_x86.proofs.Common.{All-from_recursion, All-get_or, filter_map-append, filter_agree, Seen}
use Rattle.lw_x86.proofs.Common.{Register, Location, TestHead, insert_names, IsSeenInRange, IsWellFormedHead}
use Rattle.lw_x86.proofs.Common.{insert_names-if_in_table, insert_names-again, insert_names-append}
use Rattle.lw_x86.proofs.Common.{SiteSyntax, site_name, site_names, seen_in, InitializerSyntax}
use Rattle.lw_x86.proofs.Common.{initial_word_of, listed_in, seen_eq, thread_registers, all_registers}
use Rattle.lw_x86.proofs.Common.{locations, AllByRecursion-filter, AllByRecursion-map_range}
use Rattle.lw_x86.proofs.Common.{AllByRecursion-flat_map_range, seen_eq-sound, has_seen, has_seen-register}
use Rattle.lw_x86.proofs.Common.{has_seen-location, has_seen-append_left, has_seen-append_right}
use Rattle.lw_x86.proofs.Common.{filter_has_seen-all_seen, named_site, IsPrintable, sites_in_table}
use Rattle.lw_x86.proofs.Common.{seen_in-named_site, initial_word}
use Rattle.lw_x86.proofs.PrintedBlocks.{needs_initializer, initialized_sites, initializer_of, initializers_of}
use Rattle.lw_x86.proofs.PrintedBlocks.{IsOfTest-initialized_sites}

-- A `map` of a `map` is a single `map`.
map_twice : {X Y Z : Type 0} (f : Y → Z) (g : X → Y) (xs : List X) → map f (map g xs) ≡ map (λ x. f (g x)) xs
map_twice f g [] = refl
map_twice f g (x ∷ xs) = let e = map_twice f g xs in cc

module _ (head : TestHead) (well : IsWellFormedHead head) where
  -- The register or location is of the test.
  abbrev IsOfTest : Seen → Type 0
  IsOfTest = IsSeenInRange head.threads (length head.locs)

  -- ---- the table

  -- The sites of the printed initializers are the initialized registers and locations, by name.
  initializer_sites : (ss : List Seen) → map (λ e. e.site) (map (initializer_of head) ss) ≡ map (named_site head.locs) ss
  initializer_sites [] = refl
  initializer_sites (s ∷ ss) = rw (initializer_sites ss) refl

  -- The site is a register.
  abbrev IsRegisterSite : Seen → Type 0
  IsRegisterSite (Register t r) = Unit {0}
  IsRegisterSite (Location x) = ⊥

  -- Registers name no location.
  site_names-IsRegisterSite : (ss : List Seen)
      → AllByRecursion IsRegisterSite ss
      → site_names (map (named_site head.locs) ss) ≡ []
  site_names-IsRegisterSite [] h = refl
  site_names-IsRegisterSite (Register t r ∷ ss) h = site_names-IsRegisterSite ss h.1
  site_names-IsRegisterSite (Location x ∷ ss) h = absurd h.0

  -- The locations from a on are named as the table says.
  location_names : (a n : ℕ)
      → site_names (map (named_site head.locs) (map (λ x. Location x) (range_with_len a n)))
      ≡ map (λ x. slice_index_or head.locs x []) (range_with_len a n)
  location_names a zero = refl
  location_names a (suc n) = rw (location_names (a + 1) n) refl

  -- The names in the initial block are those of the table, in order.
  entered_names : site_names (map (λ e. e.site) (initializers_of head)) ≡ head.locs
  entered_names =
      let written = filter (needs_initializer head) (all_registers head.threads) in
      let none =
      site_names-IsRegisterSite written
      (AllByRecursion-filter IsRegisterSite (needs_initializer head) (all_registers head.threads)
      (AllByRecursion-flat_map_range IsRegisterSite thread_registers 0 head.threads
      (λ t le lt. AllByRecursion-map_range IsRegisterSite (λ r. Register t r) 0 registers (λ r le2 lt2. tt)))) in
      rw (
        initializer_sites (initialized_sites head),
        map-append (named_site head.locs) written (locations (length head.locs)),
        filter_map-append site_name (map (named_site head.locs) written),
        none,
        location_names 0 (length head.locs),
      ) (sym (fill_by_all (λ x. slice_index_or head.locs x []) head.locs (length head.locs) [] refl (λ k lt. refl)))

  -- The names of the printed initializers, and of further registers and locations of the test, give the head's table.
  pub insert_names-printed_names : (more : List SiteSyntax)
      → AllByRecursion (IsPrintable head.threads head.locs) more
      → insert_names [] (site_names (map (λ e. e.site) (initializers_of head) ++ more)) ≡ head.locs
  insert_names-printed_names more h =
      rw (
        filter_map-append site_name (map (λ e. e.site) (initializers_of head)) more,
        entered_names,
        insert_names-append [] head.locs (site_names more),
        insert_names-again head.locs well.table.without_duplicates,
      ) (insert_names-if_in_table head.locs (site_names more) (sites_in_table head.threads head.locs more h))

  -- ---- the initial words

  -- Naming and resolving a site preserves which site it equals.
  seen_eq-named_site : (x : Seen) → IsOfTest x → (s : Seen) → seen_eq (seen_in head.locs (named_site head.locs x)) s ≡ seen_eq x s
  seen_eq-named_site x h s =
      ap (λ (y : Seen). seen_eq y s) (seen_in-named_site head.threads head.locs well.table.without_duplicates x h)

  -- The word of the last initializer of a site, or the default.
  abbrev word_of_last : Seen → ℕ → List InitializerSyntax → ℕ
  word_of_last s w initializers = fold (λ v e. if seen_eq (seen_in head.locs e.site) s then e.word else v) w initializers

  -- One of two words: the initial one if the test is true.
  abbrev word_if : Bool → Seen → ℕ → ℕ
  word_if b s w = if b then initial_word head s else w

  -- Of printed initializers the last one of a site has its initial word.
  words_step : (ss : List Seen) (s : Seen) (w : ℕ)
      → AllByRecursion IsOfTest ss
      → word_of_last s w (map (initializer_of head) ss) ≡ word_if (has_seen ss s) s w
  words_step [] s w h = refl
  words_step (x ∷ ss) s w h =
      ap (λ (b : Bool). word_of_last s (word_if b x w) (map (initializer_of head) ss)) (seen_eq-named_site x h.0 s)
      ∙ go (seen_eq x s) refl (λ v. words_step ss s v h.1)
    where
      -- By whether the first register or location is the one whose word is asked for.
      go : (b : Bool)
          → seen_eq x s ≡ b
          → ((v : ℕ) → word_of_last s v (map (initializer_of head) ss) ≡ word_if (has_seen ss s) s v)
          → word_of_last s (word_if b x w) (map (initializer_of head) ss) ≡ word_if (b || has_seen ss s) s w
      go true e step = step (initial_word head x) ∙ word_if-same_site (has_seen ss s)
        where
          -- Both words agree for the site of the initializer.
          word_if-same_site : (b : Bool) → word_if b s (initial_word head x) ≡ initial_word head s
          word_if-same_site true = refl
          word_if-same_site false = ap (initial_word head) (seen_eq-sound x s e)
      go false e step = step w

  -- The word that the initializers say of a site is its initial one, if that is 0 or the site is initialized.
  initial_word_of-initializers : (s : Seen)
      → (initial_word head s ≡ 0) ⊎ (has_seen (initialized_sites head) s ≡ true)
      → initial_word_of head.locs (initializers_of head) s ≡ initial_word head s
  initial_word_of-initializers s =
      go (has_seen (initialized_sites head) s) (words_step (initialized_sites head) s 0 (IsOfTest-initialized_sites head well))
    where
      -- By whether the register or location is initialized.
      go : (b : Bool)
          → initial_word_of head.locs (initializers_of head) s ≡ word_if b s 0
          → (initial_word head s ≡ 0) ⊎ (b ≡ true)
          → initial_word_of head.locs (initializers_of head) s ≡ initial_word head s
      go true step there = step
      go false step (inl zero_word) = step ∙ sym zero_word
      go false step (inr e) = absurd cc

  -- The printed initializers give each register the word that the head gives it.
  initial_word_of-register : (t r : ℕ)
      → t < head.threads
      → r < registers
      → initial_word_of head.locs (initializers_of head) (Register t r) ≡ initial_word head (Register t r)
  initial_word_of-register t r h k =
      initial_word_of-initializers (Register t r) (register_zero_or_initialized (initial_word head (Register t r) == 0) refl)
    where
      -- A register starts with 0, or it is initialized.
      register_zero_or_initialized : (b : Bool)
          → (initial_word head (Register t r) == 0) ≡ b
          → (initial_word head (Register t r) ≡ 0) ⊎ (has_seen (initialized_sites head) (Register t r) ≡ true)
      register_zero_or_initialized true e = inl (eqb-true (initial_word head (Register t r)) 0 e)
      register_zero_or_initialized false e =
          let initializer : needs_initializer head (Register t r) ≡ true = rw e refl in
          inr (has_seen-append_left (filter (needs_initializer head) (all_registers head.threads)) (locations (length head.locs))
          (Register t r)
          (any-filter_same (λ x. seen_eq x (Register t r)) (needs_initializer head) true
          (λ x same. ap (needs_initializer head) (seen_eq-sound x (Register t r) same) ∙ initializer) (all_registers head.threads)
          ∙ has_seen-register head.threads t r h k))

  -- The registers' words that the initializers say are the head's.
  pub initial_registers-printed :
      map (λ t. map (initial_word_of head.locs (initializers_of head)) (thread_registers t)) (range_with_len 0 head.threads)
      ≡ head.init_regs
  initial_registers-printed =
      sym (fill_by_all (λ t. map (initial_word_of head.locs (initializers_of head)) (thread_registers t)) head.init_regs
      head.threads [] well.regs
      (λ t lt.
      fill_by_all (λ r. initial_word_of head.locs (initializers_of head) (Register t r)) (slice_index_or head.init_regs t [])
      registers 0
      (All-get_or (λ row. length row ≡ registers) head.init_regs t [] (omega (arith, lt, well.regs))
      (All-from_recursion (λ row. length row ≡ registers) head.init_regs well.register_counts))
      (λ r k. sym (initial_word_of-register t r lt k))))

  -- The locations' words that the initializers say are the head's.
  pub initial_words-printed : map (initial_word_of head.locs (initializers_of head)) (locations (length head.locs))
      ≡ head.init_words
  initial_words-printed =
      map_twice (initial_word_of head.locs (initializers_of head)) (λ x. Location x) (range_with_len 0 (length head.locs))
      ∙ sym (fill_by_all (λ x. initial_word_of head.locs (initializers_of head) (Location x)) head.init_words (length head.locs) 0
      well.words (λ x lt.
      sym (initial_word_of-initializers (Location x)
      (inr (has_seen-append_right (filter (needs_initializer head) (all_registers head.threads)) (locations (length head.locs))
      (Location x) (has_seen-location (length head.locs) x lt))))))

  -- ---- the list of names

  -- A site is among the listed ones by name if and only if it is listed.
  list_any-named_sites : (ss : List Seen)
      → AllByRecursion IsOfTest ss
      → (s : Seen)
      → list_any (λ site. seen_eq (seen_in head.locs site) s) (map (named_site head.locs) ss) ≡ has_seen ss s
  list_any-named_sites [] h s = refl
  list_any-named_sites (x ∷ ss) h s = rw (seen_eq-named_site x h.0 s, list_any-named_sites ss h.1 s) refl

  -- The printed list of names says what the head lists.
  pub listed_in-named_sites : listed_in head.threads head.locs (map (named_site head.locs) head.listed) ≡ head.listed
  listed_in-named_sites =
      filter_agree _ (has_seen head.listed) (list_any-named_sites head.listed well.listed_in_range)
      (all_registers head.threads ++ locations (length head.locs))
      ∙ filter_has_seen-all_seen head.threads (length head.locs) head.listed well.ascending well.listed_in_range
