-- The printed initial block: its text spells tokens, which say its initializers. One part of a printed text
-- (PrintedFrames).
use Rattle.lw_x86.proofs.Common.{most_assignment_bytes, registers, ◌≡◌, ℕ, zero, suc, ◌+◌, ◌*◌, ◌<◌, ◌≤◌, ◌^◌}
use Rattle.lw_x86.proofs.Common.{Bool, true, false, not, List, [], ◌∷◌, ◌++◌, map, length, refl, arith}
use Rattle.lw_x86.proofs.Common.{append_assoc, length-append, ◌==◌, codes, filter, slice_index}
use Rattle.lw_x86.proofs.Common.{slice_index_or, flat_map, AllByRecursion, flat_map-append, TokenList, X86}
use Rattle.lw_x86.proofs.Common.{Seen, Register, Location, TestHead, IsSeenInRange, IsWellFormedHead}
use Rattle.lw_x86.proofs.Common.{IsWordNumber, ThreadExists, InitializerSyntax, IsInitializer, Block}
use Rattle.lw_x86.proofs.Common.{thread_registers, all_registers, locations, AllByRecursion-append}
use Rattle.lw_x86.proofs.Common.{AllByRecursion-filter, AllByRecursion-map, All-mono}
use Rattle.lw_x86.proofs.Common.{AllByRecursion-map_range, AllByRecursion-flat_map_range, length_le-filter}
use Rattle.lw_x86.proofs.Common.{length-all_seen, max_seen_count, Anything, Spells, Spells-append}
use Rattle.lw_x86.proofs.Common.{Spells-append_anything, Spells-mono, Spells-nothing, Spells-space}
use Rattle.lw_x86.proofs.Common.{Spells-newline, Spells-single_symbol, named_site, site_tokens, value_tokens}
use Rattle.lw_x86.proofs.Common.{IsPrintable, named_printable, IsSite-site_tokens, Value-value_tokens}
use Rattle.lw_x86.proofs.Common.{site_exists, ParsesSepEndBy-tokens, assignment_spelled, initial_word}
use Rattle.lw_x86.proofs.Common.{initializer_text, register_initializer, block_text}

-- ---- initializers

-- Tests whether a register or location has an initializer: a register has one unless it starts with 0, a location always.
abbrev pub needs_initializer : TestHead → Seen → Bool
needs_initializer head s = not (initial_word head s == 0)

-- The registers and locations that have an initializer, in their order.
abbrev pub initialized_sites : TestHead → List Seen
initialized_sites head = filter (needs_initializer head) (all_registers head.threads) ++ locations (length head.locs)

-- The syntax of the initializer of a register or location: its site by name, and its word.
abbrev pub initializer_of : TestHead → Seen → InitializerSyntax
initializer_of head s = record { site = named_site head.locs s; word = initial_word head s }

-- The syntax of all initializers of a head.
abbrev pub initializers_of : TestHead → List InitializerSyntax
initializers_of head = map (initializer_of head) (initialized_sites head)

-- The tokens of an initializer: its site, `=` and its word, without the `;` after it.
abbrev pub initializer_tokens : InitializerSyntax → TokenList
initializer_tokens e = site_tokens X86 e.site ++ value_tokens e.word

-- The tokens of the initial block.
abbrev pub block_tokens : TestHead → TokenList
block_tokens head =
    codes "{" ∷ (flat_map (λ e. initializer_tokens e ++ codes ";" ∷ []) (initializers_of head) ++ (codes "}" ∷ []))

-- ---- words

-- The maximum length of an initializer, in bytes: a space, a register or a location with its word, `;` and the line's end.
abbrev most_initializer_bytes : ℕ
most_initializer_bytes = 1 + (most_assignment_bytes + 2)

-- The maximum length of the initial block, in bytes.
abbrev pub block_bytes : ℕ
block_bytes = most_initializer_bytes * max_seen_count + 4

module _ (head : TestHead) (well : IsWellFormedHead head) where
  -- The register or location is of the test.
  abbrev IsOfTest : Seen → Type 0
  IsOfTest = IsSeenInRange head.threads (length head.locs)

  -- Each register's initial word is a word; 0 past the last.
  row_word : (ws : List ℕ) (k : ℕ) → AllByRecursion IsWordNumber ws → slice_index ws k < 2 ^ 32
  row_word [] k a = omega arith
  row_word (w ∷ ws) zero a = a.0
  row_word (w ∷ ws) (suc k) a = row_word ws k a.1

  -- Each thread's registers' initial words are words.
  initial_word-below_2_32 : (rows : List (List ℕ)) (t r : ℕ)
      → AllByRecursion (AllByRecursion IsWordNumber) rows
      → slice_index (slice_index_or rows t []) r < 2 ^ 32
  initial_word-below_2_32 [] t r h = omega arith
  initial_word-below_2_32 (row ∷ rows) zero r h = row_word row r h.0
  initial_word-below_2_32 (row ∷ rows) (suc t) r h = initial_word-below_2_32 rows t r h.1

  -- The initial value of a register or location is a word.
  pub initial_is_word : (s : Seen) → initial_word head s < 2 ^ 32
  initial_is_word (Register t r) = initial_word-below_2_32 head.init_regs t r well.register_words
  initial_is_word (Location x) = row_word head.init_words x well.location_words

  -- Each register or location that has an initializer is of the test.
  pub IsOfTest-initialized_sites : AllByRecursion IsOfTest (initialized_sites head)
  IsOfTest-initialized_sites =
      AllByRecursion-append IsOfTest _ _
      (AllByRecursion-filter IsOfTest (needs_initializer head) _
      (AllByRecursion-flat_map_range IsOfTest thread_registers 0 head.threads
      (λ t le lt.
      AllByRecursion-map_range IsOfTest (λ r. Register t r) 0 registers (λ r le2 lt2. (omega (arith, lt), omega (arith, lt2))))))
      (AllByRecursion-map_range IsOfTest (λ x. Location x) 0 _ (λ x le lt. omega (arith, lt)))

  -- ---- the text of the block

  -- The text of an initializer spells its tokens and a `;`.
  initializer_spelled : (s : Seen)
      → IsOfTest s
      → Spells Anything most_initializer_bytes (initializer_text head s)
      (initializer_tokens (initializer_of head s) ++ codes ";" ∷ [])
  initializer_spelled s h =
      Spells-append_anything Spells-space
      (Spells-append (λ rest g. refl)
      (assignment_spelled X86 head.threads well.bounded head.locs well.table.are_unreserved s (initial_word head s) h
      (initial_is_word s)) (Spells-append_anything (Spells-single_symbol 59 refl (λ c. refl) refl (omega arith)) Spells-newline))

  -- The texts of initializers spell their tokens, each with its `;`.
  initializers_spelled : (ss : List Seen)
      → AllByRecursion IsOfTest ss
      → Spells Anything (most_initializer_bytes * length ss) (flat_map (initializer_text head) ss)
      (flat_map (λ e. initializer_tokens e ++ codes ";" ∷ []) (map (initializer_of head) ss))
  initializers_spelled [] h = Spells-mono (most_initializer_bytes * 0) (omega arith) (Spells-nothing Anything)
  initializers_spelled (s ∷ ss) h =
      Spells-mono (most_initializer_bytes * suc (length ss)) (omega arith)
      (Spells-append_anything (initializer_spelled s h.0) (initializers_spelled ss h.1))

  -- A head initializes at most as many registers and locations as a test has.
  initialized_site_count : length (initialized_sites head) ≤ max_seen_count
  initialized_site_count =
      let all = all_registers head.threads in
      let names = locations (length head.locs) in
      omega (
        arith,
        length-append (filter (needs_initializer head) all) names,
        length_le-filter (needs_initializer head) all,
        length-append all names,
        length-all_seen head.threads (length head.locs),
        well.bounded,
        well.table.bounded,
      )

  -- The text of the registers' initializers is that of those that have one.
  registers_text : (ss : List Seen)
      → flat_map (register_initializer head) ss ≡ flat_map (initializer_text head) (filter (needs_initializer head) ss)
  registers_text [] = refl
  registers_text (s ∷ ss) = go (initial_word head s == 0) refl (registers_text ss)
    where
      -- By whether the initial word of the first register or location is 0.
      go : (b : Bool)
          → (initial_word head s == 0) ≡ b
          → flat_map (register_initializer head) ss ≡ flat_map (initializer_text head) (filter (needs_initializer head) ss)
          → flat_map (register_initializer head) (s ∷ ss)
          ≡ flat_map (initializer_text head) (filter (needs_initializer head) (s ∷ ss))
      go true e rest = rw e rest
      go false e rest = rw (e, rest) refl

  -- The printed block is the initializers' texts between braces.
  block_text-by_initializers : codes "{\n" ++ (flat_map (initializer_text head) (initialized_sites head) ++ codes "}\n")
      ≡ block_text head
  block_text-by_initializers =
      rw (
        flat_map-append (initializer_text head) _ (locations (length head.locs)),
        ← registers_text (all_registers head.threads),
        append_assoc (flat_map (register_initializer head) (all_registers head.threads)),
      ) refl

  -- The text of the initial block spells its tokens.
  pub block_spelled : Spells Anything block_bytes (block_text head) (block_tokens head)
  block_spelled =
      rw (← block_text-by_initializers)
      (Spells-mono block_bytes (omega (arith, initialized_site_count))
      (Spells-append_anything
      (Spells-append_anything (Spells-single_symbol 123 refl (λ c. refl) refl (omega arith)) Spells-newline)
      (Spells-append_anything (initializers_spelled (initialized_sites head) IsOfTest-initialized_sites)
      (Spells-append_anything (Spells-single_symbol 125 refl (λ c. refl) refl (omega arith)) Spells-newline))))

  -- ---- what the block says

  -- A register or location of the test can be printed.
  IsPrintable-IsOfTest : (s : Seen) → IsOfTest s → IsPrintable head.threads head.locs (named_site head.locs s)
  IsPrintable-IsOfTest s h = named_printable head.threads head.locs well.table.are_unreserved s h

  -- The tokens of an initializer give this initializer.
  IsInitializer-initializer_tokens : (s : Seen)
      → IsOfTest s
      → (l : TokenList)
      → IsInitializer X86 (initializer_tokens (initializer_of head s) ++ l) (initializer_of head s) l
  IsInitializer-initializer_tokens s h l =
      let site = named_site head.locs s in
      let n = initial_word head s in (
        value_tokens n ++ l,
        rw (append_assoc (site_tokens X86 site))
            (IsSite-site_tokens X86 _ well.bounded head.locs site _ (IsPrintable-IsOfTest s h)),
        Value-value_tokens X86 head.threads well.bounded head.locs n l (initial_is_word s),
      )

  -- The tokens of the initial block say its initializers.
  pub Block-block_tokens : (rest : TokenList) → Block X86 (block_tokens head ++ rest) (initializers_of head) rest
  Block-block_tokens rest = (
    (flat_map (λ e. initializer_tokens e ++ codes ";" ∷ []) (initializers_of head) ++ (codes "}" ∷ [])) ++ rest,
    refl,
    rw (append_assoc (flat_map (λ e. initializer_tokens e ++ codes ";" ∷ []) (initializers_of head)))
        (ParsesSepEndBy-tokens _ _ (codes ";") (codes "}") _ rest
        (AllByRecursion-map _ _ _ (All-mono _ _ IsInitializer-initializer_tokens _ IsOfTest-initialized_sites))),
  )

  -- Each initializer of a register is of a thread of the test.
  pub initializers_exist : AllByRecursion (λ e. ThreadExists head.threads e.site) (initializers_of head)
  initializers_exist =
      AllByRecursion-map _ (initializer_of head) (initialized_sites head)
      (All-mono _ _
      (λ s h. site_exists X86 head.threads well.bounded head.locs (named_site head.locs s) (IsPrintable-IsOfTest s h))
      (initialized_sites head) IsOfTest-initialized_sites)
