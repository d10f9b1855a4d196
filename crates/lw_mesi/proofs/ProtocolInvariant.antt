-- Each call preserves the protocol's invariant, cache line by cache line. A call of the caches borrows one
-- line; these lemmas lift what the line promises to all caches.
use Rattle.lw_mesi.proofs.Common.{Vec, vec_len, map, Option, get_or-map, HasProtocolStates, cache_line_at}
use Rattle.lw_mesi.proofs.Common.{ProtocolTable, ProtocolTransition, answer_to, cache_line_after_access}
use Rattle.lw_mesi.proofs.Common.{Access, Ask, ◌≡◌, ℕ, suc, zero, ◌<◌, ◌≤◌, List, [], ◌∷◌, length, set}
use Rattle.lw_mesi.proofs.Common.{get_or, Result, Ok, Err, is_ok, OnOk, OnErr, refl, sym, ap, ◌∙◌, subst}
use Rattle.lw_mesi.proofs.Common.{arith, length-set, length-map, most_threads, most_locations, is_held}
use Rattle.lw_mesi.proofs.Common.{Protocol, CacheLine, Caches, unheld_cache_line, copy_of, copy_state}
use Rattle.lw_mesi.proofs.Common.{coherent_word, coherent_words, cache_line_evicted, LineSatisfiesProtocol}
use Rattle.lw_mesi.proofs.Common.{SatisfiesProtocol, SatisfiesProtocol-set, LineSatisfiesProtocol-at_location}
use Rattle.lw_mesi.proofs.Common.{LineSatisfiesProtocol-after_eviction}

-- If an index is in range, the item that is read there does not depend on the default.
get_or-any_default : {A : Type 0} (xs : List A) (i : ℕ) (c d : A) → i < length xs → get_or xs i c ≡ get_or xs i d
get_or-any_default [] i c d lt = absurd (omega arith)
get_or-any_default (x ∷ xs) zero c d lt = refl
get_or-any_default (x ∷ xs) (suc i) c d lt = get_or-any_default xs i c d (omega arith)

-- A location x of the caches `now`, and its index i among the cache lines in memory.
module _ {Z : Type 0} (now : Caches) (cpus : ℕ) (lines : Vec CacheLine Z) (x i : ℕ)
    (same : (let m : Caches = record { cpus = cpus; cache_lines = lines.items } in m) ≡ now) (index : i ≡ x)
    (loc : x < length (coherent_words now)) where
  -- The index i is that of a cache line in memory.
  pub index_in_range : i < vec_len lines
  index_in_range =
      omega (
        arith,
        loc,
        index,
        lines.ok.0,
        ap (λ (k : Caches). length (coherent_words k)) same,
        length-map lines.items coherent_word,
      )

  -- A function of the cache line at the index has the same value on the cache line of the location.
  pub cache_line_value-same : {Y : Type 0} (f : CacheLine → Y) (line : CacheLine)
      → line ≡ get_or lines.items i line
      → f line ≡ f (cache_line_at now.cache_lines x)
  cache_line_value-same f line found =
      let there : i < length lines.items = omega (arith, index_in_range, lines.ok.0) in
      let whole = ap (λ (m : Caches). cache_line_at m.cache_lines x) same in
      ap f (found ∙ get_or-any_default lines.items i line (unheld_cache_line 0) there ∙ rw index whole)

  -- The word that a function reads in the cache line at the index is the location's among the words that it reads in all lines.
  pub read_word-same : (word : CacheLine → ℕ) (line : CacheLine)
      → line ≡ get_or lines.items i line
      → word line ≡ get_or (map word now.cache_lines) x 0
  read_word-same word line found =
      cache_line_value-same word line found
      ∙ sym (get_or-map word now.cache_lines x (unheld_cache_line 0) 0
      (omega (arith, loc, length-map now.cache_lines coherent_word)))

-- What holds when a call of processor t for location x borrows a cache line: m are the caches as the fields of `self` have them, and `now` is
-- the model of `self`, which is the same (goals speak of either). They satisfy the protocol p, t and x exist, the index i is x, and the line
-- at i is `before`.
pub record IsBorrowedLine (p : Protocol) (m now : Caches) (t x i : ℕ) (before : CacheLine) : Type 0 where
  pub same : m ≡ now
  pub kept : SatisfiesProtocol p m
  pub within_line_limit : length m.cache_lines ≤ most_locations
  pub cpu : t < now.cpus
  pub loc : x < length (coherent_words now)
  pub index : i ≡ x
  pub found : before ≡ get_or m.cache_lines i before

module _ {p : Protocol} {m now : Caches} {t x i : ℕ} {before : CacheLine} (borrowed : IsBorrowedLine p m now t x i before) where
  -- The index i is that of a cache line.
  index_lt_line_count : i < length m.cache_lines
  index_lt_line_count = omega (
    arith,
    borrowed.loc,
    borrowed.index,
    ap (λ (k : Caches). length (coherent_words k)) borrowed.same,
    length-map m.cache_lines coherent_word,
  )

  -- The processor's index is below `most_threads`.
  cpu_lt_most_threads : t < most_threads
  cpu_lt_most_threads = omega (arith, borrowed.cpu, borrowed.kept.coherent.bounded, ap (λ (k : Caches). k.cpus) borrowed.same)

  -- The borrowed cache line satisfies the protocol.
  LineSatisfiesProtocol-borrowed : LineSatisfiesProtocol p before
  LineSatisfiesProtocol-borrowed =
      subst (LineSatisfiesProtocol p)
      (get_or-any_default m.cache_lines i (unheld_cache_line 0) before index_lt_line_count ∙ sym borrowed.found)
      (LineSatisfiesProtocol-at_location p m i borrowed.kept index_lt_line_count)

  -- The copies of the borrowed cache line are in states of the protocol.
  pub before_states : HasProtocolStates p before
  before_states = LineSatisfiesProtocol-borrowed.states

  -- If an access has the result and changes the borrowed cache line as the table says, the caches make the protocol's
  -- transition for that access.
  pub ProtocolTransition-borrowed : (table : ProtocolTable) (access : Access) (a : Option ℕ) (after : CacheLine)
      → a ≡ answer_to table t access before
      → after ≡ cache_line_after_access table t access before
      → ProtocolTransition table now (Ask t x access) a (record { cpus = m.cpus; cache_lines = set m.cache_lines i after })
  ProtocolTransition-borrowed table access a after answers is =
      let was : before ≡ cache_line_at now.cache_lines x =
      borrowed.found
      ∙ get_or-any_default m.cache_lines i before (unheld_cache_line 0) index_lt_line_count
      ∙ rw (borrowed.index, borrowed.same) refl in
      record {
        request_in_range = (borrowed.cpu, omega (arith, borrowed.loc, length-map now.cache_lines coherent_word));
        possible = tt;
        answer = answers ∙ ap (answer_to table t access) was;
        cache_lines = rw (is, was, borrowed.index, borrowed.same) refl;
      }

  -- If the changed cache line satisfies the protocol whenever the borrowed one does, the caches with the changed line at the
  -- index satisfy it, and still have at most `most_locations` lines.
  pub SatisfiesProtocol-set_line : (after : CacheLine)
      → (t < most_threads → LineSatisfiesProtocol p before → LineSatisfiesProtocol p after)
      → (length (set m.cache_lines i after) ≤ most_locations)
      × SatisfiesProtocol p (record { cpus = m.cpus; cache_lines = set m.cache_lines i after })
  SatisfiesProtocol-set_line after keeps = (
    omega (arith, length-set m.cache_lines i after, borrowed.within_line_limit),
    SatisfiesProtocol-set p m i after borrowed.kept index_lt_line_count
        (keeps cpu_lt_most_threads LineSatisfiesProtocol-borrowed),
  )

-- The result r of an eviction: it succeeds if processor t holds the line, and then t's copy is gone; otherwise the line is unchanged.
pub record EvictedIfHeld {E : Type 0} (r : Result (Unit {0}) E) (t : ℕ) (before after : CacheLine) : Type 0 where
  pub held : is_ok r ≡ is_held (copy_state (copy_of before t))
  pub ok : OnOk r (after ≡ cache_line_evicted t before)
  pub err : OnErr r (after ≡ before)

-- If a cache line satisfies a protocol, it does so after an eviction that succeeds if the processor holds the line and fails
-- otherwise.
pub LineSatisfiesProtocol-evicted : {E : Type 0} (p : Protocol) (r : Result (Unit {0}) E) (t : ℕ) (before after : CacheLine)
    → t < most_threads
    → LineSatisfiesProtocol p before
    → EvictedIfHeld r t before after
    → LineSatisfiesProtocol p after
LineSatisfiesProtocol-evicted p (Ok a) t before after lt s evicted =
    subst (LineSatisfiesProtocol p) (sym evicted.ok) (LineSatisfiesProtocol-after_eviction p t before lt s (sym evicted.held))
LineSatisfiesProtocol-evicted p (Err e) t before after lt s evicted = subst (LineSatisfiesProtocol p) (sym evicted.err) s
