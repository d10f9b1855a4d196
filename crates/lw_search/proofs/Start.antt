-- A search starts with the initial state of the program. Lemmas for `start_key`, thread by thread, and for
-- the search's invariant before any state is visited.
use Rattle.lw_search.proofs.Common.{◌≡◌, ◌≢◌, ℕ, zero, suc, ◌+◌, ◌<◌, ◌≤◌, Bool, inl, inr, Some, None, List}
use Rattle.lw_search.proofs.Common.{[], ◌∷◌, length, refl, sym, ap, ◌∙◌, subst, arith, slice_get, slice_index}
use Rattle.lw_search.proofs.Common.{cases_lt, slice_get_past, slice_get_within, same_Some, initial_processor}
use Rattle.lw_search.proofs.Common.{initial_machine_state, X86Test, IsWellFormedProgram, length-map}
use Rattle.lw_search.proofs.Common.{slice_get-map_inv, State, Components, FoundStates, Extends, Represents}
use Rattle.lw_search.proofs.Common.{InsertsKey, IsStarted}
use Rattle.lw_search.proofs.Rows.{HasUniqueIndices-append}
use Rattle.lw_search.proofs.ThreadStates.{slice_index-past}

-- The key has the memory's number and those of the first n threads at their initial states, followed by 0.
pub record IsStartKey (tables : Components) (memory : ℕ) (key : List ℕ) (begins : List ℕ) (regs : List (List ℕ))
    (n : ℕ) : Type 0 where
  pub size : length key ≡ 5
  pub first : slice_index key 0 ≡ memory
  pub words : slice_get tables.memories memory ≡ Some begins
  pub threads : (t : ℕ) (r : List ℕ)
      → t < n
      → slice_get regs t ≡ Some r
      → slice_get tables.threads (slice_index key (t + 1)) ≡ Some (initial_processor r)
  pub unused : (t : ℕ) → n ≤ t → slice_index key (t + 1) ≡ 0

-- At first no thread has a number.
pub IsStartKey-none : {tables : Components} (memory : ℕ) (words : List ℕ) (regs : List (List ℕ))
    → slice_get tables.memories memory ≡ Some words
    → IsStartKey tables memory (memory ∷ 0 ∷ 0 ∷ 0 ∷ 0 ∷ []) words regs 0
IsStartKey-none {tables} memory words regs at = record {
  size = refl;
  first = refl;
  words = at;
  threads = λ t r lt got. absurd (omega (arith, lt));
  unused = λ t le. unused t;
}
  where
    -- The number of each thread is 0.
    unused : (t : ℕ) → slice_index (memory ∷ 0 ∷ 0 ∷ 0 ∷ 0 ∷ []) (t + 1) ≡ 0
    unused zero = refl
    unused (suc zero) = refl
    unused (suc (suc zero)) = refl
    unused (suc (suc (suc zero))) = refl
    unused (suc (suc (suc (suc t)))) =
        slice_index-past (memory ∷ 0 ∷ 0 ∷ 0 ∷ 0 ∷ []) (suc (suc (suc (suc t))) + 1)
        (slice_get_past (memory ∷ 0 ∷ 0 ∷ 0 ∷ 0 ∷ []) (suc (suc (suc (suc t))) + 1) (omega arith))

-- With the number of thread n's initial state set in the key, it has those of the first n + 1 threads.
pub IsStartKey-next : {old new : Components} (memory : ℕ) (key next : List ℕ) (words : List ℕ) (regs : List (List ℕ))
    (n thread : ℕ) (r : List ℕ)
    → Extends old new
    → IsStartKey old memory key words regs n
    → slice_get regs n ≡ Some r
    → length next ≡ length key
    → slice_index next 0 ≡ memory
    → slice_index next (n + 1) ≡ thread
    → slice_get new.threads thread ≡ Some (initial_processor r)
    → ((t : ℕ) → t ≢ n → slice_index next (t + 1) ≡ slice_index key (t + 1))
    → IsStartKey new memory next words regs (n + 1)
IsStartKey-next {old} {new} memory key next words regs n thread r extended begun at size first is there others = record {
  size = size ∙ begun.size;
  first = first;
  words = extended.memories memory words begun.words;
  threads = threads;
  unused = λ t le. others t (λ e. absurd (omega (arith, e, le))) ∙ begun.unused t (omega (arith, le));
}
  where
    -- Each of the first `n + 1` threads has the number of its initial state.
    threads : (t : ℕ) (q : List ℕ)
        → t < n + 1
        → slice_get regs t ≡ Some q
        → slice_get new.threads (slice_index next (t + 1)) ≡ Some (initial_processor q)
    threads t q lt got = elim (cases_lt t n) [
      | inl less ↦
          let ne : t ≢ n = λ e. absurd (omega (arith, e, less)) in
          ap (slice_get new.threads) (others t ne) ∙ extended.threads _ _ (begun.threads t q less got)
      | inr not ↦
          let same : n ≡ t = omega arith in
          let one : r ≡ q = same_Some r q (sym at ∙ ap (slice_get regs) same ∙ got) in
          ap (λ u. slice_get new.threads (slice_index next (u + 1))) (sym same)
          ∙ ap (slice_get new.threads) is
          ∙ there
          ∙ ap (λ z. Some (initial_processor z)) one
    ]

-- A key with the numbers of all threads represents the initial state.
pub Represents-start_key : {tables : Components} (test : X86Test) (memory : ℕ) (key : List ℕ) (n : ℕ)
    → IsStartKey tables memory key test.head.init_words test.head.init_regs n
    → n ≡ length test.head.init_regs
    → Represents tables key (initial_machine_state test test.head.init_words)
Represents-start_key {tables} test memory key n begun all = record {
  size = begun.size;
  memory = ap (slice_get tables.memories) begun.first ∙ begun.words;
  threads = λ t p at.
      let r = slice_get-map_inv initial_processor test.head.init_regs t p at in
      let lt = slice_get_within test.head.init_regs t r.0 r.1 in
      begun.threads t r.0 (omega (arith, lt, all)) r.1 ∙ ap Some (sym r.2);
  unused = λ t le. begun.unused t (subst (λ m. m ≤ t) (length-map test.head.init_regs initial_processor ∙ sym all) le);
}

-- A list without an item at index n has at most n items.
pub length-past : {X : Type 0} (xs : List X) (n : ℕ) → slice_get xs n ≡ None → length xs ≤ n
length-past [] n none = omega arith
length-past (x ∷ xs) zero none = absurd cc
length-past (x ∷ xs) (suc n) none = let h = length-past xs n none in omega arith

-- A search with empty tables has found the initial state.
pub IsStarted-of_start_key : {tables : Components} (test : X86Test) (key : List ℕ) (parent : ℕ) (run : List (ℕ × Bool))
    (visited : FoundStates)
    → IsWellFormedProgram test
    → Represents tables key (initial_machine_state test test.head.init_words)
    → Extends (record { program = test.threads; threads = []; memories = [] }) tables
    → InsertsKey (record { keys = []; origins = []; runs = [] }) key parent run visited
    → IsStarted test tables visited
IsStarted-of_start_key {tables} test key parent run visited formed is_represented extended (inr there) =
    absurd (let h = there.1 in cc)
IsStarted-of_start_key {tables} test key parent run visited formed is_represented extended (inl adds) = (
  start ∷ [],
  record {
    key_count = ap length adds.1;
    origin_count = ap length adds.2.origins;
    within = omega arith;
    represents = λ i k s at and. represents i k s (ap (λ l. slice_get l i) (sym adds.1) ∙ at) and;
    thread_count = thread_count;
    distinct = HasUniqueIndices-append [] start (λ i at. absurd cc) (λ i j s at and. absurd cc);
    distinct_threads = extended.distinct_threads (λ i j p at and. absurd cc);
    distinct_memories = extended.distinct_memories (λ i j m at and. absurd cc);
    first = refl;
    predecessor = λ i o s at and. absurd cc;
    covered = λ i s lt at e. absurd (omega (arith, lt));
  },
)
  where
    -- The initial state.
    start : State
    start = initial_machine_state test test.head.init_words

    -- Each key represents the state with its index: the only key the initial state.
    represents : (i : ℕ) (k : List ℕ) (s : State)
        → slice_get (key ∷ []) i ≡ Some k
        → slice_get (start ∷ []) i ≡ Some s
        → Represents tables k s
    represents zero k s at and =
        subst (λ z. Represents tables k z) (same_Some start s and)
        (subst (λ z. Represents tables z start) (same_Some key k at) is_represented)
    represents (suc i) k s at and = absurd cc

    -- Each state found has as many threads as the program.
    thread_count : (i : ℕ) (s : State) → slice_get (start ∷ []) i ≡ Some s → length s.processors ≡ length test.threads
    thread_count zero s at =
        ap (λ (z : State). length z.processors) (sym (same_Some start s at))
        ∙ length-map test.head.init_regs initial_processor
        ∙ formed.head.regs
        ∙ sym formed.as_many
    thread_count (suc i) s at = absurd cc
