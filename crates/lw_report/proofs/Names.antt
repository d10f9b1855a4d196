-- The observed names of a test are registers and locations of it; and how they, and their labels, are listed
-- one by one. Lemmas for the loops of `projection.rt`.
use Rattle.lw_report.proofs.Common.{◌≡◌, ℕ, zero, suc, ◌+◌, ◌<◌, ◌≤◌, Bool, List, [], ◌∷◌, ◌++◌, length, map}
use Rattle.lw_report.proofs.Common.{take, get_or, sym, ap, ◌∙◌, append_assoc, zero-add, length-take}
use Rattle.lw_report.proofs.Common.{get_or-take, arith, flat_map, All, filter, append-nil, take_all}
use Rattle.lw_report.proofs.Common.{range_with_len, map-append, take_more, All-from_recursion, All-same}
use Rattle.lw_report.proofs.Common.{filter-append, get_or-range_with_len, map-range_with_len_more, TestHead}
use Rattle.lw_report.proofs.Common.{most_threads, IsSeenInRange, Seen, thread_registers, all_registers}
use Rattle.lw_report.proofs.Common.{locations, AllByRecursion-filter, IsSeenInRange-all_seen, is_observed}
use Rattle.lw_report.proofs.Common.{observed}

-- Each observed name of a test is a register or a location of it.
pub IsSeenInRange-observed : (head : TestHead) (names : List Seen)
    → names ≡ observed head
    → All (IsSeenInRange head.threads (length head.locs)) names
IsSeenInRange-observed head names e =
    let seen : List Seen = all_registers head.threads ++ locations (length head.locs) in
    All-same (IsSeenInRange head.threads (length head.locs)) names (observed head) e
    (All-from_recursion _ (observed head)
    (AllByRecursion-filter _ (is_observed head) seen (IsSeenInRange-all_seen head.threads (length head.locs))))

-- ---- Listing the observed names.

module _ (p : Seen → Bool) (f : ℕ → Seen) (k : ℕ) (start names : List Seen)
    (before : names ≡ start ++ filter p (map f (range_with_len 0 k))) where
  -- If `names` has those of the first k that pass p, appending the one at k, if it passes p, gives those of the first k + 1.
  pub filter_prefix-push : (len : ℕ) (all : List ℕ) (x d : ℕ) (new : List Seen)
      → all ≡ range_with_len 0 len
      → k < len
      → x ≡ get_or all k d
      → new ≡ names ++ filter p (f x ∷ [])
      → new ≡ start ++ filter p (map f (range_with_len 0 (k + 1)))
  filter_prefix-push len all x d new are lt is added =
      let number = is ∙ ap (λ l. get_or l k d) are ∙ get_or-range_with_len 0 len k d lt ∙ zero-add k in
      let done = filter p (map f (range_with_len 0 k)) in
      let more = ap (filter p) (map-range_with_len_more f 0 k k (zero-add k)) ∙ filter-append p _ _ in
      added
      ∙ ap (λ l. l ++ filter p (f x ∷ [])) before
      ∙ append_assoc start done (filter p (f x ∷ []))
      ∙ ap (λ (y : ℕ). start ++ (done ++ filter p (f y ∷ []))) number
      ∙ ap (λ l. start ++ l) (sym more)

  -- If `names` has those of the first k that pass p, and k is n, it has all of n that pass p.
  pub filter_prefix-all : (n : ℕ) → k ≤ n → n ≤ k → names ≡ start ++ filter p (map f (range_with_len 0 n))
  filter_prefix-all n most least =
      let is : k ≡ n = omega (arith, most, least) in before ∙ ap (λ (m : ℕ). start ++ filter p (map f (range_with_len 0 m))) is

-- The registers of n + 1 threads are those of n threads, followed by those of one more.
thread_registers-suc : (a n : ℕ)
    → flat_map thread_registers (range_with_len a (suc n))
    ≡ flat_map thread_registers (range_with_len a n) ++ thread_registers (a + n)
thread_registers-suc a zero = append-nil (thread_registers a) ∙ ap thread_registers (let is : a ≡ a + 0 = omega arith in is)
thread_registers-suc a (suc n) =
    let done = flat_map thread_registers (range_with_len (a + 1) n) in
    let is : a + 1 + n ≡ a + suc n = omega arith in
    ap (λ l. thread_registers a ++ l) (thread_registers-suc (a + 1) n)
    ∙ sym (append_assoc (thread_registers a) done (thread_registers (a + 1 + n)))
    ∙ ap (λ t. (thread_registers a ++ done) ++ thread_registers t) is

-- The processor that is read at index k of the first processors is k.
pub cpu_eq_index : (cpus : List ℕ) (threads k cpu : ℕ)
    → cpus ≡ range_with_len 0 most_threads
    → k < length (take threads cpus)
    → cpu ≡ get_or (take threads cpus) k cpu
    → cpu ≡ k
cpu_eq_index cpus threads k cpu all lt is =
    let many : length cpus ≡ most_threads = ap length all in
    let within : k < threads = omega (arith, lt, length-take threads cpus) in
    is
    ∙ get_or-take threads cpus k cpu within
    ∙ ap (λ (l : List ℕ). get_or l k cpu) all
    ∙ get_or-range_with_len 0 most_threads k cpu (omega (arith, lt, many, length-take threads cpus))
    ∙ zero-add k

-- If `names` has the registers of the first k threads that pass p, appending those of thread k gives those of the first k + 1.
pub all_registers-next_thread : (p : Seen → Bool) (k cpu : ℕ) (names new : List Seen)
    → cpu ≡ k
    → names ≡ filter p (all_registers k)
    → new ≡ names ++ filter p (thread_registers cpu)
    → new ≡ filter p (all_registers (k + 1))
all_registers-next_thread p k cpu names new number before added =
    let next : suc k ≡ k + 1 = omega arith in
    let more : all_registers (k + 1) ≡ all_registers k ++ thread_registers k =
    ap all_registers (sym next) ∙ thread_registers-suc 0 k ∙ ap (λ (t : ℕ). all_registers k ++ thread_registers t) (zero-add k) in
    added
    ∙ ap (λ l. l ++ filter p (thread_registers cpu)) before
    ∙ ap (λ (t : ℕ). filter p (all_registers k) ++ filter p (thread_registers t)) number
    ∙ sym (ap (filter p) more ∙ filter-append p _ _)

-- If as many processors are listed as there are threads, and k is past the last of them, k is the number of threads.
pub cpu_count-is_threads : (cpus : List ℕ) (threads k : ℕ)
    → cpus ≡ range_with_len 0 most_threads
    → threads ≤ most_threads
    → k ≤ length (take threads cpus)
    → length (take threads cpus) ≤ k
    → k ≡ threads
cpu_count-is_threads cpus threads k all few most least =
    let many : length cpus ≡ most_threads = ap length all in omega (arith, few, many, most, least, length-take threads cpus)

-- If `names` has the observed registers of all threads, appending the observed locations gives the observed names.
pub observed-registers_and_locations : (head : TestHead) (k : ℕ) (names new : List Seen)
    → k ≡ head.threads
    → names ≡ filter (is_observed head) (all_registers k)
    → new ≡ names ++ filter (is_observed head) (locations (length head.locs))
    → new ≡ observed head
observed-registers_and_locations head k names new is before added =
    let p = is_observed head in
    added
    ∙ ap (λ (l : List Seen). l ++ filter p (locations (length head.locs)))
    (before ∙ ap (λ (n : ℕ). filter p (all_registers n)) is)
    ∙ sym (filter-append p _ _)

-- ---- A value for each name.

module _ {Y : Type 0} (f : Seen → Y) (names : List Seen) (k : ℕ) (made : List Y) (before : made ≡ map f (take k names)) where
  -- If `made` has the values of f for the first k names, appending that for the name at k gives those for the first k + 1.
  pub map_prefix-push : (s : Seen) (x : Y) (new : List Y)
      → k < length names
      → s ≡ get_or names k s
      → x ≡ f s
      → new ≡ made ++ x ∷ []
      → new ≡ map f (take (k + 1) names)
  map_prefix-push s x new lt is told pushed =
      let more = take_more names k s lt ∙ ap (λ y. take k names ++ y ∷ []) (sym is) in
      pushed
      ∙ ap (λ y. made ++ y ∷ []) told
      ∙ ap (λ l. l ++ f s ∷ []) before
      ∙ sym (ap (map f) more ∙ map-append f (take k names) (s ∷ []))

  -- If `made` has the values of f for the first k names, and k is at least their number, it has those for all names.
  pub map_prefix-all : length names ≤ k → made ≡ map f names
  map_prefix-all le = before ∙ ap (map f) (take_all k names le)
