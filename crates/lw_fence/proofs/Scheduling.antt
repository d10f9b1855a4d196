-- The schedule of a source run, thread by thread of its order. Lemmas for `schedule.rt`: reading a
-- statement's start, and one more statement in the order.
use Rattle.lw_fence.proofs.Common.{◌≡◌, ℕ, ◌+◌, ◌-◌, ◌<◌, ◌≤◌, List, [], ◌∷◌, ◌++◌, length, Result, map, drop}
use Rattle.lw_fence.proofs.Common.{take, take-append_seam, OnErr, replicate, Some, Ok, Err, is_ok, sym, ap}
use Rattle.lw_fence.proofs.Common.{ap₂, ◌∙◌, subst, ◌⊎◌, inl, inr, arith, append_assoc, if◌then◌else◌}
use Rattle.lw_fence.proofs.Common.{slice_get, slice_index, slice_index_or, IsOk, cases_lt, drop_more}
use Rattle.lw_fence.proofs.Common.{get_or_read, get_or_past, slice_get_within, same_Some, thread_code, Event}
use Rattle.lw_fence.proofs.Common.{Step, Drain, Stop, slice_get-in_range, at_index, Stmt, Thread, SourceTest}
use Rattle.lw_fence.proofs.Common.{X86Test, State, SourceRunsTo, SourceRunState, IsStepResult, source_step}
use Rattle.lw_fence.proofs.Common.{StepEffect-of_step, is_store, source_operation, IsCompiled}
use Rattle.lw_fence.proofs.Common.{statement_events, thread_events, after_step, compiled_schedule}
use Rattle.lw_fence.proofs.Common.{slice_get-map_inv}
use Rattle.lw_fence.proofs.CodeLayout.{IsFencedAsNeeded-at, length-starts_from}

-- If a call has appended `more` to the old events, then, if it failed, the old events are still the first.
pub OnErr-old_events_first : {T E : Type 0} (r : Result T E) (old more : List Event) {new : List Event}
    → new ≡ old ++ more
    → OnErr r (take (length old) new ≡ old)
OnErr-old_events_first (Ok x) old more is = tt
OnErr-old_events_first (Err e) old more is = ap (take (length old)) is ∙ take-append_seam old more

-- The code read for a thread in range is the thread's.
pub thread_code-of_read : {X : Type 0} {program : List (List X)} {lists : List (List X)} {t : ℕ} {i : ℕ} {code : List X}
    {list : List X}
    → lists ≡ program
    → i ≡ t
    → t < length program
    → list ≡ slice_index_or lists i list
    → code ≡ list
    → code ≡ thread_code program t
thread_code-of_read {X} {program} {t = t} {list = list} same index in_range is read =
    let at = is ∙ ap₂ (λ (l : List (List X)) (k : ℕ). slice_index_or l k list) same index in
    read ∙ get_or_read program t list in_range at []

-- A thread that has a statement at this index is one of the program.
pub thread_in_range-if_statement : {X : Type 0} (program : List (List X)) (t index : ℕ)
    → index < length (thread_code program t)
    → t < length program
thread_in_range-if_statement program t index in_range = elim (cases_lt t (length program)) [
  | inl lt ↦ lt
  | inr past ↦ absurd (omega (arith, in_range, ap length (get_or_past program t [] past)))
]

-- The starts that were read, `begins`, are those of thread t, and include the starts of its statement at `index` and of the next one.
pub record HasStart (program : List (List Stmt)) (starts : List (List ℕ)) (t index : ℕ) (begins : List ℕ) : Type 0 where
  pub thread_in_range : t < length program
  pub same : begins ≡ thread_code starts t
  pub next : index + 1 < length begins
  pub grows : slice_index begins index ≤ slice_index begins (index + 1)

-- The starts read for a statement of a compiled source are its thread's.
pub HasStart-of_read : {s : SourceTest} {p : X86Test} {starts lists : List (List ℕ)} {t i index : ℕ} {begins list : List ℕ}
    → IsCompiled s p starts
    → index < length (thread_code s.threads t)
    → lists ≡ starts
    → i ≡ t
    → list ≡ slice_index_or lists i list
    → begins ≡ list
    → HasStart s.threads starts t index begins
HasStart-of_read {s = s} {p = p} {starts = starts} {t = t} {index = index} {begins = begins} {list = list} compiled in_range same at is read =
    HasStart-by_thread (cases_lt t (length s.threads))
  where
    -- By whether the source has the thread.
    HasStart-by_thread : (t < length s.threads) ⊎ (length s.threads ≤ t) → HasStart s.threads starts t index begins
    HasStart-by_thread (inr past) = absurd (omega (arith, in_range, ap length (get_or_past s.threads t [] past)))
    HasStart-by_thread (inl within) =
        let stmt = slice_get-in_range (thread_code s.threads t) index in_range in
        let stands = (IsFencedAsNeeded-at s p starts compiled t within).laid.at index stmt.0 stmt.1 in
        let own = at_index starts t [] (omega (arith, compiled.as_many_starts)) in
        let thread =
        compiled.threads t (thread_code s.threads t) _ _ (at_index s.threads t [] within)
        (at_index p.threads t [] (omega (arith, compiled.as_many))) own in
        let here = thread_code-of_read same at (omega (arith, within, compiled.as_many_starts)) is read in
        let many = length-starts_from 0 thread.fences (thread_code s.threads t) in
        record {
          thread_in_range = within;
          same = here;
          next = omega (arith, in_range, ap length here, ap length thread.starts_are, many);
          grows = rw here (omega (arith, stands.next));
        }

-- The events appended for a statement are those that execute it.
pub statement_events-read : (t index : ℕ) (program : List (List Stmt)) (starts : List (List ℕ)) {code : List Stmt}
    {begins : List ℕ} {stmt : Stmt}
    → code ≡ thread_code program t
    → begins ≡ thread_code starts t
    → index < length code
    → stmt ≡ slice_index_or code index stmt
    → statement_events t (thread_code starts t) index (slice_get (thread_code program t) index)
    ≡ replicate (slice_index begins (index + 1) - slice_index begins index) (Step t)
    ++ (if is_store (source_operation stmt) then Drain t ∷ [] else [])
statement_events-read t index program starts {code = code} {stmt = stmt} same begin in_range is =
    let found_at : slice_get code index ≡ Some stmt = at_index code index stmt in_range ∙ ap Some (sym is) in
    ap₂ (λ b o. statement_events t b index o) (sym begin) (ap (λ c. slice_get c index) (sym same) ∙ found_at)

-- A step that is enabled succeeds.
pub IsOk-if_enabled : (step : Result State Stop) (answer : Result (Unit {0}) Stop) (before after : SourceRunState) (mid : State)
    → IsStepResult step answer before after
    → step ≡ Ok mid
    → IsOk answer
IsOk-if_enabled (Ok s) answer before after mid done e = ap is_ok done.0
IsOk-if_enabled (Err stop) answer before after mid done e = absurd (let bad : Err stop ≡ Ok mid = e in cc)

-- The next thread of the order, t, which has the turn at i, can step from s to mid, and the rest of the order can follow.
pub record NextThreadStep (program : List (List Stmt)) (order : List ℕ) (i t : ℕ) (s : State) : Type 0 where
  pub mid : State
  pub step : source_step program t s ≡ Ok mid
  pub more : (end : State) × SourceRunsTo program (map Step (drop (i + 1) order)) mid end
  pub thread : Thread
  pub was : slice_get s.threads t ≡ Some thread
  pub position_in_range : thread.position < length (thread_code program t)

-- If thread t has the turn at an index, the rest of the order begins with it.
drop_order-cons : (order : List ℕ) (i t : ℕ)
    → i < length order
    → t ≡ slice_index_or order i t
    → drop i order ≡ t ∷ drop (i + 1) order
drop_order-cons order i t in_range is = drop_more order i t in_range ∙ ap (λ (u : ℕ). u ∷ drop (i + 1) order) (sym is)

-- The events of thread t for its statement at this index.
abbrev statement_events_at : List (List Stmt) → ℕ → List (List ℕ) → ℕ → List Event
statement_events_at program t starts index =
    statement_events t (thread_code starts t) index (slice_get (thread_code program t) index)

-- At the turn of thread t, at index i of the order.
module _ {program : List (List Stmt)} {order : List ℕ} {i t : ℕ} (within : i < length order)
    (is : t ≡ slice_index_or order i t) where
  -- If the order from i on leads from s to some state, and thread t has the turn at i, then t can step from s, and the rest of
  -- the order can follow.
  pub NextThreadStep-of_run : {s : State}
      → (end : State) × SourceRunsTo program (map Step (drop i order)) s end
      → NextThreadStep program order i t s
  NextThreadStep-of_run {s} possible =
      let ran =
      subst (λ (ts : List ℕ). SourceRunsTo program (map Step ts) s possible.0) (drop_order-cons order i t within is) possible.1 in
      let d = StepEffect-of_step program t s ran.0 ran.1 in
      record {
        mid = ran.0;
        step = ran.1;
        more = (possible.0, ran.2);
        thread = d.thread;
        was = d.was;
        position_in_range = slice_get_within (thread_code program t) d.thread.position d.stmt d.at;
      }

  -- If `index` was read as the position of thread t, it is that of the thread that has the turn.
  pub read_position-eq : {s : State} (turn : NextThreadStep program order i t s) {index : ℕ}
      → slice_get (map (λ (th : Thread). th.position) s.threads) t ≡ Some index
      → index ≡ turn.thread.position
  read_position-eq {s} turn {index} found_at =
      let a = slice_get-map_inv (λ (th : Thread). th.position) s.threads t index found_at in
      a.2 ∙ ap (λ (th : Thread). th.position) (same_Some a.0 turn.thread (sym a.1 ∙ turn.was))

module _ (program : List (List Stmt)) (order : List ℕ) (i t : ℕ) (within : i < length order)
    (is : t ≡ slice_index_or order i t) where
  -- If thread t, which has the turn at i, is at statement `index`, and its step leads to mid, the schedule from i on is the
  -- events of that statement and the schedule from i + 1 on.
  compiled_schedule-step : (starts : List (List ℕ)) (s : State) {mid : State} (index : ℕ)
      → slice_get (map (λ (th : Thread). th.position) s.threads) t ≡ Some index
      → source_step program t s ≡ Ok mid
      → compiled_schedule program starts (drop i order) s
      ≡ statement_events_at program t starts index ++ compiled_schedule program starts (drop (i + 1) order) mid
  compiled_schedule-step starts s index found_at step =
      let a = slice_get-map_inv (λ (th : Thread). th.position) s.threads t index found_at in
      let events = ap (thread_events program starts t) a.1 ∙ ap (statement_events_at program t starts) (sym a.2) in
      ap (λ (ts : List ℕ). compiled_schedule program starts ts s) (drop_order-cons order i t within is)
      ∙ ap₂
      (λ (es : List Event) (o : Result State Stop). es ++ after_step o (compiled_schedule program starts (drop (i + 1) order)))
      events step

  -- Appending the events of the order's next thread preserves that the events so far and those to come are the whole schedule.
  pub compiled_schedule-append_events : (starts : List (List ℕ)) (s mid : State) (index : ℕ) (events : List Event)
      {more whole : List Event}
      → slice_get (map (λ (th : Thread). th.position) s.threads) t ≡ Some index
      → source_step program t s ≡ Ok mid
      → more ≡ events ++ statement_events_at program t starts index
      → events ++ compiled_schedule program starts (drop i order) s ≡ whole
      → more ++ compiled_schedule program starts (drop (i + 1) order) mid ≡ whole
  compiled_schedule-append_events starts s mid index events found_at step pushed so_far =
      let rest = compiled_schedule program starts (drop (i + 1) order) mid in
      ap (λ (es : List Event). es ++ rest) pushed
      ∙ append_assoc events (statement_events_at program t starts index) rest
      ∙ ap (λ (es : List Event). events ++ es) (sym (compiled_schedule-step starts s index found_at step))
      ∙ so_far
