-- Runs and replays of a source test, one event further: results, invariants, and reading a state. Lemmas for
-- `run.rt`.
use Rattle.lw_interleaving.proofs.Common.{◌≡◌, ℕ, suc, ◌<◌, ◌≤◌, ◌+◌, List, [], ◌∷◌, ◌++◌, length, map, take}
use Rattle.lw_interleaving.proofs.Common.{drop, get_or, refl, sym, ap, ◌∙◌, subst, Result, Ok, Err, arith}
use Rattle.lw_interleaving.proofs.Common.{MatchResult, length-set, take-suc, All, ◌^◌, slice_set, slice_get}
use Rattle.lw_interleaving.proofs.Common.{Option, Some, None, Bool, true, false, if◌then◌else◌, nat_lt}
use Rattle.lw_interleaving.proofs.Common.{lt-ltb, append_assoc, length-take-le, take_all, option_map, Stop}
use Rattle.lw_interleaving.proofs.Common.{End, Step, Drain, Evict, NoCpu, NoLocation, Ended, BufferEmpty}
use Rattle.lw_interleaving.proofs.Common.{NotHeld, Operation, Change, apply_change_if_some, location_of}
use Rattle.lw_interleaving.proofs.Common.{written_change, Thread, IsWellFormedStatement, IsWellFormedThread}
use Rattle.lw_interleaving.proofs.Common.{source_language, source_operation, thread_code, thread_after}
use Rattle.lw_interleaving.proofs.Common.{words_after, Event, Stmt, FinalState, HasReplayEnd, State}
use Rattle.lw_interleaving.proofs.Common.{SourceRunState, SourceTransition, IsSourceReplay, SourceRunsTo}
use Rattle.lw_interleaving.proofs.Common.{is_source_final, source_outcome, source_step, source_event_result}
use Rattle.lw_interleaving.proofs.Common.{state_after_step, thread_step, drop_more, length-map, map-append}
use Rattle.lw_interleaving.proofs.Common.{map_more, set_at, slice_get-map, slice_get_within, at_index}
use Rattle.lw_base.specs.declared.stop.End.TheVariants as at

-- A call for an event whose result is r returned `answer` and left the state `end`: if r is `Ok`, the answer is `Ok` and `end`
-- is r's state; if it is an `Err`, the answer has the same cause, and Q holds.
abbrev pub ReturnsEventResult : Type 0 → Result State Stop → Result (Unit {0}) Stop → State → Type 0
ReturnsEventResult Q r answer end = MatchResult r (λ next. (answer ≡ Ok tt) × (end ≡ next)) (λ stop. (answer ≡ Err stop) × Q)

-- If a call for an event returned Ok, the event was enabled, and the call left its next state.
pub ReturnsEventResult-ok : {answer : Result (Unit {0}) Stop} {u : Unit {0}} {end : State} (Q : Type 0) (r : Result State Stop)
    → ReturnsEventResult Q r answer end
    → answer ≡ Ok u
    → r ≡ Ok end
ReturnsEventResult-ok Q (Ok next) told ok = ap Ok (sym told.1)
ReturnsEventResult-ok {answer = answer} Q (Err stop) told ok = let e : answer ≡ Err stop = told.0 in absurd cc

-- If a call for an event returned a refusal, the event is rejected for this cause, and Q holds.
ReturnsEventResult-err : (Q : Type 0) (r : Result State Stop) (answer : Result (Unit {0}) Stop) (stop : Stop) (end : State)
    → ReturnsEventResult Q r answer end
    → answer ≡ Err stop
    → (r ≡ Err stop) × Q
ReturnsEventResult-err Q (Ok next) answer stop end told failed = let e : answer ≡ Ok tt = told.0 in absurd cc
ReturnsEventResult-err Q (Err s) answer stop end told failed =
    let e : answer ≡ Err s = told.0 in
    let same : s ≡ stop = cc in
    (ap Err same, told.1)

-- The first events lead to `mid`, and there the next one, e, is rejected: it was called, returned this, and left the state unchanged.
pub record MeetsRefusal (Q : Type 0) (program : List (List Stmt)) (events : List Event) (s : State) (done : ℕ) (stop : Stop)
    (end : State) : Type 0 where
  pub e : Event
  pub mid : State
  pub answer : Result (Unit {0}) Stop
  pub done_in_range : done < length events
  pub is_event : e ≡ get_or events done e
  pub ran : SourceRunsTo program (take done events) s mid
  pub event_result : ReturnsEventResult Q (source_event_result program e mid) answer end
  pub failed : answer ≡ Err stop
  pub state_unchanged : Q → end ≡ mid

-- If the first events are carried out and the next one is rejected, a replay of all events stops there, and reports how many
-- were done and the cause.
pub IsSourceReplay-stopped : (Q : Type 0) (program : List (List Stmt)) (events : List Event) (s : State) (done : ℕ) (stop : Stop)
    (end : State)
    → MeetsRefusal Q program events s done stop end
    → IsSourceReplay program events s (record { done = done; end = at.Stopped stop }) end
IsSourceReplay-stopped Q program events s done stop end meets =
    let e = meets.e in
    let (is_refused, left) =
    ReturnsEventResult-err Q (source_event_result program e meets.mid) meets.answer stop end meets.event_result meets.failed in
    let same = sym (meets.state_unchanged left) in
    record {
      within = omega (arith, meets.done_in_range);
      ran = subst (λ (m : State). SourceRunsTo program (take done events) s m) same meets.ran;
      ends = (
        e,
        at_index events done e meets.done_in_range ∙ ap Some (sym meets.is_event),
        (subst (λ (m : State). source_event_result program e m ≡ Err stop) same is_refused, refl),
      );
    }

-- If all events lead from s to `last`, a replay carries them out, and its end is as it says of `last`.
pub IsSourceReplay-all_events : (program : List (List Stmt)) (events : List Event) (k : ℕ) (s last : State) (end : End)
    → length events ≤ k
    → SourceRunsTo program (take k events) s last
    → HasReplayEnd (SourceTransition program) (is_source_final program) events (length events) last end
    → IsSourceReplay program events s (record { done = length events; end = end }) last
IsSourceReplay-all_events program events k s last end done ran ends = record {
  within = omega arith;
  ran =
      subst (λ (es : List Event). SourceRunsTo program es s last)
      (take_all k events done ∙ sym (take_all (length events) events (omega arith))) ran;
  ends = ends;
}

-- In a source test, whose threads have no store buffers, a call for a drain of an existing thread returns `BufferEmpty` and
-- leaves the state unchanged.
pub ReturnsEventResult-drain_refused : (Q : Type 0) (answer : Result (Unit {0}) Stop) (s : State) (t n : ℕ)
    → t < n
    → answer ≡ Err BufferEmpty
    → Q
    → ReturnsEventResult Q (if nat_lt t n then Err BufferEmpty else Err NoCpu) answer s
ReturnsEventResult-drain_refused Q answer s t n in_range failed same = rw (lt-ltb t n in_range) (failed, same)

-- A change at a location preserves the number of words, whether there is one or not.
pub length-apply_change_if_some : (x : Option ℕ) (change : Option Change) (words : List ℕ)
    → length (apply_change_if_some x change words) ≡ length words
length-apply_change_if_some (Some x) (Some change) words = length-set words x _
length-apply_change_if_some _ _ words = refl

-- An operation preserves the number of words.
pub length-words_after_operation : (o : Operation) (th : Thread) (words : List ℕ) → length (words_after o th words) ≡ length words
length-words_after_operation o th words = length-apply_change_if_some (location_of o) (written_change o th.regs) words

-- The states have the same numbers of threads and words.
abbrev pub SameSize : State → State → Type 0
SameSize s end = (length end.threads ≡ length s.threads) × (length end.words ≡ length s.words)

-- A result that is a rejection for one cause or another, as b says, is no success.
not-Ok-if_refused : (b : Bool) (x y : Stop) (mid : State) → (if b then Err x else Err y) ≡ Ok mid → ⊥
not-Ok-if_refused true x y mid e = absurd cc
not-Ok-if_refused false x y mid e = absurd cc

-- If an event leads from s to mid, both have the same numbers of threads and words.
pub SameSize-source_event : (program : List (List Stmt)) (e : Event) (s mid : State)
    → source_event_result program e s ≡ Ok mid
    → SameSize s mid
SameSize-source_event program (Step t) s mid e = SameSize-of_thread (slice_get s.threads t) e
  where
    -- By whether the thread has a statement at its position: without one the step is rejected.
    SameSize-of_statement : (th : Thread) (stmt : Option Stmt) → state_after_step t th s stmt ≡ Ok mid → SameSize s mid
    SameSize-of_statement th None e = absurd cc
    SameSize-of_statement th (Some stmt) e =
        let o : Operation = source_operation stmt in
        let next : State =
        record { threads = slice_set s.threads t (thread_after o th s.words); words = words_after o th s.words } in
        let kept : SameSize s next = (length-set s.threads t _, length-words_after_operation o th s.words) in
        subst (SameSize s) (let same : next ≡ mid = cc in same) kept

    -- By whether the state has the thread: without it the step is rejected.
    SameSize-of_thread : (th : Option Thread) → thread_step program t s th ≡ Ok mid → SameSize s mid
    SameSize-of_thread None e = absurd cc
    SameSize-of_thread (Some th) e = SameSize-of_statement th (slice_get (thread_code program t) th.position) e
SameSize-source_event program (Drain t) s mid e = absurd (not-Ok-if_refused (nat_lt t (length s.threads)) BufferEmpty NoCpu mid e)
SameSize-source_event program (Evict t x) s mid e = SameSize-of_refusal (nat_lt t (length s.threads)) e
  where
    -- By whether there is the processor (b): an eviction is refused in both cases.
    SameSize-of_refusal : (b : Bool)
        → (if b then (if nat_lt x (length s.words) then Err NotHeld else Err NoLocation) else Err NoCpu) ≡ Ok mid
        → SameSize s mid
    SameSize-of_refusal true e = absurd (not-Ok-if_refused (nat_lt x (length s.words)) NotHeld NoLocation mid e)
    SameSize-of_refusal false e = absurd cc

-- If ys is xs, j is i, and i is in range, the item of xs at i is that of ys at j.
pub slice_get-equal_list : {X : Type 0} (xs ys : List X) (i j : ℕ) (d : X)
    → ys ≡ xs
    → j ≡ i
    → i < length xs
    → slice_get xs i ≡ Some (get_or ys j d)
slice_get-equal_list xs ys i j d same index in_range = rw (same, index) (at_index xs i d in_range)

-- If ys is xs, j is i, and i is in range, the item at i of the images of xs is the image of the item of ys at j.
pub slice_get-map_equal_list : {X Y : Type 0} (f : X → Y) (xs ys : List X) (i j : ℕ) (d : X)
    → ys ≡ xs
    → j ≡ i
    → i < length xs
    → slice_get (map f xs) i ≡ Some (f (get_or ys j d))
slice_get-map_equal_list f xs ys i j d same index in_range =
    slice_get-map f xs i ∙ ap (option_map f) (slice_get-equal_list xs ys i j d same index in_range)

-- If `out` has the images of the first i items, appending the image of the item at i gives those of the first i + 1.
pub take_map-push : {X Y : Type 0} {xs ys : List X} {out next : List Y} (f : X → Y) (i : ℕ) (d : X)
    → ys ≡ xs
    → i < length ys
    → out ≡ map f (take i xs)
    → next ≡ out ++ f (get_or ys i d) ∷ []
    → next ≡ map f (take (i + 1) xs)
take_map-push {ys} f i d same in_range so_far pushed =
    let last : suc i ≡ i + 1 = omega arith in pushed ∙ rw (so_far, ← same, ← last, (take-suc ys i d in_range), map-append) refl

-- If a thread is in range, what is read at its index is its code.
thread_code-in_range : (program : List (List Stmt)) (t : ℕ) (code : List Stmt)
    → t < length program
    → code ≡ get_or program t code
    → thread_code program t ≡ code
thread_code-in_range program t code in_range is =
    let e = at_index program t code in_range in
    let f = at_index program t [] in_range in
    cc

-- The thread at index t is th, and its code in the program is `code`.
pub record IsAtCode (threads : List Thread) (program : List (List Stmt)) (t : ℕ) (th : Thread) (code : List Stmt) : Type 0 where
  pub thread_count : length threads ≡ length program
  pub is_thread : Some th ≡ slice_get threads t
  pub is_code : code ≡ get_or program t code

-- The next statement of a thread is well-formed on the test's locations, and the position after it does not overflow.
pub IsWellFormedStatement-next : {words locs : ℕ} {program : List (List Stmt)} {code : List Stmt} {stmt : Stmt}
    (threads : List Thread) (t : ℕ) (th : Thread)
    → IsAtCode threads program t th code
    → Some stmt ≡ slice_get code th.position
    → words ≡ locs
    → All (IsWellFormedThread source_language locs) program
    → IsWellFormedStatement source_language words stmt × (th.position + 1 < 2 ^ 64)
IsWellFormedStatement-next {locs} {code} {stmt} threads t th at is_stmt same whole =
    let there = slice_get_within threads t th (sym at.is_thread) in
    let here =
    subst (IsWellFormedThread source_language locs) (sym at.is_code) (whole t code (omega (arith, there, at.thread_count))) in
    let inside = slice_get_within code th.position stmt (sym is_stmt) in
    let found = at_index code th.position stmt inside in
    let this : get_or code th.position stmt ≡ stmt = cc in (
      rw same (subst (IsWellFormedStatement source_language locs) this (here.statements_formed th.position stmt inside)),
      omega (arith, inside, here.short),
    )

-- States with equal threads and equal memories are equal.
pub State-eq : (a b : List Thread) (u v : List ℕ)
    → a ≡ b
    → u ≡ v
    → (let s : State = record { threads = a; words = u } in s) ≡ record { threads = b; words = v }
State-eq a b u v e f = rw (e, f) refl

-- If `code` was read at the index of a thread that exists, it is the thread's code in the program.
thread_code-of_reading : (threads : List Thread) (program : List (List Stmt)) (t : ℕ) (th : Thread) (code : List Stmt)
    → IsAtCode threads program t th code
    → thread_code program t ≡ code
thread_code-of_reading threads program t th code at =
    thread_code-in_range program t code (omega (arith, slice_get_within threads t th (sym at.is_thread), at.thread_count))
    at.is_code

-- A thread executes its next statement, which changes the thread and the words.
pub record CarriesOut (before : SourceRunState) (t : ℕ) (end : State) : Type 0 where
  pub th : Thread
  pub code : List Stmt
  pub stmt : Stmt
  pub at : IsAtCode before.state.threads before.program t th code
  pub is_stmt : Some stmt ≡ slice_get code th.position
  pub threads : end.threads ≡ slice_set before.state.threads t (thread_after (source_operation stmt) th before.state.words)
  pub words : end.words ≡ words_after (source_operation stmt) th before.state.words

-- If a call returned `Ok` and carried out the next statement of thread t, its answer and its state are those of the step's
-- result.
pub ReturnsEventResult-step : (Q : Type 0) (answer : Result (Unit {0}) Stop) (before run : SourceRunState) (t : ℕ) (end : State)
    → before ≡ run
    → answer ≡ Ok tt
    → CarriesOut before t end
    → ReturnsEventResult Q (source_step run.program t run.state) answer end
ReturnsEventResult-step Q answer before run t end same ok c =
    let at_code = thread_code-of_reading before.state.threads before.program t c.th c.code c.at in
    rw (← same) (rw (← c.at.is_thread) (rw (at_code, ← c.is_stmt) (ok, State-eq _ _ _ _ c.threads c.words)))

-- If the state has no thread t, a call that returns `NoCpu` and changes nothing returns the result of the step of t.
pub ReturnsEventResult-no_thread : (Q : Type 0) (answer : Result (Unit {0}) Stop) (before run : SourceRunState) (t : ℕ)
    → before ≡ run
    → answer ≡ Err NoCpu
    → None ≡ slice_get before.state.threads t
    → Q
    → ReturnsEventResult Q (source_step run.program t run.state) answer run.state
ReturnsEventResult-no_thread Q answer before run t same failed is_thread kept = rw (← same) (rw (← is_thread) (failed, kept))

-- A thread is past the last statement of its code.
pub record IsAtEnd (before : SourceRunState) (t : ℕ) : Type 0 where
  pub th : Thread
  pub code : List Stmt
  pub at : IsAtCode before.state.threads before.program t th code
  pub is_stmt : None ≡ slice_get code th.position

-- If thread t is past its last statement, a call that returns `Ended` and changes nothing returns the result of the step of t.
pub ReturnsEventResult-at_end : (Q : Type 0) (answer : Result (Unit {0}) Stop) (before run : SourceRunState) (t : ℕ)
    → before ≡ run
    → answer ≡ Err Ended
    → IsAtEnd before t
    → Q
    → ReturnsEventResult Q (source_step run.program t run.state) answer run.state
ReturnsEventResult-at_end Q answer before run t same failed end kept =
    let at_code = thread_code-of_reading before.state.threads before.program t end.th end.code end.at in
    rw (← same) (rw (← end.at.is_thread) (rw (at_code, ← end.is_stmt) (failed, kept)))

-- If `out` has the images of the first i items, and i is at least their number, it has the images of all.
pub take_map-all : {X Y : Type 0} {xs ys : List X} {out : List Y} (f : X → Y) (i : ℕ)
    → ys ≡ xs
    → length ys ≤ i
    → out ≡ map f (take i xs)
    → out ≡ map f xs
take_map-all {xs} f i same end so_far = so_far ∙ ap (map f) (take_all i xs (omega (arith, end, ap length same)))

-- If regs are the registers of all threads of a state, and words are its words, they are the state's outcome.
pub source_outcome-of_registers : (regs : List (List ℕ)) (words : List ℕ) (s : State)
    → regs ≡ map (λ t. t.regs) s.threads
    → words ≡ s.words
    → (let o : FinalState = record { regs = regs; words = words } in o) ≡ source_outcome s
source_outcome-of_registers regs words s listed same = rw (listed, same) refl

-- If xs is the images of the first i items followed by old rows, then after the image of the item at i is set at i, it is the
-- images of the first i + 1 items followed by old rows.
pub map_prefix-set : {X Z : Type 0} {items ys : List X} {xs : List Z} (f : X → Z) (old : List Z) (i : ℕ) (d : X)
    → items ≡ ys
    → xs ≡ map f (take i ys) ++ drop i old
    → i < length items
    → i < length old
    → slice_set xs i (f (get_or items i d)) ≡ map f (take (i + 1) ys) ++ drop (i + 1) old
map_prefix-set {ys} {xs} f old i d same is in_range there =
    let here : i < length ys = omega (arith, in_range, ap length same) in
    let front = length-map (take i ys) f ∙ length-take-le i ys (omega (arith, here)) in
    let new = f (get_or ys i d) in
    ap (λ zs. slice_set xs i (f (get_or zs i d))) same
    ∙ ap (λ zs. slice_set zs i new) (is ∙ ap (λ zs. map f (take i ys) ++ zs) (drop_more old i new there))
    ∙ set_at (map f (take i ys)) (get_or old i new) (drop (i + 1) old) new i front
    ∙ sym (ap (λ zs. zs ++ drop (i + 1) old) (map_more f ys i d here)
    ∙ append_assoc (map f (take i ys)) (new ∷ []) (drop (i + 1) old))
