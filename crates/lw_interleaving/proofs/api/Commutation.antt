-- Steps of the threads: what each of them changes, where it leads, and which of them commute. The laws of
-- this crate, and what lw_finals uses for the orders of source tests.
use Rattle.lw_interleaving.proofs.Common.{◌≡◌, ◌≢◌, ℕ, ◌+◌, Bool, true, false, ◌||◌, ◌&&◌, if◌then◌else◌}
use Rattle.lw_interleaving.proofs.Common.{List, Option, Some, None, Ok, refl, sym, ap, ap₂, ◌∙◌, subst, inl}
use Rattle.lw_interleaving.proofs.Common.{inr, ◌⊎◌, slice_get, slice_set, option_map, option_and_then, eq-eqb}
use Rattle.lw_interleaving.proofs.Common.{get_or-set_other, set_comm, set-get_or, slice_get-map}
use Rattle.lw_interleaving.proofs.Common.{slice_get-slice_set_same, slice_get-slice_set_other, Always}
use Rattle.lw_interleaving.proofs.Common.{Operation, Branch, Stmt, location_of, writes, written_change}
use Rattle.lw_interleaving.proofs.Common.{Change, changed_word, written_change-none, IsSuccessor, guard_holds}
use Rattle.lw_interleaving.proofs.Common.{source_language, source_operation, Thread, thread_code}
use Rattle.lw_interleaving.proofs.Common.{word_or_zero, apply_change_if_some, thread_with, thread_after}
use Rattle.lw_interleaving.proofs.Common.{words_after, State, state_after_step, thread_step, source_step}
use Rattle.lw_interleaving.proofs.Common.{IsFlowSuccessor, FollowsFlow, thread_position, next_statement}
use Rattle.lw_interleaving.proofs.Common.{StepsCommute, is_same_location, operations_conflict}

-- A state, from its threads and its memory.
abbrev pub state_of : List Thread → List ℕ → State
state_of threads m = record { threads = threads; words = m }

-- The state s after an operation of its thread t, which is th.
abbrev pub state_after : ℕ → Thread → Operation → State → State
state_after t th o s = state_of (slice_set s.threads t (thread_after o th s.words)) (words_after o th s.words)

-- The effect of a step: its thread's statement was executed on the thread and on memory.
pub record StepEffect (program : List (List Stmt)) (t : ℕ) (s mid : State) : Type 0 where
  pub thread : Thread
  pub stmt : Stmt
  pub was : slice_get s.threads t ≡ Some thread
  pub at : slice_get (thread_code program t) thread.position ≡ Some stmt
  pub state_is : mid ≡ state_after t thread (source_operation stmt) s

-- If a step of thread t is enabled in s and leads to mid, it executed the thread's next statement.
pub StepEffect-of_step : (program : List (List Stmt)) (t : ℕ) (s mid : State)
    → source_step program t s ≡ Ok mid
    → StepEffect program t s mid
StepEffect-of_step program t s mid a = StepEffect-of_thread (slice_get s.threads t) refl a
  where
    -- By the statement at the thread's position: without one the step is rejected.
    StepEffect-of_statement : (th : Thread) (o : Option Stmt)
        → slice_get s.threads t ≡ Some th
        → slice_get (thread_code program t) th.position ≡ o
        → state_after_step t th s o ≡ Ok mid
        → StepEffect program t s mid
    StepEffect-of_statement th None thread_at h a = absurd cc
    StepEffect-of_statement th (Some x) e h a = record { thread = th; stmt = x; was = e; at = h; state_is = cc }

    -- By whether the state has the thread: without it the step is rejected.
    StepEffect-of_thread : (o : Option Thread)
        → slice_get s.threads t ≡ o
        → thread_step program t s o ≡ Ok mid
        → StepEffect program t s mid
    StepEffect-of_thread None e a = absurd cc
    StepEffect-of_thread (Some th) e a = StepEffect-of_statement th (slice_get (thread_code program t) th.position) e refl a

-- The memory with this word at a location, if one is given.
abbrev put_word_if_located : Option ℕ → ℕ → List ℕ → List ℕ
put_word_if_located None w m = m
put_word_if_located (Some x) w m = slice_set m x w

-- The word after a change, or the same word if there is no change.
abbrev word_after_change : Option Change → ℕ → ℕ
word_after_change None w = w
word_after_change (Some change) w = changed_word change w

-- The word that a thread's operation leaves at its location, from the word before.
abbrev word_after_operation : Operation → Thread → ℕ → ℕ
word_after_operation o th w = word_after_change (written_change o th.regs) w

-- The memory after an operation is the memory with one word put at the operation's location; it is unchanged if there is no
-- location.
words_after-put_word : (o : Operation) (th : Thread) (m : List ℕ)
    → words_after o th m ≡ put_word_if_located (location_of o) (word_after_operation o th (word_or_zero (location_of o) m)) m
words_after-put_word o th m = apply_change-put_word (location_of o) (written_change o th.regs)
  where
    -- By whether there is a location, and a change of its word.
    apply_change-put_word : (x : Option ℕ) (change : Option Change)
        → apply_change_if_some x change m ≡ put_word_if_located x (word_after_change change (word_or_zero x m)) m
    apply_change-put_word None change = refl
    apply_change-put_word (Some x) None = sym (set-get_or m x 0)
    apply_change-put_word (Some x) (Some change) = refl

-- An operation that does not write leaves the memory unchanged.
words_after-if_no_write : (o : Operation) (th : Thread) (m : List ℕ) → writes o ≡ false → words_after o th m ≡ m
words_after-if_no_write o th m e =
    unchanged-without_change (location_of o) (written_change o th.regs) (written_change-none o th.regs e)
  where
    -- Without a change the memory stays as it is, whatever the location.
    unchanged-without_change : (x : Option ℕ) (change : Option Change) → change ≡ None → apply_change_if_some x change m ≡ m
    unchanged-without_change None change is_none = refl
    unchanged-without_change (Some x) None is_none = refl
    unchanged-without_change (Some x) (Some change) is_none = absurd cc

-- If two memories have the same word at an operation's location, the thread after the operation is the same.
thread_after-same_word : (o : Operation) (th : Thread) (m n : List ℕ)
    → word_or_zero (location_of o) m ≡ word_or_zero (location_of o) n
    → thread_after o th m ≡ thread_after o th n
thread_after-same_word o th m n e = ap (thread_with o th) e

-- The thread after an operation without a location does not depend on memory.
pub thread_after-no_location : (o : Operation) (th : Thread) (m n : List ℕ)
    → location_of o ≡ None
    → thread_after o th m ≡ thread_after o th n
thread_after-no_location o th m n is_none =
    thread_after-same_word o th m n (ap (λ l. word_or_zero l m) is_none ∙ sym (ap (λ l. word_or_zero l n) is_none))

-- An operation without a location leaves the memory unchanged.
pub words_after-no_location : (o : Operation) (th : Thread) (m : List ℕ) → location_of o ≡ None → words_after o th m ≡ m
words_after-no_location o th m is_none =
    words_after-put_word o th m ∙ ap (λ l. put_word_if_located l (word_after_operation o th (word_or_zero l m)) m) is_none

-- Two locations differ, or one of them is not given.
abbrev AreDifferentLocations : Option ℕ → Option ℕ → Type 0
AreDifferentLocations (Some x) (Some y) = x ≢ y
AreDifferentLocations _ _ = Unit {0}

-- Two operations do not conflict: neither writes, or they have different locations, or one of them has none.
abbrev AreFree : Operation → Operation → Type 0
AreFree o p = ((writes o ≡ false) × (writes p ≡ false)) ⊎ AreDifferentLocations (location_of o) (location_of p)

-- `AreDifferentLocations` is symmetric.
AreDifferentLocations-sym : (x y : Option ℕ) → AreDifferentLocations x y → AreDifferentLocations y x
AreDifferentLocations-sym None None apart = tt
AreDifferentLocations-sym None (Some y) apart = tt
AreDifferentLocations-sym (Some x) None apart = tt
AreDifferentLocations-sym (Some x) (Some y) apart = λ e. apart (sym e)

-- `AreFree` is symmetric.
AreFree-sym : (o p : Operation) → AreFree o p → AreFree p o
AreFree-sym o p (inl neither) = inl (neither.1, neither.0)
AreFree-sym o p (inr apart) = inr (AreDifferentLocations-sym (location_of o) (location_of p) apart)

-- If the test says that two statements do not conflict, their operations do not conflict.
AreFree-no_conflict : (a b : Stmt)
    → operations_conflict source_language (Some a) (Some b) ≡ false
    → AreFree (source_operation a) (source_operation b)
AreFree-no_conflict a b none =
    free-if_no_conflict (location_of (source_operation a)) (location_of (source_operation b)) (writes (source_operation a))
    (writes (source_operation b)) none
  where
    -- By whether the two locations are the same, and by which of the operations writes (v and w).
    free-if_no_conflict : (x y : Option ℕ) (v w : Bool)
        → (is_same_location x y && (v || w)) ≡ false
        → ((v ≡ false) × (w ≡ false)) ⊎ AreDifferentLocations x y
    free-if_no_conflict None y v w e = inr tt
    free-if_no_conflict (Some x) None v w e = inr tt
    free-if_no_conflict (Some x) (Some y) false false e = inl (refl, refl)
    free-if_no_conflict (Some x) (Some y) true w e = inr (λ same. let e' = rw (eq-eqb x y same) at e in absurd cc)
    free-if_no_conflict (Some x) (Some y) false true e = inr (λ same. let e' = rw (eq-eqb x y same) at e in absurd cc)

-- If x and y are different locations, or one is not given, writing at y leaves the word at x unchanged.
word_or_zero-put_other : (x y : Option ℕ) (w : ℕ) (m : List ℕ)
    → AreDifferentLocations x y
    → word_or_zero x (put_word_if_located y w m) ≡ word_or_zero x m
word_or_zero-put_other (Some x) (Some y) w m apart = get_or-set_other m y x w 0 apart
word_or_zero-put_other _ _ w m apart = refl

-- If x and y are different locations, or one is not given, words can be written at them in either order.
put_word-commutes : (x y : Option ℕ) (v w : ℕ) (m : List ℕ)
    → AreDifferentLocations x y
    → put_word_if_located x v (put_word_if_located y w m) ≡ put_word_if_located y w (put_word_if_located x v m)
put_word-commutes (Some x) (Some y) v w m apart = set_comm m y x w v (λ e. apart (sym e))
put_word-commutes _ _ v w m apart = refl

-- An operation o finds the same word at its location before and after an operation p that does not conflict with it.
word_or_zero-after_free_operation : (o p : Operation) (tp : Thread) (m : List ℕ)
    → AreFree o p
    → word_or_zero (location_of o) (words_after p tp m) ≡ word_or_zero (location_of o) m
word_or_zero-after_free_operation o p tp m (inl neither) =
    ap (word_or_zero (location_of o)) (words_after-if_no_write p tp m neither.1)
word_or_zero-after_free_operation o p tp m (inr apart) =
    ap (word_or_zero (location_of o)) (words_after-put_word p tp m) ∙ word_or_zero-put_other _ _ _ m apart

-- Two operations that do not conflict leave the same memory in either order.
words_after-commutes : (o p : Operation) (to tp : Thread) (m : List ℕ)
    → AreFree o p
    → words_after o to (words_after p tp m) ≡ words_after p tp (words_after o to m)
words_after-commutes o p to tp m (inl neither) =
    words_after-if_no_write o to (words_after p tp m) neither.0
    ∙ words_after-if_no_write p tp m neither.1
    ∙ sym (words_after-if_no_write p tp (words_after o to m) neither.1 ∙ words_after-if_no_write o to m neither.0)
words_after-commutes o p to tp m (inr apart) =
    words_after-both o p to tp (inr apart)
    ∙ put_word-commutes (location_of o) (location_of p) _ _ m apart
    ∙ sym (words_after-both p o tp to (AreFree-sym o p (inr apart)))
  where
    -- If the operations a and b do not conflict, the memory after b and then a has two words put: at a's location and at b's.
    words_after-both : (a b : Operation) (ta tb : Thread)
        → AreFree a b
        → words_after a ta (words_after b tb m)
        ≡ put_word_if_located (location_of a) (word_after_operation a ta (word_or_zero (location_of a) m))
        (put_word_if_located (location_of b) (word_after_operation b tb (word_or_zero (location_of b) m)) m)
    words_after-both a b ta tb free =
        words_after-put_word a ta (words_after b tb m)
        ∙ ap₂ (λ w n. put_word_if_located (location_of a) (word_after_operation a ta w) n)
        (word_or_zero-after_free_operation a b tb m free) (words_after-put_word b tb m)

-- If the state has the thread th at index t, the position of thread t is that of th.
pub thread_position-of_thread : (s : State) (t : ℕ) (th : Thread)
    → slice_get s.threads t ≡ Some th
    → thread_position s t ≡ Some th.position
thread_position-of_thread s t th was = slice_get-map _ s.threads t ∙ ap (λ o. option_map (λ (x : Thread). x.position) o) was

-- If thread t is at position j, its next statement is what its code has at j.
pub next_statement-at_position : (program : List (List Stmt)) (s : State) (t j : ℕ)
    → thread_position s t ≡ Some j
    → next_statement program s t ≡ slice_get (thread_code program t) j
next_statement-at_position program s t j e = ap (λ (o : Option ℕ). option_and_then (λ k. slice_get (thread_code program t) k) o) e

-- If a step of thread t leads from s to mid, every other thread is the same in both.
pub source_step-other_thread : (program : List (List Stmt)) (t u : ℕ) (s mid : State)
    → t ≢ u
    → source_step program t s ≡ Ok mid
    → slice_get mid.threads u ≡ slice_get s.threads u
source_step-other_thread program t u s mid ne a =
    let d = StepEffect-of_step program t s mid a in
    ap (λ (x : State). slice_get x.threads u) d.state_is ∙ slice_get-slice_set_other s.threads t u _ ne

-- If a step of thread t leads from s to mid, the position of every other thread is the same in both.
pub source_step-other_position : (program : List (List Stmt)) (t u : ℕ) (s mid : State)
    → t ≢ u
    → source_step program t s ≡ Ok mid
    → thread_position mid u ≡ thread_position s u
source_step-other_position program t u s mid ne a =
    slice_get-map _ mid.threads u
    ∙ (ap (λ (o : Option Thread). option_map (λ (x : Thread). x.position) o) (source_step-other_thread program t u s mid ne a)
    ∙ sym (slice_get-map (λ (x : Thread). x.position) s.threads u))

-- An operation takes its thread to a successor of its position, whatever the memory.
pub IsSuccessor-thread_after : (o : Operation) (th : Thread) (m : List ℕ)
    → IsSuccessor o th.position (thread_after o th m).position
IsSuccessor-thread_after (Branch Always to) th m = inr refl
IsSuccessor-thread_after (Branch c to) th m = IsSuccessor-by_guard (guard_holds c th.regs false)
  where
    -- By whether the guard holds: the branch is taken, or the thread advances.
    IsSuccessor-by_guard : (b : Bool) → IsSuccessor (Branch c to) th.position (if b then to else (th.position + 1))
    IsSuccessor-by_guard true = inr refl
    IsSuccessor-by_guard false = inl (refl, refl)
IsSuccessor-thread_after o th m = inl (refl, refl)

-- If a step of thread t leads from s to mid, it takes the thread from its position to a successor of it.
pub FollowsFlow-source_step : (program : List (List Stmt)) (t : ℕ) (s mid : State)
    → source_step program t s ≡ Ok mid
    → FollowsFlow program t s mid
FollowsFlow-source_step program t s mid a =
    let d = StepEffect-of_step program t s mid a in
    let next : Thread = thread_after (source_operation d.stmt) d.thread s.words in
    record {
      from = d.thread.position;
      to = next.position;
      was = thread_position-of_thread s t d.thread d.was;
      follows =
          let led = IsSuccessor-thread_after (source_operation d.stmt) d.thread s.words in
          subst (λ (o : Option Stmt). IsFlowSuccessor source_language o d.thread.position next.position) (sym d.at) led;
      now =
          thread_position-of_thread mid t next
          (ap (λ x. slice_get x.threads t) d.state_is ∙ slice_get-slice_set_same _ t next _ d.was);
    }

-- If the next statements of two different threads do not conflict, their steps commute.
pub StepsCommute-no_conflict : (program : List (List Stmt)) (t u : ℕ) (s : State)
    → t ≢ u
    → operations_conflict source_language (next_statement program s t) (next_statement program s u) ≡ false
    → StepsCommute program t u s
StepsCommute-no_conflict program t u s ne none mid end step_t step_u = (state_after_u, u_steps_first, t_steps_second)
  where
    -- The step of thread t from s executes its next statement.
    step_of_t : StepEffect program t s mid
    step_of_t = StepEffect-of_step program t s mid step_t

    -- The step of thread u after it executes its next statement.
    step_of_u : StepEffect program u mid end
    step_of_u = StepEffect-of_step program u mid end step_u

    -- The operation of the statement that t executes.
    operation_of_t : Operation
    operation_of_t = source_operation step_of_t.stmt

    -- The operation of the statement that u executes.
    operation_of_u : Operation
    operation_of_u = source_operation step_of_u.stmt

    -- Thread u is in s as it is after the step of t, since t's step does not change it.
    u_before_both : slice_get s.threads u ≡ Some step_of_u.thread
    u_before_both = sym (source_step-other_thread program t u s mid ne step_t) ∙ step_of_u.was

    -- The two operations do not conflict.
    operations_are_free : AreFree operation_of_t operation_of_u
    operations_are_free =
        let next_t =
        next_statement-at_position program s t step_of_t.thread.position
        (thread_position-of_thread s t step_of_t.thread step_of_t.was)
        ∙ step_of_t.at in
        let next_u =
        next_statement-at_position program s u step_of_u.thread.position
        (thread_position-of_thread s u step_of_u.thread u_before_both)
        ∙ step_of_u.at in
        AreFree-no_conflict step_of_t.stmt step_of_u.stmt (sym (ap₂ (operations_conflict source_language) next_t next_u) ∙ none)

    -- Thread t after its operation.
    t_after : Thread
    t_after = thread_after operation_of_t step_of_t.thread s.words

    -- Thread u after its operation.
    u_after : Thread
    u_after = thread_after operation_of_u step_of_u.thread s.words

    -- The state after the step of u alone.
    state_after_u : State
    state_after_u = state_after u step_of_u.thread operation_of_u s

    -- The state after the step of t alone.
    state_after_t : State
    state_after_t = state_after t step_of_t.thread operation_of_t s

    -- From s the step of thread u leads to the state after it alone.
    u_steps_first : source_step program u s ≡ Ok state_after_u
    u_steps_first = ap (thread_step program u s) u_before_both ∙ ap (state_after_step u step_of_u.thread s) step_of_u.at

    -- Thread t is after the step of u as it is in s.
    t_after_step_of_u : slice_get state_after_u.threads t ≡ Some step_of_t.thread
    t_after_step_of_u = slice_get-slice_set_other s.threads u t u_after (λ e. ne (sym e)) ∙ step_of_t.was

    -- The threads after both steps are the same in either order.
    threads_are : (state_after t step_of_t.thread operation_of_t state_after_u).threads
        ≡ (state_after u step_of_u.thread operation_of_u state_after_t).threads
    threads_are =
        ap (slice_set state_after_u.threads t)
        (thread_after-same_word operation_of_t step_of_t.thread state_after_u.words s.words
        (word_or_zero-after_free_operation operation_of_t operation_of_u step_of_u.thread s.words operations_are_free))
        ∙ set_comm s.threads u t u_after t_after (λ e. ne (sym e))
        ∙ ap (slice_set state_after_t.threads u)
        (sym (thread_after-same_word operation_of_u step_of_u.thread _ s.words
        (word_or_zero-after_free_operation operation_of_u operation_of_t step_of_t.thread s.words
        (AreFree-sym operation_of_t operation_of_u operations_are_free))))

    -- From the state after the step of u, the step of thread t leads to the same end.
    t_steps_second : source_step program t state_after_u ≡ Ok end
    t_steps_second =
        ap (thread_step program t state_after_u) t_after_step_of_u
        ∙ ap (state_after_step t step_of_t.thread state_after_u) step_of_t.at
        ∙ ap Ok
        (ap₂ state_of threads_are
        (words_after-commutes operation_of_t operation_of_u step_of_t.thread step_of_u.thread s.words operations_are_free)
        ∙ sym (step_of_u.state_is ∙ ap (state_after u step_of_u.thread operation_of_u) step_of_t.state_is))
