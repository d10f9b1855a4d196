-- One forward pass over the statements of a thread marks the positions that a flow path reaches from a store
-- that may still be in the store buffer. Lemmas for the loop of `marks_of`; a load at such a position needs a
-- fence.
use Rattle.lw_fence.proofs.Common.{◌≡◌, ◌↔◌, ℕ, zero, suc, ◌+◌, ◌<◌, ◌≤◌, ◌⊎◌, inl, inr, List, [], ◌∷◌, ◌++◌}
use Rattle.lw_fence.proofs.Common.{length, take, replicate, get_or, set, Option, Some, None, Bool, true}
use Rattle.lw_fence.proofs.Common.{false, if◌then◌else◌, ◌||◌, ◌&&◌, refl, sym, ap, ap₂, ◌∙◌, subst, ⊎_elim}
use Rattle.lw_fence.proofs.Common.{arith, slice_get, length-set, get_or-set_same, get_or-set_other}
use Rattle.lw_fence.proofs.Common.{AllByRecursion, ForSome, same_Some, slice_get_within, cases_eq, false≢true}
use Rattle.lw_fence.proofs.Common.{length-replicate, take-append_seam, Operation, Stmt, IsFlowSuccessor}
use Rattle.lw_fence.proofs.Common.{is_store, branch_target, falls_through, IsSuccessor, source_language}
use Rattle.lw_fence.proofs.Common.{source_operation, may_wait, with_mark, mark_successors}
use Rattle.lw_fence.proofs.Common.{preserves_pending_stores, HasKind, HasOperation, IsFlowPath}
use Rattle.lw_fence.proofs.Common.{IsReachableFromStore}

-- After the statement at i a store may be in the store buffer.
abbrev pub MayWait : List Stmt → Option Stmt → ℕ → Type 0
MayWait code o i = HasKind is_store o ⊎ (HasKind preserves_pending_stores o × IsReachableFromStore code i)

-- If a flow path ends at i, and j is a flow successor of i, then the path with j appended is a flow path.
IsFlowPath-push : (code : List Stmt) (s : ℕ) (between : List ℕ) (i j : ℕ)
    → IsFlowPath code (s ∷ (between ++ i ∷ []))
    → IsFlowSuccessor source_language (slice_get code i) i j
    → IsFlowPath code (s ∷ ((between ++ i ∷ []) ++ j ∷ []))
IsFlowPath-push code s [] i j path f = (path.0, (f, tt))
IsFlowPath-push code s (k ∷ between) i j path f = (path.0, IsFlowPath-push code k between i j path.1 f)

-- If stores may stay buffered past the statements at the positions `between`, and past that at i, then past all of these.
HasOperation-push : (code : List Stmt) (between : List ℕ) (i : ℕ)
    → AllByRecursion (HasOperation preserves_pending_stores code) between
    → HasKind preserves_pending_stores (slice_get code i)
    → AllByRecursion (HasOperation preserves_pending_stores code) (between ++ i ∷ [])
HasOperation-push code [] i a p = (p, tt)
HasOperation-push code (k ∷ between) i a p = (a.0, HasOperation-push code between i a.1 p)

-- If a store may be in the buffer after the statement at i, each flow successor of i is reachable from a store.
IsReachableFromStore-successor : (code : List Stmt) (i j : ℕ)
    → IsFlowSuccessor source_language (slice_get code i) i j
    → MayWait code (slice_get code i) i
    → IsReachableFromStore code j
IsReachableFromStore-successor code i j f (inl s) = record { store = i; between = []; stores = s; path = (f, tt); preserved = tt }
IsReachableFromStore-successor code i j f (inr p) =
    let b = p.1 in
    record {
      store = b.store;
      between = b.between ++ i ∷ [];
      stores = b.stores;
      path = IsFlowPath-push code b.store b.between i j b.path f;
      preserved = HasOperation-push code b.between i b.preserved p.0;
    }

-- If a store may be buffered after the statement x at i, each successor of x is reachable from a store.
pub IsReachableFromStore-of_statement : (code : List Stmt) {i : ℕ} (j : ℕ) {x : Stmt}
    → slice_get code i ≡ Some x
    → IsSuccessor (source_operation x) i j
    → MayWait code (Some x) i
    → IsReachableFromStore code j
IsReachableFromStore-of_statement code {i = i} j found_at =
    subst (λ o. IsFlowSuccessor source_language o i j → MayWait code o i → IsReachableFromStore code j) found_at
    (IsReachableFromStore-successor code i j)

-- A position that is reachable from a store is a successor of one after which a store may be buffered, by the path's last step.
IsReachableFromStore-last_step : (code : List Stmt) (j i : ℕ) (between : List ℕ)
    → MayWait code (slice_get code i) i
    → IsFlowPath code (i ∷ (between ++ j ∷ []))
    → AllByRecursion (HasOperation preserves_pending_stores code) between
    → (k : ℕ) × IsFlowSuccessor source_language (slice_get code k) k j × MayWait code (slice_get code k) k
IsReachableFromStore-last_step code j i [] w path passed = (i, path.0, w)
IsReachableFromStore-last_step code j i (k ∷ between) w path passed =
    IsReachableFromStore-last_step code j k between (inr (passed.0, IsReachableFromStore-successor code i k path.0 w)) path.1
    passed.1

-- Tests whether a position is marked; past the end of the marks none is.
abbrev pub is_marked : List Bool → ℕ → Bool
is_marked marks j = get_or marks j false

-- After a mark is set, a marked position was marked before or is that one.
is_marked-set_inv : (marks : List Bool) (a j : ℕ) → is_marked (set marks a true) j ≡ true → (is_marked marks j ≡ true) ⊎ (j ≡ a)
is_marked-set_inv marks a j h = ⊎_elim inr (λ ne. inl (sym (get_or-set_other marks a j true _ ne) ∙ h)) (cases_eq j a)

-- Setting a mark preserves the others.
is_marked-set : (marks : List Bool) (a j : ℕ) → is_marked marks j ≡ true → is_marked (set marks a true) j ≡ true
is_marked-set (b ∷ marks) zero zero h = refl
is_marked-set (b ∷ marks) (suc a) (suc j) h = is_marked-set marks a j h
is_marked-set _ _ _ h = h

-- After an optional position is marked, a marked position was marked before or is that one.
is_marked-with_mark_inv : (o : Option ℕ) (marks : List Bool) (j : ℕ)
    → is_marked (with_mark o marks) j ≡ true
    → (is_marked marks j ≡ true) ⊎ (o ≡ Some j)
is_marked-with_mark_inv None marks j h = inl h
is_marked-with_mark_inv (Some a) marks j h = ⊎_elim inl (λ same. inr (ap Some (sym same))) (is_marked-set_inv marks a j h)

-- Marking an optional position preserves the others.
is_marked-kept_by_mark : (o : Option ℕ) (marks : List Bool) (j : ℕ)
    → is_marked marks j ≡ true
    → is_marked (with_mark o marks) j ≡ true
is_marked-kept_by_mark None marks j h = h
is_marked-kept_by_mark (Some a) marks j h = is_marked-set marks a j h

-- A position within the list of marks is marked after it is set.
is_marked-with_mark : (o : Option ℕ) (marks : List Bool) (j : ℕ)
    → o ≡ Some j
    → j < length marks
    → is_marked (with_mark o marks) j ≡ true
is_marked-with_mark o marks j e in_range =
    ap (λ p. is_marked (with_mark p marks) j) e ∙ get_or-set_same marks j true false in_range

-- Marking a position preserves the number of marks.
length-with_mark : (o : Option ℕ) (marks : List Bool) → length (with_mark o marks) ≡ length marks
length-with_mark None marks = refl
length-with_mark (Some a) marks = length-set marks a true

-- The next position, if the operation falls through.
abbrev next_position : Operation → ℕ → Option ℕ
next_position o i = if falls_through o then Some (i + 1) else None

-- If there is a next position j, the operation falls through, and j is i + 1.
next_position-sound : (falls : Bool) (i j : ℕ) → (if falls then Some (i + 1) else None) ≡ Some j → (falls ≡ true) × (j ≡ i + 1)
next_position-sound true i j e = (refl, same_Some j (i + 1) (sym e))
next_position-sound false i j e = absurd cc

-- After an operation's successors are marked, a marked position was marked before or is a successor.
is_marked-successors_inv : (o : Operation) (i : ℕ) (marks : List Bool) (j : ℕ)
    → is_marked (mark_successors o i marks) j ≡ true
    → (is_marked marks j ≡ true) ⊎ IsSuccessor o i j
is_marked-successors_inv o i marks j h =
    ⊎_elim (λ led. ⊎_elim (λ old. inl old) (λ e. inr (inr e)) (is_marked-with_mark_inv (branch_target o) marks j led))
    (λ e. inr (inl (next_position-sound (falls_through o) i j e))) (is_marked-with_mark_inv (next_position o i) _ j h)

-- Marking an operation's successors preserves the other marks.
is_marked-kept_by_successors : (o : Operation) (i : ℕ) (marks : List Bool) (j : ℕ)
    → is_marked marks j ≡ true
    → is_marked (mark_successors o i marks) j ≡ true
is_marked-kept_by_successors o i marks j h =
    is_marked-kept_by_mark (next_position o i) _ j (is_marked-kept_by_mark (branch_target o) marks j h)

-- After an operation's successors are marked, each successor within the marks is marked.
is_marked-successor : (o : Operation) (i : ℕ) (marks : List Bool) (j : ℕ)
    → IsSuccessor o i j
    → j < length marks
    → is_marked (mark_successors o i marks) j ≡ true
is_marked-successor o i marks j (inl next) in_range =
    is_marked-with_mark (next_position o i) (with_mark (branch_target o) marks) j
    (ap (λ b. if b then Some (i + 1) else None) next.0 ∙ ap Some (sym next.1))
    (omega (arith, in_range, length-with_mark (branch_target o) marks))
is_marked-successor o i marks j (inr target) in_range =
    is_marked-kept_by_mark _ _ j (is_marked-with_mark (branch_target o) marks j target in_range)

-- Marking an operation's successors preserves the number of marks.
length-mark_successors : (o : Operation) (i : ℕ) (marks : List Bool) → length (mark_successors o i marks) ≡ length marks
length-mark_successors o i marks = length-with_mark (next_position o i) _ ∙ length-with_mark (branch_target o) marks

-- If the test says that a store may be in the buffer after the statement at i, and its argument `mark` is set only if position i is
-- reachable from a store, then one may be.
may_wait-sound : (code : List Stmt) (i : ℕ) (x : Stmt) (mark : Bool)
    → may_wait (source_operation x) mark ≡ true
    → (mark ≡ true → IsReachableFromStore code i)
    → MayWait code (Some x) i
may_wait-sound code i x mark test if_marked =
    MayWait-by_kind (is_store (source_operation x)) (preserves_pending_stores (source_operation x)) mark test if_marked
  where
    -- By whether the statement is a store, and whether it preserves pending stores.
    MayWait-by_kind : (stores preserves mark : Bool)
        → (stores || (preserves && mark)) ≡ true
        → (mark ≡ true → IsReachableFromStore code i)
        → (stores ≡ true) ⊎ ((preserves ≡ true) × IsReachableFromStore code i)
    MayWait-by_kind true preserves mark test if_marked = inl refl
    MayWait-by_kind false true mark test if_marked = inr (refl, if_marked test)
    MayWait-by_kind false false mark test if_marked = absurd (false≢true test)

-- If a store may be in the buffer after the statement at i, and the test's argument `mark` is set if position i is reachable from a store,
-- then the test says so.
may_wait-complete : {code : List Stmt} {i : ℕ} (x : Stmt) (mark : Bool)
    → MayWait code (Some x) i
    → (IsReachableFromStore code i → mark ≡ true)
    → may_wait (source_operation x) mark ≡ true
may_wait-complete x mark (inl store) is_marked_if = ap (λ s. s || (preserves_pending_stores (source_operation x) && mark)) store
may_wait-complete x mark (inr waits) is_marked_if =
    may_wait-by_kind (is_store (source_operation x)) _ mark waits.0 (is_marked_if waits.1)
  where
    -- By whether the statement is a store: one that preserves pending stores passes the test if the mark is set.
    may_wait-by_kind : (stores preserves mark : Bool) → preserves ≡ true → mark ≡ true → (stores || (preserves && mark)) ≡ true
    may_wait-by_kind true preserves mark is_preserved is_set = refl
    may_wait-by_kind false preserves mark is_preserved is_set = ap₂ (λ (p q : Bool). p && q) is_preserved is_set

-- If the operation at i < n jumps only forward, at most to the end n, each successor of it is after i, and at most n.
pub IsSuccessor-forward : (n i j : ℕ) (o : Operation)
    → ForSome (branch_target o) (λ to. (i < to) × (to ≤ n))
    → i < n
    → IsSuccessor o i j
    → (i < j) × (j ≤ n)
IsSuccessor-forward n i j o ok lt (inl next) = (omega (arith, next.1), omega (arith, next.1))
IsSuccessor-forward n i j o ok lt (inr target) = ok j target

-- The marks after i statements were passed: only reachable positions are marked, and all successors of these statements that are reachable
-- from a store are.
pub record AreMarksAfter (code : List Stmt) (i : ℕ) (marks : List Bool) : Type 0 where
  pub as_many : length marks ≡ suc (length code)
  pub sound : (j : ℕ) → is_marked marks j ≡ true → IsReachableFromStore code j
  pub complete : (k j : ℕ)
      → k < i
      → IsFlowSuccessor source_language (slice_get code k) k j
      → MayWait code (slice_get code k) k
      → is_marked marks j ≡ true

module _ (code : List Stmt)
    (ok : (j : ℕ) (x : Stmt)
    → slice_get code j ≡ Some x
    → ForSome (branch_target (source_operation x)) (λ to. (j < to) × (to ≤ length code))) where
  -- A flow successor of a statement that exists is after it, and at most the end.
  some_forward : (i j : ℕ) (o : Option Stmt)
      → slice_get code i ≡ o
      → IsFlowSuccessor source_language o i j
      → (i < length code) × (i < j) × (j ≤ length code)
  some_forward i j None e f = absurd f
  some_forward i j (Some x) e f =
      let lt = slice_get_within code i x e in
      let g = IsSuccessor-forward (length code) i j (source_operation x) (ok i x e) lt f in
      (lt, g.0, g.1)

  -- After i statements were passed, each position up to i that is reachable from a store is marked.
  AreMarksAfter-complete : {i : ℕ} {marks : List Bool}
      → AreMarksAfter code i marks
      → (j : ℕ)
      → j ≤ i
      → IsReachableFromStore code j
      → is_marked marks j ≡ true
  AreMarksAfter-complete m j le b =
      let l = IsReachableFromStore-last_step code j b.store b.between (inl b.stores) b.path b.preserved in
      m.complete l.0 j (omega (arith, le, some_forward l.0 j (slice_get code l.0) refl l.1)) l.1 l.2

  -- If P holds of the statement at k, and k is i, at which the statement x is, then P holds of x at i.
  at_same_index : (P : Option Stmt → ℕ → Type 0) (k i : ℕ) (x : Stmt)
      → slice_get code i ≡ Some x
      → k ≡ i
      → P (slice_get code k) k
      → P (Some x) i
  at_same_index P k i x found_at same h = subst (λ o. P o i) found_at (subst (λ n. P (slice_get code n) n) same h)

  -- If the marks are those after i statements, then, with the successors of the statement at i marked too if a store may be in
  -- the buffer after it (b), they are those after i + 1.
  pub AreMarksAfter-next : (i : ℕ) (x : Stmt) (marks : List Bool) (b : Bool)
      → slice_get code i ≡ Some x
      → may_wait (source_operation x) (is_marked marks i) ≡ b
      → AreMarksAfter code i marks
      → AreMarksAfter code (i + 1) (if b then mark_successors (source_operation x) i marks else marks)
  AreMarksAfter-next i x marks true found_at c m = record {
    as_many = length-mark_successors (source_operation x) i marks ∙ m.as_many;
    sound = λ j h.
        ⊎_elim (λ old. m.sound j old)
        (λ f.
        IsReachableFromStore-of_statement code j found_at f (may_wait-sound code i x (is_marked marks i) c (λ h. m.sound i h)))
        (is_marked-successors_inv (source_operation x) i marks j h);
    complete = λ k j lt f g.
        ⊎_elim
        (λ same.
        is_marked-successor _ i marks j (at_same_index (λ o n. IsFlowSuccessor source_language o n j) k i x found_at same f)
        (omega (arith, m.as_many, some_forward k j (slice_get code k) refl f)))
        (λ ne. is_marked-kept_by_successors (source_operation x) i marks j (m.complete k j (omega arith) f g)) (cases_eq k i);
  }
  AreMarksAfter-next i x marks false found_at c m = record {
    as_many = m.as_many;
    sound = m.sound;
    complete = λ k j lt f g.
        ⊎_elim (λ same. absurd (no_wait_at_index (at_same_index (λ o n. MayWait code o n) k i x found_at same g)))
        (λ ne. m.complete k j (omega arith) f g) (cases_eq k i);
  }
    where
      -- After this statement no store waits, since its mark is not set.
      no_wait_at_index : MayWait code (Some x) i → ⊥
      no_wait_at_index g = false≢true (sym c ∙ may_wait-complete x _ g (λ d. AreMarksAfter-complete m i (omega arith) d))

  -- If no position is marked, the marks are those after 0 statements.
  pub AreMarksAfter-at_start : AreMarksAfter code 0 (replicate (suc (length code)) false)
  AreMarksAfter-at_start = record {
    as_many = length-replicate (suc (length code)) false;
    sound = λ j h. absurd (false≢true (sym (is_marked-replicate (suc (length code)) j) ∙ h));
    complete = λ k j lt f g. absurd (omega arith);
  }
    where
      -- No mark is set in a list of false marks.
      is_marked-replicate : (n j : ℕ) → is_marked (replicate n false) j ≡ false
      is_marked-replicate (suc n) (suc j) = is_marked-replicate n j
      is_marked-replicate _ _ = refl

  -- If the marks are those after all statements, exactly the positions that are reachable from stores are marked.
  pub AreMarksAfter-end : (marks : List Bool)
      → AreMarksAfter code (length code) marks
      → (j : ℕ)
      → j ≤ length code
      → (is_marked marks j ≡ true) ↔ IsReachableFromStore code j
  AreMarksAfter-end marks right j le = ((λ h. right.sound j h), (λ b. AreMarksAfter-complete right j le b))

-- If n is the length of xs, and `new` is as long as xs, the first n items of `new` followed by ys are `new`.
pub take-replaced_front : {X : Type 0} (xs new ys : List X) (n : ℕ)
    → n ≡ length xs
    → length new ≡ length xs
    → take n (new ++ ys) ≡ new
take-replaced_front xs new ys n e f = ap (λ (k : ℕ). take k (new ++ ys)) (e ∙ sym f) ∙ take-append_seam new ys
