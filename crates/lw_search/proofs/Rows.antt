-- Tables of values without duplicates, in which a value's number is its index. For the hash sets of
-- `tables.rt` and `states.rt`: a look-up finds an equal value, and an insertion keeps all numbers.
use Rattle.lw_search.proofs.Common.{◌≡◌, ℕ, zero, suc, Bool, true, false, true≢false, Option, Some, List, []}
use Rattle.lw_search.proofs.Common.{◌∷◌, ◌++◌, refl, sym, ap, ◌∙◌, subst, not, slice_get, get_or}
use Rattle.lw_search.proofs.Common.{if◌then◌else◌, length, ◌⊎◌, inl, inr, same_Some, position, nat_eq}
use Rattle.lw_search.proofs.Common.{Decides, ◌&&◌, ◌||◌, unsigned_Decides, booleans_Decides, first_so}
use Rattle.lw_search.proofs.Common.{second_so, pointwise, pointwise_decides, beq, slice_get-append_cases}
use Rattle.lw_search.proofs.Common.{Processor, list_any, position-Some, slice_get-get_or, IsPrefix}
use Rattle.lw_search.proofs.Common.{HasUniqueIndices, Extends, Components}

-- The item at the position of x is x.
pub slice_get-at_position : {X : Type 0} (eq : X → X → Bool)
    → ((x y : X) → eq x y ≡ true → x ≡ y)
    → (xs : List X) (x : X) (r : Option ℕ) (i : ℕ)
    → r ≡ position (eq x) xs
    → r ≡ Some i
    → slice_get xs i ≡ Some x
slice_get-at_position eq decides xs x r i found is =
    let p = position-Some (eq x) xs i x (sym found ∙ is) in
    slice_get-get_or xs i x p.0 ∙ ap Some (sym (decides x (get_or xs i x) p.1))

-- Appending items preserves the item at an index.
pub slice_get-append_left : {X : Type 0} (xs ys : List X) (i : ℕ) (x : X)
    → slice_get xs i ≡ Some x
    → slice_get (xs ++ ys) i ≡ Some x
slice_get-append_left [] ys i x at = absurd cc
slice_get-append_left (y ∷ xs) ys zero x at = at
slice_get-append_left (y ∷ xs) ys (suc i) x at = slice_get-append_left xs ys i x at

-- A list is a prefix of itself.
pub IsPrefix-refl : {X : Type 0} (xs : List X) → IsPrefix xs xs
IsPrefix-refl xs i x at = at

-- If a disjunction is false, both parts are.
or-false_inv : (a b : Bool) → (a || b) ≡ false → (a ≡ false) × (b ≡ false)
or-false_inv true b e = absurd (true≢false e)
or-false_inv false b e = (refl, e)

-- No item equals x if `list_any` finds none.
pub not-slice_get-if_absent : {X : Type 0} (eq : X → X → Bool)
    → ((x y : X) → Decides (eq x y) (x ≡ y))
    → (xs : List X) (x : X)
    → list_any (eq x) xs ≡ false
    → (i : ℕ)
    → slice_get xs i ≡ Some x
    → ⊥
not-slice_get-if_absent eq decides [] x none i at = absurd cc
not-slice_get-if_absent {X} eq decides (y ∷ xs) x none zero at =
    true≢false (sym ((decides x y).1 (sym (same_Some y x at))) ∙ (or-false_inv (eq x y) (list_any (eq x) xs) none).0)
not-slice_get-if_absent {X} eq decides (y ∷ xs) x none (suc i) at =
    not-slice_get-if_absent eq decides xs x (or-false_inv (eq x y) (list_any (eq x) xs) none).1 i at

-- Appending a new item preserves that a list has no duplicates.
pub HasUniqueIndices-append : {X : Type 0} (xs : List X) (x : X)
    → ((i : ℕ) → slice_get xs i ≡ Some x → ⊥)
    → HasUniqueIndices xs
    → HasUniqueIndices (xs ++ x ∷ [])
HasUniqueIndices-append {X} xs x absent distinct i j y at and =
    go (slice_get-append_cases xs x y i at) (slice_get-append_cases xs x y j and)
  where
    -- By whether each of the two indices is one of the list or that of the new item.
    go : (slice_get xs i ≡ Some y) ⊎ ((i ≡ length xs) × (x ≡ y)) → (slice_get xs j ≡ Some y) ⊎ ((j ≡ length xs) × (x ≡ y)) → i ≡ j
    go (inl a) (inl b) = distinct i j y a b
    go (inr a) (inr b) = a.0 ∙ sym b.0
    go (inl a) (inr b) = absurd (absent i (a ∙ ap Some (sym b.1)))
    go (inr a) (inl b) = absurd (absent j (b ∙ ap Some (sym a.1)))

-- Inserting an item that may be present already preserves the list as a prefix.
pub IsPrefix-insert_if : {X : Type 0} (b : Bool) (ks new : List X) (k : X)
    → new ≡ (if b then ks else (ks ++ k ∷ []))
    → IsPrefix ks new
IsPrefix-insert_if true ks new k e i x at = ap (λ l. slice_get l i) e ∙ at
IsPrefix-insert_if false ks new k e i x at = ap (λ l. slice_get l i) e ∙ slice_get-append_left ks (k ∷ []) i x at

-- Inserting an item, unless it is present, preserves that a list has no duplicates.
pub HasUniqueIndices-insert : {X : Type 0} (eq : X → X → Bool)
    → ((x y : X) → Decides (eq x y) (x ≡ y))
    → (ks new : List X) (k : X)
    → new ≡ (if list_any (eq k) ks then ks else (ks ++ k ∷ []))
    → HasUniqueIndices ks
    → HasUniqueIndices new
HasUniqueIndices-insert {X} eq decides ks new k is distinct = go (list_any (eq k) ks) refl is
  where
    -- By whether the list has an item equal to the new one.
    go : (b : Bool) → list_any (eq k) ks ≡ b → new ≡ (if b then ks else (ks ++ k ∷ [])) → HasUniqueIndices new
    go true e n = subst HasUniqueIndices (sym n) distinct
    go false e n =
        subst HasUniqueIndices (sym n) (HasUniqueIndices-append ks k (not-slice_get-if_absent eq decides ks k e) distinct)

-- ---- states of threads

-- The test that `==` of thread states computes.
abbrev pub thread_eq : Processor → Processor → Bool
thread_eq p q =
    nat_eq p.position q.position
    && (pointwise nat_eq p.regs q.regs
    && (beq p.zero_flag q.zero_flag && pointwise (λ x y. nat_eq x.0 y.0 && nat_eq x.1 y.1) p.buffer q.buffer))

-- The test of two entries decides whether they are equal.
entry_eq-decides : (x y : ℕ × ℕ) → Decides (nat_eq x.0 y.0 && nat_eq x.1 y.1) (x ≡ y)
entry_eq-decides x y = (
  λ e. λ i. ((unsigned_Decides x.0 y.0).0 (first_so _ _ e) i, (unsigned_Decides x.1 y.1).0 (second_so _ _ e) i),
  λ e. λ i.
      (unsigned_Decides x.0 y.0).1 (ap (λ (z : ℕ × ℕ). z.0) e) i && (unsigned_Decides x.1 y.1).1 (ap (λ (z : ℕ × ℕ). z.1) e) i,
)

-- Thread states that pass the test are equal.
pub thread_eq-sound : (p q : Processor) → thread_eq p q ≡ true → p ≡ q
thread_eq-sound p q e =
    let others : (pointwise nat_eq p.regs q.regs
    && (beq p.zero_flag q.zero_flag && pointwise (λ x y. nat_eq x.0 y.0 && nat_eq x.1 y.1) p.buffer q.buffer))
    ≡ true = second_so _ _ e in
    let last : (beq p.zero_flag q.zero_flag && pointwise (λ x y. nat_eq x.0 y.0 && nat_eq x.1 y.1) p.buffer q.buffer) ≡ true =
    second_so _ _ others in
    let position : p.position ≡ q.position = (unsigned_Decides p.position q.position).0 (first_so _ _ e) in
    let regs : p.regs ≡ q.regs = (pointwise_decides unsigned_Decides p.regs q.regs).0 (first_so _ _ others) in
    let flag : p.zero_flag ≡ q.zero_flag = (booleans_Decides p.zero_flag q.zero_flag).0 (first_so _ _ last) in
    let buffer : p.buffer ≡ q.buffer = (pointwise_decides entry_eq-decides p.buffer q.buffer).0 (second_so _ _ last) in
    λ i. record { position = position i; regs = regs i; zero_flag = flag i; buffer = buffer i }

-- The test of two thread states decides whether they are equal.
pub Decides-thread_eq : (p q : Processor) → Decides (thread_eq p q) (p ≡ q)
Decides-thread_eq p q = (
  thread_eq-sound p q,
  λ e. λ i.
      (unsigned_Decides p.position q.position).1 (ap (λ (z : Processor). z.position) e) i
      && ((pointwise_decides unsigned_Decides p.regs q.regs).1 (ap (λ (z : Processor). z.regs) e) i
      && ((booleans_Decides p.zero_flag q.zero_flag).1 (ap (λ (z : Processor). z.zero_flag) e) i
      && (pointwise_decides entry_eq-decides p.buffer q.buffer).1 (ap (λ (z : Processor). z.buffer) e) i)),
)

-- The test that `==` of runs computes.
abbrev pub run_eq : List (ℕ × Bool) → List (ℕ × Bool) → Bool
run_eq run other = pointwise (λ x y. nat_eq x.0 y.0 && beq x.1 y.1) run other

-- The test of two rows of a run decides whether they are equal.
event_eq-decides : (x y : ℕ × Bool) → Decides (nat_eq x.0 y.0 && beq x.1 y.1) (x ≡ y)
event_eq-decides x y = (
  λ e. λ i. ((unsigned_Decides x.0 y.0).0 (first_so _ _ e) i, (booleans_Decides x.1 y.1).0 (second_so _ _ e) i),
  λ e. λ i.
      (unsigned_Decides x.0 y.0).1 (ap (λ (z : ℕ × Bool). z.0) e) i
      && (booleans_Decides x.1 y.1).1 (ap (λ (z : ℕ × Bool). z.1) e) i,
)

-- Runs that pass the test are equal.
pub run_eq-sound : (run other : List (ℕ × Bool)) → run_eq run other ≡ true → run ≡ other
run_eq-sound run other = (pointwise_decides event_eq-decides run other).0

-- Tables extend themselves.
pub Extends-refl : (t : Components) → Extends t t
Extends-refl t = record {
  program = refl;
  threads = IsPrefix-refl t.threads;
  memories = IsPrefix-refl t.memories;
  distinct_threads = λ d. d;
  distinct_memories = λ d. d;
}

-- Extending tables is transitive.
pub Extends-trans : {a b d : Components} → Extends a b → Extends b d → Extends a d
Extends-trans first second = record {
  program = second.program ∙ first.program;
  threads = λ i x at. second.threads i x (first.threads i x at);
  memories = λ i x at. second.memories i x (first.memories i x at);
  distinct_threads = λ x. second.distinct_threads (first.distinct_threads x);
  distinct_memories = λ x. second.distinct_memories (first.distinct_memories x);
}

-- What is not true is false.
pub false-if_not_true : (b : Bool) → not b ≡ true → b ≡ false
false-if_not_true true e = absurd (true≢false (sym e))
false-if_not_true false e = refl
