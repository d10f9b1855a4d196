-- One round of each loop that lists the items or their reduced pairs: what is listed, followed by what
-- remains, is still `whole`. For `items.rt` and `preserved_order.rt`.
use Rattle.lw_paths.proofs.Common.{take-append_seam, take, ap, Result, Ok, Err, OnErr, ◌≡◌, ℕ, suc, ◌+◌, ◌<◌}
use Rattle.lw_paths.proofs.Common.{Bool, false, ◌||◌, List, [], ◌∷◌, ◌++◌, length, map, drop, get_or}
use Rattle.lw_paths.proofs.Common.{slice_get, Option, Some, None, SomeIff, refl, sym, ◌∙◌, ◌^◌, arith, IsSome}
use Rattle.lw_paths.proofs.Common.{if◌then◌else◌, filter, not, append_assoc, append-nil, Constraints}
use Rattle.lw_paths.proofs.Common.{orientation_count, is_ordered, drop_more, Item, LastItems, Language}
use Rattle.lw_paths.proofs.Common.{edge_from, reduced_at, record_last, last_of_thread, items_at, path_items}
use Rattle.lw_paths.proofs.Common.{items_from, needs_earlier_drains, reduced_from}

-- The pair with the last statement and, if the item is a drain or waits for drains, that with the last drain are the item's reduced pairs.
reduced_at-as_pushed : (is_drain waits : Bool) (last : LastItems) (n : ℕ)
    → edge_from last.statement n ++ (if is_drain || waits then edge_from last.drain n else []) ≡ reduced_at is_drain waits last n
reduced_at-as_pushed false false last n = append-nil (edge_from last.statement n)
reduced_at-as_pushed _ _ last n = refl

-- If P holds, it holds after a failure.
pub OnErr-always : {T E P : Type 0} (r : Result T E) → P → OnErr r P
OnErr-always (Ok x) p = tt
OnErr-always (Err e) p = p

-- If new, `rest` and `more` together are `all`, so are new and the concatenation of `rest` and `more`.
pub append-assoc_all : (new rest more : List Item) {all : List Item} → new ++ rest ++ more ≡ all → new ++ (rest ++ more) ≡ all
append-assoc_all new rest more e = sym (append_assoc new rest more) ∙ e

-- A list that `rest` completes to all items is a prefix of them.
pub append-is_take : (new rest : List Item) {all : List Item} → new ++ rest ≡ all → (filled : ℕ) × (new ≡ take filled all)
append-is_take new rest e = (length new, sym (take-append_seam new rest) ∙ ap (take (length new)) e)

-- If an optional result can only be n, and it is m, then m is n.
pub SomeIff-value : (P : Type 0) (o : Option ℕ) (n m : ℕ) → SomeIff o P n → o ≡ Some m → m ≡ n
SomeIff-value P None n m s e = absurd (let bad : None ≡ Some m = e in cc)
SomeIff-value P (Some x) n m s e =
    (let given : Some x ≡ Some m = e in
    let same : x ≡ m = cc in
    sym same ∙ s.1)

-- A result that is present if and only if n is below the bound is present, since n is.
pub SomeIff-is_some : (o : Option ℕ) (n most : ℕ) → SomeIff o (n < most) n → n < most → IsSome o
SomeIff-is_some None n most s lt = absurd (s lt)
SomeIff-is_some (Some x) n most s lt = refl

module _ {S : Type 0} (language : Language S) where
  -- Pushing the items of the statement at index i of a path preserves that `whole` is the items listed and those of the rest of the path.
  pub path_items-push : {s : Option S} {new whole : List Item} (t : ℕ) (code : List S) (path : List ℕ) (i d : ℕ) (old : List Item)
      → i < length path
      → s ≡ slice_get code (get_or path i d)
      → new ≡ old ++ items_at language t (get_or path i d) s
      → old ++ path_items language t code (drop i path) ≡ whole
      → new ++ path_items language t code (drop (i + 1) path) ≡ whole
  path_items-push t code path i d old in_range e n h = rw (n, e, append_assoc) (rw (drop_more path i d in_range) at h)

  -- No paths have no items.
  pub items_from-no_paths : (t : ℕ) (codes : List (List S)) → items_from language t codes [] ≡ []
  items_from-no_paths t [] = refl
  items_from-no_paths t (c ∷ codes) = refl

  module _ {P : Type 0} (view : P → List ℕ) (program : List (List S)) (paths : List P) where
    -- Pushing the items of thread t preserves that `whole` is the items listed and those of the later threads.
    pub items_from-push : {code : List S} {path : P} {new whole : List Item} (t : ℕ) (old : List Item)
        → t < length program
        → t < length paths
        → code ≡ get_or program t code
        → path ≡ get_or paths t path
        → new ≡ old ++ path_items language t code (view path)
        → old ++ items_from language t (drop t program) (map view (drop t paths)) ≡ whole
        → new ++ items_from language (t + 1) (drop (t + 1) program) (map view (drop (t + 1) paths)) ≡ whole
    items_from-push {code = code} {path = path} t old lp lq ec ep n h =
        let plus : t + 1 ≡ suc t = omega arith in
        rw (n, append_assoc, plus) (rw (drop_more program t code lp, drop_more paths t path lq, ← ec, ← ep, plus) at h)

  -- Pushing the reduced pairs of item n preserves that `whole` is the pairs listed and those of the later items.
  pub reduced_from-push : {last next : LastItems} {a : Item} {waits : Bool} {new whole : List (ℕ × ℕ)} (program : List (List S))
      (items : List Item) (n t : ℕ) (before : LastItems) (old : List (ℕ × ℕ))
      → n < length items
      → a ≡ get_or items n a
      → waits ≡ (a.is_drain || needs_earlier_drains language program a)
      → last ≡ last_of_thread t a.thread before
      → next ≡ record_last a.is_drain last n
      → new ≡ old ++ edge_from last.statement n ++ (if waits then edge_from last.drain n else [])
      → old ++ reduced_from language program n t before (drop n items) ≡ whole
      → new ++ reduced_from language program (n + 1) a.thread next (drop (n + 1) items) ≡ whole
  reduced_from-push {last = last} {a = a} {waits = waits} program items n t before old in_range ea ew el en is h =
      let plus : n + 1 ≡ suc n = omega arith in
      let here : edge_from last.statement n ++ (if waits then edge_from last.drain n else [])
      ≡ reduced_at a.is_drain (needs_earlier_drains language program a) (last_of_thread t a.thread before) n =
      rw (← el, ew) (reduced_at-as_pushed _ _ last n) in
      rw (
        is,
        append_assoc old (edge_from last.statement n) (if waits then edge_from last.drain n else []),
        here,
        append_assoc,
        en,
        el,
        plus,
      ) (rw (drop_more items n a in_range, ← ea, plus) at h)

-- If nothing conflicts, there is one orientation.
pub orientation_count-no_conflicts : (t : Constraints) → length t.conflicts ≡ 0 → 1 ≡ orientation_count t
orientation_count-no_conflicts t none = one-without_pairs t.conflicts none
  where
    -- By the cases of the list of conflicts: if it is empty, no conflict is unordered.
    one-without_pairs : (pairs : List (ℕ × ℕ))
        → length pairs ≡ 0
        → 1 ≡ 2 ^ length (filter (λ p. not (is_ordered t.preserved p)) pairs)
    one-without_pairs [] e = refl
    one-without_pairs (p ∷ pairs) e = absurd (omega (arith, e))
