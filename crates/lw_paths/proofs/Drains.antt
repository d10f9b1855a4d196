-- Among the items of a path assignment each drain comes immediately after its store. So in an ascending list
-- of items a store and its drain are neighbours, which `api/PreservedOrder` uses.
use Rattle.lw_paths.proofs.Common.{◌≡◌, ℕ, zero, suc, ◌<◌, true, false, true≢false, List, [], ◌∷◌, ◌++◌}
use Rattle.lw_paths.proofs.Common.{length, Option, Some, None, refl, sym, arith, slice_get, option_map_or}
use Rattle.lw_paths.proofs.Common.{Item, Language, drained_location, item_at, items_at, path_items}
use Rattle.lw_paths.proofs.Common.{items_from, items_of}
use Rattle.lw_paths.proofs.api.Numbering.{item}

-- Item a is the statement at the thread and the position of item b.
pub record IsStatementOf (a b : Item) : Type 0 where
  pub thread : a.thread ≡ b.thread
  pub position : a.position ≡ b.position
  pub statement : a.is_drain ≡ false

-- In the items that follow a, each drain comes immediately after its store.
abbrev DrainsFollowStores : Item → List Item → Type 0
DrainsFollowStores a [] = Unit {0}
DrainsFollowStores a (b ∷ items) = (b.is_drain ≡ true → IsStatementOf a b) × DrainsFollowStores b items

-- If in xs, after a, each drain follows its store, and so in ys after any item, then so in xs and then ys after a.
DrainsFollowStores-append : (a : Item) (xs ys : List Item)
    → DrainsFollowStores a xs
    → ((b : Item) → DrainsFollowStores b ys)
    → DrainsFollowStores a (xs ++ ys)
DrainsFollowStores-append a [] ys xs_follow ys_follow = ys_follow a
DrainsFollowStores-append a (b ∷ xs) ys xs_follow ys_follow =
    (xs_follow.0, DrainsFollowStores-append b xs ys xs_follow.1 ys_follow)

-- If in the items after a each drain follows its store, a drain at index j comes immediately after its store.
DrainsFollowStores-at : (a : Item) (items : List Item)
    → DrainsFollowStores a items
    → (j : ℕ)
    → j < length items
    → (item_at items j).is_drain ≡ true
    → IsStatementOf (item_at (a ∷ items) j) (item_at items j)
DrainsFollowStores-at a [] follow j in_range d = absurd (omega arith)
DrainsFollowStores-at a (b ∷ items) follow zero in_range d = follow.0 d
DrainsFollowStores-at a (b ∷ items) follow (suc j) in_range d = DrainsFollowStores-at b items follow.1 j (omega arith) d

module _ {S : Type 0} (language : Language S) where
  -- In the items of a statement, after any item, each drain follows its store.
  DrainsFollowStores-statement : (t j : ℕ) (o : Option S) (a : Item) → DrainsFollowStores a (items_at language t j o)
  DrainsFollowStores-statement t j None a = tt
  DrainsFollowStores-statement t j (Some s) a =
      ((λ e. absurd (true≢false (sym e))), drain_follows_store (drained_location language s))
    where
      -- By whether the statement is a store that is drained.
      drain_follows_store : (d : Option ℕ) → DrainsFollowStores (item t j false) (option_map_or (λ x. item t j true ∷ []) d [])
      drain_follows_store None = tt
      drain_follows_store (Some x) = ((λ e. record { thread = refl; position = refl; statement = refl }), tt)

  -- In the items of a path, after any item, each drain follows its store.
  DrainsFollowStores-path : (t : ℕ) (code : List S) (path : List ℕ) (a : Item)
      → DrainsFollowStores a (path_items language t code path)
  DrainsFollowStores-path t code [] a = tt
  DrainsFollowStores-path t code (j ∷ path) a =
      DrainsFollowStores-append a (items_at language t j (slice_get code j)) (path_items language t code path)
      (DrainsFollowStores-statement t j (slice_get code j) a) (DrainsFollowStores-path t code path)

  -- In the items of a path assignment, after any item, each drain follows its store.
  DrainsFollowStores-program : (t : ℕ) (program : List (List S)) (paths : List (List ℕ)) (a : Item)
      → DrainsFollowStores a (items_from language t program paths)
  DrainsFollowStores-program t (code ∷ program) (path ∷ paths) a =
      DrainsFollowStores-append a (path_items language t code path) (items_from language (suc t) program paths)
      (DrainsFollowStores-path t code path a) (DrainsFollowStores-program (suc t) program paths)
  DrainsFollowStores-program t _ _ a = tt

  module _ (program : List (List S)) (paths : List (List ℕ)) where
    -- The item at an index.
    abbrev at : ℕ → Item
    at i = item_at (items_of language program paths) i

    -- The item immediately before a drain is its store.
    pub IsStatementOf-before_drain : (j : ℕ)
        → j < length (items_of language program paths)
        → (at j).is_drain ≡ true
        → (i : ℕ) × (j ≡ suc i) × IsStatementOf (at i) (at j)
    IsStatementOf-before_drain zero in_range d =
        let store =
        DrainsFollowStores-at (item 0 0 true) (items_of language program paths)
        (DrainsFollowStores-program 0 program paths (item 0 0 true)) 0 in_range d in
        absurd (true≢false store.statement)
    IsStatementOf-before_drain (suc i) in_range d = (
      i,
      refl,
      DrainsFollowStores-at (item 0 0 true) (items_of language program paths)
          (DrainsFollowStores-program 0 program paths (item 0 0 true)) (suc i) in_range d,
    )
