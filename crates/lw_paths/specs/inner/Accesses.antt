-- The items that access a location, and their conflicts. Used only within the crate.
use Rattle.std.specs.Prelude.{ℕ, suc, Bool, ◌==◌, ◌&&◌, ◌||◌, Option, Some, None, option_map, List, [], ◌∷◌, ◌++◌, map, filter}
use Rattle.std.specs.Option.{option_to_list}
use Rattle.lw_paths.specs.declared.conflicts.Access.{Access}
use Rattle.lw_paths.specs.declared.item.Item.{Item}
use Rattle.lw_litmus.specs.Languages.{Language}
use Rattle.lw_paths.specs.Items.{statement_of, location_by, writes_by}

-- Tests whether two accesses are to one location, and at least one writes it.
abbrev pub is_conflict : Access → Access → Bool
is_conflict a b = (a.loc == b.loc) && (a.writes || b.writes)

-- The conflicts of an access with later ones.
abbrev pub conflicts_with : Access → List Access → List (ℕ × ℕ)
conflicts_with a later = map (λ b. (a.index, b.index)) (filter (is_conflict a) later)

-- The conflicts among accesses, each with later ones.
abbrev pub conflicts_among : List Access → List (ℕ × ℕ)
conflicts_among [] = []
conflicts_among (a ∷ later) = conflicts_with a later ++ conflicts_among later

module _ {S : Type 0} (language : Language S) where
  -- The access of the item with number n, if it accesses a location: that of the statement's drain (`true`), or that of the
  -- statement.
  abbrev pub access_by : ℕ → Bool → Option S → Option Access
  access_by n is_drain None = None
  access_by n is_drain (Some s) =
      option_map (λ x. record { index = n; loc = x; writes = writes_by language is_drain s }) (location_by language is_drain s)

  -- The accesses of the items from number n on.
  abbrev pub accesses_from : List (List S) → ℕ → List Item → List Access
  accesses_from program n [] = []
  accesses_from program n (a ∷ items) =
      option_to_list (access_by n a.is_drain (statement_of language program a)) ++ accesses_from program (suc n) items
