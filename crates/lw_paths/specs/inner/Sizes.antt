-- The numbers of items of paths and path assignments. Used only within the crate.
use Rattle.std.specs.Prelude.{◌≡◌, ◌≤◌, ℕ, List, length}
use Rattle.std.specs.Option.{option_map_or}
use Rattle.lw_litmus.specs.Languages.{Language}
use Rattle.lw_paths.specs.Items.{drained_location, path_items}

-- The number is the maximum of a size among all values of a kind: none has more, and one has it.
pub record IsMost {X : Type 0} (Is : X → Type 0) (size : X → ℕ) (most : ℕ) : Type 0 where
  pub none_more : (x : X) → Is x → size x ≤ most
  pub element : X
  pub is_element : Is element
  pub reached : size element ≡ most

module _ {S : Type 0} (language : Language S) where
  -- The number of items of a statement: itself, and its drain if it has one.
  abbrev pub statement_size : S → ℕ
  statement_size s = option_map_or (λ x. 2) (drained_location language s) 1

  -- The number of items along a path of a thread.
  abbrev pub path_size : List S → List ℕ → ℕ
  path_size code path = length (path_items language 0 code path)
