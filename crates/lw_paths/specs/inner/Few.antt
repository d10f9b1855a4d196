-- Programs that are known to have few orders. Used only within the crate.
use Rattle.std.specs.Prelude.{ℕ, Bool, List, is_some, is_none}
use Rattle.std.specs.List.{list_all, count_by}
use Rattle.lw_litmus.specs.Languages.{Language}
use Rattle.lw_litmus.specs.Operations.{branch_target, location_of}

module _ {S : Type 0} (language : Language S) where
  -- The number of a thread's branches.
  abbrev pub branches : List S → ℕ
  branches code = count_by (λ s. is_some (branch_target (language.operation_of s))) code

  -- Tests whether no statement of a thread accesses a location.
  abbrev pub code_has_no_access : List S → Bool
  code_has_no_access code = list_all (λ s. is_none (location_of (language.operation_of s))) code

  -- Tests whether no statement of a program accesses a location.
  abbrev pub has_no_access : List (List S) → Bool
  has_no_access program = list_all code_has_no_access program
