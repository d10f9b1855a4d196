-- The head of a test as plain data.
use Rattle.std.specs.Prelude.{ℕ, ◌-◌, ◌++◌, List, length, replicate}
use Rattle.lw_base.specs.Formula.{Formula}
use Rattle.lw_base.specs.Propositions.{formula_of}
use Rattle.lw_base.specs.declared.head.Arch.{Arch}
use Rattle.lw_base.specs.declared.head.Quant.{Quant}
use Rattle.lw_base.specs.declared.head.Seen.{Seen}
use Rattle.lw_base.specs.declared.head.Head.{Head}

-- The content of a head. A name is its bytes, a location its index in the table.
pub record TestHead : Type 0 where
  pub name : List ℕ
  pub arch : Arch
  pub threads : ℕ
  pub locs : List (List ℕ)
  pub init_regs : List (List ℕ)
  pub init_words : List ℕ
  pub listed : List Seen
  pub quant : Quant
  pub proposition : Formula

-- The content of a `Head` in memory.
abbrev pub head_of : {A : Type 0} → Head A → TestHead
head_of h =
    record {
      name = h.name;
      arch = h.arch;
      threads = h.threads;
      locs = h.locs;
      init_regs = h.init_regs;
      init_words = h.init_words;
      listed = h.listed;
      quant = h.quant;
      proposition = formula_of h.prop;
    }

-- The head with a longer table. The initial word of each new location is 0.
abbrev pub set_location_names : TestHead → List (List ℕ) → TestHead
set_location_names head names =
    record {
      name = head.name;
      arch = head.arch;
      threads = head.threads;
      locs = names;
      init_regs = head.init_regs;
      init_words = head.init_words ++ replicate (length names - length head.locs) 0;
      listed = head.listed;
      quant = head.quant;
      proposition = head.proposition;
    }
