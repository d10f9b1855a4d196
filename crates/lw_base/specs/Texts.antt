-- Joining texts.
use Rattle.std.specs.Prelude.{List, [], ◌∷◌, ◌++◌}
use Rattle.std.specs.List.{flat_map}
use Rattle.lw_base.specs.Types.{Bytes}

-- The parts, with a separator between each and the next.
abbrev pub joined : Bytes → List Bytes → Bytes
joined between [] = []
joined between (part ∷ parts) = part ++ flat_map (λ next. between ++ next) parts
