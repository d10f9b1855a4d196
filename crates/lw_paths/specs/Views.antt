-- The lists that paths and path assignments represent: the first `len` entries of arrays of fixed size.
use Rattle.std.specs.Prelude.{ℕ, List, map, take}
use Rattle.lw_paths.specs.declared.path.Path.{Path}
use Rattle.lw_paths.specs.declared.path.PathAssignment.{PathAssignment}

-- The positions of a path.
abbrev pub path_of : Path → List ℕ
path_of p = take p.len p.positions

-- The paths of a path assignment, one for each thread.
abbrev pub assignment_of : PathAssignment → List (List ℕ)
assignment_of c = map path_of (take c.len c.paths)
