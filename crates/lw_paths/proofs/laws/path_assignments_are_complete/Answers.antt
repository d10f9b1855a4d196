-- Proves the law that the list of path assignments has exactly the path assignments, without duplicates.
-- These are the lemmas `Contains-path_assignments` and `IsDuplicateFree-path_assignments`.
use Rattle.lw_paths.proofs.api.Enumerated.{Contains-path_assignments}
use Rattle.lw_paths.proofs.Once.{IsDuplicateFree-path_assignments}
use Rattle.lw_paths.proofs.laws.path_assignments_are_complete.Goals as goal

pub returns-clause-complete : goal.returns-clause-complete
returns-clause-complete g c program paths all = Contains-path_assignments g.S.Statement.language program paths all

pub returns-clause-once : goal.returns-clause-once
returns-clause-once g c program all = IsDuplicateFree-path_assignments g.S.Statement.language program all
