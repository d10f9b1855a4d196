-- The result of visiting several path assignments. Used only within the crate.
use Rattle.std.specs.Prelude.{List, ℕ, Result, Ok, Err}
use Rattle.lw_paths.specs.Visits.{VisitsAll, VisitFails}

-- The result of visiting path assignments, from v to w: each is visited once, or a visit fails with a cause.
abbrev pub VisitResult : {V E : Type 0} → (V → List (List ℕ) → V → Type 0) → (V → List (List ℕ) → E → Type 0)
    → List (List (List ℕ)) → V → Result (Unit {0}) E → V → Type 0
VisitResult visits refuses assignments v (Ok u) w = VisitsAll visits assignments v w
VisitResult visits refuses assignments v (Err e) w = VisitFails visits refuses assignments v e
