-- Conflict is a symmetric relation. Proofs of lw_finals swap adjacent items by this.
use Rattle.lw_paths.proofs.Common.{◌≡◌, ℕ, Bool, ◌&&◌, Option, Some, None, refl, sym, ap₂, ◌∙◌, inl, inr}
use Rattle.lw_paths.proofs.Common.{eq-eqb, ne_eqb, or_comm, cases_eq, is_same_location, Language, location_by}
use Rattle.lw_paths.proofs.Common.{writes_by, conflict_by}

-- Equality of locations is symmetric.
is_same_location-sym : (o p : Option ℕ) → is_same_location o p ≡ is_same_location p o
is_same_location-sym None None = refl
is_same_location-sym None (Some y) = refl
is_same_location-sym (Some x) None = refl
is_same_location-sym (Some x) (Some y) = elim (cases_eq x y) [
  | inl e ↦ eq-eqb x y e ∙ sym (eq-eqb y x (sym e))
  | inr ne ↦ ne_eqb x y ne ∙ sym (ne_eqb y x (λ e. ne (sym e)))
]

-- Conflict of two items is symmetric: of a and b, which are drains if d and e say so.
pub conflict_by-sym : {S : Type 0} (language : Language S) (d e : Bool) (a b : Option S)
    → conflict_by language d e a b ≡ conflict_by language e d b a
conflict_by-sym language d e None None = refl
conflict_by-sym language d e None (Some b) = refl
conflict_by-sym language d e (Some a) None = refl
conflict_by-sym language d e (Some a) (Some b) =
    ap₂ (λ (p q : Bool). p && q) (is_same_location-sym (location_by language d a) (location_by language e b))
    (or_comm (writes_by language d a) (writes_by language e b))
