-- The printed terminals of a formula, and that they give this formula. The crates that print tests use this.
use Rattle.lw_text.proofs.Common.{◌≡◌, Bool, true, false, List, [], ◌∷◌, ◌++◌, refl, if◌then◌else◌, Formula}
use Rattle.lw_text.proofs.Common.{Yes, No, Reg_is, Word_is, Not, And, Or, is_or, is_binary, Terminal, Open}
use Rattle.lw_text.proofs.Common.{Close, Negation, Conjunction, Disjunction, Atom, PartLevel}
use Rattle.lw_text.proofs.Common.{ConjunctionLevel, DisjunctionLevel, Derives, atom, negated, parens, part}
use Rattle.lw_text.proofs.Common.{and, conjunction, or, IsProposition}

-- Terminals in parentheses.
abbrev pub enclosed : {A : Type 0} → List (Terminal A) → List (Terminal A)
enclosed ss = Open ∷ (ss ++ Close ∷ [])

-- Terminals in parentheses, if these are needed.
abbrev pub enclosed_if : {A : Type 0} → Bool → List (Terminal A) → List (Terminal A)
enclosed_if needed ss = if needed then enclosed ss else ss

-- The terminals of a formula, with f of each atom.
abbrev pub terminals_of : {A : Type 0} → (Formula → A) → Formula → List (Terminal A)
terminals_of f Yes = Atom (f Yes) ∷ []
terminals_of f No = Atom (f No) ∷ []
terminals_of f (Reg_is t r n) = Atom (f (Reg_is t r n)) ∷ []
terminals_of f (Word_is x n) = Atom (f (Word_is x n)) ∷ []
terminals_of f (Not p) = Negation ∷ enclosed_if (is_binary p) (terminals_of f p)
terminals_of f (And p q) =
    enclosed_if (is_or p) (terminals_of f p) ++ (Conjunction ∷ enclosed_if (is_binary q) (terminals_of f q))
terminals_of f (Or p q) = terminals_of f p ++ (Disjunction ∷ enclosed_if (is_or q) (terminals_of f q))

-- ---- what they say

-- Terminals with formulas as atoms.
abbrev FormulaTerminals : Type 0
FormulaTerminals = List (Terminal Formula)

-- The printed terminals of a formula.
abbrev printed_terminals : Formula → FormulaTerminals
printed_terminals p = terminals_of (λ q. q) p

-- A formula's printed terminals derive it as a disjunction; as a conjunction, if it is no disjunction; and as a part, if it has
-- no binary connective outermost.
record IsDerivedByPrinted (p : Formula) : Type 0 where
  at_part : is_binary p ≡ false → Derives PartLevel (printed_terminals p) p
  at_conjunction : is_or p ≡ false → Derives ConjunctionLevel (printed_terminals p) p
  at_disjunction : Derives DisjunctionLevel (printed_terminals p) p

-- A formula whose printed terminals derive it as a part is derived at every level.
IsDerivedByPrinted-of_part : (p : Formula) → Derives PartLevel (printed_terminals p) p → IsDerivedByPrinted p
IsDerivedByPrinted-of_part p d =
    record { at_part = λ not_binary. d; at_conjunction = λ not_or. part d; at_disjunction = conjunction (part d) }

-- A formula is derived as a part, in parentheses if its outermost connective is binary.
Derives-enclosed_part : (p : Formula)
    → IsDerivedByPrinted p
    → (b : Bool)
    → is_binary p ≡ b
    → Derives PartLevel (enclosed_if b (printed_terminals p)) p
Derives-enclosed_part p s true e = parens s.at_disjunction
Derives-enclosed_part p s false e = s.at_part e

-- A formula is derived as a conjunction, in parentheses if it is a disjunction.
Derives-enclosed_conjuncts : (p : Formula)
    → IsDerivedByPrinted p
    → (b : Bool)
    → is_or p ≡ b
    → Derives ConjunctionLevel (enclosed_if b (printed_terminals p)) p
Derives-enclosed_conjuncts p s true e = part (parens s.at_disjunction)
Derives-enclosed_conjuncts p s false e = s.at_conjunction e

-- The printed terminals of each formula derive it.
IsDerivedByPrinted-each : (p : Formula) → IsDerivedByPrinted p
IsDerivedByPrinted-each Yes = IsDerivedByPrinted-of_part Yes atom
IsDerivedByPrinted-each No = IsDerivedByPrinted-of_part No atom
IsDerivedByPrinted-each (Reg_is t r n) = IsDerivedByPrinted-of_part (Reg_is t r n) atom
IsDerivedByPrinted-each (Word_is x n) = IsDerivedByPrinted-of_part (Word_is x n) atom
IsDerivedByPrinted-each (Not p) =
    IsDerivedByPrinted-of_part (Not p) (negated (Derives-enclosed_part p (IsDerivedByPrinted-each p) (is_binary p) refl))
IsDerivedByPrinted-each (And p q) =
    let d =
    and (Derives-enclosed_conjuncts p (IsDerivedByPrinted-each p) (is_or p) refl)
    (Derives-enclosed_part q (IsDerivedByPrinted-each q) (is_binary q) refl) in
    record { at_part = λ h. absurd cc; at_conjunction = λ not_or. d; at_disjunction = conjunction d }
IsDerivedByPrinted-each (Or p q) = record {
  at_part = λ h. absurd cc;
  at_conjunction = λ h. absurd cc;
  at_disjunction =
      or (IsDerivedByPrinted-each p).at_disjunction (Derives-enclosed_conjuncts q (IsDerivedByPrinted-each q) (is_or q) refl);
}

-- The printed terminals of a formula, in parentheses, are a proposition of this formula.
pub printed_proposition : (p : Formula) → IsProposition (enclosed (terminals_of (λ q. q) p)) p
printed_proposition p = let derived = IsDerivedByPrinted-each p in conjunction (part (parens derived.at_disjunction))
