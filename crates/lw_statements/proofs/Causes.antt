-- What a fault's cause claims of its position, by the table `FaultClaim`: which fact for which cause, and
-- what follows from it. Each function that refuses a cell claims its fault's cause by one of these lemmas.
use Rattle.lw_statements.proofs.Common.{◌≡◌, ℕ, sym, subst, arith, CellCause, Form, LabelTwice, TooMany}
use Rattle.lw_statements.proofs.Common.{Memory, CellFault, IsMisfitCause, FaultClaim, Refused}
use Rattle.lw_base.specs.declared.fault.CellCause.TheVariants.{Register}

-- A misfit's cause is the same for equivalent readings of what is meant as a register.
pub IsMisfitCause-iff : {A B : Type 0} (cause : CellCause) → (A → B) → (B → A) → IsMisfitCause A cause → IsMisfitCause B cause
IsMisfitCause-iff Form f g h = λ b. h (g b)
IsMisfitCause-iff Register f g h = f h
IsMisfitCause-iff cause f g h = absurd h

-- The cause of a misfit, which is `Form` or `Register`, claims that something is wrong with this cause, and nothing else.
pub FaultClaim-wrong : {wrong : CellCause → Type 0} {no_label second_label backward one_more : Type 0} (IsMeant : Type 0)
    (cause : CellCause)
    → IsMisfitCause IsMeant cause
    → wrong cause
    → FaultClaim wrong no_label second_label backward one_more cause
FaultClaim-wrong IsMeant Form m here = record {
  form = λ e. here;
  register = λ e. absurd cc;
  missing = λ e. absurd cc;
  twice = λ e. absurd cc;
  back = λ e. absurd cc;
  many = λ e. absurd cc;
}
FaultClaim-wrong IsMeant Register m here = record {
  form = λ e. absurd cc;
  register = λ e. here;
  missing = λ e. absurd cc;
  twice = λ e. absurd cc;
  back = λ e. absurd cc;
  many = λ e. absurd cc;
}
FaultClaim-wrong IsMeant cause m here = absurd m

-- The cause that memory ran out claims nothing of a position.
pub FaultClaim-Memory : {wrong : CellCause → Type 0} {no_label second_label backward one_more : Type 0}
    → FaultClaim wrong no_label second_label backward one_more Memory
FaultClaim-Memory = record {
  form = λ e. absurd cc;
  register = λ e. absurd cc;
  missing = λ e. absurd cc;
  twice = λ e. absurd cc;
  back = λ e. absurd cc;
  many = λ e. absurd cc;
}

-- The cause `Form` claims that something is wrong, and nothing else.
pub FaultClaim-Form : {wrong : CellCause → Type 0} {no_label second_label backward one_more : Type 0}
    → wrong Form
    → FaultClaim wrong no_label second_label backward one_more Form
FaultClaim-Form here = record {
  form = λ e. here;
  register = λ e. absurd cc;
  missing = λ e. absurd cc;
  twice = λ e. absurd cc;
  back = λ e. absurd cc;
  many = λ e. absurd cc;
}

-- The cause `LabelTwice` claims a second label, and nothing else.
pub FaultClaim-Twice : {wrong : CellCause → Type 0} {no_label second_label backward one_more : Type 0}
    → second_label
    → FaultClaim wrong no_label second_label backward one_more LabelTwice
FaultClaim-Twice here = record {
  form = λ e. absurd cc;
  register = λ e. absurd cc;
  missing = λ e. absurd cc;
  twice = λ e. here;
  back = λ e. absurd cc;
  many = λ e. absurd cc;
}

-- The cause `TooMany` claims one item too many, and nothing else.
pub FaultClaim-TooMany : {wrong : CellCause → Type 0} {no_label second_label backward one_more : Type 0}
    → one_more
    → FaultClaim wrong no_label second_label backward one_more TooMany
FaultClaim-TooMany here = record {
  form = λ e. absurd cc;
  register = λ e. absurd cc;
  missing = λ e. absurd cc;
  twice = λ e. absurd cc;
  back = λ e. absurd cc;
  many = λ e. here;
}

-- A cause that can only claim that something is wrong, a second label or one item too many also claims what follows from these.
pub FaultClaim-weakened : {wrong wrong_there : CellCause → Type 0}
    {second second_there one_more one_more_there no_label backward : Type 0} {cause : CellCause}
    → ((c : CellCause) → wrong c → wrong_there c)
    → (second → second_there)
    → (one_more → one_more_there)
    → FaultClaim wrong ⊥ second ⊥ one_more cause
    → FaultClaim wrong_there no_label second_there backward one_more_there cause
FaultClaim-weakened f g h t = record {
  form = λ e. f Form (t.form e);
  register = λ e. f Register (t.register e);
  missing = λ e. absurd (t.missing e);
  twice = λ e. g (t.twice e);
  back = λ e. absurd (t.back e);
  many = λ e. h (t.many e);
}

-- A fault because memory ran out rejects whatever was to be read, since its cause claims nothing of a position.
pub Refused-Memory : {unfit : Type 0} {claim : ℕ → CellCause → Type 0} {all_within : ℕ → Type 0} (f : CellFault)
    → ((at : ℕ) → claim at Memory)
    → f.cause ≡ Memory
    → f.at ≡ 0
    → Refused unfit claim all_within f
Refused-Memory {unfit} {claim} {all_within} f tells memory first = record {
  none = λ known. absurd (known memory);
  cause = subst (claim f.at) (sym memory) (tells f.at);
  place = λ len within. omega (arith, first);
}
