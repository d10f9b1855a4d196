-- Propositions, as a grammar of terminals: `~` binds most tightly, then `/\`, then `\/`.
use Rattle.std.specs.Prelude.{◌≤◌, length, filter, Bool, true, false, List, [], ◌∷◌, ◌++◌}
use Rattle.lw_base.specs.Limits.{most_nodes}
use Rattle.lw_base.specs.Formula.{Formula, Not, And, Or}

-- An atom of type A, a connective or a parenthesis.
pub data Terminal (A : Type 0) : Type 0 where
  Open : Terminal A
  Close : Terminal A
  Negation : Terminal A
  Conjunction : Terminal A
  Disjunction : Terminal A
  Atom : (a : A) → Terminal A

-- Tests whether a terminal is a node of the proposition: an atom or a connective.
abbrev pub is_node : {A : Type 0} → Terminal A → Bool
is_node Open = false
is_node Close = false
is_node Negation = true
is_node Conjunction = true
is_node Disjunction = true
is_node (Atom a) = true

-- The terminals have at most as many nodes as a condition may have.
abbrev pub HasFewNodes : {A : Type 0} → List (Terminal A) → Type 0
HasFewNodes ss = length (filter is_node ss) ≤ most_nodes

-- The levels of the grammar: a part, which is no conjunction and no disjunction; parts joined by `/\`; and these joined by `\/`.
pub data Level : Type 0 where
  PartLevel : Level
  ConjunctionLevel : Level
  DisjunctionLevel : Level

-- The terminals derive the formula at the level. Both `/\` and `\/` associate to the left.
pub data Derives : Level → List (Terminal Formula) → Formula → Type 0 where
  atom : {p : Formula} → Derives PartLevel (Atom p ∷ []) p
  negated : {ss : List (Terminal Formula)} {p : Formula} → Derives PartLevel ss p
      → Derives PartLevel (Negation ∷ ss) (Not p)
  parens : {ss : List (Terminal Formula)} {p : Formula} → Derives DisjunctionLevel ss p
      → Derives PartLevel (Open ∷ (ss ++ Close ∷ [])) p
  part : {ss : List (Terminal Formula)} {p : Formula} → Derives PartLevel ss p
      → Derives ConjunctionLevel ss p
  and : {ss ts : List (Terminal Formula)} {p q : Formula} → Derives ConjunctionLevel ss p
      → Derives PartLevel ts q → Derives ConjunctionLevel (ss ++ Conjunction ∷ ts) (And p q)
  conjunction : {ss : List (Terminal Formula)} {p : Formula} → Derives ConjunctionLevel ss p
      → Derives DisjunctionLevel ss p
  or : {ss ts : List (Terminal Formula)} {p q : Formula} → Derives DisjunctionLevel ss p
      → Derives ConjunctionLevel ts q → Derives DisjunctionLevel (ss ++ Disjunction ∷ ts) (Or p q)

-- The terminals are a whole proposition with this formula.
abbrev pub IsProposition : List (Terminal Formula) → Formula → Type 0
IsProposition ss p = Derives DisjunctionLevel ss p
