-- Terminals are a proposition if and only if the reader's state after them has that proposition as its
-- result. The proposition of terminals is unique, and the operator-precedence parser accepts exactly the
-- propositions.
use Rattle.lw_text.proofs.Common.{◌≡◌, ℕ, zero, suc, List, [], ◌∷◌, ◌++◌, Option, Some, None, option_and_then}
use Rattle.lw_text.proofs.Common.{fold, refl, sym, ap, ◌∙◌, subst, append_assoc, append-nil, Formula, Not, Or}
use Rattle.lw_text.proofs.Common.{Terminal, Open, Close, Negation, Conjunction, Disjunction, Atom, Level}
use Rattle.lw_text.proofs.Common.{PartLevel, ConjunctionLevel, DisjunctionLevel, Derives, atom, negated}
use Rattle.lw_text.proofs.Common.{parens, part, and, conjunction, or, IsProposition, GroupState, ReaderState}
use Rattle.lw_text.proofs.Common.{BeforePart, AfterPart, initial_reader_state, negations, after_and, after_or}
use Rattle.lw_text.proofs.Common.{ands_of, new_group, with_not, next_state, state_result}

-- The terminals of a proposition, with formulas as atoms.
abbrev pub FormulaTerminals : Type 0
FormulaTerminals = List (Terminal Formula)

-- The reader's state after some terminals, or `None` if one of them is not allowed.
abbrev pub state_after_terminals : Option ReaderState → FormulaTerminals → Option ReaderState
state_after_terminals o ss = fold (λ o s. option_and_then (λ r. next_state r s) o) o ss

-- The result of a state, or `None` if there is no state or no result.
abbrev pub result_of : Option ReaderState → Option Formula
result_of o = option_and_then state_result o

-- A negation inside n negations equals one outside.
negations-not : (n : ℕ) (p : Formula) → negations n (Not p) ≡ Not (negations n p)
negations-not zero p = refl
negations-not (suc n) p = ap Not (negations-not n p)

-- One more `~` before a part has the effect of a negated part.
ands_of-not : (l : GroupState) (p : Formula) → ands_of (with_not l) p ≡ ands_of l (Not p)
ands_of-not l p = ap (after_and l.left_of_and) (sym (negations-not l.nots p))

-- ---- each derivation is accepted

-- The state of a group before a conjunction: it has only the left operand of `\/`, if there is one.
abbrev group_after_or : Option Formula → GroupState
group_after_or e = record { left_of_or = e; left_of_and = None; nots = 0 }

-- From each state in which the level may begin, the terminals ss reach the state after the formula p.
abbrev ReachesStateAfter : Level → FormulaTerminals → Formula → Type 0
ReachesStateAfter PartLevel ss p =
    (l : GroupState) (os : List GroupState) (rest : FormulaTerminals)
    → state_after_terminals (Some (BeforePart l os)) (ss ++ rest)
    ≡ state_after_terminals (Some (AfterPart l.left_of_or (ands_of l p) os)) rest
ReachesStateAfter ConjunctionLevel ss p =
    (e : Option Formula) (os : List GroupState) (rest : FormulaTerminals)
    → state_after_terminals (Some (BeforePart (group_after_or e) os)) (ss ++ rest)
    ≡ state_after_terminals (Some (AfterPart e p os)) rest
ReachesStateAfter DisjunctionLevel ss p =
    (os : List GroupState) (rest : FormulaTerminals)
    → (e : Option Formula)
    × (a : Formula)
    × (after_or e a ≡ p)
    × (state_after_terminals (Some (BeforePart new_group os)) (ss ++ rest) ≡ state_after_terminals (Some (AfterPart e a os)) rest)

-- Terminals that derive p at a level reach the state after p.
ReachesStateAfter-Derives : {k : Level} {ss : FormulaTerminals} {p : Formula} → Derives k ss p → ReachesStateAfter k ss p
ReachesStateAfter-Derives atom = λ l os rest. refl
ReachesStateAfter-Derives (negated {p = p} d) = λ l os rest.
    ReachesStateAfter-Derives d (with_not l) os rest
    ∙ ap (λ a. state_after_terminals (Some (AfterPart l.left_of_or a os)) rest) (ands_of-not l p)
ReachesStateAfter-Derives (parens {ss} d) = λ l os rest.
    let k = ReachesStateAfter-Derives d (l ∷ os) (Close ∷ rest) in
    ap (state_after_terminals (Some (BeforePart new_group (l ∷ os)))) (append_assoc ss (Close ∷ []) rest)
    ∙ k.3
    ∙ ap (λ a. state_after_terminals (Some (AfterPart l.left_of_or (ands_of l a) os)) rest) k.2
ReachesStateAfter-Derives (part d) = λ e os rest. ReachesStateAfter-Derives d (group_after_or e) os rest
ReachesStateAfter-Derives (and {ss} {ts} {p} d e) = λ f os rest.
    ap (state_after_terminals (Some (BeforePart (group_after_or f) os))) (append_assoc ss (Conjunction ∷ ts) rest)
    ∙ ReachesStateAfter-Derives d f os (Conjunction ∷ (ts ++ rest))
    ∙ ReachesStateAfter-Derives e (record { left_of_or = f; left_of_and = Some p; nots = 0 }) os rest
ReachesStateAfter-Derives (conjunction {p = p} d) = λ os rest. (None, p, refl, ReachesStateAfter-Derives d None os rest)
ReachesStateAfter-Derives (or {ss} {ts} {p} {q} d e) = λ os rest.
    let k = ReachesStateAfter-Derives d os (Disjunction ∷ (ts ++ rest)) in (
      Some p,
      q,
      refl,
      ap (state_after_terminals (Some (BeforePart new_group os))) (append_assoc ss (Disjunction ∷ ts) rest)
          ∙ k.3
          ∙ ap (λ a. state_after_terminals (Some (BeforePart (group_after_or (Some a)) os)) (ts ++ rest)) k.2
          ∙ ReachesStateAfter-Derives e (Some p) os rest,
    )

-- After the terminals of a proposition the reader's result is that proposition.
pub result-IsProposition : {ss : FormulaTerminals} {p : Formula}
    → IsProposition ss p
    → result_of (state_after_terminals (Some initial_reader_state) ss) ≡ Some p
result-IsProposition {ss} d =
    let k = ReachesStateAfter-Derives d [] [] in
    ap (λ l. result_of (state_after_terminals (Some initial_reader_state) l)) (sym (append-nil ss))
    ∙ ap result_of k.3
    ∙ ap Some k.2

-- Terminals are a proposition of at most one formula.
pub IsProposition-unique : (ss : FormulaTerminals) (p q : Formula) → IsProposition ss p → IsProposition ss q → p ≡ q
IsProposition-unique ss p q d e =
    let h = result-IsProposition d in
    let k = result-IsProposition e in
    cc

-- ---- what is accepted has a derivation

-- The terminals of a group before its last conjunction: those of a formula, followed by `\/`; or none.
abbrev Front : Option Formula → FormulaTerminals → Type 0
Front None ts = ts ≡ []
Front (Some a) ts = (ss : FormulaTerminals) × (ts ≡ ss ++ Disjunction ∷ []) × Derives DisjunctionLevel ss a

-- The terminals ts are those outside a group, its front of formula e, and a conjunction of formula p.
record EndsInConjunction (Outside : FormulaTerminals → Type 0) (ts : FormulaTerminals) (e : Option Formula)
    (p : Formula) : Type 0 where
  outside : FormulaTerminals
  front : FormulaTerminals
  conjuncts : FormulaTerminals
  terminals_are : ts ≡ outside ++ (front ++ conjuncts)
  around : Outside outside
  before : Front e front
  says : Derives ConjunctionLevel conjuncts p

-- The terminals up to the `(` of a group, inside these open groups, the innermost first.
abbrev Outside : List GroupState → FormulaTerminals → Type 0
Outside [] ts = ts ≡ []
Outside (o ∷ os) ts =
    (before : FormulaTerminals)
    × (ts ≡ before ++ Open ∷ [])
    × ((ss : FormulaTerminals) (p : Formula)
    → Derives PartLevel ss p
    → EndsInConjunction (Outside os) (before ++ ss) o.left_of_or (ands_of o p))

-- The state is right for the terminals: they end in the conjunction that the state has; before a part, they do with each part that may
-- follow. Nothing is said if there is no state.
abbrev IsStateAfter : Option ReaderState → FormulaTerminals → Type 0
IsStateAfter None ts = Unit {0}
IsStateAfter (Some (BeforePart l os)) ts =
    (ss : FormulaTerminals) (p : Formula)
    → Derives PartLevel ss p
    → EndsInConjunction (Outside os) (ts ++ ss) l.left_of_or (ands_of l p)
IsStateAfter (Some (AfterPart e p os)) ts = EndsInConjunction (Outside os) ts e p

-- If terminals are those up to the `(` of a new group, the group's first state is right for them: each part that may follow is
-- its first.
IsStateAfter-before_first_part : (os : List GroupState) (ts : FormulaTerminals)
    → Outside os ts
    → IsStateAfter (Some (BeforePart new_group os)) ts
IsStateAfter-before_first_part os ts out = λ ss p d.
    record { outside = ts; front = []; conjuncts = ss; terminals_are = refl; around = out; before = refl; says = part d }

-- The terminals of a group, its front and its last conjunction, derive its formula.
Derives-group : {Out : FormulaTerminals → Type 0} {ts : FormulaTerminals} {e : Option Formula} {p : Formula}
    (r : EndsInConjunction Out ts e p)
    → Derives DisjunctionLevel (r.front ++ r.conjuncts) (after_or e p)
Derives-group {e = None} {p = p} r =
    subst (λ l. Derives DisjunctionLevel (l ++ r.conjuncts) p) (sym r.before) (conjunction r.says)
Derives-group {e = Some a} {p = p} r =
    let f = r.before in
    subst (λ l. Derives DisjunctionLevel l (Or a p))
    (sym (ap (λ l. l ++ r.conjuncts) f.1 ∙ append_assoc f.0 (Disjunction ∷ []) r.conjuncts)) (or f.2 r.says)

-- If a state is right for the terminals so far, the next state is right for one more.
IsStateAfter-next_state : (o : Option ReaderState) (s : Terminal Formula) (ts : FormulaTerminals)
    → IsStateAfter o ts
    → IsStateAfter (option_and_then (λ r. next_state r s) o) (ts ++ s ∷ [])
IsStateAfter-next_state (Some (BeforePart l os)) Open ts h =
    IsStateAfter-before_first_part (l ∷ os) (ts ++ Open ∷ []) (ts, refl, h)
IsStateAfter-next_state (Some (BeforePart l os)) Negation ts h = λ ss p d.
    subst (λ x. EndsInConjunction (Outside os) x l.left_of_or (ands_of (with_not l) p)) (sym (append_assoc ts (Negation ∷ []) ss))
    (subst (λ a. EndsInConjunction (Outside os) (ts ++ Negation ∷ ss) l.left_of_or a) (sym (ands_of-not l p))
    (h (Negation ∷ ss) (Not p) (negated d)))
IsStateAfter-next_state (Some (BeforePart l os)) (Atom p) ts h = h (Atom p ∷ []) p atom
IsStateAfter-next_state (Some (AfterPart e p (o ∷ os))) Close ts h =
    let k = h.around in
    let inside = h.front ++ h.conjuncts in
    let whole : ts ++ Close ∷ [] ≡ k.0 ++ (Open ∷ (inside ++ Close ∷ [])) =
    ap (λ x. x ++ Close ∷ []) (h.terminals_are ∙ ap (λ x. x ++ inside) k.1)
    ∙ append_assoc (k.0 ++ Open ∷ []) inside (Close ∷ [])
    ∙ append_assoc k.0 (Open ∷ []) (inside ++ Close ∷ []) in
    subst (λ x. EndsInConjunction (Outside os) x o.left_of_or (ands_of o (after_or e p))) (sym whole)
    (k.2 (Open ∷ (inside ++ Close ∷ [])) (after_or e p) (parens (Derives-group h)))
IsStateAfter-next_state (Some (AfterPart e p os)) Conjunction ts h = λ ss q d. record {
  outside = h.outside;
  front = h.front;
  conjuncts = h.conjuncts ++ Conjunction ∷ ss;
  terminals_are =
      append_assoc ts (Conjunction ∷ []) ss
      ∙ ap (λ x. x ++ Conjunction ∷ ss) h.terminals_are
      ∙ append_assoc h.outside (h.front ++ h.conjuncts) (Conjunction ∷ ss)
      ∙ ap (λ x. h.outside ++ x) (append_assoc h.front h.conjuncts (Conjunction ∷ ss));
  around = h.around;
  before = h.before;
  says = and h.says d;
}
IsStateAfter-next_state (Some (AfterPart e p os)) Disjunction ts h = λ ss q d.
    let inside = h.front ++ h.conjuncts in
    record {
      outside = h.outside;
      front = inside ++ Disjunction ∷ [];
      conjuncts = ss;
      terminals_are =
          ap (λ x. (x ++ Disjunction ∷ []) ++ ss) h.terminals_are
          ∙ ap (λ x. x ++ ss) (append_assoc h.outside inside (Disjunction ∷ []))
          ∙ append_assoc h.outside (inside ++ Disjunction ∷ []) ss;
      around = h.around;
      before = (inside, refl, Derives-group h);
      says = part d;
    }
IsStateAfter-next_state _ _ ts h = tt

-- If a state is right for the terminals so far, the state after more terminals is right for all of them.
IsStateAfter-state_after_terminals : (ss : FormulaTerminals) (o : Option ReaderState) (ts : FormulaTerminals)
    → IsStateAfter o ts
    → IsStateAfter (state_after_terminals o ss) (ts ++ ss)
IsStateAfter-state_after_terminals [] o ts h = subst (IsStateAfter o) (sym (append-nil ts)) h
IsStateAfter-state_after_terminals (s ∷ ss) o ts h =
    let next = option_and_then (λ r. next_state r s) o in
    subst (IsStateAfter (state_after_terminals next ss)) (append_assoc ts (s ∷ []) ss)
    (IsStateAfter-state_after_terminals ss next _ (IsStateAfter-next_state o s ts h))

-- If a state that is right for the terminals has a result, they are that proposition.
IsProposition-of_result : (o : Option ReaderState) (ts : FormulaTerminals) (p : Formula)
    → IsStateAfter o ts
    → result_of o ≡ Some p
    → IsProposition ts p
IsProposition-of_result (Some (AfterPart e a [])) ts p h is =
    subst (λ l. IsProposition l p) (sym (h.terminals_are ∙ ap (λ x. x ++ (h.front ++ h.conjuncts)) h.around))
    (subst (IsProposition (h.front ++ h.conjuncts)) (let k : after_or e a ≡ p = cc in k) (Derives-group h))
IsProposition-of_result _ ts p h is = absurd cc

-- If the reader's result after some terminals is a formula, they are a proposition of that formula.
pub IsProposition-result : {ss : FormulaTerminals} {p : Formula}
    → result_of (state_after_terminals (Some initial_reader_state) ss) ≡ Some p
    → IsProposition ss p
IsProposition-result {ss} {p} is =
    IsProposition-of_result _ ss p
    (IsStateAfter-state_after_terminals ss (Some initial_reader_state) [] (IsStateAfter-before_first_part [] [] refl)) is
