-- The nodes of a proposition are those of its terminals. So the limit of nodes can be checked terminal by
-- terminal.
use Rattle.lw_text.proofs.Common.{◌≡◌, ℕ, suc, ◌+◌, List, [], ◌∷◌, ◌++◌, length, map, refl, ap, ◌∙◌}
use Rattle.lw_text.proofs.Common.{length-append, arith, filter, filter-append, AllByRecursion, Formula, nodes}
use Rattle.lw_text.proofs.Common.{All-append_inv, InMemory, InThread, Terminal, Open, Close, Conjunction}
use Rattle.lw_text.proofs.Common.{Disjunction, Atom, is_node, Level, Derives, atom, negated, parens, part}
use Rattle.lw_text.proofs.Common.{and, conjunction, or, AtomSyntax, Holds, resolved}

-- The number of terminals that are nodes.
abbrev pub node_count : {A : Type 0} → List (Terminal A) → ℕ
node_count ss = length (filter is_node ss)

-- The terminal's formula, if the terminal is an atom, has one node.
abbrev pub IsSingle : Terminal Formula → Type 0
IsSingle (Atom p) = nodes p ≡ 1
IsSingle _ = Unit {0}

-- The number of nodes of a concatenation is the sum.
pub node_count-append : {A : Type 0} (ss ts : List (Terminal A)) → node_count (ss ++ ts) ≡ node_count ss + node_count ts
node_count-append ss ts = ap length (filter-append _ ss ts) ∙ length-append (filter is_node ss) (filter is_node ts)

-- A proposition has as many nodes as its terminals.
pub proposition_nodes : {k : Level} {ss : List (Terminal Formula)} {p : Formula}
    → Derives k ss p
    → AllByRecursion IsSingle ss
    → nodes p ≡ node_count ss
proposition_nodes atom h = h.0
proposition_nodes (negated d) h = ap suc (proposition_nodes d h.1)
proposition_nodes (parens {ss} d) h =
    let a = proposition_nodes d (All-append_inv IsSingle ss (Close ∷ []) h.1).0 in
    omega (arith, a, node_count-append ss (Close ∷ []))
proposition_nodes (part d) h = proposition_nodes d h
proposition_nodes (and {ss} {ts} d e) h =
    let k = All-append_inv IsSingle ss (Conjunction ∷ ts) h in
    omega (arith, proposition_nodes d k.0, proposition_nodes e k.1.1, node_count-append ss (Conjunction ∷ ts))
proposition_nodes (conjunction d) h = proposition_nodes d h
proposition_nodes (or {ss} {ts} d e) h =
    let k = All-append_inv IsSingle ss (Disjunction ∷ ts) h in
    omega (arith, proposition_nodes d k.0, proposition_nodes e k.1.1, node_count-append ss (Disjunction ∷ ts))

-- Named atoms are resolved to formulas of one node.
pub resolved_single : (names : List (List ℕ)) (ss : List (Terminal AtomSyntax))
    → AllByRecursion IsSingle (map (resolved names) ss)
resolved_single names [] = tt
resolved_single names (Atom (Holds (InMemory x) w) ∷ ss) = (refl, resolved_single names ss)
resolved_single names (Atom (Holds (InThread t r) w) ∷ ss) = (refl, resolved_single names ss)
resolved_single names (Atom _ ∷ ss) = (refl, resolved_single names ss)
resolved_single names (_ ∷ ss) = (tt, resolved_single names ss)

-- Resolving terminals preserves the number of nodes.
pub node_count-resolved : (names : List (List ℕ)) (ss : List (Terminal AtomSyntax))
    → node_count (map (resolved names) ss) ≡ node_count ss
node_count-resolved names [] = refl
node_count-resolved names (Open ∷ ss) = node_count-resolved names ss
node_count-resolved names (Close ∷ ss) = node_count-resolved names ss
node_count-resolved names (_ ∷ ss) = ap suc (node_count-resolved names ss)
