-- A code for propositions. The toolchain asks for one of each type in a model's value (`ghost coded` of the runners), and finds none for
-- `Formula`, which contains itself. A proposition is serialized as a list of its nodes, each connective after its operands. Used only
-- within the crate.
use Rattle.std.specs.Prelude.{◌≡◌, ℕ, Bool, true, false, Option, Some, None, List, [], ◌∷◌}
use Rattle.std.specs.Coded.{Coded, code_by, coded_ℕ, coded_bool, coded_list, coded_option, coded×, coded⊎}
use Rattle.std.proofs.Common.{◌⊎◌, inl, inr, refl, ap, ◌∙◌}
use Rattle.lw_base.specs.Formula.{Formula, Yes, No, Reg_is, Word_is, Not, And, Or}

-- A register's or a location's word, a constant (true: `Yes`), or a connective (`None`: `Not`; true: `And`; false: `Or`).
abbrev Node : Type 0
Node = (ℕ × (ℕ × ℕ)) ⊎ ((ℕ × ℕ) ⊎ (Bool ⊎ Option Bool))

-- The nodes of a proposition, followed by others.
abbrev pub serialize : Formula → List Node → List Node
serialize Yes rest = inr (inr (inl true)) ∷ rest
serialize No rest = inr (inr (inl false)) ∷ rest
serialize (Reg_is cpu reg word) rest = inl (cpu, (reg, word)) ∷ rest
serialize (Word_is loc word) rest = inr (inl (loc, word)) ∷ rest
serialize (Not p) rest = serialize p (inr (inr (inr None)) ∷ rest)
serialize (And p q) rest = serialize p (serialize q (inr (inr (inr (Some true))) ∷ rest))
serialize (Or p q) rest = serialize p (serialize q (inr (inr (inr (Some false))) ∷ rest))

-- The propositions read so far, the last one negated.
abbrev negated : List Formula → List Formula
negated [] = []
negated (p ∷ ps) = Not p ∷ ps

-- The propositions read so far, the last two connected, by `And` (true) or by `Or`.
abbrev connected : Bool → List Formula → List Formula
connected true (q ∷ p ∷ ps) = And p q ∷ ps
connected false (q ∷ p ∷ ps) = Or p q ∷ ps
connected b _ = []

-- The propositions read so far, after one more node.
abbrev with_node : Node → List Formula → List Formula
with_node (inl (cpu, (reg, word))) ps = Reg_is cpu reg word ∷ ps
with_node (inr (inl (loc, word))) ps = Word_is loc word ∷ ps
with_node (inr (inr (inl true))) ps = Yes ∷ ps
with_node (inr (inr (inl false))) ps = No ∷ ps
with_node (inr (inr (inr None))) ps = negated ps
with_node (inr (inr (inr (Some b)))) ps = connected b ps

-- The propositions of these nodes, read after others, the last one first.
abbrev pub deserialize : List Node → List Formula → List Formula
deserialize [] ps = ps
deserialize (node ∷ nodes) ps = deserialize nodes (with_node node ps)

-- Reading a proposition's nodes gives the proposition, before those that were read before.
pub read_written : (p : Formula) (rest : List Node) (ps : List Formula) → deserialize (serialize p rest) ps ≡ deserialize rest (p ∷ ps)
read_written (Not p) rest ps = read_written p (inr (inr (inr None)) ∷ rest) ps
read_written (And p q) rest ps =
    let last : List Node = inr (inr (inr (Some true))) ∷ rest in
    read_written p (serialize q last) ps ∙ read_written q last (p ∷ ps)
read_written (Or p q) rest ps =
    let last : List Node = inr (inr (inr (Some false))) ∷ rest in
    read_written p (serialize q last) ps ∙ read_written q last (p ∷ ps)
read_written _ rest ps = refl

-- The proposition that was read last, which is the first of the list; `Yes` if none was read.
abbrev last_read : List Formula → Formula
last_read [] = Yes
last_read (p ∷ ps) = p

-- Propositions differ if the lists of their nodes do.
abbrev pub formula_code : Coded Formula
formula_code =
    code_by (List Node) (coded_list (coded⊎ (coded× coded_ℕ (coded× coded_ℕ coded_ℕ))
    (coded⊎ (coded× coded_ℕ coded_ℕ) (coded⊎ coded_bool (coded_option coded_bool)))))
    (λ p. serialize p []) (λ nodes. last_read (deserialize nodes [])) (λ p. ap last_read (read_written p [] []))
