-- The places of a proposition are those of the reader's states. So the place that a failure names can be
-- computed from the reader's state.
use Rattle.lw_text.proofs.Common.{most_nodes, ◌≡◌, ◌≢◌, ℕ, Bool, true, false, not, List, [], ◌∷◌, Option}
use Rattle.lw_text.proofs.Common.{Some, None, refl, sym, ap, ◌∙◌, is_some, option_map, bytes_eq, inl, inr}
use Rattle.lw_text.proofs.Common.{or_cases, or_parts, not-false, not-true, eqb-true, eqb-false, codes}
use Rattle.lw_text.proofs.Common.{begins_token, ◌==◌, ◌||◌, Bytes, TokenList, NameTable, AllByRecursion}
use Rattle.lw_text.proofs.Common.{Formula, formula_of, group_of, reader_state_in, state_of, next_state}
use Rattle.lw_text.proofs.Common.{state_result, PropositionReader, GroupState, ReaderState, BeforePart}
use Rattle.lw_text.proofs.Common.{AfterPart, begins_part, named_terminal, terminal_of, PropositionPlace}
use Rattle.lw_text.proofs.Common.{IfFirst, HasRoomForNode, next_place, place_of}
use Rattle.lw_text.proofs.Texts.{bytes_equal, not-equal-if_bytes_differ}
use Rattle.lw_text.specs.declared.terminal.Terminal.{Terminal as Made}
use Rattle.lw_text.specs.declared.terminal.Terminal.TheVariants as made

-- The place after a terminal is that of the state after it.
pub next_place-state : (state : ReaderState) (names : NameTable) (s : Made)
    → next_place (place_of state) (named_terminal names s) ≡ option_map place_of (next_state state (terminal_of s))
next_place-state (BeforePart l os) names made.Open = refl
next_place-state (BeforePart l os) names made.Close = refl
next_place-state (BeforePart l os) names made.Negation = refl
next_place-state (BeforePart l os) names made.Conjunction = refl
next_place-state (BeforePart l os) names made.Disjunction = refl
next_place-state (BeforePart l os) names (made.Atom a) = refl
next_place-state (AfterPart e p []) names made.Open = refl
next_place-state (AfterPart e p []) names made.Close = refl
next_place-state (AfterPart e p []) names made.Negation = refl
next_place-state (AfterPart e p []) names made.Conjunction = refl
next_place-state (AfterPart e p []) names made.Disjunction = refl
next_place-state (AfterPart e p []) names (made.Atom a) = refl
next_place-state (AfterPart e p (o ∷ os)) names made.Open = refl
next_place-state (AfterPart e p (o ∷ os)) names made.Close = refl
next_place-state (AfterPart e p (o ∷ os)) names made.Negation = refl
next_place-state (AfterPart e p (o ∷ os)) names made.Conjunction = refl
next_place-state (AfterPart e p (o ∷ os)) names made.Disjunction = refl
next_place-state (AfterPart e p (o ∷ os)) names (made.Atom a) = refl

-- If a state has no result, its place is not that after a part outside of all parentheses.
pub incomplete_place : (state : ReaderState) → state_result state ≡ None → place_of state ≢ (false, 0)
incomplete_place (BeforePart l os) e p = let k = ap (λ x. x.0) p in cc
incomplete_place (AfterPart x p []) e q = cc
incomplete_place (AfterPart x p (o ∷ os)) e q = let k = ap (λ x. x.1) q in cc

-- Mapping an optional value preserves whether it is present.
pub is_some-option_map : {X Y : Type 0} (f : X → Y) (o : Option X) → is_some (option_map f o) ≡ is_some o
is_some-option_map f None = refl
is_some-option_map f (Some x) = refl

-- At a reader's place a part must begin if and only if the reader has no last part.
pub wants_part-place : {A : Type 0} (reader : PropositionReader A) (part : Bool)
    → is_some reader.part ≡ not part
    → (place_of (state_of reader)).0 ≡ part
wants_part-place reader part e =
    place-by_cases _ _ (option_map formula_of reader.part) part (is_some-option_map formula_of reader.part ∙ e)
  where
    -- A part must begin if and only if the state has no last part.
    place-by_cases : (l : GroupState) (os : List GroupState) (o : Option Formula) (part : Bool)
        → is_some o ≡ not part
        → (place_of (reader_state_in o l os)).0 ≡ part
    place-by_cases l os None true e = refl
    place-by_cases l os None false e = absurd cc
    place-by_cases l os (Some p) true e = absurd cc
    place-by_cases l os (Some p) false e = refl

-- If the test says that there is no room for a node and no parenthesis is next, 256 nodes have been read, and the next token,
-- if there is one, is no parenthesis.
pub node_limit_reached-no_parenthesis : (nodes : ℕ) (ts : TokenList)
    → (not (nodes == most_nodes) || (begins_token (codes "(") ts || begins_token (codes ")") ts)) ≡ false
    → (nodes ≡ most_nodes) × IfFirst (λ t. AllByRecursion (λ w. t ≢ w) (codes "(" ∷ codes ")" ∷ [])) ts
node_limit_reached-no_parenthesis nodes ts e =
    let p = or_parts (not (nodes == most_nodes)) (begins_token (codes "(") ts || begins_token (codes ")") ts) e in
    let q = or_parts (begins_token (codes "(") ts) (begins_token (codes ")") ts) p.1 in
    (eqb-true nodes most_nodes (not-false (nodes == most_nodes) p.0), place-by_cases ts q.0 q.1)
  where
    -- If the tokens begin with neither parenthesis, their first, if there is one, is neither.
    place-by_cases : (ts : TokenList)
        → begins_token (codes "(") ts ≡ false
        → begins_token (codes ")") ts ≡ false
        → IfFirst (λ t. AllByRecursion (λ w. t ≢ w) (codes "(" ∷ codes ")" ∷ [])) ts
    place-by_cases [] a b = tt
    place-by_cases (t ∷ ts) a b = (not-equal-if_bytes_differ t (codes "(") a, (not-equal-if_bytes_differ t (codes ")") b, tt))

-- If the test says so, there is room for one more node, or a parenthesis is next.
pub HasRoomForNode-by_test : (nodes : ℕ) (ts : TokenList)
    → (not (nodes == most_nodes) || (begins_token (codes "(") ts || begins_token (codes ")") ts)) ≡ true
    → HasRoomForNode nodes ts
HasRoomForNode-by_test nodes [] e full = tt
HasRoomForNode-by_test nodes (t ∷ ts) e full =
    elim (or_cases (not (nodes == most_nodes)) (bytes_eq t (codes "(") || bytes_eq t (codes ")")) e) [
      | inl h ↦ absurd (eqb-false nodes most_nodes (not-true (nodes == most_nodes) h) full)
      | inr h ↦ elim (or_cases (bytes_eq t (codes "(")) (bytes_eq t (codes ")")) h) [
        | inl opens ↦ inl (bytes_equal t (codes "(") opens)
        | inr closes ↦ inr (bytes_equal t (codes ")") closes)
      ]
    ]

-- A terminal that is not possible in a state, though it begins a part if and only if one must begin there, is a `)` that closes nothing.
pub closes_nothing : (state : ReaderState) (s : Made)
    → next_state state (terminal_of s) ≡ None
    → begins_part (terminal_of s) ≡ (place_of state).0
    → (place_of state ≡ (false, 0)) × (s ≡ made.Close)
closes_nothing (BeforePart l os) made.Open e b = absurd cc
closes_nothing (BeforePart l os) made.Close e b = absurd cc
closes_nothing (BeforePart l os) made.Negation e b = absurd cc
closes_nothing (BeforePart l os) made.Conjunction e b = absurd cc
closes_nothing (BeforePart l os) made.Disjunction e b = absurd cc
closes_nothing (BeforePart l os) (made.Atom a) e b = absurd cc
closes_nothing (AfterPart x p []) made.Open e b = absurd cc
closes_nothing (AfterPart x p []) made.Close e b = (refl, refl)
closes_nothing (AfterPart x p []) made.Negation e b = absurd cc
closes_nothing (AfterPart x p []) made.Conjunction e b = absurd cc
closes_nothing (AfterPart x p []) made.Disjunction e b = absurd cc
closes_nothing (AfterPart x p []) (made.Atom a) e b = absurd cc
closes_nothing (AfterPart x p (o ∷ os)) made.Open e b = absurd cc
closes_nothing (AfterPart x p (o ∷ os)) made.Close e b = absurd cc
closes_nothing (AfterPart x p (o ∷ os)) made.Negation e b = absurd cc
closes_nothing (AfterPart x p (o ∷ os)) made.Conjunction e b = absurd cc
closes_nothing (AfterPart x p (o ∷ os)) made.Disjunction e b = absurd cc
closes_nothing (AfterPart x p (o ∷ os)) (made.Atom a) e b = absurd cc
