-- A question fails at one place only, and for one cause; and no tokens fail that are one. A step of the law
-- that a text fails at one place (OneFault).
use Rattle.lw_text.proofs.Common.{most_nodes, most_locations, cons-head_eq, ◌≡◌, ◌≢◌, ◌⊎◌, ℕ, zero, suc, ◌+◌}
use Rattle.lw_text.proofs.Common.{◌≤◌, Option, None, Some, List, [], ◌∷◌, length, map, filter, option_map}
use Rattle.lw_text.proofs.Common.{Bool, true, false, refl, sym, ap, ◌∙◌, subst, inl, inr, arith, codes}
use Rattle.lw_text.proofs.Common.{option_and_then, fold_stays, AllByRecursion, Arch, Bytes, NameTable}
use Rattle.lw_text.proofs.Common.{TokenList, Quant, Formula, ThreadExists, HasRoomFor, with_sites}
use Rattle.lw_text.proofs.Common.{length_le-insert_names, site_names, Listed, Quantified, Terminal, Open}
use Rattle.lw_text.proofs.Common.{Close, Negation, Conjunction, Disjunction, Atom, AtomSyntax, Always, Never}
use Rattle.lw_text.proofs.Common.{Holds, IsTerminal, Terminals, Fits, NoQuestion, resolved, is_node, sites_in}
use Rattle.lw_text.proofs.Common.{ReaderState, BeforePart, AfterPart, initial_reader_state, next_state}
use Rattle.lw_text.proofs.Common.{state_result, SiteSyntax, IfFirst, FailsInQuantifier, opening_words}
use Rattle.lw_text.proofs.Common.{FailsInTerminal, PropositionPlace, first_place, next_place, HasRoomForNode}
use Rattle.lw_text.proofs.Common.{FailsInProposition, incomplete, too_many_nodes, in_terminal, unopened}
use Rattle.lw_text.proofs.Common.{after_terminal, FailsInQuestion, in_list, in_quantifier, in_proposition}
use Rattle.lw_text.proofs.Common.{place_of, TextCause, ParsesQuestion}
use Rattle.lw_text.proofs.api.PropositionNodes.{node_count, node_count-append}
use Rattle.lw_text.proofs.Failures.{cons-tail_unique}
use Rattle.lw_text.proofs.FailureUniqueness.{IsSameFailure, FailsUniquely, IfFirst-cons_inv}
use Rattle.lw_text.proofs.FailureUniqueness.{FailsBefore-unique, not-FailsBefore-if_parsed}
use Rattle.lw_text.proofs.FailureUniqueness.{FailsInAssignment-unique, not-FailsInAssignment-if_parsed}
use Rattle.lw_text.proofs.PropositionCases.{node_count-of_one, with_sites_in-append}
use Rattle.lw_text.proofs.PropositionReadings.{state_after_terminals, result_of, result-IsProposition}
use Rattle.lw_text.proofs.SiteLists.{Listed-unique}
use Rattle.lw_text.proofs.TerminalLists.{IsTerminal-unique, IsTerminal-shorter}
use Rattle.lw_text.proofs.TestFailures.{FailsInList-unique, not-FailsInList-if_parsed}
use Rattle.lw_text.proofs.TestFailures.{FailsInQuantifier-unique, not-FailsInQuantifier-if_parsed}
use Rattle.lw_text.proofs.Whole.{Quantified-unique}
use Rattle.lw_text.specs.declared.fault.TextCause.TheVariants as cause

-- The signs that follow a part.
abbrev joint_signs : List Bytes
joint_signs = codes ")" ∷ codes "/\\" ∷ codes "\\/" ∷ []

-- The first of tokens, if there is one, is not both a parenthesis and another token.
not-parenthesis-and_other : (ts : TokenList)
    → ts ≢ []
    → IfFirst (λ t. (t ≡ codes "(") ⊎ (t ≡ codes ")")) ts
    → IfFirst (λ t. AllByRecursion (λ w. t ≢ w) (codes "(" ∷ codes ")" ∷ [])) ts
    → ⊥
not-parenthesis-and_other [] some p q = some refl
not-parenthesis-and_other (t ∷ ts) some (inl p) q = q.0 p
not-parenthesis-and_other (t ∷ ts) some (inr p) q = q.1.0 p

module _ (arch : Arch) (threads : ℕ) where
  -- Tokens that begin with a terminal are not empty.
  not-empty-IsTerminal : (ts mid : TokenList) (s : Terminal AtomSyntax) → IsTerminal arch threads ts s mid → ts ≢ []
  not-empty-IsTerminal ts mid s is e = omega (arith, IsTerminal-shorter arch threads ts mid s is, ap length e)

  -- A terminal fails at one place only, and for one cause.
  FailsInTerminal-unique : (part : Bool) (names : NameTable) → FailsUniquely (FailsInTerminal arch threads part names)
  FailsInTerminal-unique true names ts r s d e p q =
      FailsInAssignment-unique arch (Some threads) names cause.Condition ts r s d e p.1 q.1
  FailsInTerminal-unique false names ts r s d e p q = FailsBefore-unique joint_signs cause.Condition ts r s d e p q

  -- Tokens whose first is none of the opening words do not begin with one of them.
  not-other_word-if_opening : (ts mid : TokenList) (w : Bytes)
      → IfFirst (λ t. AllByRecursion (λ v. t ≢ v) opening_words) ts
      → ts ≡ w ∷ mid
      → (AllByRecursion (λ v. w ≢ v) opening_words → ⊥)
      → ⊥
  not-other_word-if_opening ts mid w first begins one =
      one (IfFirst-cons_inv (λ t. AllByRecursion (λ v. t ≢ v) opening_words) ts mid w begins first)

  -- Tokens that begin with a terminal which is possible at the place, and whose location has room, do not fail in a terminal.
  not-FailsInTerminal-if_parsed : (part : Bool) (n : ℕ) (names : NameTable) (ts rest mid : TokenList) (because : TextCause)
      (s : Terminal AtomSyntax) (next : PropositionPlace)
      → FailsInTerminal arch threads part names ts rest because
      → IsTerminal arch threads ts s mid
      → next_place (part, n) s ≡ Some next
      → HasRoomFor names (sites_in (s ∷ []))
      → ⊥
  not-FailsInTerminal-if_parsed true n names ts rest mid because Open next fails is step room =
      not-other_word-if_opening ts mid (codes "(") fails.0 is (λ all. all.0 refl)
  not-FailsInTerminal-if_parsed true n names ts rest mid because Close next fails is step room = cc step
  not-FailsInTerminal-if_parsed true n names ts rest mid because Negation next fails (inl is) step room =
      not-other_word-if_opening ts mid (codes "~") fails.0 is (λ all. all.1.0 refl)
  not-FailsInTerminal-if_parsed true n names ts rest mid because Negation next fails (inr is) step room =
      not-other_word-if_opening ts mid (codes "not") fails.0 is (λ all. all.1.1.0 refl)
  not-FailsInTerminal-if_parsed true n names ts rest mid because Conjunction next fails is step room = cc step
  not-FailsInTerminal-if_parsed true n names ts rest mid because Disjunction next fails is step room = cc step
  not-FailsInTerminal-if_parsed true n names ts rest mid because (Atom Always) next fails is step room =
      not-other_word-if_opening ts mid (codes "true") fails.0 is (λ all. all.1.1.1.0 refl)
  not-FailsInTerminal-if_parsed true n names ts rest mid because (Atom Never) next fails is step room =
      not-other_word-if_opening ts mid (codes "false") fails.0 is (λ all. all.1.1.1.1.0 refl)
  not-FailsInTerminal-if_parsed true n names ts rest mid because (Atom (Holds site word)) next fails is step room =
      not-FailsInAssignment-if_parsed arch (Some threads) names cause.Condition ts rest is.0 mid because site word fails.1 is.1
      is.2 room is.3
  not-FailsInTerminal-if_parsed false n names ts rest mid because Close next fails is step room =
      not-FailsBefore-if_parsed joint_signs cause.Condition ts rest mid because (codes ")") fails is (λ all. all.0 refl)
  not-FailsInTerminal-if_parsed false n names ts rest mid because Conjunction next fails is step room =
      not-FailsBefore-if_parsed joint_signs cause.Condition ts rest mid because (codes "/\\") fails is (λ all. all.1.0 refl)
  not-FailsInTerminal-if_parsed false n names ts rest mid because Disjunction next fails is step room =
      not-FailsBefore-if_parsed joint_signs cause.Condition ts rest mid because (codes "\\/") fails is (λ all. all.1.1.0 refl)
  not-FailsInTerminal-if_parsed false zero names ts rest mid because Open next fails is step room = cc step
  not-FailsInTerminal-if_parsed false (suc n) names ts rest mid because Open next fails is step room = cc step
  not-FailsInTerminal-if_parsed false zero names ts rest mid because Negation next fails is step room = cc step
  not-FailsInTerminal-if_parsed false (suc n) names ts rest mid because Negation next fails is step room = cc step
  not-FailsInTerminal-if_parsed false zero names ts rest mid because (Atom a) next fails is step room = cc step
  not-FailsInTerminal-if_parsed false (suc n) names ts rest mid because (Atom a) next fails is step room = cc step

  -- After a part outside of all parentheses no `)` is possible.
  no_Close-if_outside_parentheses : (place next : PropositionPlace)
      → place ≡ (false, 0)
      → next_place {A = AtomSyntax} place Close ≡ Some next
      → ⊥
  no_Close-if_outside_parentheses place next is step =
      let k : next_place {A = AtomSyntax} (false, 0) Close ≡ Some next =
      subst (λ (p : PropositionPlace). next_place {A = AtomSyntax} p Close ≡ Some next) is step in
      cc k

  -- If a `)` is next after a part outside of all parentheses, the tokens begin with no terminal that is possible there.
  no_Close-if_terminal : (place next : PropositionPlace) (ts after mid : TokenList) (s : Terminal AtomSyntax)
      → place ≡ (false, 0)
      → ts ≡ codes ")" ∷ after
      → IsTerminal arch threads ts s mid
      → next_place place s ≡ Some next
      → ⊥
  no_Close-if_terminal place next ts after mid s is begins terminal step =
      no_Close-if_outside_parentheses place next is
      (subst (λ t. next_place place t ≡ Some next) (IsTerminal-unique arch threads ts s Close mid after terminal begins).0 step)

  -- If a `)` is next after a part outside of all parentheses, the tokens do not fail in a terminal.
  no_terminal-if_unopened : (place : PropositionPlace) (names : NameTable) (ts rest after : TokenList) (because : TextCause)
      → place ≡ (false, 0)
      → ts ≡ codes ")" ∷ after
      → FailsInTerminal arch threads place.0 names ts rest because
      → ⊥
  no_terminal-if_unopened place names ts rest after because is begins fails =
      not-FailsBefore-if_parsed joint_signs cause.Condition ts rest after because (codes ")")
      (subst (λ (p : PropositionPlace). FailsInTerminal arch threads p.0 names ts rest because) is fails) begins
      (λ all. all.0 refl)

  -- A proposition fails at one place only, and for one cause, from each place on.
  FailsInProposition-unique : (r s : TokenList) (d e : TextCause) (place : PropositionPlace) (nodes : ℕ) (names : NameTable)
      (ts : TokenList)
      → FailsInProposition arch threads r d place nodes names ts
      → FailsInProposition arch threads s e place nodes names ts
      → IsSameFailure r d s e
  FailsInProposition-unique r s d e place nodes names ts (incomplete part_open end is) (incomplete also too at) =
      (is ∙ sym at, λ some. absurd (some is))
  FailsInProposition-unique r s d e place nodes names ts (incomplete part_open end is) (too_many_nodes some full at first because) =
      absurd (some end)
  FailsInProposition-unique r s d e place nodes names ts (incomplete part_open end is) (in_terminal some room fails) =
      absurd (some end)
  FailsInProposition-unique r s d e place nodes names ts (incomplete part_open end is) (unopened here begins at because) =
      absurd (omega (arith, ap length (sym end ∙ begins)))
  FailsInProposition-unique r s d e place nodes names ts (incomplete part_open end is) (after_terminal t mid next room terminal has step q) =
      absurd (not-empty-IsTerminal ts mid t terminal end)
  FailsInProposition-unique r s d e place nodes names ts (too_many_nodes some full at first because) (incomplete part_open end is) =
      absurd (some end)
  FailsInProposition-unique r s d e place nodes names ts (too_many_nodes some full at first because) (too_many_nodes also too is second cause) =
      (sym at ∙ is, λ there. because ∙ sym cause)
  FailsInProposition-unique r s d e place nodes names ts (too_many_nodes some full at first because) (in_terminal also room fails) =
      absurd (not-parenthesis-and_other ts some (room full)
      (subst (IfFirst (λ t. AllByRecursion (λ w. t ≢ w) (codes "(" ∷ codes ")" ∷ []))) (sym at) first))
  FailsInProposition-unique r s d e place nodes names ts (too_many_nodes some full at first because) (unopened here begins is cause) =
      absurd ((IfFirst-cons_inv (λ t. AllByRecursion (λ w. t ≢ w) (codes "(" ∷ codes ")" ∷ [])) r _ (codes ")") (sym at ∙ begins)
      first).1.0 refl)
  FailsInProposition-unique r s d e place nodes names ts (too_many_nodes some full at first because) (after_terminal t mid next room terminal has step q) =
      absurd (not-parenthesis-and_other ts some (room full)
      (subst (IfFirst (λ t. AllByRecursion (λ w. t ≢ w) (codes "(" ∷ codes ")" ∷ []))) (sym at) first))
  FailsInProposition-unique r s d e place nodes names ts (in_terminal some room fails) (incomplete part_open end is) =
      absurd (some end)
  FailsInProposition-unique r s d e place nodes names ts (in_terminal also room fails) (too_many_nodes some full at first because) =
      absurd (not-parenthesis-and_other ts some (room full)
      (subst (IfFirst (λ t. AllByRecursion (λ w. t ≢ w) (codes "(" ∷ codes ")" ∷ []))) (sym at) first))
  FailsInProposition-unique r s d e place nodes names ts (in_terminal some room fails) (in_terminal also has more) =
      FailsInTerminal-unique place.0 names ts r s d e fails more
  FailsInProposition-unique r s d e place nodes names ts (in_terminal some room fails) (unopened here begins is because) =
      absurd (no_terminal-if_unopened place names ts r _ d here begins fails)
  FailsInProposition-unique r s d e (part, n) nodes names ts (in_terminal some room fails) (after_terminal t mid next also terminal has step q) =
      absurd (not-FailsInTerminal-if_parsed part n names ts r mid d t next fails terminal step has)
  FailsInProposition-unique r s d e place nodes names ts (unopened here begins at because) (incomplete part_open end is) =
      absurd (omega (arith, ap length (sym end ∙ begins)))
  FailsInProposition-unique r s d e place nodes names ts (unopened here begins is cause) (too_many_nodes some full at first because) =
      absurd ((IfFirst-cons_inv (λ t. AllByRecursion (λ w. t ≢ w) (codes "(" ∷ codes ")" ∷ [])) s _ (codes ")") (sym at ∙ begins)
      first).1.0 refl)
  FailsInProposition-unique r s d e place nodes names ts (unopened here begins is because) (in_terminal some room fails) =
      absurd (no_terminal-if_unopened place names ts s _ e here begins fails)
  FailsInProposition-unique r s d e place nodes names ts (unopened here begins is because) (unopened also again at cause) =
      (sym is ∙ at, λ some. because ∙ sym cause)
  FailsInProposition-unique r s d e place nodes names ts (unopened here begins is because) (after_terminal t mid next room terminal has step q) =
      absurd (no_Close-if_terminal place next ts _ mid t here begins terminal step)
  FailsInProposition-unique r s d e place nodes names ts (after_terminal t mid next room terminal has step q) (incomplete part_open end is) =
      absurd (not-empty-IsTerminal ts mid t terminal end)
  FailsInProposition-unique r s d e place nodes names ts (after_terminal t mid next room terminal has step q) (too_many_nodes some full at first because) =
      absurd (not-parenthesis-and_other ts some (room full)
      (subst (IfFirst (λ t. AllByRecursion (λ w. t ≢ w) (codes "(" ∷ codes ")" ∷ []))) (sym at) first))
  FailsInProposition-unique r s d e (part, n) nodes names ts (after_terminal t mid next also terminal has step q) (in_terminal some room fails) =
      absurd (not-FailsInTerminal-if_parsed part n names ts s mid e t next fails terminal step has)
  FailsInProposition-unique r s d e place nodes names ts (after_terminal t mid next room terminal has step q) (unopened here begins is because) =
      absurd (no_Close-if_terminal place next ts _ mid t here begins terminal step)
  FailsInProposition-unique r s d e place nodes names ts (after_terminal t mid next room terminal has step p) (after_terminal u other then more another too again q) =
      let same = IsTerminal-unique arch threads ts t u mid other terminal another in
      let F = λ (pl : PropositionPlace) (x : Terminal AtomSyntax) (l : TokenList).
      FailsInProposition arch threads s e pl (nodes + length (filter is_node (x ∷ []))) (with_sites names (sites_in (x ∷ [])))
      l in
      let onward : next ≡ then =
      Some-injective (sym step ∙ ap (λ (x : Terminal AtomSyntax). next_place place x) same.0 ∙ again) in
      FailsInProposition-unique r s d e next (nodes + length (filter is_node (t ∷ []))) (with_sites names (sites_in (t ∷ []))) mid
      p
      (subst (λ pl. F pl t mid) (sym onward) (subst (λ l. F then t l) (sym same.1) (subst (λ x. F then x other) (sym same.0) q)))
    where
      -- Places are equal if they are equal as values of `Some`.
      Some-injective : {a b : PropositionPlace} → Some a ≡ Some b → a ≡ b
      Some-injective e = cc e

  -- ---- A proposition does not fail.

  -- The place after a terminal is that of the reader's state after its resolved form.
  next_place-resolved : (state : ReaderState) (names : NameTable) (s : Terminal AtomSyntax)
      → next_place (place_of state) s ≡ option_map place_of (next_state state (resolved names s))
  next_place-resolved (BeforePart l os) names Open = refl
  next_place-resolved (BeforePart l os) names Close = refl
  next_place-resolved (BeforePart l os) names Negation = refl
  next_place-resolved (BeforePart l os) names Conjunction = refl
  next_place-resolved (BeforePart l os) names Disjunction = refl
  next_place-resolved (BeforePart l os) names (Atom a) = refl
  next_place-resolved (AfterPart e p []) names Open = refl
  next_place-resolved (AfterPart e p []) names Close = refl
  next_place-resolved (AfterPart e p []) names Negation = refl
  next_place-resolved (AfterPart e p []) names Conjunction = refl
  next_place-resolved (AfterPart e p []) names Disjunction = refl
  next_place-resolved (AfterPart e p []) names (Atom a) = refl
  next_place-resolved (AfterPart e p (o ∷ os)) names Open = refl
  next_place-resolved (AfterPart e p (o ∷ os)) names Close = refl
  next_place-resolved (AfterPart e p (o ∷ os)) names Negation = refl
  next_place-resolved (AfterPart e p (o ∷ os)) names Conjunction = refl
  next_place-resolved (AfterPart e p (o ∷ os)) names Disjunction = refl
  next_place-resolved (AfterPart e p (o ∷ os)) names (Atom a) = refl

  -- A state with a result is at a place after a part outside of all parentheses.
  place_at_end-state_result : (state : ReaderState) (p : Formula) → state_result state ≡ Some p → place_of state ≡ (false, 0)
  place_at_end-state_result (BeforePart l os) p e = absurd (cc e)
  place_at_end-state_result (AfterPart x y []) p e = refl
  place_at_end-state_result (AfterPart x y (o ∷ os)) p e = absurd (cc e)

  -- If the terminals s and ss have a result from a state, there is a state after s, from which ss have this result.
  state_after : (state : ReaderState) (s : Terminal Formula) (ss : List (Terminal Formula)) (p : Formula)
      → result_of (state_after_terminals (Some state) (s ∷ ss)) ≡ Some p
      → (next : ReaderState) × (next_state state s ≡ Some next) × (result_of (state_after_terminals (Some next) ss) ≡ Some p)
  state_after state s ss p said = next_state-by_cases (next_state state s) refl said
    where
      -- By the state after the first terminal: there is one, or the terminals have no result.
      next_state-by_cases : (o : Option ReaderState)
          → next_state state s ≡ o
          → result_of (state_after_terminals o ss) ≡ Some p
          → (next : ReaderState) × (next_state state s ≡ Some next) × (result_of (state_after_terminals (Some next) ss) ≡ Some p)
      next_state-by_cases None is said = absurd (let k = sym (ap result_of (fold_stays _ None (λ s. refl) ss)) ∙ said in cc k)
      next_state-by_cases (Some next) is said = (next, is, said)

  -- A terminal that is no node is a parenthesis.
  is_parenthesis-no_node : (ts mid : TokenList) (s : Terminal AtomSyntax)
      → IsTerminal arch threads ts s mid
      → is_node s ≡ false
      → (ts ≡ codes "(" ∷ mid) ⊎ (ts ≡ codes ")" ∷ mid)
  is_parenthesis-no_node ts mid Open is none = inl is
  is_parenthesis-no_node ts mid Close is none = inr is
  is_parenthesis-no_node ts mid Negation is none = absurd (cc none)
  is_parenthesis-no_node ts mid Conjunction is none = absurd (cc none)
  is_parenthesis-no_node ts mid Disjunction is none = absurd (cc none)
  is_parenthesis-no_node ts mid (Atom a) is none = absurd (cc none)

  -- If 256 nodes precede, and the terminals s and ss fit in the limit, s is no node.
  is_node-false_at_limit : (nodes : ℕ) (s : Terminal AtomSyntax) (ss : List (Terminal AtomSyntax))
      → nodes ≡ most_nodes
      → nodes + node_count (s ∷ ss) ≤ most_nodes
      → is_node s ≡ false
  is_node-false_at_limit nodes s ss full few = next_state-by_cases (is_node s) refl
    where
      -- By whether s is a node.
      next_state-by_cases : (b : Bool) → is_node s ≡ b → is_node s ≡ false
      next_state-by_cases true e = absurd (omega (arith, full, few, node_count-append (s ∷ []) ss, node_count-of_one true s e))
      next_state-by_cases false e = e

  -- A table with room for the names of terminals has room for those of the first.
  HasRoomFor-first_terminal : (names : NameTable) (s : Terminal AtomSyntax) (ss : List (Terminal AtomSyntax))
      → HasRoomFor names (sites_in (s ∷ ss))
      → HasRoomFor names (sites_in (s ∷ []))
  HasRoomFor-first_terminal names s ss room = omega (
    arith,
    room,
    ap length (with_sites_in-append names (s ∷ []) ss),
    length_le-insert_names (with_sites names (sites_in (s ∷ []))) (site_names (sites_in ss)),
  )

  -- If the remaining tokens are terminals that complete the proposition from the reader's state, within the limits of nodes and
  -- names, the proposition does not fail from there.
  not-FailsInProposition-if_parsed : (rest : TokenList) (because : TextCause) (place : PropositionPlace) (nodes : ℕ)
      (names : NameTable) (ts : TokenList) (state : ReaderState) (more : List (Terminal AtomSyntax)) (p : Formula)
      → FailsInProposition arch threads rest because place nodes names ts
      → place ≡ place_of state
      → Terminals arch threads ts more
      → result_of (state_after_terminals (Some state) (map (resolved (with_sites names (sites_in more))) more)) ≡ Some p
      → nodes + node_count more ≤ most_nodes
      → HasRoomFor names (sites_in more)
      → ⊥
  not-FailsInProposition-if_parsed rest because place nodes names ts state [] p (incomplete part_open end is) here all said few room =
      part_open (here ∙ place_at_end-state_result state p said)
  not-FailsInProposition-if_parsed rest because place nodes names ts state [] p (too_many_nodes some full at first cause) here all said few room =
      some all
  not-FailsInProposition-if_parsed rest because place nodes names ts state [] p (in_terminal some has fails) here all said few room =
      some all
  not-FailsInProposition-if_parsed rest because place nodes names ts state [] p (unopened at begins is cause) here all said few room =
      omega (arith, ap length (sym all ∙ begins))
  not-FailsInProposition-if_parsed rest because place nodes names ts state [] p (after_terminal t mid next has terminal fits step q) here all said few room =
      not-empty-IsTerminal ts mid t terminal all
  not-FailsInProposition-if_parsed rest because place nodes names ts state (s ∷ ss) p (incomplete part_open end is) here all said few room =
      not-empty-IsTerminal ts all.0 s all.1 end
  not-FailsInProposition-if_parsed rest because place nodes names ts state (s ∷ ss) p (too_many_nodes some full at first cause) here all said few room =
      elim (is_parenthesis-no_node ts all.0 s all.1 (is_node-false_at_limit nodes s ss full few)) [
        | inl opens ↦
            (IfFirst-cons_inv (λ t. AllByRecursion (λ w. t ≢ w) (codes "(" ∷ codes ")" ∷ [])) rest all.0 (codes "(")
            (sym at ∙ opens) first).0 refl
        | inr closes ↦
            (IfFirst-cons_inv (λ t. AllByRecursion (λ w. t ≢ w) (codes "(" ∷ codes ")" ∷ [])) rest all.0 (codes ")")
            (sym at ∙ closes) first).1.0 refl
      ]
  not-FailsInProposition-if_parsed rest because place nodes names ts state (s ∷ ss) p (in_terminal some has fails) here all said few room =
      let after =
      state_after state (resolved (with_sites names (sites_in (s ∷ ss))) s)
      (map (resolved (with_sites names (sites_in (s ∷ ss)))) ss) p said in
      not-FailsInTerminal-if_parsed (place_of state).0 (place_of state).1 names ts rest all.0 because s (place_of after.0)
      (subst (λ (pl : PropositionPlace). FailsInTerminal arch threads pl.0 names ts rest because) here fails) all.1
      (next_place-resolved state (with_sites names (sites_in (s ∷ ss))) s ∙ ap (option_map place_of) after.1)
      (HasRoomFor-first_terminal names s ss room)
  not-FailsInProposition-if_parsed rest because place nodes names ts state (s ∷ ss) p (unopened at begins is cause) here all said few room =
      let after =
      state_after state (resolved (with_sites names (sites_in (s ∷ ss))) s)
      (map (resolved (with_sites names (sites_in (s ∷ ss)))) ss) p said in
      no_Close-if_terminal (place_of state) (place_of after.0) ts _ all.0 s (sym here ∙ at) begins all.1
      (next_place-resolved state (with_sites names (sites_in (s ∷ ss))) s ∙ ap (option_map place_of) after.1)
  not-FailsInProposition-if_parsed rest because place nodes names ts state (s ∷ ss) p (after_terminal t mid next has terminal fits step q) here all said few room =
      let table = with_sites names (sites_in (s ∷ ss)) in
      let after = state_after state (resolved table s) (map (resolved table) ss) p said in
      let same = IsTerminal-unique arch threads ts t s mid all.0 terminal all.1 in
      let F = λ (x : Terminal AtomSyntax) (l : TokenList).
      FailsInProposition arch threads rest because next (nodes + length (filter is_node (x ∷ [])))
      (with_sites names (sites_in (x ∷ []))) l in
      let grown : table ≡ with_sites (with_sites names (sites_in (s ∷ []))) (sites_in ss) =
      with_sites_in-append names (s ∷ []) ss in
      not-FailsInProposition-if_parsed rest because next (nodes + node_count (s ∷ [])) (with_sites names (sites_in (s ∷ [])))
      all.0 after.0 ss p (subst (λ l. F s l) same.1 (subst (λ x. F x mid) same.0 q))
      (Some-injective_place (sym step
      ∙ ap (next_place place) same.0
      ∙ ap (λ (pl : PropositionPlace). next_place pl s) here
      ∙ next_place-resolved state table s
      ∙ ap (option_map place_of) after.1)) all.2
      (subst (λ names. result_of (state_after_terminals (Some after.0) (map (resolved names) ss)) ≡ Some p) grown after.2)
      (omega (arith, few, node_count-append (s ∷ []) ss))
      (subst (λ (names : NameTable). length names ≤ most_locations) grown room)
    where
      -- Places are equal if they are equal as values of `Some`.
      Some-injective_place : {a b : PropositionPlace} → Some a ≡ Some b → a ≡ b
      Some-injective_place e = cc e

  module _ (names : NameTable) where
    -- A question fails at one place only, and for one cause.
    pub FailsInQuestion-unique : FailsUniquely (FailsInQuestion arch threads names)
    FailsInQuestion-unique ts r s d e (in_list p) (in_list q) = FailsInList-unique arch threads names ts r s d e p q
    FailsInQuestion-unique ts r s d e (in_list p) (in_quantifier listed lists there room q) =
        absurd (not-FailsInList-if_parsed arch threads names ts r _ d listed p lists there room)
    FailsInQuestion-unique ts r s d e (in_list p) (in_proposition listed quant lists there room asks q) =
        absurd (not-FailsInList-if_parsed arch threads names ts r _ d listed p lists there room)
    FailsInQuestion-unique ts r s d e (in_quantifier listed lists there room p) (in_list q) =
        absurd (not-FailsInList-if_parsed arch threads names ts s _ e listed q lists there room)
    FailsInQuestion-unique ts r s d e (in_quantifier listed {mid = mid} lists there room p) (in_quantifier other {mid = end} also too has q) =
        FailsInQuantifier-unique mid r s d e p
        (subst (λ l. FailsInQuantifier l s e) (sym (Listed-unique arch ts listed other mid end lists also).1) q)
    FailsInQuestion-unique ts r s d e (in_quantifier listed {mid = mid} lists there room p) (in_proposition other quant {mid = end} {after = after} also too has asks q) =
        absurd (not-FailsInQuantifier-if_parsed mid r after d quant p
        (subst (λ l. Quantified l quant after) (sym (Listed-unique arch ts listed other mid end lists also).1) asks))
    FailsInQuestion-unique ts r s d e (in_proposition listed quant lists there room asks p) (in_list q) =
        absurd (not-FailsInList-if_parsed arch threads names ts s _ e listed q lists there room)
    FailsInQuestion-unique ts r s d e (in_proposition other quant {mid = end} {after = after} also too has asks p) (in_quantifier listed {mid = mid} lists there room q) =
        absurd (not-FailsInQuantifier-if_parsed mid s after e quant q
        (subst (λ l. Quantified l quant after) (sym (Listed-unique arch ts listed other mid end lists also).1) asks))
    FailsInQuestion-unique ts r s d e (in_proposition listed quant {mid = mid} {after = after} lists there room asks p) (in_proposition other another {mid = end} {after = later} also too has questions q) =
        let u = Listed-unique arch ts listed other mid end lists also in
        let v =
        Quantified-unique mid quant another after later asks (subst (λ l. Quantified l another later) (sym u.1) questions) in
        FailsInProposition-unique r s d e first_place 0 (with_sites names listed) after p
        (subst (λ sites. FailsInProposition arch threads s e first_place 0 (with_sites names sites) after) (sym u.0)
        (subst (FailsInProposition arch threads s e first_place 0 (with_sites names other)) (sym v.1) q))

    -- Tokens that fail as a question are none (`NoQuestion`).
    pub not-FailsInQuestion-if_parsed : (ts rest : TokenList) (because : TextCause)
        → FailsInQuestion arch threads names ts rest because
        → NoQuestion arch threads ts names
    not-FailsInQuestion-if_parsed ts rest because (in_list fails) listed quant ss p is fits =
        not-FailsInList-if_parsed arch threads names ts rest is.after_list because listed fails is.lists is.threads_exist
        (omega (arith, fits.room, length_le-insert_names (with_sites names listed) (site_names (sites_in ss))))
    not-FailsInQuestion-if_parsed ts rest because (in_quantifier other {mid = mid} lists there room fails) listed quant ss p is fits =
        not-FailsInQuantifier-if_parsed mid rest is.after_quant because quant fails
        (subst (λ l. Quantified l quant is.after_quant)
        (sym (Listed-unique arch ts other listed mid is.after_list lists is.lists).1) is.quantifies)
    not-FailsInQuestion-if_parsed ts rest because (in_proposition other another {mid = mid} {after = after} lists there room asks fails) listed quant ss p is fits =
        let u = Listed-unique arch ts other listed mid is.after_list lists is.lists in
        let v =
        Quantified-unique mid another quant after is.after_quant asks
        (subst (λ l. Quantified l quant is.after_quant) (sym u.1) is.quantifies) in
        not-FailsInProposition-if_parsed rest because first_place 0 (with_sites names listed) is.after_quant initial_reader_state
        ss p
        (subst (λ sites. FailsInProposition arch threads rest because first_place 0 (with_sites names sites) is.after_quant) u.0
        (subst (FailsInProposition arch threads rest because first_place 0 (with_sites names other)) v.1 fails)) refl is.says
        (result-IsProposition fits.says) (omega (arith, fits.few_nodes)) fits.room
