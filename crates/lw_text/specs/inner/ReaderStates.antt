-- The states of the parser of propositions, and its transitions by terminals. Used only within the crate.
use Rattle.std.specs.Prelude.{ℕ, zero, suc, Bool, true, false, List, [], ◌∷◌, length, map, reverse, Option, Some, None, option_map}
use Rattle.lw_base.specs.Formula.{Formula, Not, And, Or}
use Rattle.lw_base.specs.Propositions.{formula_of}
use Rattle.lw_text.specs.declared.open_group.OpenGroup.{OpenGroup}
use Rattle.lw_text.specs.declared.proposition_reader.PropositionReader.{PropositionReader}
use Rattle.lw_text.specs.Failures.{PropositionPlace}
use Rattle.lw_text.specs.Propositions.{Terminal, Open, Close, Negation, Conjunction, Disjunction, Atom}

-- The state of the innermost group, the terminals since a `(` or the start, at a place at which a part must begin: the left operand of a
-- `\/`, the left operand of a `/\` (`None` if there is none), and the number of `~` before the part. A *part* is an atom, a negation or a
-- group in parentheses, as `PartLevel` says.
pub record GroupState : Type 0 where
  pub left_of_or : Option Formula
  pub left_of_and : Option Formula
  pub nots : ℕ

-- The part p after n `~`.
abbrev pub negations : ℕ → Formula → Formula
negations zero p = p
negations (suc n) p = Not (negations n p)

-- A part p, joined by `/\` to the left operand, if there is one.
abbrev pub after_and : Option Formula → Formula → Formula
after_and None p = p
after_and (Some a) p = And a p

-- A conjunction p, joined by `\/` to the left operand, if there is one.
abbrev pub after_or : Option Formula → Formula → Formula
after_or None p = p
after_or (Some a) p = Or a p

-- The group's last conjunction, if the part p ends it.
abbrev pub ands_of : GroupState → Formula → Formula
ands_of l p = after_and l.left_of_and (negations l.nots p)

-- The group's formula, if the part p ends it.
abbrev pub ors_of : GroupState → Formula → Formula
ors_of l p = after_or l.left_of_or (ands_of l p)

-- The state of a group after its `(`.
abbrev pub new_group : GroupState
new_group = record { left_of_or = None; left_of_and = None; nots = 0 }

-- The state of a group after one more `~`.
abbrev pub with_not : GroupState → GroupState
with_not l = record { left_of_or = l.left_of_or; left_of_and = l.left_of_and; nots = suc l.nots }

-- The state of a group after a part and a `/\`.
abbrev pub with_and : GroupState → Formula → GroupState
with_and l p = record { left_of_or = l.left_of_or; left_of_and = Some (ands_of l p); nots = 0 }

-- The state of a group after a part and a `\/`.
abbrev pub with_or : GroupState → Formula → GroupState
with_or l p = record { left_of_or = Some (ors_of l p); left_of_and = None; nots = 0 }

-- The state of the parser: before a part of a group; or after one, with the left operand of a `\/`, if there is one, and the conjunction
-- that ends with the part. `outer` has the states of the enclosing groups, the innermost first.
pub data ReaderState : Type 0 where
  BeforePart : (group : GroupState) (outer : List GroupState) → ReaderState
  AfterPart : (left_of_or : Option Formula) (conjunction : Formula) (outer : List GroupState) → ReaderState

-- The state before any terminal.
abbrev pub initial_reader_state : ReaderState
initial_reader_state = BeforePart new_group []

-- The state of the parser in a group inside these: after the part, or, if there is none, before the next one.
abbrev pub reader_state_in : Option Formula → GroupState → List GroupState → ReaderState
reader_state_in None l os = BeforePart l os
reader_state_in (Some p) l os = AfterPart l.left_of_or (ands_of l p) os

-- The state of an `OpenGroup` in memory.
abbrev pub group_of : {A : Type 0} → OpenGroup A → GroupState
group_of l =
    record { left_of_or = option_map formula_of l.left_of_or; left_of_and = option_map formula_of l.left_of_and; nots = l.nots }

-- The state of a `PropositionReader` in memory, whose vector has the innermost group last.
abbrev pub state_of : {A : Type 0} → PropositionReader A → ReaderState
state_of r = reader_state_in (option_map formula_of r.part) (group_of r.group) (reverse (map group_of r.outer.items))

-- Tests whether a terminal begins a part.
abbrev pub begins_part : {A : Type 0} → Terminal A → Bool
begins_part Close = false
begins_part Conjunction = false
begins_part Disjunction = false
begins_part _ = true

-- The state after a `)` that closes a group with the formula p: p is a part of the group around it, if there is one.
abbrev pub close_group : Formula → List GroupState → Option ReaderState
close_group p [] = None
close_group p (o ∷ os) = Some (reader_state_in (Some p) o os)

-- The state after one more terminal, or `None` if it is not possible there.
abbrev pub next_state : ReaderState → Terminal Formula → Option ReaderState
next_state (BeforePart l os) Open = Some (BeforePart new_group (l ∷ os))
next_state (BeforePart l os) Negation = Some (BeforePart (with_not l) os)
next_state (BeforePart l os) (Atom p) = Some (reader_state_in (Some p) l os)
next_state (AfterPart e p os) Close = close_group (after_or e p) os
next_state (AfterPart e p os) Conjunction = Some (BeforePart (record { left_of_or = e; left_of_and = Some p; nots = 0 }) os)
next_state (AfterPart e p os) Disjunction = Some (BeforePart (record { left_of_or = Some (after_or e p); left_of_and = None; nots = 0 }) os)
next_state _ _ = None

-- The place of a state in the proposition.
abbrev pub place_of : ReaderState → PropositionPlace
place_of (BeforePart l os) = (true, length os)
place_of (AfterPart e p os) = (false, length os)

-- The formula of the terminals up to a state, or `None` if they are no proposition.
abbrev pub state_result : ReaderState → Option Formula
state_result (AfterPart e p []) = Some (after_or e p)
state_result _ = None
