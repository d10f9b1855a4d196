-- Well-formedness of a head is a proposition: any two proofs of it are equal, and so are those of its parts. A ghost field requires this of
-- its fact; nothing else cites it.
use Rattle.std.specs.Prelude.{ℕ, ◌⊎◌, List, [], ◌∷◌}
use Rattle.std.specs.Coded.{×_prop, Unit-prop}
use Rattle.std.proofs.Props.{props}
use Rattle.std.proofs.Common.{inl, inr, ap, arith}
use Rattle.lw_base.specs.declared.head.Seen.{Seen}
use Rattle.lw_base.specs.declared.head.Seen.TheVariants.{Register, Location}
use Rattle.lw_base.specs.Formula.{Formula, Yes, No, Reg_is, Word_is, Not, And, Or}
use Rattle.lw_base.specs.Heads.{TestHead}
use Rattle.lw_base.specs.Lists.{IsDuplicateFree}
use Rattle.lw_base.specs.Names.{IsUnreservedName, IsNameTable}
use Rattle.lw_base.specs.WellFormed.{IsSeenInRange, IsSeenLess, IsAscending, MentionsOnly, IsWellFormedHead}

-- A disjunction of two propositions that exclude each other is a proposition.
IsProp-either : {A B : Type 0} → IsProp A → IsProp B → (A → B → ⊥) → IsProp (A ⊎ B)
IsProp-either a b apart (inl x) (inl y) = ap inl (a x y)
IsProp-either a b apart (inl x) (inr y) = absurd (apart x y)
IsProp-either a b apart (inr x) (inl y) = absurd (apart y x)
IsProp-either a b apart (inr x) (inr y) = ap inr (b x y)

-- `IsUnreservedName` is a proposition.
IsUnreservedName-prop : (w : List ℕ) → IsProp (IsUnreservedName w)
IsUnreservedName-prop w = hlevel props

-- `IsDuplicateFree` is a proposition, of lists of names.
IsDuplicateFree-prop : (names : List (List ℕ)) → IsProp (IsDuplicateFree names)
IsDuplicateFree-prop [] = Unit-prop
IsDuplicateFree-prop (n ∷ ns) = hlevel (props, IsDuplicateFree-prop ns)

-- `IsNameTable` is a proposition.
IsNameTable-prop : (names : List (List ℕ)) → IsProp (IsNameTable names)
IsNameTable-prop names = hlevel (props, IsUnreservedName-prop, IsDuplicateFree-prop)

-- `IsSeenInRange` is a proposition.
IsSeenInRange-prop : (threads locs : ℕ) (s : Seen) → IsProp (IsSeenInRange threads locs s)
IsSeenInRange-prop threads locs (Register t r) = hlevel props
IsSeenInRange-prop threads locs (Location x) = hlevel props

-- `IsSeenLess` is a proposition.
IsSeenLess-prop : (s t : Seen) → IsProp (IsSeenLess s t)
IsSeenLess-prop (Register t r) (Register u s) = IsProp-either (hlevel props) (hlevel props) (λ lt same. omega (arith, lt, same.0))
IsSeenLess-prop (Register t r) (Location x) = hlevel props
IsSeenLess-prop (Location x) (Register t r) = hlevel props
IsSeenLess-prop (Location x) (Location y) = hlevel props

-- `IsAscending` is a proposition.
IsAscending-prop : (ss : List Seen) → IsProp (IsAscending ss)
IsAscending-prop [] = hlevel props
IsAscending-prop (s ∷ ss) = hlevel (props, IsSeenLess-prop, IsAscending-prop ss)

-- `MentionsOnly` is a proposition.
MentionsOnly-prop : (threads locs : ℕ) (p : Formula) → IsProp (MentionsOnly threads locs p)
MentionsOnly-prop threads locs Yes = hlevel props
MentionsOnly-prop threads locs No = hlevel props
MentionsOnly-prop threads locs (Reg_is t r n) = hlevel props
MentionsOnly-prop threads locs (Word_is x n) = hlevel props
MentionsOnly-prop threads locs (Not p) = MentionsOnly-prop threads locs p
MentionsOnly-prop threads locs (And p q) = ×_prop (MentionsOnly-prop threads locs p) (MentionsOnly-prop threads locs q)
MentionsOnly-prop threads locs (Or p q) = ×_prop (MentionsOnly-prop threads locs p) (MentionsOnly-prop threads locs q)

-- `IsWellFormedHead` is a proposition.
pub IsWellFormedHead-prop : (h : TestHead) → IsProp (IsWellFormedHead h)
IsWellFormedHead-prop h = hlevel (props, IsNameTable-prop, IsSeenInRange-prop, IsAscending-prop, MentionsOnly-prop)
