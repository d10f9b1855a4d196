-- The printed form of conditions, by docs/FORMAT.md.
use Rattle.std.specs.Prelude.{ℕ, Bool, true, false, ◌||◌, if◌then◌else◌, ◌++◌, codes, slice_index_or, []}
use Rattle.std.specs.Fmt.{decimal}
use Rattle.lw_base.specs.Types.{Bytes, NameTable}
use Rattle.lw_base.specs.declared.head.Arch.{Arch}
use Rattle.lw_base.specs.declared.head.Quant.{Quant}
use Rattle.lw_base.specs.declared.head.Quant.TheVariants.{Exists, NotExists, Forall}
use Rattle.lw_base.specs.declared.head.Seen.{Seen}
use Rattle.lw_base.specs.declared.head.Seen.TheVariants.{Register, Location}
use Rattle.lw_base.specs.Formula.{Formula, Yes, No, Reg_is, Word_is, Not, And, Or}
use Rattle.lw_base.specs.Heads.{TestHead}
use Rattle.lw_base.specs.Registers.{register_name}

-- The name of a thread's register, as in `0:EAX`, or of a location.
abbrev pub site_text : Arch → NameTable → Seen → Bytes
site_text arch names (Register t r) = decimal t ++ (codes ":" ++ register_name arch r)
site_text arch names (Location x) = slice_index_or names x []

-- The text `name=word`.
abbrev pub assignment : Bytes → ℕ → Bytes
assignment name word = name ++ (codes "=" ++ decimal word)

-- A text in parentheses.
abbrev pub parenthesized : Bytes → Bytes
parenthesized text = codes "(" ++ (text ++ codes ")")

-- A text, in parentheses if they are needed.
abbrev pub parenthesized_if : Bool → Bytes → Bytes
parenthesized_if needed text = if needed then parenthesized text else text

-- Tests whether the outermost connective is a conjunction.
abbrev pub is_and : Formula → Bool
is_and (And p q) = true
is_and p = false

-- Tests whether the outermost connective is a disjunction.
abbrev pub is_or : Formula → Bool
is_or (Or p q) = true
is_or p = false

-- Tests whether the outermost connective is binary.
abbrev pub is_binary : Formula → Bool
is_binary p = is_and p || is_or p

-- The text of a proposition. Parentheses enclose a disjunction inside a conjunction, a conjunction that is the right operand of a
-- conjunction, a disjunction that is the right operand of a disjunction, and either of the two after a `~`.
abbrev pub proposition_text : Arch → NameTable → Formula → Bytes
proposition_text arch names Yes = codes "true"
proposition_text arch names No = codes "false"
proposition_text arch names (Reg_is t r n) = assignment (site_text arch names (Register t r)) n
proposition_text arch names (Word_is x n) = assignment (site_text arch names (Location x)) n
proposition_text arch names (Not p) =
    codes "~" ++ parenthesized_if (is_binary p) (proposition_text arch names p)
proposition_text arch names (And p q) =
    parenthesized_if (is_or p) (proposition_text arch names p)
    ++ (codes " /\\ " ++ parenthesized_if (is_binary q) (proposition_text arch names q))
proposition_text arch names (Or p q) =
    proposition_text arch names p
    ++ (codes " \\/ " ++ parenthesized_if (is_or q) (proposition_text arch names q))

-- The printed form of a quantifier.
abbrev pub quantifier_text : Quant → Bytes
quantifier_text Exists = codes "exists"
quantifier_text NotExists = codes "~exists"
quantifier_text Forall = codes "forall"

-- The text of a head's condition: the quantifier, and the proposition in parentheses.
abbrev pub condition_text : TestHead → Bytes
condition_text head =
    quantifier_text head.quant ++ (codes " " ++ parenthesized (proposition_text head.arch head.locs head.proposition))
