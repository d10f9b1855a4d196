-- The spelling of a language's statements: forms, each with a slot for each of its tokens. docs/FORMAT.md has them.
use Rattle.std.specs.Prelude.{◌≡◌, ℕ, Option, Some, None, List, [], ◌∷◌, Contains}
use Rattle.std.specs.Option.{option_or}
use Rattle.lw_base.specs.Types.{Bytes, TokenList}
use Rattle.lw_base.specs.declared.operand.Operand.{Operand}
use Rattle.lw_base.specs.Names.{IsUnreservedName}
use Rattle.lw_base.specs.Registers.{IsRegisterName, lowercase_if_x86}
use Rattle.lw_text.specs.Tokens.{IsNumber}
use Rattle.lw_litmus.specs.Languages.{Language}
use Rattle.lw_statements.specs.Operands.{IsOperand}
use Rattle.lw_statements.specs.Grammars.{Grammar}
use Rattle.lw_statements.specs.declared.slot.Slot.{Slot}
use Rattle.lw_statements.specs.declared.slot.Slot.TheVariants.{Keyword, Register, Location, Value, Number, Label}

-- The value of a token in a slot. A keyword has none.
abbrev pub SlotValue : {W : Type 0} → Slot W → Type 0
SlotValue (Keyword w) = Unit {0}
SlotValue Register = ℕ
SlotValue Location = Bytes
SlotValue Value = Operand
SlotValue Number = ℕ
SlotValue Label = Bytes

-- The values of a statement's tokens, slot by slot.
abbrev pub Filling : {W : Type 0} → List (Slot W) → Type 0
Filling [] = Unit {0}
Filling (slot ∷ slots) = SlotValue slot × Filling slots

-- The name of the location in the slot, if it is a location's.
abbrev pub name_at : {W : Type 0} (slot : Slot W) → SlotValue slot → Option Bytes
name_at Location x = Some x
name_at slot g = None

-- The label in the slot, if it is a label's.
abbrev pub label_at : {W : Type 0} (slot : Slot W) → SlotValue slot → Option Bytes
label_at Label l = Some l
label_at slot g = None

-- The name of the location in some slot.
abbrev pub name_in : {W : Type 0} (slots : List (Slot W)) → Filling slots → Option Bytes
name_in [] f = None
name_in (slot ∷ slots) (g, f) = option_or (name_at slot g) (name_in slots f)

-- The label in some slot.
abbrev pub label_in : {W : Type 0} (slots : List (Slot W)) → Filling slots → Option Bytes
label_in [] f = None
label_in (slot ∷ slots) (g, f) = option_or (label_at slot g) (label_in slots f)

-- A language's keywords, its forms, the slots of each, and the statement of a form, from its slots' values, the index of its location, and
-- its target.
pub record Spelling (W Form Stmt : Type 0) : Type 1 where
  pub language : Language Stmt
  pub text_of : W → Bytes
  pub forms : List Form
  pub slots_of : Form → List (Slot W)
  pub statement : ℕ → ℕ → (form : Form) → Filling (slots_of form) → Stmt

module _ {W Form Stmt : Type 0} (spelling : Spelling W Form Stmt) where
  -- The token fits the slot, with this value. Keywords of x86 are read in any case.
  abbrev pub Gives : Bytes → (slot : Slot W) → SlotValue slot → Type 0
  Gives t (Keyword w) g = lowercase_if_x86 spelling.language.arch (spelling.text_of w) ≡ lowercase_if_x86 spelling.language.arch t
  Gives t Register r = IsRegisterName spelling.language.arch t r
  Gives t Location x = (t ≡ x) × IsUnreservedName x
  Gives t Value v = IsOperand spelling.language.arch t v
  Gives t Number n = IsNumber t n
  Gives t Label l = (t ≡ l) × IsUnreservedName l

  -- The tokens fit the slots, one in each, with these values.
  abbrev pub Fills : TokenList → (slots : List (Slot W)) → Filling slots → Type 0
  Fills [] [] f = Unit {0}
  Fills [] (slot ∷ slots) f = ⊥
  Fills (t ∷ ts) [] f = ⊥
  Fills (t ∷ ts) (slot ∷ slots) (g, f) = Gives t slot g × Fills ts slots f

  -- A parsed statement: its form, and the values of its slots.
  pub record ParsesStatement : Type 0 where
    pub form : Form
    pub filling : Filling (spelling.slots_of form)

  -- The grammar of a language with this spelling.
  abbrev pub grammar_of : Grammar ParsesStatement Stmt
  grammar_of = record {
    language = spelling.language;
    says = λ ts s. Contains spelling.forms s.form × Fills ts (spelling.slots_of s.form) s.filling;
    name_of = λ s. name_in (spelling.slots_of s.form) s.filling;
    label_of = λ s. label_in (spelling.slots_of s.form) s.filling;
    statement_of = λ x to s. spelling.statement x to s.form s.filling;
  }
