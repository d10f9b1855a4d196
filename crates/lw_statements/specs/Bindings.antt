-- The bindings of a statement's tokens, and the statement that they determine.
use Rattle.std.specs.Prelude.{◌≡◌, MatchOption, IfSome, ◌<◌, ◌≤◌, ◌+◌, ◌&&◌, ◌||◌, ◌⊎◌, ℕ, zero, suc, Bool, true, false, not, Option, Some, None, List, [], ◌∷◌}
use Rattle.std.specs.Prelude.{◌^◌, length, take, codes, slice_get, Contains}
use Rattle.std.specs.List.{AllByRecursion, list_any, list_all}
use Rattle.std.specs.Option.{option_map}
use Rattle.std.specs.Str.{bytes_eq}
use Rattle.lw_base.specs.WellFormed.{IsRegisterIndex, IsWordNumber}
use Rattle.lw_base.specs.Limits.{most_locations}
use Rattle.lw_base.specs.Characters.{is_name_byte, first_byte_is}
use Rattle.lw_base.specs.Names.{IsUnreservedName, is_reserved}
use Rattle.lw_base.specs.Types.{Bytes, NameTable, TokenList}
use Rattle.lw_base.specs.declared.fault.CellFault.{CellFault}
use Rattle.lw_base.specs.declared.fault.CellCause.TheVariants as cause
use Rattle.lw_base.specs.declared.head.Arch.{Arch}
use Rattle.lw_base.specs.declared.head.Arch.TheVariants.{Source, X86}
use Rattle.lw_base.specs.declared.operand.Operand.{Operand}
use Rattle.lw_base.specs.declared.operand.Operand.TheVariants as operand
use Rattle.lw_base.specs.Registers.{register_name, lowercase_if_x86}
use Rattle.lw_litmus.specs.Operations.{location_of, branch_target}
use Rattle.lw_litmus.specs.Operations.{registers_of, numbers_of}
use Rattle.lw_text.specs.declared.token.Token.{Token}
use Rattle.lw_text.specs.Spans.{token_texts}
use Rattle.lw_statements.specs.Faults.{IsMisfitCause, IsMeantAsRegister}
use Rattle.lw_statements.specs.declared.draft.Operands.{Operands}
use Rattle.lw_statements.specs.declared.draft.Draft.{Draft}
use Rattle.lw_statements.specs.declared.statement_parser.SlotBindings.{SlotBindings}
use Rattle.lw_statements.specs.declared.slot.Slot.{Slot}
use Rattle.lw_statements.specs.declared.slot.Slot.TheVariants.{Keyword, Register, Location, Value, Number, Label}
use Rattle.lw_statements.specs.Spellings.{Spelling, SlotValue, Filling, ParsesStatement, name_in, label_in, Fills, grammar_of}
use Rattle.lw_statements.specs.inner.Tokens.{NameRead, NameRefused}

-- The bindings of no tokens: no operand, no name and no label.
abbrev pub no_bindings : SlotBindings
no_bindings = record {
  operands = record { reg = None; other = None; val = None; num = None; loc = None; to = None };
  name = None;
  label = None;
}

-- The bindings, with this register as the first.
abbrev pub with_register : ℕ → SlotBindings → SlotBindings
with_register r o = record o { operands = record o.operands { reg = Some r; other = o.operands.reg } }

-- The bindings, with this operand.
abbrev pub with_value : Operand → SlotBindings → SlotBindings
with_value v o = record o { operands = record o.operands { val = Some v } }

-- The bindings, with this number.
abbrev pub with_number : ℕ → SlotBindings → SlotBindings
with_number n o = record o { operands = record o.operands { num = Some n } }

-- The bindings, with this token's index as that of the location's name.
abbrev pub with_name_at : ℕ → SlotBindings → SlotBindings
with_name_at k o = record o { name = Some k }

-- The bindings, with this token's index as that of the label.
abbrev pub with_label_at : ℕ → SlotBindings → SlotBindings
with_label_at k o = record o { label = Some k }

-- The bindings, with the value of the token at this index in its slot.
abbrev pub bind_slot : {W : Type 0} → ℕ → (slot : Slot W) → SlotValue slot → SlotBindings → SlotBindings
bind_slot k (Keyword w) g o = o
bind_slot k Register r o = with_register r o
bind_slot k Location x o = with_name_at k o
bind_slot k Value v o = with_value v o
bind_slot k Number n o = with_number n o
bind_slot k Label l o = with_label_at k o

-- The bindings of tokens with these values in their slots. The first token has this index. The slots are bound from the last to the first.
abbrev pub bindings_of : {W : Type 0} → ℕ → (slots : List (Slot W)) → Filling slots → SlotBindings
bindings_of k [] f = no_bindings
bindings_of k (slot ∷ slots) (g, f) = bind_slot k slot g (bindings_of (k + 1) slots f)

-- The registers, after the one in a slot if it has one.
abbrev pub registers_with : {W : Type 0} (slot : Slot W) → SlotValue slot → List ℕ → List ℕ
registers_with Register r rs = r ∷ rs
registers_with Value (operand.Register r) rs = r ∷ rs
registers_with slot g rs = rs

-- The numbers, after the one in a slot if it has one.
abbrev pub numbers_with : {W : Type 0} (slot : Slot W) → SlotValue slot → List ℕ → List ℕ
numbers_with Value (operand.Number n) ns = n ∷ ns
numbers_with Number n ns = n ∷ ns
numbers_with slot g ns = ns

-- The registers in all slots.
abbrev pub registers_in : {W : Type 0} (slots : List (Slot W)) → Filling slots → List ℕ
registers_in [] f = []
registers_in (slot ∷ slots) (g, f) = registers_with slot g (registers_in slots f)

-- The numbers in all slots.
abbrev pub numbers_in : {W : Type 0} (slots : List (Slot W)) → Filling slots → List ℕ
numbers_in [] f = []
numbers_in (slot ∷ slots) (g, f) = numbers_with slot g (numbers_in slots f)

-- The operands, with this target, if there is one.
abbrev pub with_target : Option ℕ → Operands → Operands
with_target to o = record o { to = to }

-- The operands of the bindings, with x as the index of their location, if there is a name, and this target.
abbrev pub operands_of : ℕ → Option ℕ → SlotBindings → Operands
operands_of x to o = record o.operands { loc = option_map (λ (k : ℕ). x) o.name; to = to }

-- The function of an operand, or `None` if it is missing.
abbrev pub map_some : {A C : Type 0} → (A → C) → Option A → Option C
map_some make None = None
map_some make (Some a) = Some (make a)

-- The function of two operands, or `None` if one is missing.
abbrev pub map_some2 : {A B C : Type 0} → (A → B → C) → Option A → Option B → Option C
map_some2 make None b = None
map_some2 make (Some a) b = map_some (make a) b

-- The function of three operands, or `None` if one is missing.
abbrev pub map_some3 : {A B D C : Type 0} → (A → B → D → C) → Option A → Option B → Option D → Option C
map_some3 make None b d = None
map_some3 make (Some a) b d = map_some2 (make a) b d

-- The draft of a statement: its form, its location, if it has one, and its bindings.
abbrev pub draft_on : {Form : Type 0} → Form → Option ℕ → SlotBindings → Draft Form
draft_on form loc o = record { form = form; operands = record o.operands { loc = loc; to = None }; label = o.label }

-- The draft of a statement: its form, this index as its location's, if there is a name, and its bindings.
abbrev pub draft_with_location : {Form : Type 0} → Form → ℕ → SlotBindings → Draft Form
draft_with_location form x o = draft_on form (option_map (λ (k : ℕ). x) o.name) o

-- The name of the bindings, if there is one, is that of a location, and its token is in range.
abbrev pub IsNameAmong : SlotBindings → List Token → Type 0
IsNameAmong o tokens = IfSome o.name (λ k. (k < length tokens) × ((t : Token) → slice_get tokens k ≡ Some t → IsUnreservedName t.text.now))

-- The draft of a form results from the bindings of tokens. The table after it is the one before with the location's name, if there is one.
abbrev pub IsDrafted : {Form : Type 0} → Form → SlotBindings → List Token → NameTable → Draft Form → NameTable → Type 0
IsDrafted form o tokens before draft after =
    MatchOption o.name ((after ≡ before) × (draft ≡ draft_on form None o))
    (λ k.
    (t : Token) × (loc : ℕ) × (slice_get tokens k ≡ Some t) × NameRead before t loc after × (draft ≡ draft_on form (Some loc) o))

-- The bindings have no draft: the table has no room for the location, or memory ran out. The fault says which.
pub record IsNotDrafted (o : SlotBindings) (tokens : List Token) (before : NameTable) (fault : CellFault) : Type 0 where
  pub index : ℕ
  pub name : o.name ≡ Some index
  pub token : Token
  pub token_at : slice_get tokens index ≡ Some token
  pub refused : NameRefused before token fault

-- The slot at this index, which is below `front`, takes a location, and the token there is not in the table, which is full.
pub record IsOverflowSlot {W : Type 0} (slots : List (Slot W)) (tokens : List Token) (front : ℕ) (names : NameTable) (index : ℕ) : Type 0 where
  pub before : index < front
  pub slot : slice_get slots index ≡ Some Location
  pub token : Token
  pub token_at : slice_get tokens index ≡ Some token
  pub full : length names ≡ most_locations
  pub new : Contains names token.text.now → ⊥

-- Tests whether a keyword of this text is no name of a location: it is a sign, or reserved in the source language, where its letters are
-- compared as they are.
abbrev pub cannot_be_location : Arch → Bytes → Bool
cannot_be_location Source w = not (first_byte_is is_name_byte w) || is_reserved w
cannot_be_location X86 w = not (first_byte_is is_name_byte w)

-- Tests whether the slot accepts a location or a register.
abbrev pub is_operand_slot : {W : Type 0} → Slot W → Bool
is_operand_slot Register = true
is_operand_slot Location = true
is_operand_slot Value = true
is_operand_slot slot = false

-- The slot takes a location.
abbrev pub IsLocationSlot : {W : Type 0} → Slot W → Type 0
IsLocationSlot slot = slot ≡ Location

-- The slot takes a register.
abbrev pub IsRegisterSlot : {W : Type 0} → Slot W → Type 0
IsRegisterSlot slot = (slot ≡ Register) ⊎ (slot ≡ Value)

module _ {W Form Stmt : Type 0} (spelling : Spelling W Form Stmt) where
  -- The tokens fit these slots, one in each.
  abbrev pub CanFill : TokenList → List (Slot W) → Type 0
  CanFill ts slots = (f : Filling slots) × Fills spelling ts slots f

  -- There is a first slot, and the token fits it.
  abbrev pub BeginsWith : List (Slot W) → Bytes → Type 0
  BeginsWith slots t =
      (slot : Slot W) × (rest : List (Slot W)) × (slots ≡ slot ∷ rest) × CanFill (t ∷ []) (slot ∷ [])

  -- The bindings of a parsed statement's tokens.
  abbrev pub statement_bindings : ParsesStatement spelling → SlotBindings
  statement_bindings s = bindings_of 0 (spelling.slots_of s.form) s.filling

  -- The draft of a parsed statement, if its location has this index.
  abbrev pub draft_of : ℕ → ParsesStatement spelling → Draft Form
  draft_of x s = draft_with_location s.form x (statement_bindings s)

  -- Exactly the first k tokens fit the slots, one each: the next does not, or there is no further token or slot.
  abbrev pub IsAcceptedLength : TokenList → List (Slot W) → ℕ → Type 0
  IsAcceptedLength ts [] k = k ≡ 0
  IsAcceptedLength [] (slot ∷ slots) k = k ≡ 0
  IsAcceptedLength (t ∷ ts) (slot ∷ slots) zero = CanFill (t ∷ []) (slot ∷ []) → ⊥
  IsAcceptedLength (t ∷ ts) (slot ∷ slots) (suc k) = CanFill (t ∷ []) (slot ∷ []) × IsAcceptedLength ts slots k

  -- The slots of each form accept at most k of the tokens.
  abbrev pub AcceptAtMost : TokenList → ℕ → Type 0
  AcceptAtMost ts k =
      (form : Form) → Contains spelling.forms form
      → (n : ℕ) × IsAcceptedLength ts (spelling.slots_of form) n × (n ≤ k)

  -- The slots of some form accept the first k tokens, or k is 0, and those of no form accept more.
  pub record IsLongestAccepted (ts : TokenList) (k : ℕ) : Type 0 where
    pub reached : (k ≡ 0) ⊎ ((form : Form) × Contains spelling.forms form × IsAcceptedLength ts (spelling.slots_of form) k)
    pub front : AcceptAtMost ts k

  -- The first of the slots accept the tokens, one each, and this slot follows these.
  abbrev pub IsSlotAfter : TokenList → List (Slot W) → Slot W → Type 0
  IsSlotAfter ts [] next = ⊥
  IsSlotAfter [] (slot ∷ slots) next = slot ≡ next
  IsSlotAfter (t ∷ ts) (slot ∷ slots) next = CanFill (t ∷ []) (slot ∷ []) × IsSlotAfter ts slots next

  -- The slots accept the tokens, one each, and the slot that follows is of a kind.
  abbrev pub HasNext : (Slot W → Type 0) → TokenList → List (Slot W) → Type 0
  HasNext IsSo ts slots = (slot : Slot W) × IsSlotAfter ts slots slot × IsSo slot

  -- Some form has a slot of a kind after those that accept the tokens.
  abbrev pub HasSlotAfter : (Slot W → Type 0) → TokenList → Type 0
  HasSlotAfter IsSo ts = (form : Form) × Contains spelling.forms form × HasNext IsSo ts (spelling.slots_of form)

  -- The fault is that of the first token after which no statement is possible, or of the end of the tokens.
  pub record IsFirstRejected (tokens : List Token) (end : ℕ) (fault : CellFault) : Type 0 where
    pub front : ℕ
    pub longest : IsLongestAccepted (token_texts tokens) front
    pub fault_is : MatchOption (slice_get tokens front) ((fault.at ≡ end) × (fault.cause ≡ cause.Form))
        (λ t. (fault.at ≡ t.at) × IsMisfitCause (IsMeantAsRegister (grammar_of spelling) (token_texts (take front tokens)) t.text.now) fault.cause)

  -- ---- Disjoint forms.

  -- Tests whether a text is the name of a register of the language.
  abbrev pub names_register : Bytes → Bool
  names_register w =
      list_any (λ r. bytes_eq (lowercase_if_x86 spelling.language.arch (register_name spelling.language.arch r)) (lowercase_if_x86 spelling.language.arch w))
      (0 ∷ 1 ∷ 2 ∷ 3 ∷ 4 ∷ 5 ∷ [])

  -- Tests whether no token fits both slots.
  abbrev pub tokens_differ : Slot W → Slot W → Bool
  tokens_differ (Keyword v) (Keyword w) =
      not (bytes_eq (lowercase_if_x86 spelling.language.arch (spelling.text_of v)) (lowercase_if_x86 spelling.language.arch (spelling.text_of w)))
  tokens_differ (Keyword w) Register = not (names_register (spelling.text_of w))
  tokens_differ Register (Keyword w) = not (names_register (spelling.text_of w))
  tokens_differ Register Location = true
  tokens_differ Location Register = true
  tokens_differ Location Value = true
  tokens_differ Value Location = true
  tokens_differ a b = false

  -- Tests whether no tokens fill both lists of slots.
  abbrev pub are_disjoint_forms : List (Slot W) → List (Slot W) → Bool
  are_disjoint_forms [] [] = false
  are_disjoint_forms [] (b ∷ second) = true
  are_disjoint_forms (a ∷ first) [] = true
  are_disjoint_forms (a ∷ first) (b ∷ second) = tokens_differ a b || are_disjoint_forms first second

  -- Tests whether no tokens fill two of the forms.
  abbrev pub all_disjoint : List Form → Bool
  all_disjoint [] = true
  all_disjoint (form ∷ forms) =
      list_all (λ other. are_disjoint_forms (spelling.slots_of form) (spelling.slots_of other)) forms && all_disjoint forms

  -- Tests whether the first of these slots, if there is one, is not a `:`.
  abbrev pub begins_without_colon : List (Slot W) → Bool
  begins_without_colon [] = true
  begins_without_colon (Keyword w ∷ slots) =
      not (bytes_eq (lowercase_if_x86 spelling.language.arch (spelling.text_of w)) (codes ":"))
  begins_without_colon (slot ∷ slots) = true

  -- Tests whether there is a first slot, as in every statement, and the second is not a `:`, which would make the first token a label.
  abbrev pub is_statement : List (Slot W) → Bool
  is_statement [] = false
  is_statement (slot ∷ slots) = begins_without_colon slots

  -- Tests whether a label's slot, if there is one, is the last.
  abbrev pub is_label_last : List (Slot W) → Bool
  is_label_last [] = true
  is_label_last (Label ∷ []) = true
  is_label_last (Label ∷ slot ∷ slots) = false
  is_label_last (slot ∷ slots) = is_label_last slots

  -- Tests whether no slot is a location's.
  abbrev pub has_no_location_slot : List (Slot W) → Bool
  has_no_location_slot [] = true
  has_no_location_slot (Location ∷ slots) = false
  has_no_location_slot (slot ∷ slots) = has_no_location_slot slots

  -- Tests whether at most one slot is a location's.
  abbrev pub has_at_most_one_location_slot : List (Slot W) → Bool
  has_at_most_one_location_slot [] = true
  has_at_most_one_location_slot (Location ∷ slots) = has_no_location_slot slots
  has_at_most_one_location_slot (slot ∷ slots) = has_at_most_one_location_slot slots

  -- ---- Locations and registers among the forms.

  -- Tests whether the slot accepts a name that a location could have, and is no location's.
  abbrev pub is_word_slot : Slot W → Bool
  is_word_slot Label = true
  is_word_slot (Keyword w) = not (cannot_be_location spelling.language.arch (spelling.text_of w))
  is_word_slot slot = false

  -- Tests whether no list of slots has a word where the other has a location or a register, after slots that accept the same tokens.
  abbrev pub are_clear_forms : List (Slot W) → List (Slot W) → Bool
  are_clear_forms (a ∷ first) (b ∷ second) =
      not (is_operand_slot a && is_word_slot b) && (tokens_differ a b || are_clear_forms first second)
  are_clear_forms first second = true

  -- Tests whether each pair of the forms is clear.
  abbrev pub all_clear : List Form → Bool
  all_clear forms =
      list_all (λ form. list_all (λ other. are_clear_forms (spelling.slots_of form) (spelling.slots_of other)) forms) forms

  -- Tests whether no keyword among the slots is the name of a register.
  abbrev pub is_register_free : List (Slot W) → Bool
  is_register_free [] = true
  is_register_free (Keyword w ∷ slots) = not (names_register (spelling.text_of w)) && is_register_free slots
  is_register_free (slot ∷ slots) = is_register_free slots

  -- ---- What the rule of cells requires.

  -- The statement of a form results from the operands of its tokens; it accesses the location of its name, jumps to where its label does,
  -- and has the registers and numbers of its tokens.
  pub record IsMade (statement_of : Form → Operands → Option Stmt) (x to : ℕ) (form : Form) (f : Filling (spelling.slots_of form)) : Type 0 where
    pub statement_is : statement_of form (operands_of x (option_map (λ l. to) (label_in (spelling.slots_of form) f)) (bindings_of 0 (spelling.slots_of form) f)) ≡ Some
        (spelling.statement x to form f)
    pub located : location_of (spelling.language.operation_of (spelling.statement x to form f)) ≡ option_map (λ n. x) (name_in (spelling.slots_of form) f)
    pub target_is : branch_target (spelling.language.operation_of (spelling.statement x to form f)) ≡ option_map (λ l. to) (label_in (spelling.slots_of form) f)
    pub operands_in_range :
        AllByRecursion IsRegisterIndex (registers_in (spelling.slots_of form) f)
        → AllByRecursion IsWordNumber (numbers_in (spelling.slots_of form) f)
        → AllByRecursion IsRegisterIndex (registers_of (spelling.language.operation_of (spelling.statement x to form f)))
        × AllByRecursion IsWordNumber (numbers_of (spelling.language.operation_of (spelling.statement x to form f)))

  -- What the rule of cells requires of a spelling. `countable`: the number of statements of a thread is below 2^64. `disjoint`: no tokens
  -- fill two forms. `statements`: each form has a first slot, no `:` in the second, and a label's slot only as the last. `names`: each has
  -- at most one location. `clear`: where one form has a location or a register, no other has a word that is a location's name. `words`: no
  -- keyword is a register's name. `makes_statements`: the statement of a form results from the operands of its tokens.
  pub record IsSpelling (statement_of : Form → Operands → Option Stmt) : Type 0 where
    pub countable : spelling.language.most < 2 ^ 64
    pub disjoint : all_disjoint spelling.forms ≡ true
    pub statements : list_all (λ form. is_statement (spelling.slots_of form) && is_label_last (spelling.slots_of form)) spelling.forms ≡ true
    pub names : list_all (λ form. has_at_most_one_location_slot (spelling.slots_of form)) spelling.forms ≡ true
    pub clear : all_clear spelling.forms ≡ true
    pub words : list_all (λ form. is_register_free (spelling.slots_of form)) spelling.forms ≡ true
    pub makes_statements : (x to : ℕ) (form : Form) (f : Filling (spelling.slots_of form)) → IsMade statement_of x to form f
