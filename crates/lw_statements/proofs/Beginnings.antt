-- The tokens with which statements start, and what may follow them: a location, a register, or another token.
-- The causes of faults distinguish by it what may follow.
use Rattle.lw_statements.proofs.Common.{◌≡◌, ℕ, inl, inr, Bool, true, false, true≢false, not, ◌||◌, Option}
use Rattle.lw_statements.proofs.Common.{Some, List, [], ◌∷◌, ◌++◌, refl, sym, ap, ◌∙◌, subst, arith}
use Rattle.lw_statements.proofs.Common.{append_assoc, cases_Bool, and_parts, codes, Contains, decimal}
use Rattle.lw_statements.proofs.Common.{name_in, IsUnreservedName, IsRegisterName, register_name, Bytes}
use Rattle.lw_statements.proofs.Common.{TokenList, name_by_test, decimal_is_number, Operands, Slot, Keyword}
use Rattle.lw_statements.proofs.Common.{Register, Location, Value, Number, Label, BeginsStatement, CanBegin}
use Rattle.lw_statements.proofs.Common.{IsLocationAfter, IsBeforeRegister, Spelling, SlotValue, Filling}
use Rattle.lw_statements.proofs.Common.{Gives, Fills, grammar_of, CanFill, BeginsWith, IsSlotAfter}
use Rattle.lw_statements.proofs.Common.{HasSlotAfter, IsLocationSlot, IsRegisterSlot, are_clear_forms}
use Rattle.lw_statements.proofs.Common.{is_operand_slot, is_word_slot, is_register_free, tokens_differ}
use Rattle.lw_statements.proofs.Common.{names_register, has_no_location_slot, has_at_most_one_location_slot}
use Rattle.lw_statements.proofs.Common.{IsSpelling}
use Rattle.lw_statements.proofs.api.Forms.{list_all-get}
use Rattle.lw_statements.proofs.Slots.{not-Gives-differing_slots, location_slot, no_register-if_keyword}
use Rattle.lw_statements.proofs.Slots.{not-register_and_location, not-register_and_number}
use Rattle.lw_base.specs.declared.operand.Operand.TheVariants as operand

module _ {W Form Stmt : Type 0} (spelling : Spelling W Form Stmt) where
  -- Each slot accepts some token, so any slots accept some tokens.
  pub slot_accepts_some : (slot : Slot W) → (t : Bytes) × (g : SlotValue slot) × Gives spelling t slot g
  slot_accepts_some (Keyword w) = (spelling.text_of w, tt, refl)
  slot_accepts_some Register = (register_name spelling.language.arch 0, 0, (omega arith, refl))
  slot_accepts_some Location = (codes "x", codes "x", (refl, (name_by_test (codes "x") refl, refl)))
  slot_accepts_some Value = (decimal 0, operand.Number 0, decimal_is_number 0 (omega arith))
  slot_accepts_some Number = (decimal 0, 0, decimal_is_number 0 (omega arith))
  slot_accepts_some Label = (codes "x", codes "x", (refl, (name_by_test (codes "x") refl, refl)))

  -- For any slots there are tokens that fill them.
  slots_accept_some : (slots : List (Slot W)) → (ts : TokenList) × CanFill spelling ts slots
  slots_accept_some [] = ([], (tt, tt))
  slots_accept_some (slot ∷ slots) =
      let s = slot_accepts_some slot in
      let f = slots_accept_some slots in
      (s.0 ∷ f.0, ((s.1, f.1.0), (s.2, f.1.1)))

  -- ---- the first token

  -- A token that a form's first slot accepts can start a statement.
  pub CanBegin-of_form : (form : Form) (t : Bytes)
      → Contains spelling.forms form
      → BeginsWith spelling (spelling.slots_of form) t
      → CanBegin (grammar_of spelling) t
  CanBegin-of_form form t there (slot, rest, cut, here) =
      let later = slots_accept_some rest in
      let whole : (f : Filling (spelling.slots_of form)) × Fills spelling (t ∷ later.0) _ f =
      subst (λ (slots : List (Slot W)). (f : Filling slots) × Fills spelling (t ∷ later.0) slots f) (sym cut)
      ((here.0.0, later.1.0), (here.1.0, later.1.1)) in
      (later.0, record { form = form; filling = whole.0 }, (there, whole.1))

  -- Tokens that fill slots start with one that the first slot accepts.
  pub BeginsWith-Fills : (t : Bytes) (rest : TokenList) (slots : List (Slot W)) (f : Filling slots)
      → Fills spelling (t ∷ rest) slots f
      → BeginsWith spelling slots t
  BeginsWith-Fills t rest [] f h = absurd h
  BeginsWith-Fills t rest (slot ∷ slots) f h = (slot, slots, refl, ((f.0, tt), (h.0, tt)))

  -- ---- a token after others

  -- Tokens and a further one, accepted by the slot after theirs, begin tokens that fill the slots.
  pub CanFill-after : (slots : List (Slot W)) (slot : Slot W) (ts : TokenList) (t : Bytes)
      → IsSlotAfter spelling ts slots slot
      → CanFill spelling (t ∷ []) (slot ∷ [])
      → (rest : TokenList) × CanFill spelling ((ts ++ t ∷ []) ++ rest) slots
  CanFill-after [] slot ts t h here = absurd h
  CanFill-after (s ∷ slots) slot [] t h here =
      let r = slots_accept_some slots in
      let at = subst (λ (u : Slot W). CanFill spelling (t ∷ []) (u ∷ [])) (sym h) here in
      (r.0, ((at.0.0, r.1.0), (at.1.0, r.1.1)))
  CanFill-after (s ∷ slots) slot (u ∷ ts) t h here =
      let r = CanFill-after slots slot ts t h.1 here in (r.0, ((h.0.0.0, r.1.0), (h.0.1.0, r.1.1)))

  -- Tokens up to a slot, and a token that this slot accepts, begin a statement of the slots' form.
  pub BeginsStatement-after : (form : Form) (slot : Slot W) (ts : TokenList) (t : Bytes)
      → Contains spelling.forms form
      → IsSlotAfter spelling ts (spelling.slots_of form) slot
      → CanFill spelling (t ∷ []) (slot ∷ [])
      → BeginsStatement (grammar_of spelling) (ts ++ t ∷ [])
  BeginsStatement-after form slot ts t there after here =
      let r = CanFill-after (spelling.slots_of form) slot ts t after here in
      (r.0, record { form = form; filling = r.1.0 }, (there, r.1.1))

  -- Of tokens that fill slots, each is accepted by the slot after those of the tokens before it.
  slot_of : (slots : List (Slot W)) (ts rest : TokenList) (t : Bytes) (f : Filling slots)
      → Fills spelling (ts ++ t ∷ rest) slots f
      → (slot : Slot W) × IsSlotAfter spelling ts slots slot × CanFill spelling (t ∷ []) (slot ∷ [])
  slot_of [] [] rest t f h = absurd h
  slot_of [] (u ∷ ts) rest t f h = absurd h
  slot_of (s ∷ slots) [] rest t f h = (s, refl, ((f.0, tt), (h.0, tt)))
  slot_of (s ∷ slots) (u ∷ ts) rest t f h = let r = slot_of slots ts rest t f.1 h.1 in (r.0, (((f.0, tt), (h.0, tt)), r.1), r.2)

  -- If a statement begins with tokens and a further one, some form has a slot for that after those of the others.
  pub HasSlotAfter-if_begins : (ts : TokenList) (t : Bytes)
      → BeginsStatement (grammar_of spelling) (ts ++ t ∷ [])
      → HasSlotAfter spelling (λ slot. CanFill spelling (t ∷ []) (slot ∷ [])) ts
  HasSlotAfter-if_begins ts t (rest, s, says) =
      let r =
      slot_of (spelling.slots_of s.form) ts rest t s.filling
      (subst (λ (us : TokenList). Fills spelling us (spelling.slots_of s.form) s.filling) (append_assoc ts (t ∷ []) rest)
      says.1) in
      (s.form, says.0, r)

  -- ---- a location or a register after tokens

  -- If two forms are clear, and after some tokens the first has a slot of a location or a register, the second has no slot of a
  -- word there.
  is_word_slot-false_after : (ts : TokenList) (first second : List (Slot W)) (a b : Slot W)
      → are_clear_forms spelling first second ≡ true
      → IsSlotAfter spelling ts first a
      → IsSlotAfter spelling ts second b
      → is_operand_slot a ≡ true
      → is_word_slot spelling b ≡ false
  is_word_slot-false_after ts [] second a b clear x y o = absurd x
  is_word_slot-false_after ts (s ∷ first) [] a b clear x y o = absurd y
  is_word_slot-false_after [] (s ∷ first) (u ∷ second) a b clear x y o =
      let here = (and_parts _ (tokens_differ spelling s u || are_clear_forms spelling first second) clear).0 in
      elim (cases_Bool (is_word_slot spelling b)) [
        | inl word ↦ absurd (true≢false (sym here ∙ rw (x, y, o, word) refl))
        | inr none ↦ none
      ]
  is_word_slot-false_after (t ∷ ts) (s ∷ first) (u ∷ second) a b clear x y o =
      let later = (and_parts _ (tokens_differ spelling s u || are_clear_forms spelling first second) clear).1 in
      elim (cases_Bool (tokens_differ spelling s u)) [
        | inl differ ↦ absurd (not-Gives-differing_slots spelling t s u x.0.0.0 y.0.0.0 differ x.0.1.0 y.0.1.0)
        | inr same ↦
            is_word_slot-false_after ts first second a b
            (let h : (false || are_clear_forms spelling first second) ≡ true =
            subst (λ (z : Bool). (z || are_clear_forms spelling first second) ≡ true) same later in
            h) x.1 y.1 o
      ]

  -- A location's name is accepted after no tokens by a slot that is not a location's, if a form has a location or a register there.
  module _ (made : Form → Operands → Option Stmt) (lawful : IsSpelling spelling made) (ts : TokenList) (form : Form)
      (there : Contains spelling.forms form) (slot : Slot W) (after : IsSlotAfter spelling ts (spelling.slots_of form) slot)
      (operand : is_operand_slot slot ≡ true) where
    -- The form excludes each other form: after the same tokens no form has a word where another has an
    -- operand.
    are_clear_forms-of_other : (other : Form)
        → Contains spelling.forms other
        → are_clear_forms spelling (spelling.slots_of form) (spelling.slots_of other) ≡ true
    are_clear_forms-of_other other here =
        list_all-get _ spelling.forms here.0 other (list_all-get _ spelling.forms there.0 form lawful.clear there.1 there.2)
        here.1 here.2

    -- Where this form has a location, a location's name is accepted by no other kind of slot.
    only_location : (other : Form) (b : Slot W) (x : Bytes)
        → Contains spelling.forms other
        → IsSlotAfter spelling ts (spelling.slots_of other) b
        → CanFill spelling (x ∷ []) (b ∷ [])
        → IsUnreservedName x
        → b ≡ Location
    only_location other b x here later stand loc =
        location_slot spelling x b stand.0.0
        (is_word_slot-false_after ts _ _ slot b (are_clear_forms-of_other other here) after later operand) stand.1.0 loc

  -- If slots have no further slot of a location, none follows tokens that they accept.
  no_location_slot-after : (ts : TokenList) (slots : List (Slot W))
      → has_no_location_slot spelling slots ≡ true
      → IsSlotAfter spelling ts slots Location
      → ⊥
  no_location_slot-after ts [] e h = absurd h
  no_location_slot-after [] (Location ∷ slots) e h = absurd cc
  no_location_slot-after [] (slot ∷ slots) e h = absurd cc
  no_location_slot-after (t ∷ ts) (Location ∷ slots) e h = absurd cc
  no_location_slot-after (t ∷ ts) (slot ∷ slots) e h = no_location_slot-after ts slots e h.1

  -- If slots have at most one slot of a location, the token that fills it is the name of the statement's location.
  pub location_name-in_slot : (ts rest : TokenList) (x : Bytes) (slots : List (Slot W)) (f : Filling slots)
      → has_at_most_one_location_slot spelling slots ≡ true
      → IsSlotAfter spelling ts slots Location
      → Fills spelling (ts ++ x ∷ rest) slots f
      → name_in slots f ≡ Some x
  location_name-in_slot ts rest x [] f e h fills = absurd h
  location_name-in_slot [] rest x (Location ∷ slots) f e h fills = ap Some (sym fills.0.0)
  location_name-in_slot [] rest x (slot ∷ slots) f e h fills = absurd cc
  location_name-in_slot (t ∷ ts) rest x (Location ∷ slots) f e h fills = absurd (no_location_slot-after ts slots e h.1)
  location_name-in_slot (t ∷ ts) rest x (slot ∷ slots) f e h fills = location_name-in_slot ts rest x slots f.1 e h.1 fills.1

  -- After tokens that the slots before a form's location accept, a location is that of each statement.
  pub IsLocationAfter-of_slots : (made : Form → Operands → Option Stmt)
      → IsSpelling spelling made
      → (form : Form) (ts : TokenList) (x : Bytes)
      → Contains spelling.forms form
      → IsSlotAfter spelling ts (spelling.slots_of form) Location
      → IsUnreservedName x
      → IsLocationAfter (grammar_of spelling) ts x
  IsLocationAfter-of_slots made lawful form ts x there after loc = record {
    begins = BeginsStatement-after form Location ts x there after ((x, tt), ((refl, loc), tt));
    only = λ rest s says.
        let r = slot_of (spelling.slots_of s.form) ts rest x s.filling says.1 in
        let is = only_location made lawful ts form there Location after refl s.form r.0 x says.0 r.1 r.2 loc in
        let one = list_all-get _ spelling.forms says.0.0 s.form lawful.names says.0.1 says.0.2 in
        location_name-in_slot ts rest x (spelling.slots_of s.form) s.filling one
        (subst (λ (b : Slot W). IsSlotAfter spelling ts (spelling.slots_of s.form) b) is r.1) says.1;
  }

  -- If slots are free of registers' names, a keyword among them, after tokens that they accept, names no register.
  no_register_name-keyword : (ts : TokenList) (slots : List (Slot W)) (w : W)
      → is_register_free spelling slots ≡ true
      → IsSlotAfter spelling ts slots (Keyword w)
      → not (names_register spelling (spelling.text_of w)) ≡ true
  no_register_name-keyword ts [] w e h = absurd h
  no_register_name-keyword [] (Keyword v ∷ slots) w e h =
      subst (λ (u : W). not (names_register spelling (spelling.text_of u)) ≡ true) (let same : v ≡ w = cc in same)
      (and_parts _ (is_register_free spelling slots) e).0
  no_register_name-keyword [] (slot ∷ slots) w e h = absurd cc
  no_register_name-keyword (t ∷ ts) (Keyword v ∷ slots) w e h =
      no_register_name-keyword ts slots w (and_parts _ (is_register_free spelling slots) e).1 h.1
  no_register_name-keyword (t ∷ ts) (slot ∷ slots) w e h = no_register_name-keyword ts slots w e h.1

  -- A slot that accepts a register's name is that of a register, unless it is a keyword that names one.
  IsRegisterSlot-of_name : (slot : Slot W) (g : SlotValue slot) (q : Bytes) (r : ℕ)
      → ((w : W) → slot ≡ Keyword w → not (names_register spelling (spelling.text_of w)) ≡ true)
      → IsRegisterName spelling.language.arch q r
      → Gives spelling q slot g
      → IsRegisterSlot slot
  IsRegisterSlot-of_name (Keyword w) g q r free reg h = absurd (no_register-if_keyword spelling q w r (free w refl) h reg)
  IsRegisterSlot-of_name Register g q r free reg h = inl refl
  IsRegisterSlot-of_name Location x q r free reg h =
      absurd (not-register_and_location _ q r reg (subst IsUnreservedName (sym h.0) h.1))
  IsRegisterSlot-of_name Value g q r free reg h = inr refl
  IsRegisterSlot-of_name Number n q r free reg h = absurd (not-register_and_number _ q r n reg h)
  IsRegisterSlot-of_name Label x q r free reg h =
      absurd (not-register_and_location _ q r reg (subst IsUnreservedName (sym h.0) h.1))

  module _ (made : Form → Operands → Option Stmt) (lawful : IsSpelling spelling made) (ts : TokenList) where
    -- If a register may follow the tokens, some form has one there.
    pub HasSlotAfter-before_register : IsBeforeRegister (grammar_of spelling) ts → HasSlotAfter spelling IsRegisterSlot ts
    HasSlotAfter-before_register b =
        let h = HasSlotAfter-if_begins ts b.name b.begins in
        let free = list_all-get _ spelling.forms h.1.0 h.0 lawful.words h.1.1 h.1.2 in (
          h.0,
          h.1,
          (
            h.2.0,
            h.2.1,
            IsRegisterSlot-of_name h.2.0 h.2.2.0.0 b.name b.register (λ w is.
                no_register_name-keyword ts (spelling.slots_of h.0) w free
                (subst (λ (s : Slot W). IsSlotAfter spelling ts (spelling.slots_of h.0) s) is h.2.1)) b.named h.2.2.1.0,
          ),
        )

    -- If some form has a location after the tokens, it is not so that a register may follow and no location.
    pub not-IsBeforeRegister-before_location : HasSlotAfter spelling IsLocationSlot ts
        → IsBeforeRegister (grammar_of spelling) ts
        → ⊥
    not-IsBeforeRegister-before_location (form, there, (slot, after, is)) b =
        let x = codes "x" in
        let loc : IsUnreservedName x = (name_by_test (codes "x") refl, refl) in
        b.no_location x loc
        (BeginsStatement-after form Location ts x there
        (subst (λ (u : Slot W). IsSlotAfter spelling ts (spelling.slots_of form) u) is after) ((x, tt), ((refl, loc), tt)))

    -- A slot that takes a register accepts the name of the first register.
    CanFill-register : (slot : Slot W)
        → IsRegisterSlot slot
        → CanFill spelling (register_name spelling.language.arch 0 ∷ []) (slot ∷ []) × (is_operand_slot slot ≡ true)
    CanFill-register Register h = (((0, tt), ((omega arith, refl), tt)), refl)
    CanFill-register Value h = (((operand.Register 0, tt), ((omega arith, refl), tt)), refl)
    CanFill-register slot (inl e) = absurd cc
    CanFill-register slot (inr e) = absurd cc

    -- If some form has a register after the tokens, and none a location, a register may follow and no location.
    pub IsBeforeRegister-of_slots : HasSlotAfter spelling IsRegisterSlot ts
        → (HasSlotAfter spelling IsLocationSlot ts → ⊥)
        → IsBeforeRegister (grammar_of spelling) ts
    IsBeforeRegister-of_slots (form, there, (slot, after, is)) none =
        let s = CanFill-register slot is in
        record {
          name = register_name spelling.language.arch 0;
          register = 0;
          named = (omega arith, refl);
          begins = BeginsStatement-after form slot ts _ there after s.0;
          no_location = λ x loc b.
              let h = HasSlotAfter-if_begins ts x b in
              let is = only_location made lawful ts form there slot after s.1 h.0 h.2.0 x h.1 h.2.1 h.2.2 loc in
              none (h.0, h.1, (h.2.0, h.2.1, is));
        }
