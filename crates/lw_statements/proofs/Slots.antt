-- What tokens give at slots is unique, and forms whose slots differ exclude each other. So tokens say at most
-- one statement, if the language's forms are distinguishable, which is checked by computing.
use Rattle.lw_statements.proofs.Common.{registers, not-false, ◌≡◌, ℕ, ◌<◌, Bool, true, false, true≢false}
use Rattle.lw_statements.proofs.Common.{List, [], ◌∷◌, map, get_or, refl, sym, ap, ◌∙◌, subst, arith, inl}
use Rattle.lw_statements.proofs.Common.{inr, not, ◌||◌, codes, bytes_eq, eqb, eqb-true, list_any}
use Rattle.lw_statements.proofs.Common.{agree_below_at, cases_Bool, or_right, list_any_at, bytes_eq-Decides}
use Rattle.lw_statements.proofs.Common.{Bytes, TokenList, first_byte_is, is_ascii_digit, to_ascii_lowercase}
use Rattle.lw_statements.proofs.Common.{Arch, Source, X86, Operand, IsUnreservedName, is_reserved}
use Rattle.lw_statements.proofs.Common.{is_numbered_register, keywords, x86_registers, IsRegisterName}
use Rattle.lw_statements.proofs.Common.{register_name, lowercase_if_x86, register_of_name-unique, IsNumber}
use Rattle.lw_statements.proofs.Common.{number-unique, number_first, Slot, Keyword, Register, Location, Value}
use Rattle.lw_statements.proofs.Common.{Number, Label, IsOperand, Spelling, SlotValue, Filling, Gives, Fills}
use Rattle.lw_statements.proofs.Common.{names_register, tokens_differ, are_disjoint_forms}
use Rattle.lw_statements.proofs.Common.{begins_without_colon, cannot_be_location, is_word_slot, ltb, ltb-true}
use Rattle.lw_statements.proofs.Common.{ltb-false, is_name_byte, lowercase_is}
use Rattle.lw_base.specs.declared.operand.Operand.TheVariants as operand

-- ---- registers, numbers and names of locations

-- The name of a register of the source language, `r` and a digit, is reserved.
register_name-is_reserved : (r : ℕ) → r < registers → is_reserved (register_name Source r) ≡ true
register_name-is_reserved r h = agree_below_at (λ q. is_reserved (register_name Source q)) (λ q. true) 6 r refl h

-- The name of a register of x86, in lower case, is on the list of them.
list_any-x86_register_name : (r : ℕ)
    → r < registers
    → list_any (λ k. bytes_eq (lowercase_if_x86 X86 (register_name X86 r)) k) x86_registers ≡ true
list_any-x86_register_name r h =
    agree_below_at (λ q. list_any (λ k. bytes_eq (lowercase_if_x86 X86 (register_name X86 q)) k) x86_registers) (λ q. true) 6 r
    refl h

-- A token that names a register, of either language and in any case allowed, is reserved.
is_reserved-if_register_name : (arch : Arch) (w : Bytes) (r : ℕ) → IsRegisterName arch w r → is_reserved w ≡ true
is_reserved-if_register_name Source w r h = ap is_reserved (sym h.1) ∙ register_name-is_reserved r h.0
is_reserved-if_register_name X86 w r h =
    or_right (is_numbered_register w || list_any (λ k. bytes_eq w k) keywords)
    (list_any (λ k. bytes_eq (map to_ascii_lowercase w) k) x86_registers)
    (ap (λ v. list_any (λ k. bytes_eq v k) x86_registers) (sym h.1) ∙ list_any-x86_register_name r h.0)

-- A register's name is no location's name.
pub not-register_and_location : (arch : Arch) (w : Bytes) (r : ℕ) → IsRegisterName arch w r → IsUnreservedName w → ⊥
not-register_and_location arch w r reg loc = true≢false (sym (is_reserved-if_register_name arch w r reg) ∙ loc.1)

-- A number is no location's name.
not-number_and_location : (w : Bytes) (n : ℕ) → IsNumber w n → IsUnreservedName w → ⊥
not-number_and_location w n num loc = true≢false (sym (number_first w n num) ∙ loc.0.0.front)

-- The name of a register, in lower case for x86, does not start with a digit.
not-digit_at_register_name : (arch : Arch) (r : ℕ)
    → r < registers
    → first_byte_is is_ascii_digit (lowercase_if_x86 arch (register_name arch r)) ≡ false
not-digit_at_register_name Source r h = refl
not-digit_at_register_name X86 r h =
    agree_below_at (λ q. first_byte_is is_ascii_digit (lowercase_if_x86 X86 (register_name X86 q))) (λ q. false) 6 r refl h

-- A digit in lower case is a digit.
is_ascii_digit-to_ascii_lowercase : (c : ℕ) → is_ascii_digit c ≡ true → is_ascii_digit (to_ascii_lowercase c) ≡ true
is_ascii_digit-to_ascii_lowercase c d = grind arith

-- What starts with a digit starts with a digit in lower case, too.
first_byte_is-lowercase : (arch : Arch) (w : Bytes)
    → first_byte_is is_ascii_digit w ≡ true
    → first_byte_is is_ascii_digit (lowercase_if_x86 arch w) ≡ true
first_byte_is-lowercase Source w d = d
first_byte_is-lowercase X86 [] d = absurd cc
first_byte_is-lowercase X86 (c ∷ w) d = is_ascii_digit-to_ascii_lowercase c d

-- No token is both a register's name and a number.
pub not-register_and_number : (arch : Arch) (w : Bytes) (r n : ℕ) → IsRegisterName arch w r → IsNumber w n → ⊥
not-register_and_number arch w r n reg num =
    true≢false (sym (first_byte_is-lowercase arch w (number_first w n num))
    ∙ ap (first_byte_is is_ascii_digit) (sym reg.1)
    ∙ not-digit_at_register_name arch r reg.0)

-- A token is at most one operand.
IsOperand-unique : (arch : Arch) (w : Bytes) (u v : Operand) → IsOperand arch w u → IsOperand arch w v → u ≡ v
IsOperand-unique arch w (operand.Register r) (operand.Register q) h k =
    ap operand.Register (register_of_name-unique arch w r q h k)
IsOperand-unique arch w (operand.Register r) (operand.Number n) h k = absurd (not-register_and_number arch w r n h k)
IsOperand-unique arch w (operand.Number n) (operand.Register r) h k = absurd (not-register_and_number arch w r n k h)
IsOperand-unique arch w (operand.Number n) (operand.Number m) h k = ap operand.Number (number-unique w n m h k)

-- No token is both an operand and a location's name.
not-operand_and_location : (arch : Arch) (w : Bytes) (v : Operand) → IsOperand arch w v → IsUnreservedName w → ⊥
not-operand_and_location arch w (operand.Register r) h = not-register_and_location arch w r h
not-operand_and_location arch w (operand.Number n) h = not-number_and_location w n h

-- Texts that the comparison finds unequal are unequal.
bytes_eq-false_inv : (u v : Bytes) → not (bytes_eq u v) ≡ true → u ≡ v → ⊥
bytes_eq-false_inv u v e same = true≢false (sym e ∙ ap not ((bytes_eq-Decides u v).1 same))

-- A `:` in lower case is a `:`.
colon_case : (arch : Arch) → lowercase_if_x86 arch (codes ":") ≡ codes ":"
colon_case Source = refl
colon_case X86 = refl

-- A `:` is no location's name.
not-IsUnreservedName-colon : IsUnreservedName (codes ":") → ⊥
not-IsUnreservedName-colon loc = true≢false (sym loc.0.0.are_name_bytes.0)

-- A byte is a name's if and only if it is one in lower case.
is_name_byte-to_ascii_lowercase : (b : ℕ) → is_name_byte (to_ascii_lowercase b) ≡ is_name_byte b
is_name_byte-to_ascii_lowercase b = elim (cases_Bool (ltb b 128)) [
  | inl e ↦ agree_below_at (λ q. is_name_byte (to_ascii_lowercase q)) is_name_byte 128 b refl (ltb-true b 128 e)
  | inr e ↦ ap is_name_byte ((lowercase_is b).2 (let most = ltb-false b 128 e in omega (arith, most)))
]

-- If bytes are equal in lower case, and one is a name's, so is the other.
name_byte_case : (b c : ℕ) → to_ascii_lowercase b ≡ to_ascii_lowercase c → is_name_byte c ≡ true → is_name_byte b ≡ true
name_byte_case b c e h = sym (is_name_byte-to_ascii_lowercase b) ∙ ap is_name_byte e ∙ is_name_byte-to_ascii_lowercase c ∙ h

-- A location's name is not empty, and its first byte is a name's.
first_byte_of_location : (t : Bytes) → IsUnreservedName t → first_byte_is is_name_byte t ≡ true
first_byte_of_location [] loc = absurd (omega (arith, loc.0.0.not_empty))
first_byte_of_location (b ∷ t) loc = loc.0.0.are_name_bytes.0

-- If two texts are equal in lower case, and one begins with a name's byte, so does the other.
first_byte_case : (w t : Bytes)
    → map to_ascii_lowercase w ≡ map to_ascii_lowercase t
    → first_byte_is is_name_byte t ≡ true
    → first_byte_is is_name_byte w ≡ true
first_byte_case [] [] e h = h
first_byte_case [] (c ∷ t) e h = absurd cc
first_byte_case (b ∷ w) [] e h = absurd cc
first_byte_case (b ∷ w) (c ∷ t) e h = name_byte_case b c (let f : to_ascii_lowercase b ≡ to_ascii_lowercase c = cc in f) h

-- A keyword that cannot be a location's name is not equal, up to case, to a location's name.
no_keyword-if_location_name : (arch : Arch) (w t : Bytes)
    → cannot_be_location arch w ≡ true
    → lowercase_if_x86 arch w ≡ lowercase_if_x86 arch t
    → IsUnreservedName t
    → ⊥
no_keyword-if_location_name Source w t none same loc = elim (cases_Bool (is_reserved w)) [
  | inl e ↦ true≢false (sym e ∙ ap is_reserved same ∙ loc.1)
  | inr e ↦ true≢false (sym none ∙ rw (e, ap (first_byte_is is_name_byte) same ∙ first_byte_of_location t loc) refl)
]
no_keyword-if_location_name X86 w t none same loc =
    true≢false (sym none ∙ ap not (first_byte_case w t same (first_byte_of_location t loc)))

module _ {W Form Stmt : Type 0} (spelling : Spelling W Form Stmt) where
  -- ---- one token

  -- A token gives at most one value at a slot.
  pub Gives-unique : (t : Bytes) (slot : Slot W) (g h : SlotValue slot)
      → Gives spelling t slot g
      → Gives spelling t slot h
      → g ≡ h
  Gives-unique t (Keyword w) g h a b = refl
  Gives-unique t Register g h a b = register_of_name-unique spelling.language.arch t g h a b
  Gives-unique t Location g h a b = sym a.0 ∙ b.0
  Gives-unique t Value g h a b = IsOperand-unique spelling.language.arch t g h a b
  Gives-unique t Number g h a b = number-unique t g h a b
  Gives-unique t Label g h a b = sym a.0 ∙ b.0

  -- A text that is a register's name, up to case, names a register.
  names_register-same_lowercase : (w : Bytes) (r : ℕ)
      → r < registers
      → lowercase_if_x86 spelling.language.arch (register_name spelling.language.arch r)
      ≡ lowercase_if_x86 spelling.language.arch w
      → names_register spelling w ≡ true
  names_register-same_lowercase w r h e =
      let all = 0 ∷ 1 ∷ 2 ∷ 3 ∷ 4 ∷ 5 ∷ [] in
      let there = eqb-true _ r (agree_below_at (λ q. eqb (get_or all q q) q) (λ q. true) 6 r refl h) in
      list_any_at (λ q.
      bytes_eq (lowercase_if_x86 spelling.language.arch (register_name spelling.language.arch q))
      (lowercase_if_x86 spelling.language.arch w)) all r r h (rw there ((bytes_eq-Decides _ _).1 e))

  -- A keyword that names no register is not equal, up to case, to a register's name.
  pub no_register-if_keyword : (t : Bytes) (w : W) (r : ℕ)
      → not (names_register spelling (spelling.text_of w)) ≡ true
      → lowercase_if_x86 spelling.language.arch (spelling.text_of w) ≡ lowercase_if_x86 spelling.language.arch t
      → IsRegisterName spelling.language.arch t r
      → ⊥
  no_register-if_keyword t w r none word reg =
      true≢false (sym none ∙ ap not (names_register-same_lowercase (spelling.text_of w) r reg.0 (reg.1 ∙ sym word)))

  -- No token is accepted by two slots that differ.
  pub not-Gives-differing_slots : (t : Bytes) (a b : Slot W) (g : SlotValue a) (h : SlotValue b)
      → tokens_differ spelling a b ≡ true
      → Gives spelling t a g
      → Gives spelling t b h
      → ⊥
  not-Gives-differing_slots t (Keyword v) (Keyword w) g h d x y = bytes_eq-false_inv _ _ d (x ∙ sym y)
  not-Gives-differing_slots t (Keyword w) Register g r d x y = no_register-if_keyword t w r d x y
  not-Gives-differing_slots t Register (Keyword w) r h d x y = no_register-if_keyword t w r d y x
  not-Gives-differing_slots t Register Location r n d x y =
      not-register_and_location _ t r x (subst IsUnreservedName (sym y.0) y.1)
  not-Gives-differing_slots t Location Register n r d x y =
      not-register_and_location _ t r y (subst IsUnreservedName (sym x.0) x.1)
  not-Gives-differing_slots t Location Value n v d x y = not-operand_and_location _ t v y (subst IsUnreservedName (sym x.0) x.1)
  not-Gives-differing_slots t Value Location v n d x y = not-operand_and_location _ t v x (subst IsUnreservedName (sym y.0) y.1)
  not-Gives-differing_slots t a b g h d x y = absurd cc

  -- A slot that accepts the name of a location, and is no word, is a location's.
  pub location_slot : (t : Bytes) (slot : Slot W) (g : SlotValue slot)
      → is_word_slot spelling slot ≡ false
      → Gives spelling t slot g
      → IsUnreservedName t
      → slot ≡ Location
  location_slot t (Keyword w) g none h loc =
      absurd (no_keyword-if_location_name spelling.language.arch (spelling.text_of w) t (not-false _ none) h loc)
  location_slot t Register r none h loc = absurd (not-register_and_location _ t r h loc)
  location_slot t Location x none h loc = refl
  location_slot t Value v none h loc = absurd (not-operand_and_location _ t v h loc)
  location_slot t Number n none h loc = absurd (not-number_and_location t n h loc)
  location_slot t Label x none h loc = absurd (true≢false none)

  -- A `:` is accepted only by its own slot.
  pub no_colon-in_other_slot : (slot : Slot W) (slots : List (Slot W)) (g : SlotValue slot)
      → begins_without_colon spelling (slot ∷ slots) ≡ true
      → Gives spelling (codes ":") slot g
      → ⊥
  no_colon-in_other_slot (Keyword w) slots g apart h = bytes_eq-false_inv _ _ apart (h ∙ colon_case spelling.language.arch)
  no_colon-in_other_slot Register slots r apart h = true≢false (sym (is_reserved-if_register_name _ (codes ":") r h))
  no_colon-in_other_slot Location slots x apart h = not-IsUnreservedName-colon (subst IsUnreservedName (sym h.0) h.1)
  no_colon-in_other_slot Value slots (operand.Register r) apart h = true≢false (sym (is_reserved-if_register_name _ _ r h))
  no_colon-in_other_slot Value slots (operand.Number n) apart h = true≢false (sym (number_first (codes ":") n h))
  no_colon-in_other_slot Number slots n apart h = true≢false (sym (number_first (codes ":") n h))
  no_colon-in_other_slot Label slots l apart h = not-IsUnreservedName-colon (subst IsUnreservedName (sym h.0) h.1)

  -- ---- several tokens

  -- Tokens give at most one filling of slots.
  pub Fills-unique : (ts : TokenList) (slots : List (Slot W)) (f g : Filling slots)
      → Fills spelling ts slots f
      → Fills spelling ts slots g
      → f ≡ g
  Fills-unique [] [] f g a b = refl
  Fills-unique [] (slot ∷ slots) f g a b = absurd a
  Fills-unique (t ∷ ts) [] f g a b = absurd a
  Fills-unique (t ∷ ts) (slot ∷ slots) (x, f) (y, g) a b =
      let h = Fills-unique ts slots f g a.1 b.1 in
      ap (λ (z : SlotValue slot). (z, f)) (Gives-unique t slot x y a.0 b.0) ∙ ap (λ (z : Filling slots). (y, z)) h

  -- No tokens fill two disjoint lists of slots.
  pub not-Fills-disjoint : (ts : TokenList) (first second : List (Slot W)) (f : Filling first) (g : Filling second)
      → are_disjoint_forms spelling first second ≡ true
      → Fills spelling ts first f
      → Fills spelling ts second g
      → ⊥
  not-Fills-disjoint [] [] [] f g d x y = absurd cc
  not-Fills-disjoint (t ∷ ts) [] second f g d x y = x
  not-Fills-disjoint [] (a ∷ first) second f g d x y = x
  not-Fills-disjoint [] [] (b ∷ second) f g d x y = y
  not-Fills-disjoint (t ∷ ts) (a ∷ first) [] f g d x y = y
  not-Fills-disjoint (t ∷ ts) (a ∷ first) (b ∷ second) (p, f) (q, g) d x y = elim (cases_Bool (tokens_differ spelling a b)) [
    | inl e ↦ not-Gives-differing_slots t a b p q e x.0 y.0
    | inr e ↦
        not-Fills-disjoint ts first second f g
        (let h : (false || are_disjoint_forms spelling first second) ≡ true =
        subst (λ (z : Bool). (z || are_disjoint_forms spelling first second) ≡ true) e d in
        h) x.1 y.1
  ]
