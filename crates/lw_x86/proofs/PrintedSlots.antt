-- Printed slots: each text spells a token, which gives the slot's value. Instructions are printed slot by
-- slot (PrintedInstructions).
use Rattle.lw_x86.proofs.Common.{most_name_bytes, ◌≡◌, ℕ, ◌+◌, ◌<◌, ◌⊎◌, inl, inr, Bool, true, false, List}
use Rattle.lw_x86.proofs.Common.{[], ◌∷◌, ◌++◌, length, refl, arith, append_assoc, ◌==◌, ◌&&◌, ◌||◌, decimal}
use Rattle.lw_x86.proofs.Common.{eqb-true, AllByRecursion, cases_Bool, and_parts, decimal_nonempty, Bytes}
use Rattle.lw_x86.proofs.Common.{TokenList, X86, is_name_byte, IsName, IsUnreservedName, register_name}
use Rattle.lw_x86.proofs.Common.{IsRegisterIndex, IsWordNumber, ends_cell, Anything, EndsName, Spells}
use Rattle.lw_x86.proofs.Common.{Spells-append, Spells-append_anything, Spells-mono, Spells-before}
use Rattle.lw_x86.proofs.Common.{Spells-nothing, Spells-space, Spells-single_symbol, Spells-name}
use Rattle.lw_x86.proofs.Common.{Spells-number, name_by_test, decimal_is_number, decimal_is_name_run}
use Rattle.lw_x86.proofs.Common.{Spells-register, register_is_name, Slot, Keyword, Value, Label, SlotValue}
use Rattle.lw_x86.proofs.Common.{Filling, Gives, Fills, X86Keyword, Open, Close, Comma, Dollar}
use Rattle.lw_x86.proofs.Common.{x86_keyword_text, x86_spelling, slot_text, is_sign, slots_text, EndsNoCell}
use Rattle.lw_statements.specs.declared.slot.Slot.TheVariants.{Register, Location, Number}
use Rattle.lw_base.specs.declared.operand.Operand.TheVariants as operand

-- ---- no token ends a cell

-- A token that starts with a name byte ends no cell.
name_byte_ends_no_cell : (b : ℕ) (w : Bytes) → is_name_byte b ≡ true → ends_cell (b ∷ w) ≡ false
name_byte_ends_no_cell b w h = rw (name_byte_ne_other b h 124 refl, name_byte_ne_other b h 59 refl) refl
  where
    -- A name byte differs from each byte that is none.
    name_byte_ne_other : (b : ℕ) → is_name_byte b ≡ true → (c : ℕ) → is_name_byte c ≡ false → (b == c) ≡ false
    name_byte_ne_other b h c k = elim (cases_Bool (b == c)) [
      | inl e ↦ absurd (let i : is_name_byte b ≡ is_name_byte c = rw (eqb-true b c e) refl in cc)
      | inr e ↦ e
    ]

-- A run of name bytes ends no cell.
run_no_end : (w : Bytes) → 0 < length w → AllByRecursion (λ b. is_name_byte b ≡ true) w → ends_cell w ≡ false
run_no_end [] some all = absurd (omega arith)
run_no_end (b ∷ w) some all = name_byte_ends_no_cell b w all.0

-- A name ends no cell.
pub name_no_end : (w : Bytes) → IsName w → ends_cell w ≡ false
name_no_end w n = run_no_end w n.0.not_empty n.0.are_name_bytes

-- ---- mnemonics and signs

-- The keyword is a mnemonic: a name, and no sign.
record IsMnemonic (w : X86Keyword) : Type 0 where
  no_sign : is_sign w ≡ false
  name : IsName (x86_keyword_text w)

-- The keyword is a sign: it spells one token, ends a name before it, and ends no cell.
record IsSign (w : X86Keyword) : Type 0 where
  sign : is_sign w ≡ true
  spells : Spells Anything 1 (x86_keyword_text w) (x86_keyword_text w ∷ [])
  ends : (rest : Bytes) → EndsName (x86_keyword_text w ++ rest)
  plain : ends_cell (x86_keyword_text w) ≡ false

-- Each keyword of x86 is a mnemonic or a sign.
is_mnemonic_or_sign : (w : X86Keyword) → IsMnemonic w ⊎ IsSign w
is_mnemonic_or_sign Open = inr (record {
  sign = refl;
  spells = Spells-single_symbol 91 refl (λ c. refl) refl (omega arith);
  ends = λ rest. refl;
  plain = refl;
})
is_mnemonic_or_sign Close = inr (record {
  sign = refl;
  spells = Spells-single_symbol 93 refl (λ c. refl) refl (omega arith);
  ends = λ rest. refl;
  plain = refl;
})
is_mnemonic_or_sign Comma = inr (record {
  sign = refl;
  spells = Spells-single_symbol 44 refl (λ c. refl) refl (omega arith);
  ends = λ rest. refl;
  plain = refl;
})
is_mnemonic_or_sign Dollar = inr (record {
  sign = refl;
  spells = Spells-single_symbol 36 refl (λ c. refl) refl (omega arith);
  ends = λ rest. refl;
  plain = refl;
})
is_mnemonic_or_sign w = inl (record { no_sign = refl; name = name_by_test _ refl })

-- ---- values that can be printed

-- The value of a slot can be printed: a register, an allowed name, or a word.
abbrev pub IsPrintable : (slot : Slot X86Keyword) → SlotValue slot → Type 0
IsPrintable (Keyword w) g = Unit {0}
IsPrintable Register r = IsRegisterIndex r
IsPrintable Location x = IsUnreservedName x
IsPrintable Value (operand.Register r) = IsRegisterIndex r
IsPrintable Value (operand.Number n) = IsWordNumber n
IsPrintable Number n = IsWordNumber n
IsPrintable Label l = IsUnreservedName l

-- Each slot's value can be printed.
abbrev pub ArePrintable : (slots : List (Slot X86Keyword)) → Filling slots → Type 0
ArePrintable [] f = Unit {0}
ArePrintable (slot ∷ slots) (g, f) = IsPrintable slot g × ArePrintable slots f

-- Tests whether the slot is a keyword's.
abbrev pub is_keyword_slot : Slot X86Keyword → Bool
is_keyword_slot (Keyword w) = true
is_keyword_slot slot = false

-- Tests whether the slot is a sign's.
abbrev pub is_sign_slot : Slot X86Keyword → Bool
is_sign_slot (Keyword w) = is_sign w
is_sign_slot slot = false

-- Of each two adjacent slots the first is a keyword or the second a sign.
abbrev pub are_spaced : List (Slot X86Keyword) → Bool
are_spaced [] = true
are_spaced (slot ∷ []) = true
are_spaced (slot ∷ next ∷ slots) = (is_keyword_slot slot || is_sign_slot next) && are_spaced (next ∷ slots)

-- The maximum length of what is printed at a slot, in bytes, with the blank after a mnemonic.
abbrev pub most_slot_bytes : Slot X86Keyword → ℕ
most_slot_bytes (Keyword w) = 1 + length (x86_keyword_text w)
most_slot_bytes slot = most_name_bytes

-- The maximum length of what is printed at all slots, in bytes.
abbrev pub most_slots_bytes : List (Slot X86Keyword) → ℕ
most_slots_bytes [] = 0
most_slots_bytes (slot ∷ slots) = most_slot_bytes slot + most_slots_bytes slots

-- The tokens of slots, one for each.
abbrev pub slots_tokens : (slots : List (Slot X86Keyword)) → Filling slots → TokenList
slots_tokens [] f = []
slots_tokens (slot ∷ slots) (g, f) = slot_text slot g ∷ slots_tokens slots f

-- ---- a slot

-- A name spells one token, of the same number of bytes.
name_spelled : (w : Bytes) → IsName w → Spells EndsName (length w) w (w ∷ [])
name_spelled w name = let s = Spells-name w name in record { before = s.before; short = omega arith; utf8 = s.utf8 }

-- A number ends no cell.
number_no_end : (n : ℕ) → IsWordNumber n → ends_cell (decimal n) ≡ false
number_no_end n p = run_no_end (decimal n) (decimal_nonempty n (omega (arith, p))) (decimal_is_name_run n p)

-- The value is printed at the slot as one token, which gives the value and ends no cell.
record IsPrinted (slot : Slot X86Keyword) (g : SlotValue slot) : Type 0 where
  spelled : Spells EndsName (most_slot_bytes slot) (slot_text slot g) (slot_text slot g ∷ [])
  said : Gives x86_spelling (slot_text slot g) slot g
  plain : ends_cell (slot_text slot g) ≡ false

-- A register's name ends no cell.
register_no_end : (r : ℕ) → IsRegisterIndex r → ends_cell (register_name X86 r) ≡ false
register_no_end r p = name_no_end (register_name X86 r) (register_is_name X86 r p)

-- A value that can be printed is printed as one token.
IsPrinted-IsPrintable : (slot : Slot X86Keyword) (g : SlotValue slot) → IsPrintable slot g → IsPrinted slot g
IsPrinted-IsPrintable (Keyword w) g p = elim (is_mnemonic_or_sign w) [
  | inl m ↦ record {
    spelled = Spells-mono (1 + length (x86_keyword_text w)) (omega arith) (name_spelled (x86_keyword_text w) m.name);
    said = refl;
    plain = name_no_end (x86_keyword_text w) m.name;
  }
  | inr s ↦ record {
    spelled = Spells-mono (1 + length (x86_keyword_text w)) (omega arith) (Spells-before EndsName (λ rest e. tt) s.spells);
    said = refl;
    plain = s.plain;
  }
]
IsPrinted-IsPrintable Register r p = record { spelled = Spells-register X86 r p; said = (p, refl); plain = register_no_end r p }
IsPrinted-IsPrintable Location x p = record { spelled = Spells-name x p.0; said = (refl, p); plain = name_no_end x p.0 }
IsPrinted-IsPrintable Value (operand.Register r) p =
    record { spelled = Spells-register X86 r p; said = (p, refl); plain = register_no_end r p }
IsPrinted-IsPrintable Value (operand.Number n) p = record {
  spelled = Spells-mono most_name_bytes (omega arith) (Spells-number n p);
  said = decimal_is_number n p;
  plain = number_no_end n p;
}
IsPrinted-IsPrintable Number n p = record {
  spelled = Spells-mono most_name_bytes (omega arith) (Spells-number n p);
  said = decimal_is_number n p;
  plain = number_no_end n p;
}
IsPrinted-IsPrintable Label l p = record { spelled = Spells-name l p.0; said = (refl, p); plain = name_no_end l p.0 }

-- A sign spells one token, which ends a name and no cell.
is_sign-sound : (w : X86Keyword) → is_sign w ≡ true → IsSign w
is_sign-sound w e = elim (is_mnemonic_or_sign w) [ inl m ↦ absurd (let other = m.no_sign in cc) | inr s ↦ s ]

-- Before slots of which the first is a sign's, a name ends.
sign_ends : (next : Slot X86Keyword) (slots : List (Slot X86Keyword)) (h : SlotValue next) (f : Filling slots)
    → is_sign_slot next ≡ true
    → (rest : Bytes)
    → EndsName (slots_text (next ∷ slots) (h, f) ++ rest)
sign_ends (Keyword w) [] h f e rest = (is_sign-sound w e).ends rest
sign_ends (Keyword w) (next ∷ slots) h (k, f) e rest = rw (append_assoc (x86_keyword_text w)) ((is_sign-sound w e).ends _)
sign_ends next slots h f e rest = absurd cc

module _ (next : Slot X86Keyword) (slots : List (Slot X86Keyword)) (h : SlotValue next) (f : Filling slots) (n : ℕ)
    (us : TokenList) (after : Spells EndsName n (slots_text (next ∷ slots) (h, f)) us) where
  -- A slot's text spells its token if what follows ends a name.
  front_spelled : (slot : Slot X86Keyword) (g : SlotValue slot)
      → IsPrintable slot g
      → (is_keyword_slot slot || is_sign_slot next) ≡ true
      → Spells EndsName (most_slot_bytes slot + n) (slots_text (slot ∷ next ∷ slots) (g, (h, f))) (slot_text slot g ∷ us)
  front_spelled (Keyword w) g p e = elim (is_mnemonic_or_sign w) [
    | inl m ↦
        rw m.no_sign
        (Spells-mono (1 + length (x86_keyword_text w) + n) (omega arith)
        (Spells-append (λ rest g. refl) (name_spelled (x86_keyword_text w) m.name) (Spells-append_anything Spells-space after)))
    | inr s ↦ rw s.sign (Spells-mono (1 + length (x86_keyword_text w) + n) (omega arith) (Spells-append_anything s.spells after))
  ]
  front_spelled slot g p e =
      Spells-append (λ rest k. sign_ends next slots h f e rest) (IsPrinted-IsPrintable slot g p).spelled after

-- ---- slots

-- If slots are spaced, and their values can be printed, the text of the slots spells their tokens.
pub slots_spelled : (slots : List (Slot X86Keyword)) (f : Filling slots)
    → ArePrintable slots f
    → are_spaced slots ≡ true
    → Spells EndsName (most_slots_bytes slots) (slots_text slots f) (slots_tokens slots f)
slots_spelled [] f p e = Spells-nothing EndsName
slots_spelled (slot ∷ []) (g, f) p e =
    Spells-mono (most_slot_bytes slot + 0) (omega arith) (IsPrinted-IsPrintable slot g p.0).spelled
slots_spelled (slot ∷ next ∷ slots) (g, (h, f)) p e =
    let both = and_parts (is_keyword_slot slot || is_sign_slot next) (are_spaced (next ∷ slots)) e in
    front_spelled next slots h f (most_slots_bytes (next ∷ slots)) (slots_tokens (next ∷ slots) (h, f))
    (slots_spelled (next ∷ slots) (h, f) p.1 both.1) slot g p.0 both.0

-- The tokens of slots give the values that were printed.
pub Fills-slots_tokens : (slots : List (Slot X86Keyword)) (f : Filling slots)
    → ArePrintable slots f
    → Fills x86_spelling (slots_tokens slots f) slots f
Fills-slots_tokens [] f p = tt
Fills-slots_tokens (slot ∷ slots) (g, f) p = ((IsPrinted-IsPrintable slot g p.0).said, Fills-slots_tokens slots f p.1)

-- The tokens of slots contain no end of a cell.
pub slots_no_end : (slots : List (Slot X86Keyword)) (f : Filling slots) → ArePrintable slots f → EndsNoCell (slots_tokens slots f)
slots_no_end [] f p = tt
slots_no_end (slot ∷ slots) (g, f) p = ((IsPrinted-IsPrintable slot g p.0).plain, slots_no_end slots f p.1)
