-- Printed instructions: their texts spell tokens, which say them. One row for each form of instructions.
use Rattle.lw_x86.proofs.Common.{◌+◌, most_number_bytes, EndsNoCell, ◌≡◌, ℕ, ◌<◌, ◌≤◌, ◌^◌, inl, true, false}
use Rattle.lw_x86.proofs.Common.{[], ◌∷◌, length, refl, ap, arith, slice_index_or, Contains, option_map}
use Rattle.lw_x86.proofs.Common.{AllByRecursion, ForSome, recursion_from_All, NameTable, TokenList, Number}
use Rattle.lw_x86.proofs.Common.{IsUnreservedName, IsRegisterIndex, IsWordNumber, begins_stop, EndsName}
use Rattle.lw_x86.proofs.Common.{Spells, Spells-mono, Spells-run, decimal_is_name_run, decimal_is_short}
use Rattle.lw_x86.proofs.Common.{IsUnreservedName-in_table, IsWellFormedStatement, registers_of, numbers_of}
use Rattle.lw_x86.proofs.Common.{Instr, branch_target, location_of, x86_language, x86_operation, Fills}
use Rattle.lw_x86.proofs.Common.{ParsesStatement, name_in, label_in, x86_forms, x86_slots, instruction}
use Rattle.lw_x86.proofs.Common.{x86_spelling, label, printed_form, instruction_text}
use Rattle.lw_base.specs.declared.operand.Operand.TheVariants.{Register}
use Rattle.lw_x86.proofs.PrintedSlots.{ArePrintable, are_spaced, most_slots_bytes, slots_tokens}
use Rattle.lw_x86.proofs.PrintedSlots.{slots_spelled, Fills-slots_tokens, slots_no_end}
use Rattle.lw_litmus.specs.declared.instr.Instr.TheVariants as instr

-- ---- labels

-- A label of an instruction is a name that is not reserved.
pub label_is_location : (k : ℕ) → k < 2 ^ 32 → IsUnreservedName (label k)
label_is_location k h = (
  (
    record { not_empty = omega arith; are_name_bytes = (refl, decimal_is_name_run k h); front = refl },
    omega (arith, decimal_is_short k h),
  ),
  refl,
)

-- The maximum length of a label, in bytes: `L` and a number.
abbrev pub most_label_bytes : ℕ
most_label_bytes = 1 + most_number_bytes

-- The text of a label spells one token.
pub Spells-label : (k : ℕ) → k < 2 ^ 32 → Spells EndsName most_label_bytes (label k) (label k ∷ [])
Spells-label k h =
    Spells-run most_label_bytes (label k) (refl, decimal_is_name_run k h) (inl (label_is_location k h).0)
    (omega (arith, decimal_is_short k h))

-- ---- the printed form of an instruction

-- The instruction's target, if it has one, is below `2 ^ 32`.
abbrev pub HasSmallTarget : Instr → Type 0
HasSmallTarget i = ForSome (branch_target (x86_operation i)) (λ to. to < 2 ^ 32)

-- The tokens of an instruction, slot by slot of its form.
abbrev pub instruction_tokens : NameTable → Instr → TokenList
instruction_tokens names i = slots_tokens (x86_slots (printed_form names i).form) (printed_form names i).filling

-- The maximum length of an instruction, in bytes.
abbrev pub most_instruction_bytes : ℕ
most_instruction_bytes = 133

-- The form is short and starts with a mnemonic; it has the instruction's location and label, and with them gives the instruction.
pub record IsPrintedAs (names : NameTable) (i : Instr) (s : ParsesStatement x86_spelling) : Type 0 where
  pub form_is_listed : Contains x86_forms s.form
  pub spaced : are_spaced (x86_slots s.form) ≡ true
  pub short : most_slots_bytes (x86_slots s.form) ≤ most_instruction_bytes
  pub starts : begins_stop (slots_tokens (x86_slots s.form) s.filling) ≡ false
  pub name : name_in (x86_slots s.form) s.filling ≡ option_map (λ x. slice_index_or names x []) (location_of (x86_operation i))
  pub label_is : label_in (x86_slots s.form) s.filling ≡ option_map label (branch_target (x86_operation i))
  pub gives_back : (x to : ℕ)
      → ForSome (location_of (x86_operation i)) (λ y. x ≡ y)
      → ForSome (branch_target (x86_operation i)) (λ t. to ≡ t)
      → instruction x to s.form s.filling ≡ i

module _ (names : NameTable) where
  -- What must be checked of a form: its slots can be printed, and its operation names the location, target,
  -- registers and numbers of the instruction.
  IsPrintedAs-by_form : {i : Instr} {s : ParsesStatement x86_spelling}
      → Contains x86_forms s.form
      → are_spaced (x86_slots s.form) ≡ true
      → most_slots_bytes (x86_slots s.form) ≤ most_instruction_bytes
      → begins_stop (slots_tokens (x86_slots s.form) s.filling) ≡ false
      → name_in (x86_slots s.form) s.filling ≡ option_map (λ x. slice_index_or names x []) (location_of (x86_operation i))
      → label_in (x86_slots s.form) s.filling ≡ option_map label (branch_target (x86_operation i))
      → ((x to : ℕ)
      → ForSome (location_of (x86_operation i)) (λ y. x ≡ y)
      → ForSome (branch_target (x86_operation i)) (λ t. to ≡ t)
      → instruction x to s.form s.filling ≡ i)
      → IsPrintedAs names i s
  IsPrintedAs-by_form there spaced short starts name led gives_back = record {
    form_is_listed = there;
    spaced = spaced;
    short = short;
    starts = starts;
    name = name;
    label_is = led;
    gives_back = gives_back;
  }

  -- Each instruction has such a printed form.
  pub IsPrintedAs-each : (i : Instr) → IsPrintedAs names i (printed_form names i)
  IsPrintedAs-each (instr.Store x (Register a)) =
      IsPrintedAs-by_form (0, omega arith, refl) refl (omega arith) refl refl refl
      (λ y to p q. ap (λ (z : ℕ). instr.Store z (Register a)) (p x refl))
  IsPrintedAs-each (instr.Store x (Number n)) =
      IsPrintedAs-by_form (1, omega arith, refl) refl (omega arith) refl refl refl
      (λ y to p q. ap (λ (z : ℕ). instr.Store z (Number n)) (p x refl))
  IsPrintedAs-each (instr.Load d x) =
      IsPrintedAs-by_form (2, omega arith, refl) refl (omega arith) refl refl refl (λ y to p q. ap (instr.Load d) (p x refl))
  IsPrintedAs-each (instr.Set d (Register a)) =
      IsPrintedAs-by_form (3, omega arith, refl) refl (omega arith) refl refl refl (λ y to p q. refl)
  IsPrintedAs-each (instr.Set d (Number n)) =
      IsPrintedAs-by_form (4, omega arith, refl) refl (omega arith) refl refl refl (λ y to p q. refl)
  IsPrintedAs-each (instr.Add d (Register a)) =
      IsPrintedAs-by_form (5, omega arith, refl) refl (omega arith) refl refl refl (λ y to p q. refl)
  IsPrintedAs-each (instr.Add d (Number n)) =
      IsPrintedAs-by_form (6, omega arith, refl) refl (omega arith) refl refl refl (λ y to p q. refl)
  IsPrintedAs-each (instr.Cmp a (Register b)) =
      IsPrintedAs-by_form (7, omega arith, refl) refl (omega arith) refl refl refl (λ y to p q. refl)
  IsPrintedAs-each (instr.Cmp a (Number n)) =
      IsPrintedAs-by_form (8, omega arith, refl) refl (omega arith) refl refl refl (λ y to p q. refl)
  IsPrintedAs-each (instr.Xchg x a) =
      IsPrintedAs-by_form (9, omega arith, refl) refl (omega arith) refl refl refl
      (λ y to p q. ap (λ (z : ℕ). instr.Xchg z a) (p x refl))
  IsPrintedAs-each (instr.Xadd x a) =
      IsPrintedAs-by_form (13, omega arith, refl) refl (omega arith) refl refl refl
      (λ y to p q. ap (λ (z : ℕ). instr.Xadd z a) (p x refl))
  IsPrintedAs-each instr.Mfence = IsPrintedAs-by_form (14, omega arith, refl) refl (omega arith) refl refl refl (λ y to p q. refl)
  IsPrintedAs-each (instr.Je to) =
      IsPrintedAs-by_form (15, omega arith, refl) refl (omega arith) refl refl refl (λ y t p q. ap instr.Je (q to refl))
  IsPrintedAs-each (instr.Jne to) =
      IsPrintedAs-by_form (16, omega arith, refl) refl (omega arith) refl refl refl (λ y t p q. ap instr.Jne (q to refl))
  IsPrintedAs-each (instr.Jmp to) =
      IsPrintedAs-by_form (17, omega arith, refl) refl (omega arith) refl refl refl (λ y t p q. ap instr.Jmp (q to refl))

module _ (names : NameTable) (table : AllByRecursion IsUnreservedName names) where
  -- The filling of an instruction's form can be printed if its location, registers, numbers and target are in range.
  ArePrintable-of_operands : (i : Instr)
      → ForSome (location_of (x86_operation i)) (λ x. x < length names)
      → AllByRecursion IsRegisterIndex (registers_of (x86_operation i))
      → AllByRecursion IsWordNumber (numbers_of (x86_operation i))
      → HasSmallTarget i
      → ArePrintable (x86_slots (printed_form names i).form) (printed_form names i).filling
  ArePrintable-of_operands (instr.Store x (Register a)) l r n t =
      (tt, (tt, (IsUnreservedName-in_table _ x table (l x refl), (tt, (tt, (r.0, tt))))))
  ArePrintable-of_operands (instr.Store x (Number k)) l r n t =
      (tt, (tt, (IsUnreservedName-in_table names x table (l x refl), (tt, (tt, (tt, (n.0, tt)))))))
  ArePrintable-of_operands (instr.Load d x) l r n t =
      (tt, (r.0, (tt, (tt, (IsUnreservedName-in_table names x table (l x refl), (tt, tt))))))
  ArePrintable-of_operands (instr.Set d (Register a)) l r n t = (tt, (r.0, (tt, (r.1.0, tt))))
  ArePrintable-of_operands (instr.Set d (Number k)) l r n t = (tt, (r.0, (tt, (tt, (n.0, tt)))))
  ArePrintable-of_operands (instr.Add d (Register a)) l r n t = (tt, (r.0, (tt, (r.1.1.0, tt))))
  ArePrintable-of_operands (instr.Add d (Number k)) l r n t = (tt, (r.0, (tt, (tt, (n.0, tt)))))
  ArePrintable-of_operands (instr.Cmp a (Register b)) l r n t = (tt, (r.0, (tt, (r.1.0, tt))))
  ArePrintable-of_operands (instr.Cmp a (Number k)) l r n t = (tt, (r.0, (tt, (tt, (n.0, tt)))))
  ArePrintable-of_operands (instr.Xchg x a) l r n t =
      (tt, (tt, (IsUnreservedName-in_table names x table (l x refl), (tt, (tt, (r.0, tt))))))
  ArePrintable-of_operands (instr.Xadd x a) l r n t =
      (tt, (tt, (tt, (IsUnreservedName-in_table names x table (l x refl), (tt, (tt, (r.0, tt)))))))
  ArePrintable-of_operands instr.Mfence l r n t = (tt, tt)
  ArePrintable-of_operands (instr.Je to) l r n t = (tt, (label_is_location to (t to refl), tt))
  ArePrintable-of_operands (instr.Jne to) l r n t = (tt, (label_is_location to (t to refl), tt))
  ArePrintable-of_operands (instr.Jmp to) l r n t = (tt, (label_is_location to (t to refl), tt))

  -- The operands of a well-formed instruction can be printed in its form's slots.
  ArePrintable-of_instruction : (i : Instr)
      → IsWellFormedStatement x86_language (length names) i
      → HasSmallTarget i
      → ArePrintable (x86_slots (printed_form names i).form) (printed_form names i).filling
  ArePrintable-of_instruction i h t =
      ArePrintable-of_operands i h.0 (recursion_from_All _ _ h.1) (recursion_from_All IsWordNumber _ h.2) t

  -- The text of a well-formed instruction with a small target spells its tokens.
  pub instruction_spelled : (i : Instr)
      → IsWellFormedStatement x86_language (length names) i
      → HasSmallTarget i
      → Spells EndsName most_instruction_bytes (instruction_text names i) (instruction_tokens names i)
  instruction_spelled i h t =
      let p = IsPrintedAs-each names i in
      Spells-mono most_instruction_bytes p.short
      (slots_spelled _ (printed_form names i).filling (ArePrintable-of_instruction i h t) p.spaced)

  -- The tokens of a well-formed instruction with a small target fill the slots of its form.
  pub Fills-instruction_tokens : (i : Instr)
      → IsWellFormedStatement x86_language (length names) i
      → HasSmallTarget i
      → Contains x86_forms (printed_form names i).form
      × Fills x86_spelling (instruction_tokens names i) (x86_slots (printed_form names i).form) (printed_form names i).filling
  Fills-instruction_tokens i h t = (
    (IsPrintedAs-each _ i).form_is_listed,
    Fills-slots_tokens _ (printed_form names i).filling (ArePrintable-of_instruction i h t),
  )

  -- The tokens of a well-formed instruction with a small target contain no end of a cell.
  pub instruction_no_end : (i : Instr)
      → IsWellFormedStatement x86_language (length names) i
      → HasSmallTarget i
      → EndsNoCell (instruction_tokens names i)
  instruction_no_end i h t = slots_no_end _ (printed_form names i).filling (ArePrintable-of_instruction i h t)
