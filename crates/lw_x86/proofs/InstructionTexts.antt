-- The text of an instruction, from those of its operands. `write_instruction` prints each instruction by its
-- operands.
use Rattle.lw_x86.proofs.Common.{◌≡◌, ℕ, refl, append_assoc, codes, slice_index_or, [], Bytes, NameTable, X86}
use Rattle.lw_x86.proofs.Common.{Operand, Number, register_name, Store, Set, Add, Cmp, ◌++◌, instruction_text}
use Rattle.lw_x86.proofs.Common.{operand_text, memory_text, with_operands}
use Rattle.lw_base.specs.declared.operand.Operand.TheVariants.{Register}

module _ (names : NameTable) (x : ℕ) where
  -- The name of the location.
  abbrev name : Bytes
  name = slice_index_or names x []

  -- `MOV [x],a` or `MOV [x],$n` is the text of a store.
  pub store_text : (v : Operand)
      → with_operands (codes "MOV") (memory_text names x) (operand_text v) ≡ instruction_text names (Store x v)
  store_text (Register r) = rw (append_assoc name (codes "]")) refl
  store_text (Number n) = rw (append_assoc name (codes "]")) refl

  -- The text of an instruction with a location and a register, such as `XCHG [x],a`.
  pub memory_register_text : (mnemonic : Bytes) (r : ℕ)
      → with_operands mnemonic (memory_text names x) (register_name X86 r)
      ≡ mnemonic ++ (codes " " ++ (codes "[" ++ (name ++ (codes "]" ++ (codes "," ++ register_name X86 r)))))
  memory_register_text mnemonic r = rw (append_assoc name (codes "]")) refl

module _ (names : NameTable) (d : ℕ) where
  -- `MOV d,a` or `MOV d,$n` is the text of a set.
  pub set_text : (v : Operand)
      → with_operands (codes "MOV") (register_name X86 d) (operand_text v) ≡ instruction_text names (Set d v)
  set_text (Register r) = refl
  set_text (Number n) = refl

  -- `ADD d,a` or `ADD d,$n` is the text of an addition.
  pub add_text : (v : Operand)
      → with_operands (codes "ADD") (register_name X86 d) (operand_text v) ≡ instruction_text names (Add d v)
  add_text (Register r) = refl
  add_text (Number n) = refl

  -- `CMP a,b` or `CMP a,$n` is the text of a comparison.
  pub compare_text : (v : Operand)
      → with_operands (codes "CMP") (register_name X86 d) (operand_text v) ≡ instruction_text names (Cmp d v)
  compare_text (Register r) = refl
  compare_text (Number n) = refl
