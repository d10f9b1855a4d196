-- `write_on_memory` promises a mnemonic, a location in brackets and an operand. The written pieces are these,
-- differently grouped (`operands-regrouped`), followed by the operand.
use Rattle.lw_x86.proofs.Common.{byte, ◌≡◌, [], ◌∷◌, ◌++◌, append_assoc, refl, get_or_from_slice_get, Bytes}
use Rattle.lw_x86.proofs.Common.{written-two_parts}
use Rattle.lw_x86.proofs.instruction_text.write_on_memory.Goals as goal

-- The mnemonic, the location in brackets, the comma and the operand are the same text, however the pieces are grouped.
operands-regrouped : (mnemonic name x operand : Bytes)
    → x ≡ name
    → (mnemonic ++ (byte " " ∷ byte "[" ∷ (name ++ (byte "]" ∷ byte "," ∷ [])))) ++ operand
    ≡ mnemonic ++ (byte " " ∷ ((byte "[" ∷ (x ++ byte "]" ∷ [])) ++ (byte "," ∷ operand)))
operands-regrouped mnemonic name x operand named =
    rw (
      named,
      append_assoc mnemonic (byte " " ∷ byte "[" ∷ (name ++ (byte "]" ∷ byte "," ∷ []))),
      append_assoc name (byte "]" ∷ byte "," ∷ []),
      append_assoc name (byte "]" ∷ []),
    ) refl

pub returns : goal.returns
returns g c =
    written-two_parts _ _ _ _ _ c.in_ok-write.ensures.bytes
    (operands-regrouped _ _ _ _ (get_or_from_slice_get c.args.names.now c.args.loc c.name.result.now [] c.name.ensures))
    c.write_operand.ensures
