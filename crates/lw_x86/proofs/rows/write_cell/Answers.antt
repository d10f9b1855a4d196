-- `write_cell` promises the text of a thread's cell in a row. Two cases: if the thread has an instruction at
-- this row, it is a label, if needed, and the instruction; otherwise it is the end's cell. In both the text
-- is the row's item of `cells_of` (`cells_of-get`).
use Rattle.lw_x86.proofs.Common.{◌≡◌, Some, None, length, slice_get, refl, sym, ap, ◌∙◌, arith, ltb-true}
use Rattle.lw_x86.proofs.Common.{ltb-false, slice_get_past, slice_get_read, written-two_parts}
use Rattle.lw_x86.proofs.Common.{written-equal_text}
use Rattle.lw_x86.proofs.CellLists.{text_at_row, cells_of-get}
use Rattle.lw_x86.proofs.rows.write_cell.Goals as goal

pub write_instruction-requires : goal.write_instruction-requires
write_instruction-requires g c =
    let lt = ltb-true c.args.row (length c.args.code.now) (sym c.in-Some.ensures.lookup.0) in
    rw c.in-Some.ensures.lookup.1 (c.requires.statements_formed c.args.row c.in-Some.instr.now lt).0

pub returns-in_ok-write_label-in-Some : goal.returns-in_ok-write_label-in-Some
returns-in_ok-write_label-in-Some g c =
    let code = c.args.code.now in
    let at : slice_get code c.args.row ≡ Some c.in-Some.instr.now =
    slice_get_read code (length code) c.args.row c.in-Some.instr.now refl
    (omega (arith, ltb-true c.args.row (length code) (sym c.in-Some.ensures.lookup.0))) c.in-Some.ensures.lookup.1 in
    written-two_parts c.write_instruction.result _ _ _ _ c.in_ok-write_label-in-Some.ensures
    (sym (cells_of-get c.args.names.now _ code c.requires c.args.row ∙ ap (text_at_row c.args.names.now code c.args.row) at))
    c.write_instruction.ensures

pub returns-in-None : goal.returns-in-None
returns-in-None g c =
    let code = c.args.code.now in
    let past : slice_get code c.args.row ≡ None =
    slice_get_past code c.args.row (omega (arith, ltb-false c.args.row (length code) (sym c.in-None.ensures.lookup.0))) in
    written-equal_text c.write_end.result _ _ _ _
    (sym (cells_of-get c.args.names.now _ code c.requires c.args.row ∙ ap (text_at_row c.args.names.now code c.args.row) past))
    c.write_end.ensures
