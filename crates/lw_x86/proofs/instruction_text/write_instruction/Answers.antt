-- `write_instruction` promises the text of an instruction. One pair of goals for each arm of the match: the
-- callee's premise is that of the location, and its text is the instruction's text, which the definitions
-- give by the mnemonic and the operands.
use Rattle.lw_x86.proofs.Common.{refl, codes, written-equal_text}
use Rattle.lw_x86.proofs.InstructionTexts.{store_text, set_text, add_text, compare_text, memory_register_text}
use Rattle.lw_x86.proofs.instruction_text.write_instruction.Goals as goal

pub write_on_memory-requires : goal.write_on_memory-requires
write_on_memory-requires g c = (rw c.in-Store.is at c.requires) _ refl

pub write_load-requires : goal.write_load-requires
write_load-requires g c = (rw c.in-Load.is at c.requires) _ refl

pub write_on_memory-requires-in-Xchg : goal.write_on_memory-requires-in-Xchg
write_on_memory-requires-in-Xchg g c = (rw c.in-Xchg.is at c.requires) _ refl

pub write_on_memory-requires-in-Xadd : goal.write_on_memory-requires-in-Xadd
write_on_memory-requires-in-Xadd g c = (rw c.in-Xadd.is at c.requires) _ refl

pub returns-in-Store : goal.returns-in-Store
returns-in-Store g c =
    rw c.in-Store.is
    (written-equal_text c.write_on_memory.result _ _ _ _ (store_text c.args.names.now c.in-Store.loc c.in-Store.val)
    c.write_on_memory.ensures)

pub returns-in-Set : goal.returns-in-Set
returns-in-Set g c =
    rw c.in-Set.is
    (written-equal_text c.write_on_register.result _ _ _ _ (set_text c.args.names.now c.in-Set.reg c.in-Set.val)
    c.write_on_register.ensures)

pub returns-in-Add : goal.returns-in-Add
returns-in-Add g c =
    rw c.in-Add.is
    (written-equal_text c.write_on_register-in-Add.result _ _ _ _ (add_text c.args.names.now c.in-Add.reg c.in-Add.val)
    c.write_on_register-in-Add.ensures)

pub returns-in-Cmp : goal.returns-in-Cmp
returns-in-Cmp g c =
    rw c.in-Cmp.is
    (written-equal_text c.write_on_register-in-Cmp.result _ _ _ _ (compare_text c.args.names.now c.in-Cmp.reg c.in-Cmp.val)
    c.write_on_register-in-Cmp.ensures)

pub returns-in-Xchg : goal.returns-in-Xchg
returns-in-Xchg g c =
    rw c.in-Xchg.is
    (written-equal_text c.write_on_memory-in-Xchg.result _ _ _ _
    (memory_register_text c.args.names.now c.in-Xchg.loc (codes "XCHG") c.in-Xchg.reg) c.write_on_memory-in-Xchg.ensures)

pub returns-in-Xadd : goal.returns-in-Xadd
returns-in-Xadd g c =
    rw c.in-Xadd.is
    (written-equal_text c.write_on_memory-in-Xadd.result _ _ _ _
    (memory_register_text c.args.names.now c.in-Xadd.loc (codes "LOCK XADD") c.in-Xadd.reg) c.write_on_memory-in-Xadd.ensures)

pub returns-in-Load : goal.returns-in-Load
returns-in-Load g c = rw c.in-Load.is c.write_load.ensures

pub returns-in-Je : goal.returns-in-Je
returns-in-Je g c = rw c.in-Je.is c.write.ensures.bytes

pub returns-in-Jne : goal.returns-in-Jne
returns-in-Jne g c = rw c.in-Jne.is c.write-in-Jne.ensures.bytes

pub returns-in-Jmp : goal.returns-in-Jmp
returns-in-Jmp g c = rw c.in-Jmp.is c.write-in-Jmp.ensures.bytes
