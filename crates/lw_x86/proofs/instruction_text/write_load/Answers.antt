-- `write_load` promises the text of a load. It is that of `write!`, with the names of the register and the
-- location put in.
use Rattle.lw_x86.proofs.Common.{[], get_or_from_slice_get}
use Rattle.lw_x86.proofs.instruction_text.write_load.Goals as goal

pub returns : goal.returns
returns g c =
    let name = get_or_from_slice_get c.args.names.now c.args.loc c.name.result.now [] c.name.ensures in
    rw (c.reg_name-register.ensures, ← name) at c.write.ensures.bytes
