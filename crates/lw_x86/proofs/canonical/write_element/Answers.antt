-- `write_element` promises an element of the list of names, with its `;`. One goal for each kind of site: the
-- text of `write!`, with the register's or the location's name put in.
use Rattle.lw_x86.proofs.Common.{[], append_assoc, get_or_from_slice_get}
use Rattle.lw_x86.proofs.canonical.write_element.Goals as goal

pub returns-in-Register : goal.returns-in-Register
returns-in-Register g c =
    rw (c.in-Register.is, append_assoc, ← c.reg_name-name.ensures, ← c.index.ensures.value) c.write.ensures.bytes

pub returns-in-Location : goal.returns-in-Location
returns-in-Location g c =
    let name = get_or_from_slice_get c.args.names.now c.in-Location.loc c.name.result.now [] c.name.ensures in
    rw (c.in-Location.is, name) c.write-in-Location.ensures.bytes
