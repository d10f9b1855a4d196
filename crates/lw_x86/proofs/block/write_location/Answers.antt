-- `write_location` promises the initializer of a location. The text is that of `writeln!`, with the name and
-- the word of this index put in; the bounds are the contract's premises.
use Rattle.lw_x86.proofs.Common.{[], ap, append_assoc, arith, get_or_from_slice_get, length}
use Rattle.lw_x86.proofs.block.write_location.Goals as goal

pub offset_bounds-as_slice-index : goal.offset_bounds-as_slice-index
offset_bounds-as_slice-index g c =
    omega (arith, c.index.ensures.value, c.requires.word, ap length c.as_slice.ensures, c.as_slice.type_inv.1)

pub bounds-as_slice-index : goal.bounds-as_slice-index
bounds-as_slice-index g c = omega (arith, c.index.ensures.value, c.requires.word, ap length c.as_slice.ensures)

pub name-requires : goal.name-requires
name-requires g c = c.requires.name

pub returns : goal.returns
returns g c =
    let name = get_or_from_slice_get c.args.head.now.locs c.args.loc c.name.result.now [] c.name.ensures in
    rw (name, append_assoc, ← c.as_slice.ensures, ← c.index.ensures.value) c.writeln.ensures.bytes
