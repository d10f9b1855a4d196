-- Proves `write_label`, which appends a prefix and the label of a name. One case for a register
-- (`label-register`) and one for a location (`label-location`), which has a name since it is in range.
use Rattle.lw_report.proofs.Common.{head_of, written-equal_text}
use Rattle.lw_report.proofs.Lines.{label-register, label-location}
use Rattle.lw_report.proofs.line.write_label.Goals as goal

pub name-requires : goal.name-requires
name-requires g c = rw c.in-Location.is at c.requires

pub returns-in-Register : goal.returns-in-Register
returns-in-Register g c =
    written-equal_text c.write.result _ _ _ _
    (label-register (head_of c.args.head.now) _ c.index.ensures.value c.reg_name-register.ensures c.in-Register.is)
    c.write.ensures.bytes

pub returns-in-Location : goal.returns-in-Location
returns-in-Location g c =
    written-equal_text _ _ _ _ _ (label-location (head_of c.args.head.now) c.args.before.now c.name.ensures c.in-Location.is)
    c.write-in-Location.ensures.bytes
