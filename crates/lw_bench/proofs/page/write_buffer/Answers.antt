-- `write_buffer` promises a line with the entries of a processor's store buffer, oldest first. The loop's
-- invariant is `AllWritten`, of the entries before the index; each round adds the entry of that index, under
-- the name of its location. `OnOk-line_with_title` adds title and line end.
use Rattle.lw_bench.proofs.Common.{◌≤◌, [], codes, decimal, length, refl, sym, ap, arith}
use Rattle.lw_bench.proofs.Common.{get_or_from_slice_get, buffer_of, named}
use Rattle.lw_bench.proofs.Pages.{AllWritten-step, whole_text-AllWritten, OnOk-line_with_title}
use Rattle.lw_bench.proofs.Pages.{processor_title-append}
use Rattle.lw_bench.proofs.page.write_buffer.Goals as goal

pub loop-index-init : goal.loop-index-init
loop-index-init g c = record { left = refl }

pub loop-index-preserved : goal.loop-index-preserved
loop-index-preserved g c =
    let entry = c.entry-loc.result in
    let name = sym (get_or_from_slice_get c.args.locs.now entry.0 c.name.result.now [] c.name.ensures) in
    AllWritten-step c.loop-index.invariant entry _ _ c.entry-loc.ensures.entry (ap (λ n. named (λ _. decimal entry.1) 0 n) name)
    c.in_ok-write_assignment.ensures

pub returns : goal.returns
returns g c =
    let begun = rw c.index.ensures.value at c.in_ok-write.ensures.bytes in
    let whole : length (buffer_of c.args.machine.now.state c.args.cpu) ≤ c.loop-index.index =
    omega (arith, c.loop-index-test.false, c.buffered-index-end.ensures) in
    OnOk-line_with_title c.push_str.result _ _ _ begun (whole_text-AllWritten c.loop-index.invariant whole)
    (processor_title-append c.args.cpu (codes " buffer") _) c.push_str.ensures.bytes
