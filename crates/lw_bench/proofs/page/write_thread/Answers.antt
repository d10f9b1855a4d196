-- `write_thread` promises a line with a thread's position and its six registers. The item of `Reg::all()` at
-- an index is that index, so name and word are those of this register; `OnOk-line_with_title` adds title and line end.
use Rattle.lw_bench.proofs.Common.{◌<◌, codes, decimal, length, take, slice_index, refl, sym, ap, ◌∙◌, ◌++◌}
use Rattle.lw_bench.proofs.Common.{arith, register_name, is_index, named}
use Rattle.lw_bench.proofs.Pages.{AllWritten-step, whole_text-AllWritten, register_names-get}
use Rattle.lw_bench.proofs.Pages.{OnOk-line_with_title, processor_title-append}
use Rattle.lw_bench.proofs.page.write_thread.Goals as goal

pub loop-reg-init : goal.loop-reg-init
loop-reg-init g c = record { left = refl }

-- A round writes the name and the word of the register of the loop's index.
pub loop-reg-preserved : goal.loop-reg-preserved
loop-reg-preserved g c =
    let k = c.loop-reg.reg-index in
    let whole = c.all-reg-items.ensures ∙ sym (ap (take 6) c.all-reg-items.ensures) in
    let within : k < length c.all-reg-items.result = omega (arith, c.loop-reg-test.true, ap length c.all-reg-items.ensures) in
    let is = sym c.reg-item.is ∙ is_index 6 6 c.all-reg-items.ensures whole within c.reg-item.is in
    let name = c.reg_name.ensures ∙ ap (register_name c.args.arch) is in
    let word = ap (slice_index c.args.regs.now) (c.index-in-loop-reg.ensures.value ∙ is) in
    AllWritten-step c.loop-reg.invariant _ _ _ (register_names-get c.args.arch k c.loop-reg-test.true)
    (ap (λ n. named (λ _. decimal (slice_index c.args.regs.now c.index-in-loop-reg.result)) 0 n) name
    ∙ ap (λ w. named (λ _. decimal w) 0 (register_name c.args.arch k)) word) c.in_ok-write_assignment.ensures

pub returns : goal.returns
returns g c =
    let begun = rw c.index.ensures.value at c.in_ok-write.ensures.bytes in
    OnOk-line_with_title c.push_str.result _ _ _ begun (whole_text-AllWritten c.loop-reg.invariant c.loop-reg-test.false)
    (processor_title-append c.args.cpu (codes " at " ++ decimal c.args.position) _) c.push_str.ensures.bytes
