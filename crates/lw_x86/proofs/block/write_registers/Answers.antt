-- `write_registers` promises the initializers of all registers that do not start with 0. Each round writes
-- those of one thread (`numbers_written-push`); all threads in sequence are all registers (`initializer_texts-registers`).
use Rattle.lw_x86.proofs.Common.{◌∙◌, ◌++◌, ap, sym, string_bytes, head_of, numbers_written-push}
use Rattle.lw_x86.proofs.Common.{numbers_written-all}
use Rattle.lw_x86.proofs.BlockTexts.{thread_initializers, initializer_texts-registers}
use Rattle.lw_x86.proofs.block.write_registers.Goals as goal

pub loop-thread-preserved : goal.loop-thread-preserved
loop-thread-preserved g c =
    let head = head_of c.args.head.now in
    numbers_written-push (thread_initializers head) head.threads c.loop-thread.thread _ _ c.loop-thread.invariant _
    c.loop-thread-test.true c.in_ok-write_registers_of.ensures

pub returns : goal.returns
returns g c =
    let head = head_of c.args.head.now in
    numbers_written-all _ head.threads c.loop-thread.thread _ _ c.loop-thread.invariant c.loop-thread-test.false
    ∙ ap (λ t. string_bytes c.args.out.now ++ t) (sym (initializer_texts-registers head head.threads))
