-- `initial_registers` promises the initial words of all threads' registers. Each round appends those of one
-- thread; the item of `Cpu::all()` at an index is that index (`is_index`).
use Rattle.lw_text.proofs.Common.{◌≡◌, map-range_with_len_more, most_threads, refl, sym, zero-add}
use Rattle.lw_text.proofs.api.Indices.{is_index}
use Rattle.lw_text.proofs.initial.initial_registers.Goals as goal

pub loop-cpu-preserved : goal.loop-cpu-preserved
loop-cpu-preserved g c =
    let i = c.loop-cpu.cpu-index in
    let at : c.cpu-item.result ≡ i = is_index most_threads c.args.threads c.all.ensures refl c.loop-cpu-test.true c.cpu-item.is in
    rw (c.in_ok-push.ensures.ok, c.loop-cpu.invariant, c.words_of_thread.ensures, at)
    (sym (map-range_with_len_more _ 0 i i (zero-add i)))
