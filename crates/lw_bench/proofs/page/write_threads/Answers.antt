-- `write_threads` promises a line for each thread of a source test. The loop goes through the first items of
-- `Cpu::all()`, so the item at an index is that index (`is_index`); position and registers are those of the
-- run's thread at this index.
use Rattle.lw_bench.proofs.Common.{[], length, length-take, map, slice_get, slice_index_or, refl, sym, ap}
use Rattle.lw_bench.proofs.Common.{ap₂, ◌∙◌, arith, option_map, slice_get-map, get_or_from_slice_get}
use Rattle.lw_bench.proofs.Common.{length-map, Thread, most_threads, is_index, slice_get-in_range}
use Rattle.lw_bench.proofs.Common.{thread_line}
use Rattle.lw_bench.proofs.Pages.{AllWritten-step, whole_text-AllWritten, slice_get-map_value}
use Rattle.lw_bench.proofs.page.write_threads.Goals as goal

pub loop-cpu-init : goal.loop-cpu-init
loop-cpu-init g c = record { left = refl }

-- A round writes the line of the thread of the loop's index, with its position and registers.
pub loop-cpu-preserved : goal.loop-cpu-preserved
loop-cpu-preserved g c =
    let threads = c.args.run.now.state.threads in
    let k = c.loop-cpu.cpu-index in
    let index_is = is_index most_threads _ c.all.ensures refl c.loop-cpu-test.true c.cpu-item.is in
    let here =
    slice_get-in_range threads k
    (omega (arith, c.requires.threads, c.loop-cpu-test.true, length-take c.args.head.now.threads c.all.result)) in
    let position =
    slice_get-map_value (λ (t : Thread). t.position) threads k here.0 c.position.result here.1
    (ap (slice_get (map (λ (t : Thread). t.position) threads)) (sym index_is) ∙ c.position.ensures) in
    let listed =
    ap (λ l. slice_get l k) c.requires.regs
    ∙ slice_get-map (λ (t : Thread). t.regs) threads k
    ∙ ap (option_map (λ (t : Thread). t.regs)) here.1 in
    let regs =
    ap (λ i. slice_index_or c.args.regs.now i []) (c.index.ensures.value ∙ index_is)
    ∙ get_or_from_slice_get c.args.regs.now k here.0.regs [] listed in
    let line =
    ap (λ t. thread_line c.args.head.now.arch t c.position.result (slice_index_or c.args.regs.now c.index.result [])) index_is
    ∙ ap₂ (thread_line c.args.head.now.arch k) position regs in
    AllWritten-step c.loop-cpu.invariant here.0 _ _ here.1 line c.in_ok-write_thread.ensures

pub returns : goal.returns
returns g c = whole_text-AllWritten c.loop-cpu.invariant (omega (
  arith,
  length-take c.args.head.now.threads c.all.result,
  ap length c.all.ensures,
  c.requires.threads,
  c.requires.bounded,
  c.loop-cpu-test.false,
))

pub position-requires : goal.position-requires
position-requires g c = omega (
  arith,
  (is_index most_threads _ c.all.ensures refl c.loop-cpu-test.true c.cpu-item.is),
  c.loop-cpu-test.true,
  length-take c.args.head.now.threads c.all.result,
  c.requires.threads,
)

-- The loop's index is below the number of rows of registers.
pub bounds-regs-index : goal.bounds-regs-index
bounds-regs-index g c =
    let index_is = is_index most_threads _ c.all.ensures refl c.loop-cpu-test.true c.cpu-item.is in
    let many = ap length c.requires.regs ∙ length-map c.args.run.now.state.threads (λ (p : Thread). p.regs) in
    omega (
      arith,
      index_is,
      c.index.ensures.value,
      many,
      c.loop-cpu-test.true,
      length-take c.args.head.now.threads c.all.result,
      c.requires.threads,
    )
