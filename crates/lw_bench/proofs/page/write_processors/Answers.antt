-- `write_processors` promises the lines of all processors. The loop goes through the first items of
-- `Cpu::all()`, so the item at an index is that index (`is_index`); the machine has as many processors as the
-- head has threads.
use Rattle.lw_bench.proofs.Common.{List, ℕ, [], length, length-take, map, slice_get, slice_index_or, refl, ap}
use Rattle.lw_bench.proofs.Common.{◌∙◌, arith, length-map, head_of, most_threads, is_index, Processor}
use Rattle.lw_bench.proofs.Common.{slice_get-in_range, processor_lines}
use Rattle.lw_bench.proofs.Pages.{AllWritten-step, whole_text-AllWritten}
use Rattle.lw_bench.proofs.page.write_processors.Goals as goal

pub loop-cpu-init : goal.loop-cpu-init
loop-cpu-init g c = record { left = refl }

-- A round writes the lines of the processor of the loop's index.
pub loop-cpu-preserved : goal.loop-cpu-preserved
loop-cpu-preserved g c =
    let processors = c.args.machine.now.state.processors in
    let k = c.loop-cpu.cpu-index in
    let index_is = is_index most_threads _ c.all.ensures refl c.loop-cpu-test.true c.cpu-item.is in
    let here =
    slice_get-in_range processors k
    (omega (arith, c.requires.threads, c.loop-cpu-test.true, length-take c.args.head.now.threads c.all.result)) in
    AllWritten-step c.loop-cpu.invariant here.0 _ _ here.1
    (ap (λ k. processor_lines (head_of c.args.head.now) (g.M.MemorySystem.state c.args.machine.now.state.memory) k here.0)
    index_is) (c.in_ok-write_processor.ensures here.0 (ap (slice_get processors) index_is ∙ here.1))

pub returns : goal.returns
returns g c = whole_text-AllWritten c.loop-cpu.invariant (omega (
  arith,
  length-take c.args.head.now.threads c.all.result,
  ap length c.all.ensures,
  c.requires.threads,
  c.requires.bounded,
  c.loop-cpu-test.false,
))

-- The loop's index is below the number of rows of registers.
pub bounds-regs-index : goal.bounds-regs-index
bounds-regs-index g c =
    let index_is = is_index most_threads _ c.all.ensures refl c.loop-cpu-test.true c.cpu-item.is in
    let many = ap length c.requires.regs ∙ length-map c.args.machine.now.state.processors _ in
    omega (
      arith,
      index_is,
      c.index.ensures.value,
      many,
      c.loop-cpu-test.true,
      length-take c.args.head.now.threads c.all.result,
      c.requires.threads,
    )

-- The loop's index is one of a processor, whose registers are the row at this index.
pub write_processor-requires : goal.write_processor-requires
write_processor-requires g c =
    let index_is = is_index most_threads _ c.all.ensures refl c.loop-cpu-test.true c.cpu-item.is in
    record {
      cpu = omega (arith, index_is, c.loop-cpu-test.true, length-take c.args.head.now.threads c.all.result, c.requires.threads);
      words = c.requires.words;
      regs =
          ap (λ (l : List (List ℕ)). slice_index_or l c.index.result []) c.requires.regs
          ∙ ap (λ i. slice_index_or (map (λ (p : Processor). p.regs) c.args.machine.now.state.processors) i [])
          c.index.ensures.value;
    }
