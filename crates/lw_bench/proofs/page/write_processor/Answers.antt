-- `write_processor` promises the lines of a processor: position and registers, buffer, and cache. They are
-- what the three callees ensure, in sequence (`written-three_parts`); position, registers and buffer are those of
-- the processor at this index in the machine's state.
use Rattle.lw_bench.proofs.Common.{List, ℕ, [], ◌++◌, length, map, ap, ap₂, ◌∙◌, arith, option_map}
use Rattle.lw_bench.proofs.Common.{string_bytes, slice_get-map, get_or_from_slice_get, on_ok_weaker}
use Rattle.lw_bench.proofs.Common.{Processor, thread_line, buffer_line}
use Rattle.lw_bench.proofs.Pages.{slice_get-map_value, written-three_parts}
use Rattle.lw_bench.proofs.page.write_processor.Goals as goal

pub write_buffer-requires : goal.write_buffer-requires
write_buffer-requires g c = record { cpu = c.requires.cpu; words = c.requires.words }

pub write_cache-requires : goal.write_cache-requires
write_cache-requires g c = record {
  cpu = omega (arith, c.requires.cpu, c.memory.ensures.cpus);
  words = ap (λ m. length (g.M.MemorySystem.content m)) c.memory.ensures.memory ∙ c.requires.words;
}

-- Position, registers and store buffer are those of the processor at this index, so the three texts are its lines.
pub returns : goal.returns
returns g c p at =
    let processors = c.args.machine.now.state.processors in
    let position = slice_get-map_value _ processors c.args.cpu p c.position.result at c.position.ensures in
    let regs =
    c.requires.regs
    ∙ get_or_from_slice_get _ c.args.cpu p.regs []
    (slice_get-map (λ (q : Processor). q.regs) processors c.args.cpu ∙ ap (option_map (λ (q : Processor). q.regs)) at) in
    let buffer =
    get_or_from_slice_get (map (λ q. q.buffer) processors) c.args.cpu p.buffer []
    (slice_get-map (λ q. q.buffer) processors c.args.cpu ∙ ap (option_map (λ (q : Processor). q.buffer)) at) in
    let first =
    c.in_ok-write_thread.ensures
    ∙ ap₂ (λ (i : ℕ) (rs : List ℕ). string_bytes c.args.out.now ++ thread_line c.args.head.now.arch c.args.cpu i rs) position
    regs in
    let second =
    c.in_ok-write_buffer.ensures
    ∙ ap (λ b. string_bytes c.write_thread.new.out ++ buffer_line c.args.head.now.locs c.args.cpu b) buffer in
    on_ok_weaker c.write_cache.result (λ third. written-three_parts _ _ _ _ first second third)
    (rw c.memory.ensures.memory at c.write_cache.ensures)
