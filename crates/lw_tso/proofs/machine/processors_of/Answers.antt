-- Proves `processors_of`, which creates the initial processors of a program, each with room for all stores of its
-- thread. `AreStarted-push` appends the next one. There is a code for each thread with registers, since the program
-- is well-formed.
use Rattle.lw_tso.proofs.Common.{◌≡◌, ◌<◌, ◌≤◌, [], get_or, length, map, arith, ap, sym, refl, ◌∙◌, take_all}
use Rattle.lw_tso.proofs.Common.{get_or_from_slice_get, thread_code, stores_from, initial_processor}
use Rattle.lw_tso.proofs.Common.{processor_of}
use Rattle.lw_tso.proofs.Events.{slice_get-of_read}
use Rattle.lw_tso.proofs.Starts.{AreStarted-none, AreStarted-push}
use Rattle.lw_tso.proofs.machine.processors_of.Goals as goal

-- One more processor is in its initial state, with room for the stores of its thread.
pub loop-thread-preserved : goal.loop-thread-preserved
loop-thread-preserved g c =
    let known = c.args.program.now.well_formed in
    let within : c.loop-thread.thread < length c.args.program.now.head.init_regs =
    omega (arith, ap length c.as_slice-regs-items.ensures) in
    let there : c.loop-thread.thread < length c.args.program.now.threads =
    omega (arith, within, known.head.regs, known.as_many) in
    let code = slice_get-of_read {t = c.loop-thread.thread} c.as_slice.ensures refl there c.index-as_slice-thread.is in
    let code_is = get_or_from_slice_get _ c.loop-thread.thread _ [] code ∙ sym c.as_slice-in-loop-thread.ensures in
    let started : processor_of c.in_ok-new.field-0
    ≡ initial_processor (get_or c.args.program.now.head.init_regs c.loop-thread.thread []) =
    rw (← c.as_slice-regs-items.ensures) c.in_ok-new.ensures.processor in
    let roomy : stores_from 0 (thread_code c.args.program.now.threads c.loop-thread.thread) ≤ c.in_ok-new.field-0.buffer.room =
    rw code_is (omega (arith, c.in_ok-new.ensures.room)) in
    AreStarted-push _ _ c.in_ok-new.field-0 c.loop-thread.invariant within c.in_ok-push.ensures.items started roomy

-- There is a code for each row of initial registers.
pub bounds-as_slice-thread : goal.bounds-as_slice-thread
bounds-as_slice-thread g c =
    let known = c.args.program.now.well_formed in
    omega (
      arith,
      c.loop-thread-test.true,
      ap length c.as_slice-regs-items.ensures,
      known.head.regs,
      known.as_many,
      ap length c.as_slice.ensures,
    )

pub returns-clause-start : goal.returns-clause-start
returns-clause-start g c =
    c.loop-thread.invariant.start
    ∙ ap (map initial_processor) (take_all c.loop-thread.thread c.args.program.now.head.init_regs
    (omega (arith, c.loop-thread-test.false, ap length c.as_slice-regs-items.ensures)))

pub returns-clause-rooms : goal.returns-clause-rooms
returns-clause-rooms g c = c.loop-thread.invariant.rooms

pub bounds-regs-items-thread : goal.bounds-regs-items-thread
bounds-regs-items-thread g c = c.loop-thread-test.true

pub loop-thread-init : goal.loop-thread-init
loop-thread-init g c =
    rw c.new-processors.ensures.items (AreStarted-none c.args.program.now.threads c.args.program.now.head.init_regs)

-- There is a code for each row of initial registers, so the place of the code is within the slice.
pub offset_bounds-as_slice-thread : goal.offset_bounds-as_slice-thread
offset_bounds-as_slice-thread g c =
    let known = c.args.program.now.well_formed in
    omega (
      arith,
      c.loop-thread-test.true,
      ap length c.as_slice-regs-items.ensures,
      known.head.regs,
      known.as_many,
      ap length c.as_slice.ensures,
      c.as_slice.type_inv.1,
    )

pub offset_bounds-regs-items-thread : goal.offset_bounds-regs-items-thread
offset_bounds-regs-items-thread g c = omega (arith, c.loop-thread-test.true, c.as_slice-regs-items.type_inv.1)
