-- Proves `restart_all`, which resets all processors and keeps the rooms of their buffers. `RefilledUpTo-next` extends
-- the part that is reset by one processor, and `map-set_same_image` says that its room is unchanged.
use Rattle.lw_tso.proofs.Common.{◌<◌, arith, length, length-set, [], refl, ◌∙◌, initial_processor}
use Rattle.lw_tso.proofs.Common.{processor_of}
use Rattle.lw_tso.proofs.Events.{slice_get-of_read}
use Rattle.lw_tso.proofs.Refilled.{RefilledUpTo-next, RefilledUpTo-all, map-set_same_image}
use Rattle.lw_tso.proofs.machine.restart_all.Goals as goal

-- One more processor is reset, with the room that it had.
pub loop-thread-preserved : goal.loop-thread-preserved
loop-thread-preserved g c =
    let before = c.loop-thread.processors in
    let t = c.loop-thread.thread in
    let within : t < length before = omega (arith, c.loop-thread.invariant.many, c.requires) in
    record {
      many = length-set before t c.restart.new.self ∙ c.loop-thread.invariant.many;
      start =
          RefilledUpTo-next processor_of initial_processor before c.args.init_regs.now t c.restart.new.self []
          (record { so_far = c.loop-thread.invariant.start; first_in_range = within; second_in_range = c.loop-thread-test.true })
          c.restart.ensures.processor;
      rooms =
          map-set_same_image _ _ t _ _ (slice_get-of_read {xs = before} {t = t} refl refl within c.index-processors-thread.is)
          (rw c.index-processors-thread.is c.restart.ensures.room)
          ∙ c.loop-thread.invariant.rooms;
    }

pub bounds-processors-thread : goal.bounds-processors-thread
bounds-processors-thread g c = omega (arith, c.loop-thread-test.true, c.loop-thread.invariant.many, c.requires)

pub returns-clause-start : goal.returns-clause-start
returns-clause-start g c =
    RefilledUpTo-all processor_of initial_processor _ _ c.loop-thread.invariant.start
    (omega (arith, c.loop-thread.invariant.many, c.requires)) c.loop-thread-test.false

pub returns-clause-rooms : goal.returns-clause-rooms
returns-clause-rooms g c = c.loop-thread.invariant.rooms

pub loop-thread-init : goal.loop-thread-init
loop-thread-init g c = record { many = refl; start = refl; rooms = refl }

pub bounds-init_regs-thread : goal.bounds-init_regs-thread
bounds-init_regs-thread g c = c.loop-thread-test.true
