-- Proves `settle_all`, which takes invisible events of all threads, round by round: the appended events lead
-- to a state that covers the first one. `SettlesFrom-trans` joins the rounds. That no invisible event is left
-- is not claimed, so each early exit is right.
use Rattle.lw_search.proofs.Common.{◌∙◌, refl}
use Rattle.lw_search.proofs.Settling.{SettlesFrom-none, SettlesFrom-trans}
use Rattle.lw_search.proofs.search.Search.settle_all.Goals as goal

pub loop-init : goal.loop-init
loop-init g c = record {
  program_is = refl;
  states = refl;
  transitions = refl;
  settled = SettlesFrom-none c.args.self.now.program.now.threads c.args.key.now c.args.self.now.words c.args.self.now.run;
}

pub loop-preserved : goal.loop-preserved
loop-preserved g c = record {
  program_is = c.in_ok-next.ensures.program ∙ c.loop.invariant.program_is;
  states = c.in_ok-next.ensures.states ∙ c.loop.invariant.states;
  transitions = c.in_ok-next.ensures.transitions ∙ c.loop.invariant.transitions;
  settled =
      SettlesFrom-trans c.args.self.now.program.now.threads c.loop.next c.in_ok-next.next c.loop.self.words
      c.settle_in_turn.new.self.words c.args.self.now.run c.loop.self.run c.settle_in_turn.new.self.run c.loop.invariant.settled
      (rw c.loop.invariant.program_is at c.in_ok-next.ensures.settled);
}

pub returns-then-len-count-clause-settled : goal.returns-then-len-count-clause-settled
returns-then-len-count-clause-settled g c =
    SettlesFrom-trans c.args.self.now.program.now.threads c.loop.next c.in_ok-next.next c.loop.self.words
    c.settle_in_turn.new.self.words c.args.self.now.run c.loop.self.run c.settle_in_turn.new.self.run c.loop.invariant.settled
    (rw c.loop.invariant.program_is at c.in_ok-next.ensures.settled)

pub returns-clause-settled : goal.returns-clause-settled
returns-clause-settled g c = c.loop.invariant.settled

pub settle_in_turn-requires : goal.settle_in_turn-requires
settle_in_turn-requires g c = rw c.loop.invariant.program_is (c.loop.invariant.settled.extended.program ∙ c.requires)
