-- At each round the pieces of the text are the texts of the events read so far and the pieces of the rest,
-- which does not begin with a blank. The loop ends since the rest becomes shorter.
use Rattle.lw_base.proofs.Common.{ℕ, List, ◌≡◌, ◌≤◌, ◌++◌, length, map, false, AllByRecursion, is_blank}
use Rattle.lw_base.proofs.Common.{first_byte_is, event_texts, event_text, IsEvent}
use Rattle.lw_base.proofs.schedule.read_schedule.Given as goal

abbrev pub invariant-loop-rest : goal.invariant-loop-rest
invariant-loop-rest g l = record {
  events : AllByRecursion (IsEvent l.names) l.events;
  event_texts : event_texts l.text ≡ map (event_text l.names) l.events ++ event_texts l.rest;
  others : first_byte_is is_blank l.rest ≡ false;
  shorter : length l.rest ≤ length l.text;
  back : (front : List ℕ) × (l.text ≡ front ++ l.rest);
}

abbrev pub decreases-loop-rest : goal.decreases-loop-rest
decreases-loop-rest g l = length l.rest
