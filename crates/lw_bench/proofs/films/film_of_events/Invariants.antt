-- At each round the pages of all prefixes shorter than `count` have been written to `out`, and `count` is at
-- most the number of events.
use Rattle.lw_bench.proofs.Common.{◌≤◌, length, IsFilmOf, string_bytes, litmus_test_of}
use Rattle.lw_bench.proofs.films.film_of_events.Given as goal

-- The pages of the prefixes before the index are written.
abbrev pub invariant-loop-count : goal.invariant-loop-count
invariant-loop-count g l = record {
  film : IsFilmOf l.protocol (litmus_test_of l.test) l.events l.count (string_bytes l.out);
  within : l.count ≤ length l.events;
}
