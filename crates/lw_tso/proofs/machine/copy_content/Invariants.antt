-- At each round the words of the first locations are the memory's, and the length of the list is unchanged.
use Rattle.lw_tso.proofs.Common.{◌≡◌, length, take}
use Rattle.lw_tso.proofs.machine.copy_content.Given as goal

abbrev pub invariant-loop-loc : goal.invariant-loop-loc
invariant-loop-loc g l = record {
  many : length l.words ≡ length l.initial.words;
  words : take l.loc-index l.words ≡ take l.loc-index (g.M.MemorySystem.content l.memory);
}
