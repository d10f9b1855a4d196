-- At each round `words` are the words of the first locations.
use Rattle.lw_tso.proofs.Common.{◌≡◌, take}
use Rattle.lw_tso.proofs.machine.content_of.Given as goal

abbrev pub invariant-loop-loc : goal.invariant-loop-loc
invariant-loop-loc g l = l.words ≡ take l.loc-index (g.M.MemorySystem.content l.memory)
