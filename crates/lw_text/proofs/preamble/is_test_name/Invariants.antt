-- At each round the bytes before the index are printable ASCII other than blanks.
use Rattle.lw_text.proofs.Common.{◌≡◌, take, true, list_all, is_ascii_graphic}
use Rattle.lw_text.proofs.preamble.is_test_name.Given as goal

abbrev pub invariant-loop-byte : goal.invariant-loop-byte
invariant-loop-byte l = list_all is_ascii_graphic (take l.byte-index l.name) ≡ true
