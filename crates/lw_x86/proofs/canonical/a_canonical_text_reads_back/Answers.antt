-- Law: the canonical text of a well-formed x86 test is a text of that test. This is `IsTextOf-canonical_text`, which goes
-- part by part: the printed part consists of tokens, and these are read as that part.
use Rattle.lw_x86.proofs.PrintedTests.{IsTextOf-canonical_text}
use Rattle.lw_x86.proofs.canonical.a_canonical_text_reads_back.Goals as goal

pub returns : goal.returns
returns c = λ p well. IsTextOf-canonical_text p well
