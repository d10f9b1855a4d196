-- Proves the law that each served request preserves coherence, in each protocol. It is one clause of the
-- proof that caches are a lawful memory (`protocol_lawful`).
use Rattle.lw_mesi.proofs.Common.{protocol_lawful}
use Rattle.lw_mesi.proofs.laws.requests_preserve_coherence.Goals as goal

pub returns : goal.returns
returns c p m n r a kept serves = ((protocol_lawful p).served m r a n kept serves).sound
