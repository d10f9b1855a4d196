-- Proves `PackedCacheLine::write`, which makes the writer the only holder, in M, and returns the old word.
-- The packed line, unpacked, is that of the table (`unpacked-after_write`), and the old word is the coherent
-- one (`copy_word-after_write`).
use Rattle.lw_mesi.proofs.PackedWrites.{unpacked-after_write, copy_word-after_write}
use Rattle.lw_mesi.proofs.cache_line.PackedCacheLine.write.Goals as goal

pub returns-clause-line : goal.returns-clause-line
returns-clause-line c =
    rw (← c.self.view_is, c.new-self-inside.ensures) (unpacked-after_write _ c.args.cpu c.args.word c.self.invariant c.requires)

pub returns-clause-word : goal.returns-clause-word
returns-clause-word c = rw (← c.self.view_is) (copy_word-after_write c.self.inside c.args.cpu c.self.invariant c.requires)
