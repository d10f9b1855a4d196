-- Proves `Head::copy`, which returns an equal head. Field by field: those that own memory are copies by their
-- own contracts, and the others are the same.
use Rattle.lw_base.proofs.head.Head.copy.Goals as goal

-- The copy of a head has equal fields, one by one.
pub returns : goal.returns
returns g c = λ i. record {
  name = c.in_ok-copy.ensures i;
  arch = c.args.self.now.arch;
  threads = c.args.self.now.threads;
  locs = c.in_ok-copy-2.ensures i;
  init_regs = c.in_ok-copy-3.ensures i;
  init_words = c.in_ok-copy-4.ensures i;
  listed = c.in_ok-copy-5.ensures i;
  quant = c.args.self.now.quant;
  proposition = c.in_ok-copy-6.ensures i;
}
