-- Proves `newest_in`, which returns the newest word that the ring has for a location, or `None`. It searches from
-- the newest entry. `newest_buffered-none_before` is for an entry of another location; `newest_buffered-found` for one of this
-- location, which is the newest since no later entry is for it.
use Rattle.lw_tso.proofs.Common.{arith, sym, ap, ◌∙◌, option_copied, drop_all, newest_buffered, ◌-◌}
use Rattle.lw_tso.proofs.Newest.{IsSome-index_in_range, newest_buffered-none_before, newest_buffered-found}
use Rattle.lw_tso.proofs.buffer.newest_in.Goals as goal

pub loop-index-init : goal.loop-index-init
loop-index-init g c = record {
  within = omega arith;
  passed = ap (λ es. newest_buffered es c.args.loc) (drop_all c.len-index.result c.args.ring.now.items (omega arith));
}

pub loop-index-preserved : goal.loop-index-preserved
loop-index-preserved g c = record {
  within = omega arith;
  passed =
      newest_buffered-none_before _ c.loop-index.index _ _ (omega arith) (sym c.get.ensures ∙ ap option_copied c.unwrap.ensures)
      (sym c.eq.ensures ∙ c.if-eq.false) c.loop-index.invariant.passed;
}

pub unwrap-requires : goal.unwrap-requires
unwrap-requires g c = IsSome-index_in_range _ c.args.ring.now.items (c.loop-index.index - 1) c.get.ensures (omega arith)

pub returns-then-eq : goal.returns-then-eq
returns-then-eq g c =
    sym (newest_buffered-found _ c.loop-index.index _ c.unwrap.result.now (omega arith)
    (sym c.get.ensures ∙ ap option_copied c.unwrap.ensures) (sym c.eq.ensures ∙ c.if-eq.true) c.loop-index.invariant.passed)
