-- Proves `labels_of`, which returns the labels of the names, all except the first after a space.
-- `labels-push` appends the next name's label; `gap-suc` says that the prefix of the next label is a space
-- from then on.
use Rattle.lw_report.proofs.Common.{length, refl, subst, sym, All-get_or, head_of, IsSeenInRange}
use Rattle.lw_report.proofs.Lines.{labels-push, labels-all, gap-suc}
use Rattle.lw_report.proofs.line.labels_of.Goals as goal

pub label_of-requires : goal.label_of-requires
label_of-requires g c =
    let P = IsSeenInRange c.args.head.now.threads (length c.args.head.now.locs) in
    subst P (sym c.name-item.is) (All-get_or P c.args.names.now _ _ c.loop-name-test.true c.requires)

pub loop-name-init : goal.loop-name-init
loop-name-init g c = record { made = c.new-texts.ensures; first = refl }

-- The label of one more name is appended.
pub loop-name-preserved : goal.loop-name-preserved
loop-name-preserved g c = record {
  made =
      labels-push (head_of c.args.head.now) c.args.names.now c.loop-name.name-index _ _ (record {
        name = c.name-item.result;
        space = c.loop-name.before.now;
        text = c.in_ok-label_of.field-0;
        index_in_range = c.loop-name-test.true;
        is_name = c.name-item.is;
        is_gap = c.loop-name.invariant.first;
        is_label = c.in_ok-label_of.ensures;
        pushed = c.in_ok-push.ensures.ok;
      }) c.loop-name.invariant.made;
  first = gap-suc c.loop-name.name-index;
}

pub returns : goal.returns
returns g c = labels-all (head_of c.args.head.now) _ _ _ c.loop-name-test.false c.loop-name.invariant.made
