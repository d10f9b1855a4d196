-- Proves `neighbours_of`: the sets have each successor along the preserved pairs, and both items of each
-- unordered pair. Each pair was inserted by one of three calls, and later calls only add items (`or_left`,
-- `or_right`).
use Rattle.lw_orders.proofs.Common.{◌∙◌, get_or, or_left, or_right, Contains-get_or}
use Rattle.lw_orders.proofs.Walks.{has_edge-of_member}
use Rattle.lw_orders.proofs.adjacency.neighbours_of.Goals as goal

pub returns-clause-preserved : goal.returns-clause-preserved
returns-clause-preserved c k d l =
    let p = get_or c.args.preserved.now k d in
    let (a, b) = c.requires.preserved k d l in
    let there = has_edge-of_member c.args.preserved.now p.0 p.1 (Contains-get_or c.args.preserved.now k d l) in
    c.add_predecessors.ensures p.0 p.1 a b
    ∙ or_left _ _
    (c.add_successors-2.ensures p.0 p.1 a b ∙ or_left _ _ (c.add_successors.ensures p.0 p.1 a b ∙ or_right _ _ there))

pub returns-clause-unordered : goal.returns-clause-unordered
returns-clause-unordered c k d l =
    let p = get_or c.args.unordered.now k d in
    let (a, b) = c.requires.unordered k d l in
    let there = has_edge-of_member c.args.unordered.now p.0 p.1 (Contains-get_or c.args.unordered.now k d l) in (
      c.add_predecessors.ensures p.0 p.1 a b ∙ or_left _ _ (c.add_successors-2.ensures p.0 p.1 a b ∙ or_right _ _ there),
      c.add_predecessors.ensures p.1 p.0 b a ∙ or_right _ _ there,
    )
