-- Proves `push_conflicts`, which appends the conflicts of one access with later ones. `conflicts_with-push`
-- appends the pair with the next access if they conflict, and otherwise nothing.
use Rattle.lw_paths.proofs.Common.{ℕ, Bool, if◌then◌else◌, [], ◌∷◌, ◌++◌, ◌∙◌, Vec, ap, sym, append-nil}
use Rattle.lw_paths.proofs.Common.{drop_all}
use Rattle.lw_paths.proofs.AccessPairs.{conflicts_with-push}
use Rattle.lw_paths.proofs.conflicts.push_conflicts.Goals.{then-is_conflict+in_ok-push, else-is_conflict}
use Rattle.lw_paths.proofs.conflicts.push_conflicts.Goals as goal

-- The pair with one more access is appended, if they conflict.
pub loop-second-preserved : goal.loop-second-preserved
loop-second-preserved g c =
    let found = c.loop-second.pairs.items in
    let items_in = λ (v : Vec (ℕ × ℕ) g.row.A.Denot). v.items in
    let pushed = λ (h : Bool). found ++ (if h then (c.args.first.now.index, c.second-item.result.index) ∷ [] else []) in
    conflicts_with-push c.args.first.now c.args.later.now c.loop-second.second-index c.loop-second.pairs.items
    c.loop-second-test.true c.second-item.is c.loop-second.invariant (elim c.if-is_conflict.branch [
      | then-is_conflict+in_ok-push w ↦
          (let met = sym c.is_conflict.ensures ∙ w.if-is_conflict.true in
          ap items_in w.pairs-is
          ∙ (w.in_ok-push.ensures.items ∙ (ap (λ p. found ++ p ∷ []) w.pair-pair.ensures ∙ ap pushed (sym met))))
      | else-is_conflict w ↦
          ap items_in w.pairs-is ∙ (sym (append-nil found) ∙ ap pushed (sym (sym c.is_conflict.ensures ∙ w.if-is_conflict.false)))
    ])

pub returns : goal.returns
returns g c =
    rw (drop_all c.loop-second.second-index c.args.later.now c.loop-second-test.false, append-nil) at c.loop-second.invariant
