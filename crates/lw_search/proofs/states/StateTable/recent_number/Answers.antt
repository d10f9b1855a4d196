-- Proves `recent_number`: the number has a run that is equal to the argument, since the comparison decides equality.
use Rattle.lw_search.proofs.Common.{slice_index_or, ◌≡◌, ◌∙◌, Some, sym, ap, slice_get, option_copied}
use Rattle.lw_search.proofs.Common.{FoundStates}
use Rattle.lw_search.proofs.Rows.{run_eq-sound}
use Rattle.lw_search.proofs.states.StateTable.recent_number.Goals as goal

pub returns-then-eq : goal.returns-then-eq
returns-then-eq g c =
    let number = slice_index_or c.self.inside.recent c.first_event.result 0 in
    let same : c.in_ok-recent.recent.now ≡ c.args.run.now = run_eq-sound _ _ (sym c.eq.ensures ∙ c.if-eq.true) in
    ap (λ (t : FoundStates). slice_get t.runs number) (sym c.self.view_is)
    ∙ sym c.get_index.ensures.key
    ∙ ap option_copied c.in_ok-recent.was
    ∙ ap Some same
