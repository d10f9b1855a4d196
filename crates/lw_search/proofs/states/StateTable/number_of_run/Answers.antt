-- Proves `number_of_run`, which returns the number of a run and inserts the run if it has none; keys and origins are
-- unchanged. `slice_get-at_position` shows that a found index is that of an equal run; `IsPrefix-insert_if` that an
-- insertion keeps all earlier numbers.
use Rattle.lw_search.proofs.Common.{◌≡◌, ◌∙◌, Some, sym, ap, slice_get, IfOk-weaker, FoundStates}
use Rattle.lw_search.proofs.Rows.{run_eq, run_eq-sound, slice_get-at_position, IsPrefix-insert_if}
use Rattle.lw_search.proofs.states.StateTable.number_of_run.Goals as goal

pub returns-in-Some-clause-found : goal.returns-in-Some-clause-found
returns-in-Some-clause-found g c =
    let at =
    slice_get-at_position run_eq run_eq-sound c.self.inside.runs.keys c.args.run.now c.get_index_of.result c.in-Some.index
    c.get_index_of.ensures.index c.in-Some.is in
    IfOk-weaker c.row_number.result _ _
    (λ n is. ap (λ (t : FoundStates). slice_get t.runs n) (sym c.self.view_is) ∙ ap (slice_get c.self.inside.runs.keys) is ∙ at)
    c.row_number.ensures

pub returns-in_ok-index-in-None-clause-keys : goal.returns-in_ok-index-in-None-clause-keys
returns-in_ok-index-in-None-clause-keys g c =
    IfOk-weaker c.row_number-in-None.result _ _ (λ n is. ap (λ (t : FoundStates). t.keys) c.self.view_is)
    c.row_number-in-None.ensures

pub returns-in_ok-index-in-None-clause-origins : goal.returns-in_ok-index-in-None-clause-origins
returns-in_ok-index-in-None-clause-origins g c =
    IfOk-weaker c.row_number-in-None.result _ _ (λ n is. ap (λ (t : FoundStates). t.origins) c.self.view_is)
    c.row_number-in-None.ensures

pub returns-in_ok-index-in-None-clause-runs : goal.returns-in_ok-index-in-None-clause-runs
returns-in_ok-index-in-None-clause-runs g c =
    rw (← c.self.view_is)
    (IfOk-weaker c.row_number-in-None.result _ _ (λ n is. IsPrefix-insert_if _ _ _ _ c.in_ok-index-in-None.ensures.keys)
    c.row_number-in-None.ensures)

pub returns-in_ok-index-in-None-clause-found : goal.returns-in_ok-index-in-None-clause-found
returns-in_ok-index-in-None-clause-found g c =
    let keys = c.insert_full.new.self.keys in
    let stored = c.in_ok-index-in-None.ensures.stored in
    let same : stored.0 ≡ c.args.run.now = sym (run_eq-sound _ _ stored.2) ∙ c.in_ok-copy-in-None.ensures in
    IfOk-weaker c.row_number-in-None.result _ _ (λ n is. ap (slice_get keys) is ∙ stored.1 ∙ ap Some same)
    c.row_number-in-None.ensures
