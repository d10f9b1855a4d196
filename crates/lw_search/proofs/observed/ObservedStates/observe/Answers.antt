-- `observe` looks at one state of a search. A state that is not final changes nothing, and one whose words are known adds no outcome; another
-- one appends its outcome, and adds its words.
use Rattle.lw_search.proofs.Common.{InsertsObserved, ObservedWords, sym, ap, ◌∙◌, ◌++◌, ◌∷◌, [], slice_get}
use Rattle.lw_search.proofs.ObservedOutcomes.{ObservesState-not_final, ObservesState-known, ObservesState-new}
use Rattle.lw_search.proofs.observed.ObservedStates.observe.Goals as goal

pub returns-then-not-is_final : goal.returns-then-not-is_final
returns-then-not-is_final g c =
    let search = c.args.search.now in
    ObservesState-not_final c.args.names.now search.program.now.threads search.tables search.states c.args.at c.key-key.result
    c.args.self.now c.key-key.ensures (c.is_final.ensures.no c.if-not-is_final.true)

pub returns-then-not-is_new : goal.returns-then-not-is_new
returns-then-not-is_new g c =
    let search = c.args.search.now in
    ObservesState-known c.args.names.now search.program.now.threads search.tables search.states c.args.at c.key-key.result
    c.in_ok-words.words c.in_ok-is_new.is_new c.args.self.now c.insert_words.new.self c.key-key.ensures c.in_ok-words.ensures
    c.in_ok-is_new.ensures c.if-not-is_new.true

-- If the words are new, the outcome is appended with them.
pub returns : goal.returns
returns g c =
    let search = c.args.search.now in
    let inserts : InsertsObserved c.args.self.now c.in_ok-words.words c.in_ok-outcome.outcome
    (record { words = c.self.inside.words.keys; outcomes = c.push.new.self.items }) = record {
      outcomes =
          c.in_ok-push.ensures.items
          ∙ ap (λ es. es ++ (c.in_ok-outcome.outcome, tt) ∷ [])
          (ap (λ (v : ObservedWords). v.outcomes) c.self.view_is ∙ c.in_ok-is_new.ensures.outcomes);
      words_are = λ i others at.
          c.in_ok-is_new.ensures.words_are i others (ap (λ (v : ObservedWords). slice_get v.words i) (sym c.self.view_is) ∙ at);
    } in
    ObservesState-new c.args.names.now search.program.now.threads search.tables search.states c.args.at c.key-key.result
    c.in_ok-words.words c.in_ok-outcome.outcome c.args.self.now
    (record { words = c.self.inside.words.keys; outcomes = c.push.new.self.items }) c.key-key.ensures c.in_ok-words.ensures
    c.in_ok-outcome.ensures (c.is_final.ensures.yes c.if-not-is_final.false) inserts
