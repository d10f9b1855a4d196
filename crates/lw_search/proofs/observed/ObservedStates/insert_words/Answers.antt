-- `insert_words` inserts the words if they are new. If they are not, the set's test finds an equal list, at the index that it returns.
use Rattle.lw_search.proofs.Common.{◌∙◌, ap, sym, refl, slice_get, Some, unsigned_Decides, pointwise_decides}
use Rattle.lw_search.proofs.ObservedOutcomes.{word_in-inserted, words-unchanged}
use Rattle.lw_search.proofs.observed.ObservedStates.insert_words.Goals as goal

-- The set has the words now; if they are not new, it had an equal list before.
pub returns : goal.returns
returns g c =
    let at = c.in_ok-is_new.field-0-0 in
    let stored = c.in_ok-is_new.ensures.stored in
    rw (← c.self.view_is) (record {
      outcomes = refl;
      words_are = word_in-inserted _ _ _ _ c.in_ok-is_new.ensures.keys;
      known = λ known.
          let same = words-unchanged _ _ _ _ _ c.in_ok-is_new.ensures.added known c.in_ok-is_new.ensures.keys in
          let is = (pointwise_decides unsigned_Decides c.args.words stored.0).0 stored.2 in
          (at, ap (λ l. slice_get l at) (sym same) ∙ stored.1 ∙ ap Some (sym is));
    })
