-- `initial_words` promises the initial words of the locations. Each round appends one word (`map-push`);
-- the item of `Loc::all()` at an index is that index (`is_index`).
use Rattle.lw_text.proofs.Common.{◌≡◌, refl, word_at, Location, most_locations}
use Rattle.lw_text.proofs.Starts.{map-push}
use Rattle.lw_text.proofs.api.Indices.{is_index}
use Rattle.lw_text.proofs.initial.initial_words.Goals as goal

pub loop-loc-preserved : goal.loop-loc-preserved
loop-loc-preserved g c =
    let at : c.loc-item.result ≡ c.loop-loc.loc-index =
    is_index most_locations c.args.len c.all.ensures refl c.loop-loc-test.true c.loc-item.is in
    map-push (word_at c.args.initializers.now) (λ x. Location x) _ _ _ _ c.loop-loc.invariant c.in_ok-push.ensures.ok
    (rw at at c.word_of.ensures)
