-- `push_listed_locations` promises that the listed locations are appended. Each round adds one location, if it is
-- listed (`filtered_seen-push`); the item of `Loc::all()` at an index is that index (`is_index`).
use Rattle.lw_text.proofs.Common.{◌≡◌, ℕ, subst, filter, Location, is_listed, refl, ◌++◌, ◌∷◌, []}
use Rattle.lw_text.proofs.Common.{most_locations}
use Rattle.lw_text.proofs.Starts.{filtered_seen-push}
use Rattle.lw_text.proofs.api.Indices.{is_index}
use Rattle.lw_text.proofs.seen.push_listed_locations.Goals as goal

pub bounds-loc-items-loc-index : goal.bounds-loc-items-loc-index
bounds-loc-items-loc-index g c = c.loop-loc-test.true

pub loop-loc-preserved : goal.loop-loc-preserved
loop-loc-preserved g c =
    let at : c.loc-item.result ≡ c.loop-loc.loc-index =
    is_index most_locations c.args.len c.all.ensures refl c.loop-loc-test.true c.loc-item.is in
    filtered_seen-push (is_listed c.args.sites.now) c.args.seen.now c.loop-loc.seen c.push_if_listed.new.seen (λ x. Location x)
    c.loop-loc.loc-index c.loop-loc.invariant
    (subst (λ (x : ℕ). c.push_if_listed.new.seen ≡ c.loop-loc.seen ++ filter (is_listed c.args.sites.now) (Location x ∷ [])) at
    c.in_ok-push_if_listed.ensures)
