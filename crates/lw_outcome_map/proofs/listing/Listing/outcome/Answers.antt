-- Proves `Listing::outcome`, which returns the outcome at an index: that of the entry there.
use Rattle.std.proofs.Common.{ap, sym, ◌∙◌, Some, option_map}
use Rattle.std.proofs.lemmas.Option.{slice_get-get_or, slice_get-map}
use Rattle.lw_base.specs.Outcomes.{FinalState}
use Rattle.lw_outcome_map.proofs.listing.Listing.outcome.Goals as goal

pub returns : goal.returns
returns g c =
    let at = slice_get-get_or c.self.inside.entries.items c.args.index c.index.result.now (rw (← c.self.view_is) at c.requires) in
    rw (← c.self.view_is)
    (slice_get-map {A = FinalState × g.row.K.Denot} (λ e. e.0) c.self.inside.entries.items c.args.index
    ∙ ap (option_map (λ (e : FinalState × g.row.K.Denot). e.0)) (at ∙ ap Some (sym c.index.ensures)))
