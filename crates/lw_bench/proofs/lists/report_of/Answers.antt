-- `report_of` reports on a list of all outcomes, which has the observed words of each.
use Rattle.lw_bench.proofs.api.TestLists.{AreObservedOutcomesOf-if_all}
use Rattle.lw_bench.proofs.lists.report_of.Goals as goal

pub report_of_listing-requires : goal.report_of_listing-requires
report_of_listing-requires g c = AreObservedOutcomesOf-if_all _ _ c.in_ok-listing.ensures.listed
