-- `schedules_of` promises the list of the test's schedules, if the test is within the limits. Immediate: that
-- the listing is complete is what `list_test` ensures and `schedules_of_listing` requires.
use Rattle.lw_bench.proofs.lists.schedules_of.Goals as goal

pub schedules_of_listing-list-requires : goal.schedules_of_listing-list-requires
schedules_of_listing-list-requires g c = c.in_ok-listing.ensures.listed

pub returns-clause-found : goal.returns-clause-found
returns-clause-found g c = record { within = c.in_ok-listing.ensures.within; is_schedule_list = c.in_ok-list.ensures }
