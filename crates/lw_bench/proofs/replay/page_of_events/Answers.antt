-- `page_of_events` promises the page of the test's replay by the events. Each of the three arms passes on
-- what its callee ensures: a source test runs on one memory, an x86 test over the caches of the protocol.
use Rattle.lw_bench.proofs.replay.page_of_events.Goals as goal

pub returns-in-Source-default-clause-found : goal.returns-in-Source-default-clause-found
returns-in-Source-default-clause-found g c = rw c.in-Source-default.is-0 c.page_of_source.ensures.found

pub returns-in-X86-Mesi-clause-found : goal.returns-in-X86-Mesi-clause-found
returns-in-X86-Mesi-clause-found g c = rw (c.in-X86-Mesi.is-0, c.in-X86-Mesi.is-1) c.page_over_caches.ensures.found

pub returns-in-X86-Moesi-clause-found : goal.returns-in-X86-Moesi-clause-found
returns-in-X86-Moesi-clause-found g c =
    rw (c.in-X86-Moesi.is-0, c.in-X86-Moesi.is-1) c.page_over_caches-in-X86-Moesi.ensures.found

pub returns-in-Source-default-clause-fault : goal.returns-in-Source-default-clause-fault
returns-in-Source-default-clause-fault g c = c.page_of_source.ensures.fault

pub returns-in-X86-Mesi-clause-fault : goal.returns-in-X86-Mesi-clause-fault
returns-in-X86-Mesi-clause-fault g c = c.page_over_caches.ensures.fault

pub returns-in-X86-Moesi-clause-fault : goal.returns-in-X86-Moesi-clause-fault
returns-in-X86-Moesi-clause-fault g c = c.page_over_caches-in-X86-Moesi.ensures.fault
