-- Proves `Processor::carry_out`, which executes an operation over the memory as the table of effects says.
-- One case for each operation, by the contract of the function that does it; the location of a memory access
-- exists, by the premise.
use Rattle.lw_tso.proofs.Common.{ap, refl, location_of}
use Rattle.lw_tso.proofs.processor.Processor.carry_out.Goals as goal

pub load-requires-clause-loc : goal.load-requires-clause-loc
load-requires-clause-loc g c = c.requires.loc c.in-Load.loc (ap location_of c.in-Load.is)

pub swap-requires-clause-loc : goal.swap-requires-clause-loc
swap-requires-clause-loc g c = c.requires.loc c.in-Swap.loc (ap location_of c.in-Swap.is)

pub fetch_add-requires-clause-loc : goal.fetch_add-requires-clause-loc
fetch_add-requires-clause-loc g c = c.requires.loc c.in-FetchAdd.loc (ap location_of c.in-FetchAdd.is)

pub returns-in-Load-clause-done : goal.returns-in-Load-clause-done
returns-in-Load-clause-done g c = rw c.in-Load.is c.load.ensures.done

pub returns-in-Store-clause-done : goal.returns-in-Store-clause-done
returns-in-Store-clause-done g c = rw c.in-Store.is (refl, rw (← c.value-in-Store.ensures) c.store.ensures.processor, refl)

pub returns-in-Swap-clause-done : goal.returns-in-Swap-clause-done
returns-in-Swap-clause-done g c = rw c.in-Swap.is c.swap.ensures.done

pub returns-in-FetchAdd-clause-done : goal.returns-in-FetchAdd-clause-done
returns-in-FetchAdd-clause-done g c = rw c.in-FetchAdd.is c.fetch_add.ensures.done

pub returns-in-Set-clause-done : goal.returns-in-Set-clause-done
returns-in-Set-clause-done g c = rw c.in-Set.is (refl, rw (← c.value.ensures) c.advance_with_register.ensures.processor, refl)

pub returns-in-Sum-clause-done : goal.returns-in-Sum-clause-done
returns-in-Sum-clause-done g c = rw c.in-Sum.is (refl, rw (← c.value-in-Sum.ensures) c.add.ensures.processor, refl)
