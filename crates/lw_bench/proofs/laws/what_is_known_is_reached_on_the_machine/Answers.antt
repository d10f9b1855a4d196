-- Law: `every_test_has_its_program` for the bytes of a device, if they are known. What holds of all texts
-- holds of an optional one (`IfSome-of_each`).
use Rattle.lw_bench.proofs.Common.{Option, Some, None, IfSome, Bytes}
use Rattle.lw_bench.proofs.laws.what_is_known_is_reached_on_the_machine.Goals as goal

-- What holds of each text holds of an optional one.
IfSome-of_each : (P : Bytes → Type 0) → ((text : Bytes) → P text) → (known : Option Bytes) → IfSome known P
IfSome-of_each P each None = tt
IfSome-of_each P each (Some text) = each text

pub returns : goal.returns
returns c = record {
  machine = IfSome-of_each _ c.every_test_has_its_program.ensures.machine;
  caches = IfSome-of_each _ c.every_test_has_its_program.ensures.caches;
}
