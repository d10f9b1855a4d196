-- Law: what `lw states` prints for a text is the report of what the axioms allow: an x86 test, or a source
-- test's compiled program. A text has one test, which is well-formed; and a report depends only on the set of
-- outcomes, so an equal set may be exchanged in `IsReport`.
use Rattle.lw_axiomatic.proofs.Printed.{IsOutputOf-iff_x86, IsOutputOf-iff_compiled, prints_sequential}
use Rattle.lw_axiomatic.proofs.laws.states_prints_what_the_axioms_allow.Goals as goal

pub returns : goal.returns
returns c =
    let one = c.a_text_has_one_test.ensures in
    let formed = c.tests_of_texts_are_well_formed.ensures in
    record {
      x86 = IsOutputOf-iff_x86 one formed c.machine_outcomes_are_those_allowed.ensures.flat_memory;
      compiled = IsOutputOf-iff_compiled one formed c.source_outcomes_are_those_allowed_to_compiled_programs.ensures;
      sequential = prints_sequential one formed c.interleaving_outcomes_are_sequential.ensures.source;
    }
