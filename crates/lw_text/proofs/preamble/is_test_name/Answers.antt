-- `is_test_name` promises to be true exactly of names of tests. At the loop's end all bytes are printable
-- ASCII (`whole_list-at_end`), and the last test is that the name is not empty; the two early exits are immediate.
use Rattle.lw_text.proofs.Common.{◌∙◌, not, true, length, sym, ap, arith, ne_eqb, is_ascii_graphic, list_all}
use Rattle.lw_text.proofs.Common.{not-true, eqb-false}
use Rattle.lw_text.proofs.Starts.{whole_list-at_end}
use Rattle.lw_text.proofs.api.Spelling.{list_all-AllByRecursion}
use Rattle.lw_text.proofs.preamble.is_test_name.Goals as goal

-- At the loop's end the bytes are a test's name exactly if there is one at least.
pub returns : goal.returns
returns c = (
  λ e. record {
    not_empty = omega (arith, eqb-false _ _ (sym c.is_empty.ensures ∙ not-true _ e));
    short = c.if-name-gt-MAX_TEST_NAME_BYTES.false;
    are_graphic_bytes =
        list_all-AllByRecursion is_ascii_graphic c.args.name.now
        (whole_list-at_end (list_all is_ascii_graphic) c.args.name.now c.loop-byte.byte-index true c.loop-byte-test.false
        c.loop-byte.invariant);
  },
  λ is. ap not (c.is_empty.ensures ∙ ne_eqb (length c.args.name.now) 0 (λ e. omega (arith, e, is.not_empty))),
)
