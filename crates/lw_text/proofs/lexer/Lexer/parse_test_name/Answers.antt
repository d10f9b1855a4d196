-- `parse_test_name` promises the test's name and the rest, or that none follows, and where it fails. Blanks
-- and name are the longest runs, so each text is split in one way (`ParsesTestName-parts`). An empty name is
-- the text's end (`all_blank-no_name`).
use Rattle.lw_text.proofs.Common.{◌≡◌, arith, ap, subst, length, length-append, false≢true, nat_tests}
use Rattle.lw_text.proofs.Common.{IsTestName, ◌∙◌, sym, ◌++◌, name_ascii, refl, [], ◌<◌, All-mono, not-true}
use Rattle.lw_text.proofs.Common.{first_byte_is, is_blank, no_name, no_blank, bad_name}
use Rattle.lw_text.proofs.Preambles.{ParsesTestName-parts, all_blank-no_name, append-empty_front}
use Rattle.lw_text.proofs.lexer.Lexer.parse_test_name.Goals as goal

-- If nothing follows the blanks, there is no name, and the text ends too early.
pub returns-then-is_empty-clause-reads : goal.returns-then-is_empty-clause-reads
returns-then-is_empty-clause-reads c =
    let b = c.prefix_of_kind.ensures in
    let u = c.prefix_of_kind-2.ensures in
    let none : length c.prefix_of_kind-2.result.0.now ≡ 0 = grind (arith, nat_tests) in (
      λ n r p.
          let k =
          ParsesTestName-parts c.args.self.now.rest.now _ _ _ _ b.parts b.bytes_pass b.longest u.parts u.bytes_pass u.longest n r
          p in
          omega (arith, none, p.is_name.not_empty, ap length k.1),
      omega arith,
      record {
        rest = [];
        place = omega arith;
        way = no_name (all_blank-no_name _ _ _ _ _ b.parts b.bytes_pass b.longest u.parts u.longest none) refl refl;
      },
    )

-- If no blank precedes the name, there is none, and it fails at once.
pub returns-then-is_empty-2-clause-reads : goal.returns-then-is_empty-2-clause-reads
returns-then-is_empty-2-clause-reads c =
    let b = c.prefix_of_kind.ensures in
    let u = c.prefix_of_kind-2.ensures in
    let none : length c.prefix_of_kind.result.0.now ≡ 0 = grind (arith, nat_tests) in (
      λ n r p.
          let k = ParsesTestName-parts _ _ _ _ _ b.parts b.bytes_pass b.longest u.parts u.bytes_pass u.longest n r p in
          omega (arith, none, p.blanks_not_empty, ap length k.0),
      omega arith,
      record {
        rest = c.args.self.now.rest.now;
        place = omega (
          arith,
          none,
          c.args.self.now.within,
          ap length b.parts,
          length-append c.prefix_of_kind.result.0.now c.prefix_of_kind.result.1.now,
        );
        way =
            (let same = append-empty_front _ _ _ b.parts none in
            let some : 0 < length c.prefix_of_kind-2.result.0.now = grind (arith, nat_tests) in
            no_blank (omega (
              arith,
              some,
              ap length same,
              ap length u.parts,
              length-append c.prefix_of_kind-2.result.0.now c.prefix_of_kind-2.result.1.now,
            )) (ap (first_byte_is is_blank) same ∙ b.longest) refl refl);
      },
    )

-- If what follows the blanks is no test's name, there is none, and it fails after the blanks.
pub returns-then-not-is_test_name-clause-reads : goal.returns-then-not-is_test_name-clause-reads
returns-then-not-is_test_name-clause-reads c =
    let b = c.prefix_of_kind.ensures in
    let u = c.prefix_of_kind-2.ensures in (
      λ n r p.
          let k = ParsesTestName-parts _ _ _ _ _ b.parts b.bytes_pass b.longest u.parts u.bytes_pass u.longest n r p in
          false≢true (c.if-not-is_test_name.ensures.1 (subst IsTestName k.1 p.is_name)),
      omega arith,
      record {
        rest = c.prefix_of_kind.result.1.now;
        place = omega (
          arith,
          c.args.self.now.within,
          ap length b.parts,
          length-append c.prefix_of_kind.result.0.now c.prefix_of_kind.result.1.now,
        );
        way =
            bad_name c.prefix_of_kind.result.0.now c.prefix_of_kind-2.result.0.now c.prefix_of_kind-2.result.1.now b.parts u.parts
            (grind (arith, nat_tests)) b.bytes_pass (All-mono _ _ (λ x. not-true (is_blank x)) _ u.bytes_pass)
            (grind (arith, nat_tests)) u.longest (λ name. false≢true (c.if-not-is_test_name.ensures.1 name)) refl;
      },
    )

pub overflow_sub-at : goal.overflow_sub-at
overflow_sub-at c = omega (
  arith,
  c.args.self.now.within,
  ap length c.prefix_of_kind.ensures.parts,
  length-append c.prefix_of_kind.result.0.now c.prefix_of_kind.result.1.now,
)

pub ascii_text-requires : goal.ascii_text-requires
ascii_text-requires c = name_ascii c.prefix_of_kind-2.result.0.now (c.if-not-is_test_name.ensures.0 refl)

-- The rest after blanks and name is within the text.
pub invariant_of-self : goal.invariant_of-self
invariant_of-self c = record {
  within = omega (
    arith,
    c.args.self.now.within,
    ap length c.prefix_of_kind.ensures.parts,
    length-append c.prefix_of_kind.result.0.now c.prefix_of_kind.result.1.now,
    ap length c.prefix_of_kind-2.ensures.parts,
    length-append c.prefix_of_kind-2.result.0.now c.prefix_of_kind-2.result.1.now,
  );
}

-- Blanks and name are the longest runs, so they are the test's name.
pub returns-clause-reads : goal.returns-clause-reads
returns-clause-reads c =
    let space = c.prefix_of_kind.result.0.now in
    record {
      blanks = space;
      parts =
          c.prefix_of_kind.ensures.parts
          ∙ ap (λ x. space ++ x)
          (c.prefix_of_kind-2.ensures.parts ∙ ap (λ x. x ++ c.prefix_of_kind-2.result.1.now) (sym c.ascii_text.ensures));
      blanks_not_empty = grind (arith, nat_tests);
      blank = c.prefix_of_kind.ensures.bytes_pass;
      is_name = subst IsTestName (sym c.ascii_text.ensures) (c.if-not-is_test_name.ensures.0 refl);
      longest = c.prefix_of_kind-2.ensures.longest;
    }
