-- `parse_preamble` promises language, name and the rest from the `{` on, or that the text has no preamble,
-- and where it fails. The keyword is the text's only first token, so a name or notes that fail leave no other
-- preamble (`no_preamble-if_no_name`, `no_preamble-if_no_notes`).
use Rattle.lw_text.proofs.Common.{[], ◌∙◌, ◌++◌, refl, sym, ap, subst, length, length-append, arith}
use Rattle.lw_text.proofs.Common.{IsFirstToken, arch_keyword, in_keyword, in_test_name, in_notes, no_keyword}
use Rattle.lw_text.proofs.Common.{other_keyword}
use Rattle.lw_text.proofs.Faults.{Err-clause_known}
use Rattle.lw_text.proofs.Failures.{FailsFrom-later}
use Rattle.lw_text.proofs.Preambles.{no_preamble-if_no_name, no_preamble-if_no_notes}
use Rattle.lw_text.proofs.TokenRows.{no_first_token-if_only_trivia, IsFirstToken-unique}
use Rattle.lw_text.proofs.lexer.Lexer.parse_preamble.Goals as goal

-- If no name follows the keyword, there is no preamble, and it fails where the name does.
pub returns-in_err-name : goal.returns-in_err-name
returns-in_err-name c =
    let here = rw c.in-Some.is at c.in_ok-token.ensures.reads in
    record {
      reads = Err-clause_known _ _ _ c.from_residual-in_err-name.ensures.1 (
        no_preamble-if_no_name _ _ _
            (subst (λ w. IsFirstToken c.args.self.now.rest.now w c.next.new.self.rest.now)
            (sym c.in-Some-arch_from_keyword.ensures) here.0) c.in_err-name.ensures.reads.0,
        omega (arith, c.in_err-name.ensures.reads.1, ap length c.in_ok-token.ensures.same),
        FailsFrom-later (ap length c.in_ok-token.ensures.same) (λ rest cause w.
            in_test_name c.in-Some-arch_from_keyword.arch _
            (subst (λ w. IsFirstToken c.args.self.now.rest.now w c.next.new.self.rest.now)
            (sym c.in-Some-arch_from_keyword.ensures) here.0) w) c.in_err-name.ensures.reads.2,
      );
      same = c.in_err-name.ensures.same ∙ c.in_ok-token.ensures.same;
    }

-- If the notes fail, there is no preamble, and it fails where they do.
pub returns-in-Err : goal.returns-in-Err
returns-in-Err c =
    let here = rw c.in-Some.is at c.in_ok-token.ensures.reads in
    record {
      reads = (
        no_preamble-if_no_notes _ _ _ _ _
            (subst (λ w. IsFirstToken c.args.self.now.rest.now w c.next.new.self.rest.now)
            (sym c.in-Some-arch_from_keyword.ensures) here.0) c.in_ok-name.ensures.reads c.in-Err.ensures.reads.0,
        omega (arith, c.in-Err.ensures.reads.1, ap length (c.in_ok-name.ensures.same ∙ c.in_ok-token.ensures.same)),
        FailsFrom-later (ap length (c.in_ok-name.ensures.same ∙ c.in_ok-token.ensures.same)) (λ rest cause w.
            in_notes c.in-Some-arch_from_keyword.arch _ _ _
            (subst (λ w. IsFirstToken c.args.self.now.rest.now w c.next.new.self.rest.now)
            (sym c.in-Some-arch_from_keyword.ensures) here.0) c.in_ok-name.ensures.reads w.0 w.1) c.in-Err.ensures.reads.2,
      );
      same = c.in-Err.ensures.same ∙ c.in_ok-name.ensures.same ∙ c.in_ok-token.ensures.same;
    }

pub returns-in_default-clause-reads : goal.returns-in_default-clause-reads
returns-in_default-clause-reads c =
    let here = rw c.in_default.is at c.in_ok-token.ensures.reads in (
      λ arch name rest h. no_first_token-if_only_trivia _ (arch_keyword arch) h.0 here h.2,
      omega (arith, ap length c.in_ok-token.ensures.same),
      record { rest = []; place = omega (arith, ap length c.in_ok-token.ensures.same); way = no_keyword here refl refl },
    )

-- If the first token is no keyword of a language, there is no preamble, and it fails at this token.
pub returns-in_default-arch_from_keyword-clause-reads : goal.returns-in_default-arch_from_keyword-clause-reads
returns-in_default-arch_from_keyword-clause-reads c =
    let here = rw c.in-Some.is at c.in_ok-token.ensures.reads in (
      λ arch name rest h. c.in_default-arch_from_keyword.ensures arch (sym (IsFirstToken-unique _ _ _ _ _ here.0 h.2).0),
      omega (arith, here.1),
      record {
        rest = c.in-Some.token.text.now ++ c.next.new.self.rest.now;
        place = omega (arith, here.1, length-append c.in-Some.token.text.now c.next.new.self.rest.now);
        way = other_keyword _ _ here.0 refl c.in_default-arch_from_keyword.ensures refl;
      },
    )

pub returns-in_err-token-clause-reads : goal.returns-in_err-token-clause-reads
returns-in_err-token-clause-reads c = Err-clause_known _ _ _ c.from_residual.ensures.1 (
  λ arch name rest h. c.in_err-token.ensures.reads.1 (arch_keyword arch) h.0 h.2,
  c.in_err-token.ensures.reads.2,
  FailsFrom-later refl (λ rest cause w. in_keyword w) c.in_err-token.ensures.reads.3,
)
