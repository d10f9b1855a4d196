-- `next` promises the next token with its offset, or that only trivia is left, or where the text fails. The
-- token begins where the trivia stops, so it is unique. An open comment leaves no start of a token
-- (`no_first_token-if_comment_is_open`).
use Rattle.lw_text.proofs.Common.{◌<◌, arith, ap, subst, length, length-append, Trivia, [], refl, nat_tests}
use Rattle.lw_text.proofs.Common.{open_comment, in_token}
use Rattle.lw_text.proofs.TriviaLemmas.{Trivia-shorter}
use Rattle.lw_text.proofs.TokenRows.{not-ended-if_nonempty, no_first_token-if_none_after_trivia}
use Rattle.lw_text.proofs.TokenRows.{no_first_token-if_comment_is_open}
use Rattle.lw_text.proofs.lexer.Lexer.next.Goals as goal

pub overflow_sub-at : goal.overflow_sub-at
overflow_sub-at c = omega (arith, c.args.self.now.within, Trivia-shorter c.in-Some.ensures.found)

pub invariant_of-self : goal.invariant_of-self
invariant_of-self c = record {
  within = omega (
    arith,
    c.args.self.now.within,
    Trivia-shorter c.in-Some.ensures.found,
    ap length c.in-Ok.ensures.found.0,
    length-append c.in-Ok.field-0.text.now c.in-Ok.field-0.rest.now,
  );
}

-- The token after the trivia is the first token of the rest.
pub returns-in-Ok-clause-reads : goal.returns-in-Ok-clause-reads
returns-in-Ok-clause-reads c =
    let shorter = Trivia-shorter c.in-Some.ensures.found in (
      (subst (Trivia c.args.self.now.rest.now) c.in-Ok.ensures.found.0 c.in-Some.ensures.found, c.in-Ok.ensures.found.1),
      omega (
        arith,
        c.args.self.now.within,
        shorter,
        ap length c.in-Ok.ensures.found.0,
        length-append c.in-Ok.field-0.text.now c.in-Ok.field-0.rest.now,
      ),
    )

pub returns-in_default-clause-reads : goal.returns-in_default-clause-reads
returns-in_default-clause-reads c = (
  c.in_default.ensures.none [] refl,
  no_first_token-if_comment_is_open c.args.self.now.rest.now c.in_default.ensures.none,
  omega arith,
  record { rest = []; place = omega arith; way = open_comment c.in_default.ensures.none refl refl },
)

-- If something remains after the trivia, but no token, the text fails there.
pub returns-in-Err-clause-reads : goal.returns-in-Err-clause-reads
returns-in-Err-clause-reads c = (
  not-ended-if_nonempty c.args.self.now.rest.now c.in-Some.start.now c.in-Some.ensures.found c.in-Some.ensures.stops
      (grind (arith, nat_tests)),
  no_first_token-if_none_after_trivia c.args.self.now.rest.now c.in-Some.start.now c.in-Some.ensures.found c.in-Some.ensures.stops
      c.in-Err.ensures.none,
  omega arith,
  record {
    rest = c.in-Some.start.now;
    place = omega (arith, c.args.self.now.within, Trivia-shorter c.in-Some.ensures.found);
    way = in_token c.in-Some.ensures.found c.in-Some.ensures.stops (c.in-Err.ensures.fails (λ e.
        let some : 0 < length c.in-Some.start.now = grind (arith, nat_tests) in omega (arith, some, ap length e)));
  },
)
