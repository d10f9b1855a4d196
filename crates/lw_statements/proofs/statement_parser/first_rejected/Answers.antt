-- `first_rejected` promises the fault of the first token after which no statement is possible, or of the
-- cell's end. This token follows the longest accepted prefix. The interesting part is its cause: a name is a
-- missing register only where a register may follow (`name_iff-fact_known`, `other-fact_not_known`).
use Rattle.lw_statements.proofs.Common.{refl, sym, ◌∙◌, inr, true≢false, slice_get_read}
use Rattle.lw_statements.proofs.Causes.{IsMisfitCause-iff}
use Rattle.lw_statements.proofs.Fronts.{name_iff-fact_known, other-fact_not_known}
use Rattle.lw_statements.proofs.statement_parser.first_rejected.Goals as goal

-- If a register may follow the longest prefix and no location may, the cause says whether the token is a name or a numbered
-- register.
pub returns-then-wants_register : goal.returns-then-wants_register
returns-then-wants_register g c =
    let token =
    slice_get_read c.args.phrase.now.tokens.now _ c.longest_accepted_prefix-front.result _ refl c.in-Some.ensures.lookup.3.0
    c.in-Some.ensures.lookup.1 in
    let before = c.wants_register.ensures.0 c.if-wants_register.true in
    record {
      front = c.longest_accepted_prefix-front.result;
      longest = c.longest_accepted_prefix-front.ensures.longest;
      fault_is = rw token (
        c.no_register.ensures.place,
        IsMisfitCause-iff c.no_register.result.cause (name_iff-fact_known before).0 (name_iff-fact_known before).1
            c.no_register.ensures.cause,
      );
    }

-- Otherwise the cause says only whether the token is a numbered register.
pub returns : goal.returns
returns g c =
    let token =
    slice_get_read c.args.phrase.now.tokens.now _ c.longest_accepted_prefix-front.result _ refl c.in-Some.ensures.lookup.3.0
    c.in-Some.ensures.lookup.1 in
    record {
      front = c.longest_accepted_prefix-front.result;
      longest = c.longest_accepted_prefix-front.ensures.longest;
      fault_is = rw token (
        c.misfit.ensures.place,
        IsMisfitCause-iff c.misfit.result.cause inr
            (other-fact_not_known (λ before. true≢false (sym (c.wants_register.ensures.1 before) ∙ c.if-wants_register.false)))
            c.misfit.ensures.cause,
      );
    }
