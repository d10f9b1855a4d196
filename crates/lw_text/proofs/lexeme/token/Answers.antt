-- `token` promises the first token and its kind, or that there is none, and why. The first byte decides: a
-- name byte begins the longest run (`no_token-if_no_kind`), otherwise two bytes are a symbol or one is (`long_symbol`,
-- `short_symbol`). If neither, no token begins the text (`no_token`).
use Rattle.lw_text.proofs.Common.{refl, sym, ◌∙◌, ap, subst, length, arith, false≢true, is_name_byte}
use Rattle.lw_text.proofs.Common.{first_byte_is, IsNameOrNumber, inl, name_bytes_ascii, no_symbol, inr}
use Rattle.lw_text.proofs.NameRuns.{no_token-if_no_kind, no_token, long_symbol, short_symbol, long_ascii}
use Rattle.lw_text.proofs.NameRuns.{short_ascii, run_fails}
use Rattle.lw_text.proofs.lexeme.token.Goals as goal

pub returns-in_default-kind_of_run-clause-none : goal.returns-in_default-kind_of_run-clause-none
returns-in_default-kind_of_run-clause-none c =
    let run = c.prefix_of_kind.ensures in
    no_token-if_no_kind (record { parts = run.parts; bytes_pass = run.bytes_pass; longest = run.longest })
    (ap (first_byte_is is_name_byte) c.in-Some.ensures ∙ sym c.is_name_byte.ensures ∙ c.if-is_name_byte.true)
    (λ k. c.in_default-kind_of_run.ensures (subst IsNameOrNumber (sym c.ascii_text-text.ensures) k))

pub split_at-requires : goal.split_at-requires
split_at-requires c = omega (arith, ap length (c.if-begins_long.ensures.0 refl).3)

pub split_at-requires-then-begins_short : goal.split_at-requires-then-begins_short
split_at-requires-then-begins_short c = omega (arith, ap length c.in-Some.ensures)

pub returns-clause-none : goal.returns-clause-none
returns-clause-none c =
    no_token c.in-Some.ensures (sym c.is_name_byte.ensures ∙ c.if-is_name_byte.false)
    (λ p. false≢true (c.if-begins_short.ensures.1 p)) (λ b d more e p. false≢true (c.if-begins_long.ensures.1 (b, d, more, e, p)))

-- A run that is a name or a number is the token.
pub returns-then-is_name_byte-clause-found : goal.returns-then-is_name_byte-clause-found
returns-then-is_name_byte-clause-found c =
    let same = c.ascii_text-text.ensures in
    let kind = c.in-Some-kind_of_run.ensures in (
      rw same c.prefix_of_kind.ensures.parts,
      inl (record {
        are_name_bytes = rw same c.prefix_of_kind.ensures.bytes_pass;
        longest = c.prefix_of_kind.ensures.longest;
        kind = kind.0;
      }),
      kind.1,
    )

pub returns-then-begins_long-clause-found : goal.returns-then-begins_long-clause-found
returns-then-begins_long-clause-found c =
    long_symbol _ _ _ (c.if-begins_long.ensures.0 refl) (c.ascii_text.ensures ∙ c.split_at.ensures.front) c.split_at.ensures.back

pub returns-then-begins_short-clause-found : goal.returns-then-begins_short-clause-found
returns-then-begins_short-clause-found c =
    short_symbol c.in-Some.ensures (λ b d more e p. false≢true (c.if-begins_long.ensures.1 (b, d, more, e, p)))
    (c.if-begins_short.ensures.0 refl) (c.ascii_text-then-begins_short.ensures ∙ c.split_at-then-begins_short.ensures.front)
    c.split_at-then-begins_short.ensures.back

pub ascii_text-requires : goal.ascii_text-requires
ascii_text-requires c =
    long_ascii c.args.bytes.now c.split_at.result.0.now (c.if-begins_long.ensures.0 refl) c.split_at.ensures.front

pub ascii_text-requires-then-begins_short : goal.ascii_text-requires-then-begins_short
ascii_text-requires-then-begins_short c =
    short_ascii c.args.bytes.now _ c.split_at-then-begins_short.result.0.now c.in-Some.first c.in-Some.ensures
    (c.if-begins_short.ensures.0 refl).0 c.split_at-then-begins_short.ensures.front

pub ascii_text-text-requires : goal.ascii_text-text-requires
ascii_text-text-requires c = name_bytes_ascii _ c.prefix_of_kind.ensures.bytes_pass

pub kind_of_run-requires : goal.kind_of_run-requires
kind_of_run-requires c = rw c.ascii_text-text.ensures c.prefix_of_kind.ensures.bytes_pass

pub returns-in_default-kind_of_run-clause-fails : goal.returns-in_default-kind_of_run-clause-fails
returns-in_default-kind_of_run-clause-fails c = λ some.
    run_fails (record {
      parts = c.prefix_of_kind.ensures.parts;
      bytes_pass = c.prefix_of_kind.ensures.bytes_pass;
      longest = c.prefix_of_kind.ensures.longest;
    }) c.in-Some.ensures (sym c.is_name_byte.ensures ∙ c.if-is_name_byte.true)
    (λ k. c.in_default-kind_of_run.ensures (subst IsNameOrNumber (sym c.ascii_text-text.ensures) k)) c.fault_of_run.ensures.cause

pub returns-clause-fails : goal.returns-clause-fails
returns-clause-fails c = λ some.
    no_symbol (omega (arith, ap length c.in-Some.ensures))
    (ap (first_byte_is is_name_byte) c.in-Some.ensures ∙ sym c.is_name_byte.ensures ∙ c.if-is_name_byte.false) (λ t rest e symbol.
    no_token c.in-Some.ensures (sym c.is_name_byte.ensures ∙ c.if-is_name_byte.false)
    (λ p. false≢true (c.if-begins_short.ensures.1 p)) (λ b d more e p. false≢true (c.if-begins_long.ensures.1 (b, d, more, e, p)))
    t rest e (inr symbol)) refl
