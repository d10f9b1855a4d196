-- What a reader must prove where it returns early with `?`: the claim of the error that it passes on.
use Rattle.lw_text.proofs.Common.{◌≡◌, ◌≢◌, None, Result, Ok, Err, IsErrAnd, MatchResult, Memory, Refusal}
use Rattle.lw_text.proofs.Common.{IsParserCause, Unexpected}
-- The callee's error is returned unchanged.
pub use Rattle.lw_base.proofs.api.Returns.{Err-clause_known}

-- If a call failed with an error that has K, and K implies Q, its result satisfies a clause that requires Q of errors.
pub MatchResult-weakened_error : {T E : Type 0} {K : E → Type 0} (P : T → Type 0) (Q : E → Type 0) (r : Result T E)
    → IsErrAnd r K
    → ((y : E) → K y → Q y)
    → MatchResult r P Q
MatchResult-weakened_error P Q (Ok x) h f = absurd h
MatchResult-weakened_error P Q (Err y) h f = f y h

-- `Unexpected` is a cause that the parser may report.
pub IsParserCause-Unexpected : IsParserCause Unexpected
IsParserCause-Unexpected = (λ e. cc, λ e. cc)

-- If a call failed because memory ran out, its result satisfies a clause that requires nothing of such errors.
pub MatchResult-Memory_error : {T : Type 0} (P : T → Type 0) (Q : Refusal → Type 0) (r : Result T Refusal)
    → IsErrAnd r (λ f. (f.at ≡ None) × (f.cause ≡ Memory))
    → MatchResult r P (λ f. f.cause ≢ Memory → Q f)
MatchResult-Memory_error P Q r h =
    MatchResult-weakened_error P (λ f. f.cause ≢ Memory → Q f) r h (λ f k other. absurd (other k.1))
