-- Clauses at early returns by `?`. A clause about a caller's fault follows from the callee's: passed on,
-- converted, or trivial since memory ran out.
use Rattle.lw_base.proofs.Common.{◌≡◌, ◌≢◌, sym, subst, Option, None, Result, Ok, Err, IfErr, IsErrAnd}
use Rattle.lw_base.proofs.Common.{MatchOption, MatchResult}

-- If the result is the callee's error e, unchanged, and P holds of e, then P holds of the result's error.
pub Err-clause_propagated : {T E : Type 0} {e : E} (P : E → Type 0) (r : Result T E) → IsErrAnd r (λ y. y ≡ e) → P e → IfErr r P
Err-clause_propagated P (Ok x) h p = absurd h
Err-clause_propagated P (Err y) h p = subst P (sym h) p

-- If the result is the error e, and Q holds of e, then the clause holds that demands P of a value and Q of an error.
pub Err-clause_known : {T E : Type 0} {e : E} (P : T → Type 0) (Q : E → Type 0) (r : Result T E)
    → IsErrAnd r (λ y. y ≡ e)
    → Q e
    → MatchResult r P Q
Err-clause_known P Q (Ok x) h q = absurd h
Err-clause_known P Q (Err y) h q = subst Q (sym h) q

-- If the result is an error of which `From` says Q, and P follows from Q, then P holds of the result's error.
pub Err-clause_converted : {T E : Type 0} {Q : E → Type 0} (P : E → Type 0) (r : Result T E)
    → IsErrAnd r Q
    → ((y : E) → Q y → P y)
    → IfErr r P
Err-clause_converted P (Ok x) h f = absurd h
Err-clause_converted P (Err y) h f = f y h

-- If the result is an error whose cause is that memory ran out, a clause on all other causes holds. Each crate has its own
-- instance of this for each error type, where `cause` is the type's field, and R is what else `From` says.
pub Err-clause_memory : {T E C : Type 0} (cause : E → C) (memory : C) (R P : E → Type 0) (r : Result T E)
    → IsErrAnd r (λ f. R f × (cause f ≡ memory))
    → IfErr r (λ f. cause f ≢ memory → P f)
Err-clause_memory cause memory R P (Ok x) h = absurd h
Err-clause_memory cause memory R P (Err y) h = λ other. absurd (other h.1)

-- If the result is `None`, and P holds, then the clause holds that demands P of `None` and Q of a value.
pub None-clause_known : {X P : Type 0} (Q : X → Type 0) (r : Option X) → r ≡ None → P → MatchOption r P Q
None-clause_known {P} Q r is p = subst (λ s. MatchOption s P Q) (sym is) p
