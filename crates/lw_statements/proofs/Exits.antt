-- What a function must prove where it returns early with `?`, in a clause for both cases.
use Rattle.lw_statements.proofs.Common.{◌≡◌, ◌⊎◌, inl, inr, Result, Ok, Err, IsErrAnd, MatchResult}
use Rattle.lw_statements.proofs.Common.{MatchResult-at_ok, MatchResult-at_err, Memory, CellFault}

-- If memory ran out, a clause for both cases holds if its error case holds of every such fault.
pub MatchResult-out_of_memory : {T : Type 0} (P : T → Type 0) (Q : CellFault → Type 0) (r : Result T CellFault)
    → IsErrAnd r (λ f. (f.at ≡ 0) × (f.cause ≡ Memory))
    → ((f : CellFault) → f.cause ≡ Memory → f.at ≡ 0 → Q f)
    → MatchResult r P Q
MatchResult-out_of_memory P Q (Ok x) h refused = absurd h
MatchResult-out_of_memory P Q (Err f) h refused = refused f h.1 h.0

-- If `next` is `first` with a further fact R, or fails because memory ran out, then `next` satisfies the clause of `first`, with that fact.
pub MatchResult-propagated : {T : Type 0} (P : T → Type 0) (Q : CellFault → Type 0) (R : Type 0) (first next : Result T CellFault)
    → MatchResult first P Q
    → MatchResult next (λ t. R × (first ≡ Ok t)) (λ f. (first ≡ Err f) ⊎ ((f.at ≡ 0) × (f.cause ≡ Memory)))
    → ((f : CellFault) → f.cause ≡ Memory → f.at ≡ 0 → Q f)
    → MatchResult next (λ t. R × P t) Q
MatchResult-propagated P Q R first (Ok t) h made refused = (made.0, MatchResult-at_ok P Q t made.1 h)
MatchResult-propagated P Q R first (Err f) h made refused = go made
  where
    -- By the fault of `next`: it is that of `first`, or memory ran out.
    go : (first ≡ Err f) ⊎ ((f.at ≡ 0) × (f.cause ≡ Memory)) → Q f
    go (inl same) = MatchResult-at_err P Q f same h
    go (inr memory) = refused f memory.1 memory.0

-- If the value of `whole` is a part of the value of `last`, and their faults are the same, then `last` satisfies the clause of `whole` for
-- that part.
pub MatchResult-part : {T U : Type 0} (P : T → Type 0) (Q : CellFault → Type 0) (S : U → Type 0) (part : U → T)
    (whole : Result T CellFault) (last : Result U CellFault)
    → MatchResult whole P Q
    → MatchResult last (λ u. S u × (whole ≡ Ok (part u))) (λ f. whole ≡ Err f)
    → MatchResult last (λ u. S u × P (part u)) Q
MatchResult-part P Q S part whole (Ok u) h put = (put.0, MatchResult-at_ok P Q (part u) put.1 h)
MatchResult-part P Q S part whole (Err f) h put = MatchResult-at_err P Q f put h
