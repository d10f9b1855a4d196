-- The fault of the first token after a cell's labels, if the thread has as many statements as it may have.
-- `read_statement_if_any` fails by it.
use Rattle.lw_statements.proofs.Common.{◌≡◌, ℕ, inl, inr, ◌⊎◌, Some, slice_get, TooMany, NameTable, CellFault}
use Rattle.lw_statements.proofs.Common.{Token, Phrase, CanBegin, Spelling, grammar_of, draft_of}
use Rattle.lw_statements.proofs.Common.{IsFirstRejected}
use Rattle.lw_statements.proofs.Drafts.{IsSurplusFault}
use Rattle.lw_statements.proofs.Fronts.{HasMisfitIn-first_token}

-- What `read_statement_if_any` reports of the first token is true: the token begins a statement beyond the limit, or no
-- statement begins with it, and then the token itself is the fault.
pub fault_at_first_token : {W Form Stmt : Type 0} (spelling : Spelling W Form Stmt) (phrase : Phrase) (t : Token)
    (first : Some t ≡ slice_get phrase.tokens.now 0) (names : NameTable) (above : ℕ) (f : CellFault)
    → ((f.cause ≡ TooMany) × (f.at ≡ t.at) × CanBegin (grammar_of spelling) t.text.now)
    ⊎ ((CanBegin (grammar_of spelling) t.text.now → ⊥) × IsFirstRejected spelling phrase.tokens.now phrase.end f)
    → IsSurplusFault (grammar_of spelling) (draft_of spelling) phrase t first names above f f × (f.at ≡ t.at)
fault_at_first_token spelling phrase t first names above f (inl h) = (inl h, h.1)
fault_at_first_token spelling phrase t first names above f (inr (cannot, r)) =
    let m = HasMisfitIn-first_token spelling phrase.tokens.now phrase.end names t first cannot f r in (inr (m.0, m.1), m.2)
