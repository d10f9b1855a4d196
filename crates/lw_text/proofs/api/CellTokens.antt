-- Tokens of which none ends a cell. A cell is read up to the first token that ends it.
use Rattle.lw_text.proofs.Common.{◌≡◌, false, AllByRecursion, TokenList, ends_cell}

-- No token is `|` or `;`.
abbrev pub EndsNoCell : TokenList → Type 0
EndsNoCell ts = AllByRecursion (λ t. ends_cell t ≡ false) ts
