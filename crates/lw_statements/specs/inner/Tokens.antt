-- Tokens of a cell as names of locations, and why they are rejected.
use Rattle.std.specs.Prelude.{◌≡◌, ◌≢◌, ◌≤◌, ℕ, length, All, Contains}
use Rattle.lw_base.specs.Limits.{most_locations}
use Rattle.lw_base.specs.Types.{Bytes, NameTable}
use Rattle.lw_base.specs.declared.fault.CellFault.{CellFault}
use Rattle.lw_base.specs.declared.fault.CellCause.{CellCause}
use Rattle.lw_base.specs.declared.fault.CellCause.TheVariants.{Form, Register, LabelMissing, LabelTwice, Backward, TooMany, Memory}
use Rattle.lw_base.specs.Names.{IsUnreservedName}
use Rattle.lw_base.specs.Tables.{insert_name, position_of_name}
use Rattle.lw_text.specs.declared.token.Token.{Token}
use Rattle.lw_statements.specs.declared.phrase.Phrase.{Phrase}

-- Every token after the labels, and the cell's end, is at or before this offset.
abbrev pub AllEndBefore : ℕ → Phrase → Type 0
AllEndBefore len p = All (λ t. t.at ≤ len) p.tokens.now × (p.end ≤ len)

-- The text is a location's name, and the table has it or room for it.
abbrev pub FitsTable : NameTable → Bytes → Type 0
FitsTable names n = IsUnreservedName n × (length (insert_name names n) ≤ most_locations)

-- The token at this place is a ninth location: the table is full, and does not have it.
abbrev pub IsOverflowName : NameTable → Token → ℕ → Type 0
IsOverflowName names t at =
    (t.at ≡ at) × IsUnreservedName t.text.now × (length names ≡ most_locations) × (Contains names t.text.now → ⊥)

-- What each cause means for its place: a token or an end that fits no statement, as the cause says; a label that is missing or a duplicate;
-- a jump that leads backward; or something beyond a limit. Memory means nothing.
pub record FaultClaim (wrong : CellCause → Type 0) (no_label second_label backward one_more : Type 0) (cause : CellCause) : Type 0 where
  pub form : cause ≡ Form → wrong Form
  pub register : cause ≡ Register → wrong Register
  pub missing : cause ≡ LabelMissing → no_label
  pub twice : cause ≡ LabelTwice → second_label
  pub back : cause ≡ Backward → backward
  pub many : cause ≡ TooMany → one_more

-- What each refusal states: unless memory ran out, nothing fits (`unfit`); the cause means something for the fault's place (`claim`); and
-- the place is at or before each offset at or before which all is that was read (`all_within`).
pub record Refused (unfit : Type 0) (claim : ℕ → CellCause → Type 0) (all_within : ℕ → Type 0) (fault : CellFault) : Type 0 where
  pub none : fault.cause ≢ Memory → unfit
  pub cause : claim fault.at fault.cause
  pub place : (len : ℕ) → all_within len → fault.at ≤ len

-- The token names a location, which has this index in the table with its name.
pub record NameRead (before : NameTable) (t : Token) (loc : ℕ) (after : NameTable) : Type 0 where
  pub is_location : IsUnreservedName t.text.now
  pub names : after ≡ insert_name before t.text.now
  pub index : loc ≡ position_of_name after t.text.now

-- The token names no location that the table has or has room for: it is a ninth, and the fault says so.
abbrev pub NameRefused : NameTable → Token → CellFault → Type 0
NameRefused names t =
    Refused (FitsTable names t.text.now → ⊥) (λ at. FaultClaim (λ cause. ⊥) ⊥ ⊥ ⊥ (IsOverflowName names t at)) (λ len. t.at ≤ len)
