-- The printed codes and names of the causes for which a text is rejected, and the causes that the parser reports.
use Rattle.std.specs.Prelude.{◌≢◌, ℕ, codes}
use Rattle.lw_base.specs.Types.{Bytes}
use Rattle.lw_text.specs.declared.fault.TextCause.{TextCause}
use Rattle.lw_text.specs.declared.fault.TextCause.TheVariants as text

-- The printed code of a cause.
abbrev pub text_cause_code : TextCause → ℕ
text_cause_code text.NotUtf8 = 1
text_cause_code text.TooLong = 2
text_cause_code text.Unterminated = 3
text_cause_code text.Unexpected = 4
text_cause_code text.Number = 5
text_cause_code text.Name = 6
text_cause_code text.Ragged = 7
text_cause_code text.TooManyThreads = 8
text_cause_code text.TooManyRows = 9
text_cause_code text.TooManyLocations = 10
text_cause_code text.Condition = 11
text_cause_code text.Memory = 12

-- The printed name of a cause.
abbrev pub text_cause_name : TextCause → Bytes
text_cause_name text.NotUtf8 = codes "NotUtf8"
text_cause_name text.TooLong = codes "TooLong"
text_cause_name text.Unterminated = codes "Unterminated"
text_cause_name text.Unexpected = codes "Unexpected"
text_cause_name text.Number = codes "Number"
text_cause_name text.Name = codes "Name"
text_cause_name text.Ragged = codes "Ragged"
text_cause_name text.TooManyThreads = codes "TooManyThreads"
text_cause_name text.TooManyRows = codes "TooManyRows"
text_cause_name text.TooManyLocations = codes "TooManyLocations"
text_cause_name text.Condition = codes "Condition"
text_cause_name text.Memory = codes "Memory"

-- The cause is neither `TooLong` nor `NotUtf8`, which are found before the parser begins.
abbrev pub IsParserCause : TextCause → Type 0
IsParserCause cause = (cause ≢ text.TooLong) × (cause ≢ text.NotUtf8)
