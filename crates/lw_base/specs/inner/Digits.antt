-- Faulty digits in the text of an event, for the parser of schedules.
use Rattle.std.specs.Prelude.{◌≡◌, true, false}
use Rattle.lw_base.specs.Types.{Bytes}
use Rattle.lw_base.specs.Names.{are_digits}
use Rattle.lw_base.specs.Schedules.{IsCpu}
use Rattle.lw_base.specs.declared.fault.ScheduleCause.{ScheduleCause}
use Rattle.lw_base.specs.declared.fault.ScheduleCause.TheVariants.{Word, Cpu}

-- The digits of an event's text are rejected for this cause: they are no digits, or no processor's index.
abbrev pub HasBadDigits : Bytes → ScheduleCause → Type 0
HasBadDigits ds Word = are_digits ds ≡ false
HasBadDigits ds Cpu = (are_digits ds ≡ true) × (IsCpu ds → ⊥)
HasBadDigits ds _ = ⊥
