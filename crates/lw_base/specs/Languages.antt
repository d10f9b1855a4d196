-- The keywords of the languages, with which tests begin.
use Rattle.std.specs.Prelude.{codes}
use Rattle.lw_base.specs.Types.{Bytes}
use Rattle.lw_base.specs.declared.head.Arch.{Arch}
use Rattle.lw_base.specs.declared.head.Arch.TheVariants.{Source, X86}

-- The keyword with which a test of this language begins.
abbrev pub arch_keyword : Arch → Bytes
arch_keyword Source = codes "SRC"
arch_keyword X86 = codes "X86"
